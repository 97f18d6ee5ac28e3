-- The limits of a request, and the byte that ends its path.
use Rattle.std.specs.Prelude.{ℕ}

-- a head has to be whole within this many bytes from the front
abbrev pub head_limit : ℕ
head_limit = 8192

-- the most fields of a head
abbrev pub field_limit : ℕ
field_limit = 64

-- the most bytes of a request's body
abbrev pub body_limit : ℕ
body_limit = 262144

-- the most bytes of a request: a whole head and a whole body
abbrev pub longest_request : ℕ
longest_request = 270336

-- the byte `?`, which ends the path of a target
abbrev pub question_mark : ℕ
question_mark = 63
