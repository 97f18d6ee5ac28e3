-- Bytes that were put one after another.
use Rattle.std.proofs.Common.{◌≡◌, ◌∙◌, List, ℕ, [], ◌++◌, ap, append_assoc}
use Rattle.office_http_responses.specs.Answers.{PutsBytes}

infixl 5 ◌then◌
pub ◌then◌ : {a b c xs ys : List ℕ} → PutsBytes a b xs → PutsBytes b c ys → PutsBytes a c (xs ++ ys)
◌then◌ {a} {b} {c} {xs} {ys} p q = record { items = q.items ∙ ap (λ zs. zs ++ ys) p.items ∙ append_assoc a xs ys }

-- what was put into an empty buffer
pub from_nothing : {a b xs : List ℕ} → a ≡ [] → PutsBytes a b xs → b ≡ xs
from_nothing {a} {b} {xs} none p = p.items ∙ ap (λ zs. zs ++ xs) none
