-- What is written of JSON trees, a token at a time.
use Rattle.std.specs.Prelude.{◌≡◌, ℕ, List, ◌∷◌, ◌++◌, Result, OnOk}
use Rattle.std.specs.Borrow.{Bor}
use Rattle.json.specs.Token.{Token, key}
use Rattle.json.specs.Tree.{json_tokens}
use Rattle.json.specs.Written.{Written}
use Rattle.serde_json.specs.Data.{Data, null}
use Rattle.serde_json.specs.Written.{outline}
use Rattle.office_http_responses.specs.Json.{count, text}
use Rattle.office_http_responses.specs.RegisterTrees.{day_tree}
use Rattle.office_http_responses.specs.declared.writing.Scalar.{Scalar}
use Rattle.office_http_responses.specs.declared.writing.Scalar.TheVariants as scalar

-- the tokens of a tree
abbrev pub tokens_of : Data → List Token
tokens_of tree = json_tokens (outline tree)

-- the tokens of a member of an object: its key, and those of its value
abbrev pub member_tokens : List ℕ × Data → List Token
member_tokens entry = key entry.0 ∷ tokens_of entry.1

-- these tokens were written after what was there
pub record Added (old new : Written) (ts : List Token) : Type 0 where
  pub before : new.before ≡ old.before
  pub tokens : new.tokens ≡ old.tokens ++ ts

-- a call wrote these tokens after what was there, or had no memory
abbrev pub Adds : {E : Type 0} → Result (Unit {0}) E → Written → Written → List Token → Type 0
Adds result old new ts = OnOk result (Added old new ts)

-- a call wrote this tree after what was there, or had no memory
abbrev pub AddsTree : {E : Type 0} → Result (Unit {0}) E → Written → Written → Data → Type 0
AddsTree result old new tree = Adds result old new (tokens_of tree)

-- the tree of a JSON value without parts
abbrev pub scalar_tree : Scalar → Data
scalar_tree (scalar.Number n) = count n
scalar_tree (scalar.Text bytes) = text bytes.now
scalar_tree (scalar.Day date) = day_tree date
scalar_tree scalar.Null = null

-- the key and the tree of a member
abbrev pub entry_of : Bor (List ℕ) × Scalar → List ℕ × Data
entry_of member = (member.0.now, scalar_tree member.1)
