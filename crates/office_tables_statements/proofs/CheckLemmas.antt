-- The nodes of a CHECK that compares a column with a number.
use Rattle.std.proofs.Common.{◌≡◌, ◌≢◌, ◌↔◌, ℕ, zero, suc, ◌<◌, ◌≤◌, ℤ, List, [], ◌∷◌, length, Option, None, Some, unwrap_or, slice_get, slice_index_or, refl, sym, ap, ◌∙◌, arith}
use Rattle.std.proofs.lemmas.Option.{unwrap_or-slice_get, get_or_from_slice_get}
use Rattle.sqlite_value.specs.declared.value.Value.TheVariants.{Null, Int}
use Rattle.sqlite_sql.specs.{Term.Term, Term.lit, Term.col, Term.op2, declared.ops.BinaryOp.TheVariants.Compare}
use Rattle.sqlite_schema.specs.{Code.op_term, Code.term_to, Code.term_in, Code.terms_in, declared.code.Op.Op}
use Rattle.sqlite_schema.specs.declared.code.Op.TheVariants.{Literal, Column, Unary, Binary, Case}
use Rattle.office_tables_statements.specs.{Wanted.ComparesAt, declared.parts.WantedCheck.WantedCheck}
use Rattle.sqlite_value.specs.declared.keys.Collation.TheVariants as collation

-- a term that is no NULL is that of a node
module _ (ops : List Op) where
  rooted : (depth at : ℕ) (t : Term) → term_to ops depth at ≡ t → t ≢ lit Null
      → (below : ℕ) × (node : Op) × (depth ≡ suc below) × (slice_get ops at ≡ Some node) × (op_term (term_to ops below) node ≡ t)
  rooted zero at t h other = absurd (other (sym h))
  rooted (suc below) at t h other = go (slice_get ops at) refl (unwrap_or-slice_get ops at (Literal Null))
    where
      go : (found : Option Op) → slice_get ops at ≡ found → unwrap_or (slice_get ops at) (Literal Null) ≡ slice_index_or ops at (Literal Null)
          → (b : ℕ) × (node : Op) × (suc below ≡ suc b) × (slice_get ops at ≡ Some node) × (op_term (term_to ops b) node ≡ t)
      go None e is = absurd (other (sym h ∙ ap (op_term (term_to ops below)) (sym is ∙ ap (λ o. unwrap_or o (Literal Null)) e)))
      go (Some node) e is = (below, node, refl, e, ap (op_term (term_to ops below)) (sym (ap (λ o. unwrap_or o (Literal Null)) e) ∙ is) ∙ h)

is_column : (below : ℕ → Term) (node : Op) (place : ℕ) → op_term below node ≡ col 1 place → node ≡ Column 1 place
is_column below (Column slot p) place h = cc
is_column below _ place h = absurd cc

is_number : (below : ℕ → Term) (node : Op) (number : ℤ) → op_term below node ≡ lit (Int number) → node ≡ Literal (Int number)
is_number below (Literal v) number h = cc
is_number below _ number h = absurd cc

module _ (ops : List Op) (want : WantedCheck) where
  abbrev wanted : Term
  wanted = op2 (Compare want.0 collation.Binary) (col 1 want.1) (lit (Int want.2))

  compared : (root : ℕ) → term_in ops root ≡ wanted → (1 < length ops) × ComparesAt ops root want
  compared root h = let top = rooted ops (length ops) root wanted h (λ e. cc) in go top.0 top.1 top.2 top.3 top.4
    where
      go : (below : ℕ) (node : Op) → length ops ≡ suc below → slice_get ops root ≡ Some node → op_term (term_to ops below) node ≡ wanted → (1 < length ops) × ComparesAt ops root want
      go below (Binary b l r) deep at is =
          let column : term_to ops below l ≡ col 1 want.1 = cc in
          let number : term_to ops below r ≡ lit (Int want.2) = cc in
          let test : b ≡ Compare want.0 collation.Binary = cc in
          let left = rooted ops below l (col 1 want.1) column (λ e. cc) in
          let right = rooted ops below r (lit (Int want.2)) number (λ e. cc) in
          (omega (arith, deep, left.2), (l, r, at ∙ ap (λ x. Some (Binary x l r)) test, left.3 ∙ ap Some (is_column _ left.1 want.1 left.4), right.3 ∙ ap Some (is_number _ right.1 want.2 right.4)))
      go below _ deep at is = absurd cc

  comparing : (root : ℕ) → 1 < length ops → ComparesAt ops root want → term_in ops root ≡ wanted
  comparing root deep at = go (length ops) refl
    where
      go : (n : ℕ) → length ops ≡ n → term_to ops n root ≡ wanted
      go (suc (suc n)) is =
          rw (get_or_from_slice_get ops root _ (Literal Null) at.2, get_or_from_slice_get ops at.0 _ (Literal Null) at.3, get_or_from_slice_get ops at.1 _ (Literal Null) at.4) refl
      go _ is = absurd (omega (arith, is, deep))

  -- of one root
  pub one_compared : (roots : List ℕ) (d : ℕ) → 1 ≤ length roots → length roots < 2
      → (terms_in ops roots ≡ wanted ∷ []) ↔ ((1 < length ops) × ComparesAt ops (slice_index_or roots 0 d) want)
  one_compared [] d some few = absurd (omega arith)
  one_compared (root ∷ []) d some few = (λ is. compared root (let e : term_in ops root ≡ wanted = cc in e), λ it. ap (λ t. t ∷ []) (comparing root it.0 it.1))
  one_compared (root ∷ next ∷ more) d some few = absurd (omega arith)
