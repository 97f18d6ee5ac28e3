use Rattle.std.proofs.Common.{◌≡◌, Global, ℕ, List, [], ◌∷◌, ◌++◌, map, string_bytes, refl, ap, ◌∙◌, append-nil}
use Rattle.std.specs.List.{join_by, join_with_byte}
use Rattle.office_tables_shelf.specs.Rows.{body_in}
use Rattle.office_tables_statements.proofs.body.write_body.Goals as goal

joined : {X : Type 0} (bytes : X → List ℕ) (xs : List X) → join_by bytes (44 ∷ []) xs ≡ join_with_byte 44 (map bytes xs)
joined bytes [] = refl
joined bytes (x ∷ []) = append-nil (bytes x)
joined bytes (x ∷ y ∷ xs) = ap (λ rest. bytes x ++ 44 ∷ rest) (joined bytes (y ∷ xs))

pub returns : goal.returns
unfolding body_in
returns c = c.in_ok-join.ensures.ok ∙ joined (string_bytes {Z = Global}) c.as_slice.result.now ∙ ap (join_with_byte 44) (c.as_slice.ensures ∙ c.in_ok-fields.ensures.spelled)
