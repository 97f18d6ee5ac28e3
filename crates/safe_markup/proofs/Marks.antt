-- A text of others has no character of which tags and attributes are made.
use Rattle.std.proofs.Common.{◌≡◌, ℕ, eqb, Bool, true, false, List, [], ◌∷◌, ◌++◌, codes, refl, ap, ap₂, ◌∙◌, append-nil}
use Rattle.std.proofs.lemmas.List.Elements.{filter-append}
use Rattle.std.specs.Prelude.{cond}
use Rattle.safe_markup.specs.Escaping.{escaped_byte, escaped_text, is_markup, marks}

in_case : (t : Bool) (x y : List ℕ) → marks x ≡ [] → (t ≡ false → marks y ≡ []) → marks (cond t x y) ≡ []
in_case true x y p q = p
in_case false x y p q = q refl

plain : (b : ℕ) → eqb b 60 ≡ false → eqb b 62 ≡ false → eqb b 34 ≡ false → eqb b 39 ≡ false → marks (b ∷ []) ≡ []
unfolding marks
plain b lt gt quot apos = rw (lt, gt, quot, apos) refl

byte_marks : (b : ℕ) → marks (escaped_byte b) ≡ []
unfolding marks
byte_marks b =
    in_case (eqb b 38) (codes "&amp;") _ refl (λ _.
    in_case (eqb b 60) (codes "&lt;") _ refl (λ lt.
    in_case (eqb b 62) (codes "&gt;") _ refl (λ gt.
    in_case (eqb b 34) (codes "&quot;") _ refl (λ quot.
    in_case (eqb b 39) (codes "&#39;") _ refl (λ apos. plain b lt gt quot apos)))))

escaped_marks : (words : List ℕ) → marks (escaped_text words) ≡ []
unfolding escaped_text marks
escaped_marks [] = refl
escaped_marks (b ∷ bs) =
    filter-append is_markup (escaped_byte b) (escaped_text bs)
    ∙ ap₂ (λ (xs ys : List ℕ). xs ++ ys) (byte_marks b) (escaped_marks bs)

-- a text that is appended adds none
pub none_added : (before words : List ℕ) → marks (before ++ escaped_text words) ≡ marks before
unfolding marks
none_added before words =
    filter-append is_markup before (escaped_text words)
    ∙ ap (λ (xs : List ℕ). marks before ++ xs) (escaped_marks words) ∙ append-nil (marks before)
