-- A reader takes a name or text back from how it is written.
use Rattle.std.proofs.Common.{◌≡◌, ℕ, eqb, Bool, true, false, List, [], ◌∷◌, ◌++◌, codes, refl, ap, ◌∙◌}
use Rattle.std.proofs.lemmas.Bool.{eqb-true}
use Rattle.std.specs.Prelude.{cond}
use Rattle.safe_markup.specs.Escaping.{escaped_byte, escaped_text, read_after, unescaped_text}

-- a text is read as a byte, whatever follows
abbrev pub IsReadAs : ℕ → List ℕ → List ℕ → Type 0
IsReadAs b rest text = read_after (text ++ rest) 0 ≡ b ∷ read_after rest 0

in_case : (b : ℕ) (rest : List ℕ) (t : Bool) (x y : List ℕ) → (t ≡ true → IsReadAs b rest x) → (t ≡ false → IsReadAs b rest y) → IsReadAs b rest (cond t x y)
in_case b rest true x y p q = p refl
in_case b rest false x y p q = q refl

entity : (b n : ℕ) (rest text : List ℕ) → IsReadAs n rest text → b ≡ n → IsReadAs b rest text
entity b n rest text h e = rw e h

plain : (b : ℕ) (rest : List ℕ) → eqb b 38 ≡ false → IsReadAs b rest (b ∷ [])
plain b rest e = rw e refl

-- an entity is read as its byte, and each other byte as itself
byte_read : (b : ℕ) (rest : List ℕ) → IsReadAs b rest (escaped_byte b)
byte_read b rest =
    in_case b rest (eqb b 38) _ _
    (λ e. entity b 38 rest (codes "&amp;") refl (eqb-true b 38 e)) (λ other.
    in_case b rest (eqb b 60) _ _
    (λ e. entity b 60 rest (codes "&lt;") refl (eqb-true b 60 e)) (λ _.
    in_case b rest (eqb b 62) _ _
    (λ e. entity b 62 rest (codes "&gt;") refl (eqb-true b 62 e)) (λ _.
    in_case b rest (eqb b 34) _ _
    (λ e. entity b 34 rest (codes "&quot;") refl (eqb-true b 34 e)) (λ _.
    in_case b rest (eqb b 39) _ _
    (λ e. entity b 39 rest (codes "&#39;") refl (eqb-true b 39 e))
    (λ _. plain b rest other)))))

pub restored : (words : List ℕ) → unescaped_text (escaped_text words) ≡ words
unfolding escaped_text
restored [] = refl
restored (b ∷ bs) = byte_read b (escaped_text bs) ∙ ap (λ (xs : List ℕ). b ∷ xs) (restored bs)
