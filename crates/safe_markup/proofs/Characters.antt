-- Names and texts as they are written.
use Rattle.std.proofs.Common.{◌≡◌, ℕ, suc, ◌<◌, ◌≤◌, ◌⊎◌, inl, inr, List, [], ◌∷◌, ◌++◌, length, get_or, flat_map, refl, sym, ap, ap₂, ◌∙◌, arith, append-nil}
use Rattle.std.proofs.{lemmas.Bool.cases_lt, lemmas.Bool.ne_eqb, lemmas.Str.inside_one, lemmas.Grind.flat_map-append}
use Rattle.std.specs.Prelude.{encode_utf8}
use Rattle.safe_markup.specs.Escaping.{escaped_text, escaped_byte}

-- nothing is left
pub escaped_empty : (words : List ℕ) → length words ≡ 0 → escaped_text words ≡ []
unfolding escaped_text
escaped_empty [] none = refl
escaped_empty (b ∷ bs) none = absurd (omega arith)

-- a character more
pub escaped_step : (words rest : List ℕ) (c : ℕ) → words ≡ encode_utf8 c ++ rest → escaped_text words ≡ flat_map escaped_byte (encode_utf8 c) ++ escaped_text rest
unfolding escaped_text
escaped_step words rest c parts = ap (flat_map escaped_byte) parts ∙ flat_map-append escaped_byte (encode_utf8 c) rest

-- ---- a character that is written as it is

plain : (b : ℕ) → (b ≡ 38 → ⊥) → (b ≡ 60 → ⊥) → (b ≡ 62 → ⊥) → (b ≡ 34 → ⊥) → (b ≡ 39 → ⊥) → escaped_byte b ≡ b ∷ []
plain b amp lt gt quot apos =
    rw (ne_eqb b 38 amp, ne_eqb b 60 lt, ne_eqb b 62 gt, ne_eqb b 34 quot, ne_eqb b 39 apos) refl

unchanged : (xs : List ℕ) → ((k : ℕ) → k < length xs → escaped_byte (get_or xs k 0) ≡ get_or xs k 0 ∷ []) → flat_map escaped_byte xs ≡ xs
unchanged [] h = refl
unchanged (x ∷ xs) h =
    ap₂ (λ (ys zs : List ℕ). ys ++ zs) (h 0 (omega arith))
    (unchanged xs (λ k low. h (suc k) (omega arith)))

-- a byte of a character's is the character, or no ASCII
pub kept_character : (c : ℕ) → (c ≡ 38 → ⊥) → (c ≡ 60 → ⊥) → (c ≡ 62 → ⊥) → (c ≡ 34 → ⊥) → (c ≡ 39 → ⊥) → flat_map escaped_byte (encode_utf8 c) ≡ encode_utf8 c
kept_character c amp lt gt quot apos =
    unchanged (encode_utf8 c) (λ k low. by_size k low (cases_lt (get_or (encode_utf8 c) k 0) 128)) where
      by_size : (k : ℕ) → k < length (encode_utf8 c) → (get_or (encode_utf8 c) k 0 < 128) ⊎ (128 ≤ get_or (encode_utf8 c) k 0) → escaped_byte (get_or (encode_utf8 c) k 0) ≡ get_or (encode_utf8 c) k 0 ∷ []
      by_size k low (inl small) =
          let is : c ≡ get_or (encode_utf8 c) k 0 = inside_one c [] (encode_utf8 c) k (sym (append-nil (encode_utf8 c))) low small in
          plain _ (λ e. amp (is ∙ e)) (λ e. lt (is ∙ e)) (λ e. gt (is ∙ e)) (λ e. quot (is ∙ e)) (λ e. apos (is ∙ e))
      by_size k low (inr large) =
          plain _ (λ e. omega arith) (λ e. omega arith) (λ e. omega arith) (λ e. omega arith) (λ e. omega arith)
