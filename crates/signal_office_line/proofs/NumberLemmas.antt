-- Which number a word spells, by what `parse` says of it.
use Rattle.std.proofs.Common.{◌≡◌, ℕ, Bool, true, false, if◌then◌else◌, Some, None, sym, ap, refl}
use Rattle.std.specs.Str.Parse.{digits_value, without_leading_plus}
use Rattle.clap.proofs.ValueTestLemmas.{accepts-Accepts, Accepts-accepts}
use Rattle.clap.specs.Values.{IsUnsignedIn}
use Rattle.clap.specs.Walk.{Text}
use Rattle.clap.specs.declared.builder.value_parser.ValueParser.TheVariants.{Unsigned}
use Rattle.signal_office_line.specs.Values.{number_of}

refuted : (b : Bool) (n : ℕ) → (b ≡ true → ⊥) → None ≡ (if b then Some n else None)
refuted true n h = absurd (h refl)
refuted false n h = refl

-- a word that spells no number of the range
pub no_number : (least most : ℕ) (word : Text) → (IsUnsignedIn least most word → ⊥) → None ≡ number_of least most word
no_number least most word none =
    refuted _ _ (λ yes. none (accepts-Accepts false (Unsigned least most) word yes))

-- a word that spells a number of the range
pub the_number : (least most n : ℕ) (word : Text) → IsUnsignedIn least most word → digits_value 10 (without_leading_plus word) ≡ n
    → Some n ≡ number_of least most word
the_number least most n word inside e =
    rw (Accepts-accepts false (Unsigned least most) word inside) (ap Some (sym e))
