-- One step of a loop over subjects.
use Rattle.std.proofs.Common.{◌≡◌, ℕ, ◌+◌, ◌<◌, ◌≤◌, Bool, true, false, List, [], ◌∷◌, ◌++◌, filter, drop, length, get_or, ◌⊎◌, inl, inr, refl, sym, ap, ◌∙◌, append_assoc, arith}
use Rattle.std.proofs.lemmas.List.{append-nil, drop_all, drop_more}
use Rattle.std.specs.List.{flat_map, list_all}
use Rattle.signal_records.specs.TimingSet.{Rows}
use Rattle.signal_rules.specs.{declared.violation.Subject.Subject, Counts.RisesAtMost, Counts.most_seconds, Counts.most_seconds_of}

-- the element at the index, and those after it
pub one_left : {A : Type 0} (items : List A) (i : ℕ) (x : A) → i < length items → x ≡ get_or items i x → drop i items ≡ x ∷ drop (i + 1) items
one_left items i x lt is = drop_more items i x lt ∙ ap (λ y. y ∷ drop (i + 1) items) (sym is)

pub filter_step : {A : Type 0} (P : A → Bool) (done new items whole : List A) (i : ℕ) (x : A) → i < length items → x ≡ get_or items i x → done ++ filter P (drop i items) ≡ whole → ((P x ≡ true) × (new ≡ done ++ x ∷ [])) ⊎ ((P x ≡ false) × (new ≡ done)) → new ++ filter P (drop (i + 1) items) ≡ whole
filter_step P done new items whole i x lt is so_far (inl h) =
    let step : filter P (x ∷ drop (i + 1) items) ≡ x ∷ filter P (drop (i + 1) items) = rw (h.0) refl in
    ap (λ l. l ++ filter P (drop (i + 1) items)) h.1 ∙ append_assoc done (x ∷ []) (filter P (drop (i + 1) items)) ∙ sym (ap (λ l. done ++ filter P l) (one_left items i x lt is) ∙ ap (λ l. done ++ l) step) ∙ so_far
filter_step P done new items whole i x lt is so_far (inr h) =
    let step : filter P (x ∷ drop (i + 1) items) ≡ filter P (drop (i + 1) items) = rw (h.0) refl in
    ap (λ l. l ++ filter P (drop (i + 1) items)) h.1 ∙ sym (ap (λ l. done ++ filter P l) (one_left items i x lt is) ∙ ap (λ l. done ++ l) step) ∙ so_far

pub flat_map_step : {A B : Type 0} (f : A → List B) (done new : List B) (items : List A) (whole : List B) (i : ℕ) (x : A) → i < length items → x ≡ get_or items i x → done ++ flat_map f (drop i items) ≡ whole → new ≡ done ++ f x → new ++ flat_map f (drop (i + 1) items) ≡ whole
flat_map_step f done new items whole i x lt is so_far e =
    ap (λ l. l ++ flat_map f (drop (i + 1) items)) e ∙ append_assoc done (f x) (flat_map f (drop (i + 1) items)) ∙ sym (ap (λ l. done ++ flat_map f l) (one_left items i x lt is)) ∙ so_far

pub seconds_step : (set : Rows) (items : List Subject) (i before now after : ℕ) (x : Subject) → i < length items → x ≡ get_or items i x → now + most_seconds_of set (drop i items) ≤ before + most_seconds_of set items → RisesAtMost (most_seconds set x) now after → after + most_seconds_of set (drop (i + 1) items) ≤ before + most_seconds_of set items
seconds_step set items i before now after x lt is so_far h =
    let left : most_seconds_of set (drop i items) ≡ most_seconds set x + most_seconds_of set (drop (i + 1) items) = ap (most_seconds_of set) (one_left items i x lt is) in
    sums now after before _ _ _ _ left so_far h.1 where
      sums : (now after before a b c d : ℕ) → a ≡ b + c → now + a ≤ before + d → after ≤ now + b → after + c ≤ before + d
      sums now after before a b c d e p q = omega arith

-- two rises, one after the other
pub rises_on : (a b before now after : ℕ) → RisesAtMost a before now → RisesAtMost b now after → RisesAtMost (a + b) before after
rises_on a b before now after g h = (low before now after g.0 h.0, high a b before now after g.1 h.1, λ e. h.2 (g.2 e)) where
  low : (x y z : ℕ) → x ≤ y → y ≤ z → x ≤ z
  low x y z p q = omega arith

  high : (a b x y z : ℕ) → y ≤ x + a → z ≤ y + b → z ≤ x + (a + b)
  high a b x y z p q = omega arith

pub rises_within : (a b before after : ℕ) → a ≤ b → RisesAtMost a before after → RisesAtMost b before after
rises_within a b before after le h = (h.0, wider after before a b h.1 le, h.2) where
  wider : (x y a b : ℕ) → x ≤ y + a → a ≤ b → x ≤ y + b
  wider x y a b p q = omega arith

-- calls while a subject is left
pub calls_within : {A : Type 0} (items whole : List A) (i before now after : ℕ) → items ≡ whole → i < length items → RisesAtMost i before now → RisesAtMost 1 now after → RisesAtMost (length whole) before after
calls_within items whole i before now after e lt g h =
    let same : length items ≡ length whole = ap length e in
    rises_within (i + 1) (length whole) before after (next i _ _ same lt) (rises_on i 1 before now after g h) where
      next : (i m n : ℕ) → m ≡ n → i < m → i + 1 ≤ n
      next i m n e lt = omega arith

-- nothing has risen
pub rises_none : (most count : ℕ) → RisesAtMost most count count
rises_none most count = (omega arith, omega arith, λ e. e)

-- a test that the element passes
pub all_passed : (T : ℕ → Bool) (items : List ℕ) (i x : ℕ) (whole : Bool) → i < length items → x ≡ get_or items i x → list_all T (drop i items) ≡ whole → T x ≡ true → list_all T (drop (i + 1) items) ≡ whole
all_passed T items i x whole lt is so_far passes =
    let step : list_all T (x ∷ drop (i + 1) items) ≡ list_all T (drop (i + 1) items) = rw passes refl in
    sym step ∙ sym (ap (list_all T) (one_left items i x lt is)) ∙ so_far

-- the end of such a loop
pub flat_map_done : {A B : Type 0} (f : A → List B) (done : List B) (items whole : List A) (i : ℕ) → length items ≤ i → done ++ flat_map f (drop i items) ≡ flat_map f items → items ≡ whole → done ≡ flat_map f whole
flat_map_done f done items whole i le so_far e = sym (append-nil done) ∙ sym (ap (λ l. done ++ flat_map f l) (drop_all i items le)) ∙ so_far ∙ ap (flat_map f) e
