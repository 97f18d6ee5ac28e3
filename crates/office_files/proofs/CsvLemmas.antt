-- What a reader gives is every record of the text.
use Rattle.std.proofs.Common.{◌≡◌, ℕ, zero, suc, ◌+◌, ◌<◌, ◌≤◌, ◌==◌, Bool, true, false, List, [], ◌∷◌, ◌++◌, length, cond, inl, inr, take, Option, Some, None, refl, ap, arith}
use Rattle.csv.specs.declared.parser.{Config.Config, State.State, Action.Action}
use Rattle.csv.specs.declared.parser.State.TheVariants as st
use Rattle.csv.specs.declared.parser.Action.TheVariants as act
use Rattle.csv.specs.{declared.parser.Terminator.Terminator, Records.field_at}
use Rattle.csv.specs.declared.parser.Terminator.TheVariants as term
use Rattle.csv.specs.Machine.{Read, next_record, ends_at_end, step, is_end, in_field, start_field, start_record, after_end}
use Rattle.std.proofs.lemmas.Bool.{cases_Bool}
use Rattle.csv.specs.Reading.{records, records_from, Reached, AreRecords}

-- a field that is there is the next of the front of the list
pub take-field_at : (fs : List (List ℕ)) (i : ℕ) (f : List ℕ) → Some f ≡ field_at fs i → take (i + 1) fs ≡ take i fs ++ f ∷ []
unfolding field_at
take-field_at [] i f e = cc
take-field_at (g ∷ fs) zero f e = let same : f ≡ g = cc in rw same refl
take-field_at (g ∷ fs) (suc i) f e =
    let n : suc i + 1 ≡ suc (i + 1) = omega arith in
    rw n (ap (λ t. g ∷ t) (take-field_at fs i f e))

-- where none is there, the front is the list
pub take-field_at_end : (fs : List (List ℕ)) (i : ℕ) → None ≡ field_at fs i → take i fs ≡ fs
unfolding field_at
take-field_at_end [] zero e = refl
take-field_at_end [] (suc i) e = refl
take-field_at_end (g ∷ fs) zero e = cc
take-field_at_end (g ∷ fs) (suc i) e = ap (λ t. g ∷ t) (take-field_at_end fs i e)

-- a machine at the end of a record
abbrev pub IsBetween : State → Type 0
IsBetween s = ends_at_end s ≡ false

-- what holds of a step that ends a record
record EndsBetween (x : State × Action) : Type 0 where
  between : is_end x.1 ≡ true → IsBetween x.0

EndsBetween-cond : (b : Bool) (x y : State × Action) → EndsBetween x → EndsBetween y → EndsBetween (cond b x y)
EndsBetween-cond true x y f g = f
EndsBetween-cond false x y f g = g

-- a byte that ends no record
on_inside : (s : State) (a : Action) → is_end a ≡ false → EndsBetween (s, a)
on_inside s a inside = record { between = λ e. cc }

after_end_is_between : (t : Terminator) (c : ℕ) → IsBetween (after_end t c)
after_end_is_between term.CRLF c = elim (cases_Bool (c == 13)) [ inl cr ↦ rw cr refl | inr other ↦ rw other refl ]
after_end_is_between (term.Any t) c = refl

on_end : (t : Terminator) (c : ℕ) → EndsBetween (after_end t c, act.EndRecord)
on_end t c = record { between = λ e. after_end_is_between t c }

ruleset ending = (EndsBetween-cond, on_inside, on_end, refl)

in_field_ends : (cfg : Config) (c : ℕ) → EndsBetween (in_field cfg c)
in_field_ends cfg c = search ending

start_field_ends : (cfg : Config) (c : ℕ) → EndsBetween (start_field cfg c)
start_field_ends cfg c = search (ending, in_field_ends)

start_record_ends : (cfg : Config) (c : ℕ) → EndsBetween (start_record cfg c)
start_record_ends cfg c = search (ending, start_field_ends)

-- a record that ends leaves the machine between records
end_is_between : (cfg : Config) (s : State) (c : ℕ) → EndsBetween (step cfg s c)
end_is_between cfg st.StartRecord c = start_record_ends cfg c
end_is_between cfg st.StartField c = start_field_ends cfg c
end_is_between cfg st.InField c = in_field_ends cfg c
end_is_between cfg st.AfterQuote c = search (ending, in_field_ends)
end_is_between cfg st.AfterCr c = search (ending, start_record_ends)
end_is_between cfg _ c = search ending

-- what a read of a record leaves: at most n bytes, between records
pub record Leaves (n : ℕ) (r : Read) : Type 0 where
  pub rest : length r.2 ≤ n
  pub between : IsBetween r.1

at_end : (b : Bool) (f : List (List ℕ)) (r : Read) → cond b (Some (f, st.StartRecord, [])) None ≡ Some r → Leaves 0 r
at_end true f r e =
    let same : r ≡ (f, st.StartRecord, []) = cc in
    rw same (record { rest = omega arith; between = refl })
at_end false f r e = cc

at_step : (b : Bool) (f : List (List ℕ)) (s : State) (xs : List ℕ) (more : Option Read) (r : Read) → (b ≡ true → IsBetween s) → (more ≡ Some r → Leaves (length xs) r) → cond b (Some (f, s, xs)) more ≡ Some r → Leaves (length xs) r
at_step true f s xs more r end go e =
    let same : r ≡ (f, s, xs) = cc in
    rw same (record { rest = omega arith; between = end refl })
at_step false f s xs more r end go e = go e

-- a record takes some bytes of the text
next_record_takes : (cfg : Config) (s : State) (f : List (List ℕ)) (p xs : List ℕ) (r : Read) → next_record cfg s f p xs ≡ Some r → Leaves (length xs) r
unfolding next_record
next_record_takes cfg s f p [] r e = at_end (ends_at_end s) _ r e
next_record_takes cfg s f p (c ∷ xs) r e =
    let here = at_step (is_end (step cfg s c).1) _ _ xs _ r (end_is_between cfg s c).between (next_record_takes cfg (step cfg s c).0 _ _ xs r) e in
    record { rest = omega arith; between = here.between }

-- from between records it takes one at least
next_record_shorter : (cfg : Config) (s : State) (xs : List ℕ) (r : Read) → IsBetween s → next_record cfg s [] [] xs ≡ Some r → (length r.2 < length xs) × IsBetween r.1
unfolding next_record
next_record_shorter cfg s [] r b e = let none = rw b at e in cc
next_record_shorter cfg s (c ∷ xs) r b e =
    let here = at_step (is_end (step cfg s c).1) _ _ xs _ r (end_is_between cfg s c).between (next_record_takes cfg (step cfg s c).0 _ _ xs r) e in
    (omega arith, here.between)

-- the records that were reached are the first of the text's records
records_from-reached : (cfg : Config) (s s2 : State) (xs ys : List ℕ) (rows : List (List (List ℕ))) (n : ℕ) → IsBetween s → length xs < n → Reached cfg s xs rows s2 ys → next_record cfg s2 [] [] ys ≡ None → records_from cfg n s xs ≡ rows
unfolding records_from Reached
records_from-reached cfg s s2 xs ys rows zero b h reached none = absurd (omega arith)
records_from-reached cfg s s2 xs ys [] (suc n) b h reached none = rw (reached.0, reached.1, none) refl
records_from-reached cfg s s2 xs ys (row ∷ rows) (suc n) b h reached none =
    let p = reached.0 in
    let short = next_record_shorter cfg s xs p b reached.1 in
    let others = records_from-reached cfg p.1 s2 p.2 ys rows n short.1 (omega arith) reached.3 none in
    rw (reached.1, reached.2, others) refl

-- a list of all records is the one that is defined
pub records-all : (cfg : Config) (xs : List ℕ) (rows : List (List (List ℕ))) → AreRecords cfg st.StartRecord xs rows → records cfg xs ≡ rows
records-all cfg xs rows all = records_from-reached cfg st.StartRecord all.0 xs all.1 rows (length xs + 1) refl (omega arith) all.2 all.3
