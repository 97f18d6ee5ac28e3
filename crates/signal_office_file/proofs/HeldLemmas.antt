-- What is known of a file up to a place, and of the bytes there, is known of it up to their end; and so it is of a sink.
use Rattle.std.proofs.Common.{◌≡◌, ℕ, ◌+◌, ◌<◌, List, ◌++◌, length, take, drop, ap, ◌∙◌, inl, inr, Ok, Err, arith, get_or-drop, get_or-take, length-drop, length-take}
use Rattle.std.specs.Prelude.{IfErr, Result, ⊤}
use Rattle.std.proofs.Math.Seq.{take-add}
use Rattle.std.proofs.lemmas.List.{ext_get_or}
use Rattle.office_http_framing.proofs.EndLemmas.{Rose-after}
use Rattle.office_http_framing.specs.Ends.{FailsOrGivesNone, Grows, Told}
use Rattle.office_http_framing.specs.declared.ends.Counts.{Counts}
use Rattle.sqlite_disk.specs.Disk.{Holds}
use Rattle.signal_office_faults.specs.declared.fault.Fault.{Fault}
use Rattle.signal_office_file.specs.Ended.{IsUncopied}
use Rattle.signal_office_file.specs.Copying.{CopyBreaksOff}

part_held : (file bytes : List ℕ) (at : ℕ) → Holds file at bytes → take (length bytes) (drop at file) ≡ bytes
part_held file bytes at holds =
    let within = holds.within in
    let whole : length (take (length bytes) (drop at file)) ≡ length bytes =
    omega (arith, length-take (length bytes) (drop at file), length-drop at file) in
    ext_get_or 0 (take (length bytes) (drop at file)) bytes whole
    (λ i low.
    let inside : i < length bytes = omega (arith, whole) in
    get_or-take (length bytes) (drop at file) i 0 inside ∙ get_or-drop at file i 0 ∙ holds.each i inside)

pub held_more : (file bytes : List ℕ) (at : ℕ) → Holds file at bytes → take (at + length bytes) file ≡ take at file ++ bytes
held_more file bytes at holds = take-add at (length bytes) file ∙ ap (λ (back : List ℕ). take at file ++ back) (part_held file bytes at holds)

fails_before : (first old new : Counts) → Grows first old → FailsOrGivesNone old new → FailsOrGivesNone first new
fails_before first old new grows (inl fails) = inl (Rose-after first.failures old.failures new.failures grows.failures fails)
fails_before first old new grows (inr none) = inr (Rose-after first.empties old.empties new.empties grows.empties none)

pub breaks_before : (first old new : Told) → Grows first.counts old.counts → (why : Fault) → CopyBreaksOff old new why → CopyBreaksOff first new why
breaks_before first old new grows why (inl store) = inl store
breaks_before first old new grows why (inr (write, fails)) = inr (write, fails_before first.counts old.counts new.counts grows fails)

-- a copy that broke off was not made
pub uncopied : (start end : Told) (result : Result ⊤ Fault) → IfErr result (CopyBreaksOff start end) → IfErr result (IsUncopied start end)
uncopied start end (Ok done) it = tt
uncopied start end (Err why) (inl store) = inl store
uncopied start end (Err why) (inr write) = inr (inr write)
