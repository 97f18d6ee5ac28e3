-- Want of memory is not read: no field and no key gives it. A rule set has that of each of them.
use Rattle.std.proofs.Common.{◌≡◌, ℕ, List, Result, Err}
use Rattle.std.proofs.lemmas.Bool.{false≢true}
use Rattle.signal_records.specs.{declared.fault.RowFault.RowFault, declared.limits.Limits.Limits, Reading.number_at, Reading.flag_at}
use Rattle.signal_records.specs.Reading.{mode_at, list_at, ped_at, key_at}
use Rattle.signal_records.specs.declared.fault.RowFault.TheVariants as fault
use Rattle.signal_records.proofs.FaultLaws.{IsTiming, none_read, number_timing, flag_timing, mode_timing, list_timing, any_ped_timing, key_timing}

-- what is read, if it is a fault, is no want of memory
abbrev pub Never : {X : Type 0} → Result X RowFault → Type 0
Never read = (e : RowFault) → read ≡ Err e → e ≡ fault.NoMemory → ⊥

never_wanted : {X : Type 0} (read : Result X RowFault) → IsTiming read → Never read
never_wanted read h e is wants = absurd (false≢true (rw wants at (none_read read e h is)))

pub number_never : (low high place : ℕ) (fields : List (List ℕ))
    → Never (number_at low high place fields)
number_never low high place fields = never_wanted (number_at low high place fields) (number_timing low high place fields)

pub flag_never : (place : ℕ) (fields : List (List ℕ)) → Never (flag_at place fields)
flag_never place fields = never_wanted (flag_at place fields) (flag_timing place fields)

pub mode_never : (place : ℕ) (fields : List (List ℕ)) → Never (mode_at place fields)
mode_never place fields = never_wanted (mode_at place fields) (mode_timing place fields)

pub list_never : (last place : ℕ) (fields : List (List ℕ)) → Never (list_at last place fields)
list_never last place fields = never_wanted (list_at last place fields) (list_timing last place fields)

pub ped_never : (limits : Limits) (fields : List (List ℕ)) → Never (ped_at limits fields)
ped_never limits fields = never_wanted (ped_at limits fields) (any_ped_timing limits fields)

pub key_never : (limits : Limits) (fields : List (List ℕ)) → Never (key_at limits fields)
key_never limits fields = never_wanted (key_at limits fields) (key_timing limits fields)

pub ruleset none = (number_never, flag_never, mode_never, list_never, ped_never, key_never)
