-- The faults of the timing rows: none is of a day or a text, and reading gives no want of memory.
use Rattle.std.proofs.Common.{◌≡◌, ℕ, Bool, true, false, eqb, List, [], ◌∷◌, length, Option, Some, None, Result, Ok, Err, refl, subst, rules}
use Rattle.std.specs.Prelude.{IfErr, IsTrue, ◌+◌, if◌then◌else◌}
use Rattle.signal_records.specs.{declared.fault.RowFault.RowFault, declared.limits.Limits.Limits, declared.record.Ped.Ped, declared.record.Row.Row, declared.record.Change.Change, RowFault.is_timing_fault}
use Rattle.signal_records.specs.declared.fault.RowFault.TheVariants as fault
use Rattle.signal_records.specs.Reading.{◌>>=◌, text_at, number_of, number_at, flag_at, mode_at, parts, phases_in, or_no_list, list_at, some_ped, ped_width, lead_in, ped_record, ped_at, phase_record, seq_record, split_record, pattern_record, row_at, phase_key, seq_key, split_key, pattern_key, key_at, removal_at, put_at, change_at, Gives}

-- a fault that is read from the fields of a timing row
abbrev pub is_read_fault : RowFault → Bool
is_read_fault fault.NoMemory = false
is_read_fault e = is_timing_fault e

-- no answer, or one of the faults that are read from timing rows
unfoldable pub IsTiming : {X : Type 0} → Result X RowFault → Type 0
IsTiming r = IfErr r (λ e. IsTrue (is_read_fault e))

abbrev pub failed : {X : Type 0} → RowFault → Result X RowFault
failed e = Err e

ok_timing : {X : Type 0} (x : X) → IsTiming (Ok x)
unfolding IsTiming
ok_timing x = tt

fault_timing : (X : Type 0) (e : RowFault) → IsTrue (is_read_fault e) → IsTiming (failed {X = X} e)
unfolding IsTiming
fault_timing X e h = h

fault_is : (X : Type 0) (e : RowFault) → IsTiming (failed {X = X} e) → IsTrue (is_read_fault e)
unfolding IsTiming
fault_is X e h = h

bind_timing : {A B : Type 0} (r : Result A RowFault) (f : A → Result B RowFault) → IsTiming r → ((x : A) → IsTiming (f x)) → IsTiming (r >>= f)
bind_timing (Ok x) f h k = k x
bind_timing (Err e) f h k = fault_timing _ e (fault_is _ e h)

if_timing : {X : Type 0} (b : Bool) (r s : Result X RowFault) → IsTiming r → IsTiming s → IsTiming (if b then r else s)
if_timing true r s h k = h
if_timing false r s h k = k

-- fields

number_read : (low high place : ℕ) (bytes : List ℕ) → IsTiming (number_of low high place bytes)
number_read low high place bytes = if_timing _ _ _ (if_timing _ _ _ (ok_timing _) (fault_timing _ (fault.Range place) refl)) (fault_timing _ (fault.Number place) refl)

pub number_timing : (low high place : ℕ) (fields : List (List ℕ)) → IsTiming (number_at low high place fields)
unfolding number_at
number_timing low high place fields = number_read low high place (text_at place fields)

pub flag_timing : (place : ℕ) (fields : List (List ℕ)) → IsTiming (flag_at place fields)
unfolding flag_at
flag_timing place fields = bind_timing (number_of 0 1 place (text_at place fields)) _ (number_read 0 1 place (text_at place fields)) (λ n. ok_timing _)

pub mode_timing : (place : ℕ) (fields : List (List ℕ)) → IsTiming (mode_at place fields)
unfolding mode_at
mode_timing place fields = if_timing _ _ _ (if_timing _ _ _ (ok_timing _) (fault_timing _ fault.Mode refl)) (fault_timing _ (fault.Number place) refl)

or_timing : (place : ℕ) (found : Option (List ℕ)) → IsTiming (or_no_list place found)
or_timing place None = fault_timing _ (fault.List place) refl
or_timing place (Some ns) = ok_timing ns

pub list_timing : (last place : ℕ) (fields : List (List ℕ)) → IsTiming (list_at last place fields)
unfolding list_at
list_timing last place fields = or_timing place (phases_in last (parts (text_at place fields)))

-- what is read of such fields, one after another, or of one kind or another
ruleset reads = (rules, ok_timing, bind_timing, if_timing, fault_timing, number_timing, flag_timing, mode_timing, list_timing)

-- rows

lead_timing : (has_lead : Bool) (fields : List (List ℕ)) → IsTiming (lead_in has_lead fields)
unfolding lead_in
lead_timing true fields = number_timing 0 10 15 fields
lead_timing false fields = ok_timing 0

ped_timing : (has_lead : Bool) (fields : List (List ℕ)) → IsTiming (ped_record has_lead fields)
unfolding ped_record
ped_timing has_lead fields = search (reads, lead_timing) depth 20

some_timing : (r : Result Ped RowFault) → IsTiming r → IsTiming (some_ped r)
some_timing (Ok ped) h = ok_timing (Some ped)
some_timing (Err e) h = fault_timing _ e (fault_is _ e h)

pub any_ped_timing : (limits : Limits) (fields : List (List ℕ)) → IsTiming (ped_at limits fields)
unfolding ped_at
any_ped_timing limits fields = if_timing (eqb (length fields) (9 + ped_width limits.has_lead)) (some_ped (ped_record limits.has_lead fields)) (Ok None) (some_timing (ped_record limits.has_lead fields) (ped_timing limits.has_lead fields)) (ok_timing None)

phase_timing : (limits : Limits) (fields : List (List ℕ)) → IsTiming (phase_record limits fields)
unfolding phase_record
phase_timing limits fields = search (reads, any_ped_timing) depth 24

seq_timing : (limits : Limits) (fields : List (List ℕ)) → IsTiming (seq_record limits fields)
unfolding seq_record
seq_timing limits fields = search reads depth 20

split_timing : (limits : Limits) (fields : List (List ℕ)) → IsTiming (split_record limits fields)
unfolding split_record
split_timing limits fields = search reads depth 20

pattern_timing : (fields : List (List ℕ)) → IsTiming (pattern_record fields)
unfolding pattern_record
pattern_timing fields = search reads depth 20

row_timing : (limits : Limits) (fields : List (List ℕ)) → IsTiming (row_at limits fields)
unfolding row_at
row_timing limits [] = fault_timing _ fault.Kind refl
row_timing limits (kind ∷ rest) = search (reads, phase_timing, seq_timing, split_timing, pattern_timing) depth 20

-- changes

pub key_timing : (limits : Limits) (fields : List (List ℕ)) → IsTiming (key_at limits fields)
unfolding key_at phase_key seq_key split_key pattern_key
key_timing limits fields = search reads depth 20

change_timing : (limits : Limits) (fields : List (List ℕ)) → IsTiming (change_at limits fields)
unfolding change_at removal_at put_at
change_timing limits fields = search (reads, key_timing, row_timing) depth 20

-- a result that gives what is read has its faults, or none

pub none_read : {X : Type 0} (read : Result X RowFault) (e : RowFault) → IsTiming read → read ≡ failed e → IsTrue (is_read_fault e)
none_read read e h is = fault_is _ e (subst (λ r. IsTiming r) is h)

given_timing : {X : Type 0} (read result : Result X RowFault) → IsTiming read → Gives result read → IfErr result (λ e. IsTrue (is_timing_fault e))
given_timing read (Ok x) h gives = tt
given_timing read (Err (fault.Day field)) h gives = none_read read (fault.Day field) h (gives (λ is. absurd cc))
given_timing read (Err (fault.Text field)) h gives = none_read read (fault.Text field) h (gives (λ is. absurd cc))
given_timing read (Err _) h gives = refl

pub given_row_timing : (limits : Limits) (fields : List (List ℕ)) (result : Result Row RowFault) → Gives result (row_at limits fields) → IfErr result (λ e. IsTrue (is_timing_fault e))
given_row_timing limits fields result gives = given_timing (row_at limits fields) result (row_timing limits fields) gives

pub given_change_timing : (limits : Limits) (fields : List (List ℕ)) (result : Result Change RowFault) → Gives result (change_at limits fields) → IfErr result (λ e. IsTrue (is_timing_fault e))
given_change_timing limits fields result gives = given_timing (change_at limits fields) result (change_timing limits fields) gives
