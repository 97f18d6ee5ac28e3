-- A fault that is handed on.
use Rattle.std.proofs.Common.{◌≡◌, ◌≢◌, inl, inr, Result, Ok, Err, ap, refl, subst, sym}
use Rattle.std.specs.Result.{IsErrAnd}
use Rattle.office_files.specs.declared.fault.CsvFault.{CsvFault}
use Rattle.office_files.specs.declared.fault.CsvFault.TheVariants as file
use Rattle.signal_office_commands.specs.Refused.{IsUnread}
use Rattle.signal_office_faults.specs.declared.fault.Fault.{Fault}
use Rattle.signal_office_faults.specs.declared.fault.Fault.TheVariants as told

-- it is the one that is told
pub err_is : {A : Type 0} (result : Result A Fault) (fault : Fault) → IsErrAnd result (λ why. why ≡ fault) → result ≡ Err fault
err_is (Ok x) fault is = absurd is
err_is (Err why) fault is = ap Err is

pub handed : {A : Type 0} (result : Result A Fault) (why : Fault) (P : Result A Fault → Type 0) → IsErrAnd result (λ it. it ≡ why) → P (Err why) → P result
handed result why P is holds = subst P (sym (err_is result why is)) holds

-- a file that was not read
pub unread : {A : Type 0} {read : Result A CsvFault} (fault : CsvFault) → (fault ≢ file.NoMemory → read ≡ Err fault) → IsUnread read (told.Csv fault)
unread file.NoMemory is = (file.NoMemory, refl, inl refl)
unread (file.Row bad) is = (file.Row bad, refl, inr (is (λ e. cc)))
