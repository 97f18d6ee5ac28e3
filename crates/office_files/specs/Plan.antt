-- The plan, a timing set, that a CSV file makes.
use Rattle.std.specs.Prelude.{◌≡◌, ℕ, List, Ok}
use Rattle.std.specs.FinMap.{empty}
use Rattle.signal_records.specs.TimingSet.{Rows, after_changes}
use Rattle.signal_records.specs.declared.record.Change.{Change}
use Rattle.office_files.specs.Changes.{changes_of}

-- each record of the file spells a change, and the plan is what the changes make of the empty set
pub record IsPlan (bytes : List ℕ) (plan : Rows) : Type 0 where
  pub changes : List Change
  pub spelled : changes_of bytes ≡ Ok changes
  pub plan_is : plan ≡ after_changes empty changes
