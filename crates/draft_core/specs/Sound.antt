-- When what is committed and drafted is sound, in a version of the rows and the rules.
use Rattle.std.specs.Prelude.{◌≡◌, List, None, IfSome}
use Rattle.std.specs.FinMap.{get, empty}
use Rattle.signal_records.specs.{Row.key_of, TimingSet.Rows, Within.IsRowWithin, Within.current_limits, Within.version_1_limits, declared.key.Key.Key, declared.limits.Limits.Limits}
use Rattle.signal_values.specs.Words.{AreWords}
use Rattle.signal_rules.specs.{Violations.violations_of, BeforeLead.violations_before_lead, declared.violation.Violation.Violation}
use Rattle.draft_core.specs.Transaction.{TimingSide, Draft}

-- nothing was committed yet, and there is no draft
abbrev pub no_timing : TimingSide
no_timing = record { revision = 0; committed = empty; draft = None }

-- a version of the tables: the limits of its rows, and the rules by which it judges a set
pub record Version : Type 0 where
  pub limits : Limits
  pub violations : Rows → List Violation

-- today's version
abbrev pub today : Version
today = record { limits = current_limits; violations = violations_of }

-- version 1, which knew no leading pedestrian interval: its rows have lead 0, and are judged by V1 to V13
abbrev pub version_1 : Version
version_1 = record { limits = version_1_limits; violations = violations_before_lead }

-- each row is within the limits of a version, and stands under its own key
abbrev pub AreRecordsIn : Version → Rows → Type 0
AreRecordsIn v set = (key : Key) → IfSome (get set key) (λ row. IsRowWithin v.limits row × (key_of row ≡ key))

-- each row is within the limits of today, and stands under its own key
abbrev pub AreRecords : Rows → Type 0
AreRecords = AreRecordsIn today

-- the owner of a draft is a name of at most 40 bytes, and its rows are records of a version
pub record IsSoundDraftIn (v : Version) (draft : Draft) : Type 0 where
  pub owner : AreWords 40 draft.owner
  pub rows : AreRecordsIn v draft.set

-- the owner of a draft is a name of at most 40 bytes, and its rows are records of today
abbrev pub IsSoundDraft : Draft → Type 0
IsSoundDraft = IsSoundDraftIn today
