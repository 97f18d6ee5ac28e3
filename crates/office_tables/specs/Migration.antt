-- What becomes of the tables of version 1: each row is spelled as today, and nothing else changes.
use Rattle.std.specs.Prelude.{◌≡◌, ℕ, List, length, IfSome}
use Rattle.std.specs.FinMap.{entries}
use Rattle.signal_records.specs.TimingSet.{Rows as Set}
use Rattle.signal_rules.specs.{Violations.violations_of, BeforeLead.violations_before_lead}
use Rattle.office_tables_shelf.specs.{Cells.Cell, Cells.rows_by, Content.Content, Content.rows_at, Rows.draft_columns}
use Rattle.office_machine.specs.Office.{Office, side_at}
use Rattle.office_tables_decisions.specs.StandFor.{StandForSound}
use Rattle.office_tables.specs.declared.rewritten.{Migrated.Migrated, Spelled.Spelled, Spelled.TheVariants.Timing, Spelled.TheVariants.Draft}
use Rattle.office_tables.specs.Rewritten.{AreKept, KeptRow, kept_key, puts, spelled_table}

-- the cells of a row or a removal beside its key, as today's version spells them
abbrev pub kept_columns : KeptRow → List Cell
kept_columns kept = draft_columns kept.1

-- the tables of version 1 were brought to today's version, only `timing` and `draft` changed, and the rows that were
-- written anew were counted
pub record IsMigrated (old new : Content) (count : Migrated) : Type 0 where
  pub kept : Spelled → List KeptRow
  pub before : (t : Spelled) → AreKept t (entries (rows_at old (spelled_table t))) (kept t)
  pub after : (t : Spelled) → rows_at new (spelled_table t) ≡ rows_by kept_key kept_columns (kept t)
  pub others : new ≡ record old { timing = new.timing; draft = new.draft }
  pub count_is : count ≡ record { timing = length (puts Timing (kept Timing)); draft = length (puts Draft (kept Draft)) }

-- today's rules find in the set the violations that those of version 1 found
abbrev pub IsJudgedAlike : Set → Type 0
IsJudgedAlike set = violations_of set ≡ violations_before_lead set

-- The tables stand for the office as they are spelled today. A row of version 1 is read with lead 0, so that the
-- office with lead 0 in each pedestrian part is the office itself. Each committed or drafted set breaks today the
-- rules that it broke in version 1.
pub record StandAnew (tables : Content) (office : Office) : Type 0 where
  pub stand : StandForSound tables office
  pub committed : (id : ℕ) → IsJudgedAlike (side_at office id).committed
  pub drafted : (id : ℕ) → IfSome (side_at office id).draft (λ draft. IsJudgedAlike draft.set)
