-- What is read of an intersection and its timing side (its committed timing and its draft).
use Rattle.std.specs.Prelude.{ℕ, List, Option, Some, None}
use Rattle.signal_records.specs.{TimingSet.Rows, declared.record.Change.Change}
use Rattle.draft_core.specs.{DraftRows.RowsByKey, Within.AreChangesWithin, declared.timing.Reach.Reach}
use Rattle.office_tables_shelf.specs.{Content.Content, Shelf.ListsDraft, Shelf.ReadsIntersection, declared.rows.IntersectionRow.IntersectionRow}
use Rattle.office_machine.specs.Office.{Office}
use Rattle.office_tables_decisions.specs.{Committed.IsCommittedSet, StandFor.StandFor}
use Rattle.office_desk_timing.specs.declared.reading.ReadIntersection.{ReadIntersection}
use Rattle.draft_core.specs.declared.timing.Reach.TheVariants as reach

-- the tables hold this committed set and these draft rows of an intersection, as far as a step with this
-- reach reads them: both by Plan, only the draft rows by Drafts, none by Row
abbrev pub ReadsPlan : Reach → Content → ℕ → Rows → List Change → Type 0
ReadsPlan reach.Row tables id committed drafts = Unit {0}
ReadsPlan reach.Drafts tables id committed drafts = ListsDraft tables id drafts × AreChangesWithin drafts
ReadsPlan reach.Plan tables id committed drafts =
    ListsDraft tables id drafts × AreChangesWithin drafts × IsCommittedSet tables id committed

-- the intersection's own row, as it was found
abbrev pub row_found : ReadIntersection → IntersectionRow
row_found found = record {
  name = found.name;
  interval = found.interval;
  revision = found.timing.revision;
  holder = found.timing.holder;
}

-- what was found is what the tables hold of an intersection: its own row, and its plan as far as it is read; where none was found, they hold no row of it
abbrev pub Finds : Reach → Content → ℕ → Option ReadIntersection → Type 0
Finds reach tables id None = ReadsIntersection tables id None
Finds reach tables id (Some found) =
    ReadsIntersection tables id (Some (row_found found)) × ReadsPlan reach tables id found.timing.committed found.timing.delta

-- what the draft rows of an intersection say of each key, in tables that stand for an office
abbrev pub drafts_at : {tables : Content} {office : Office} → StandFor tables office → ℕ → RowsByKey
drafts_at stand id key = (stand.draft id key).said
