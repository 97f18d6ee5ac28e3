-- What was read of an intersection, for whichever sound office the tables stand for.
use Rattle.std.proofs.Common.{◌≡◌, ℕ, List, [], ◌∷◌, map, Some, refl, ap, sym, subst, ◌∙◌, arith}
use Rattle.std.specs.{List.AllByRecursion, FinMap.empty, FinMap.get, FinMap.get-empty, FinMap.same_map}
use Rattle.signal_records.specs.{ChangedRows.changed_key, Key.key_cmp, KeyOrder.key_total, KeyOrder.key_exact, Row.key_of, TimingSet.Rows, Within.IsRowWithin, Within.IsChangeWithin, Within.current_limits, declared.key.Key.Key, declared.record.Row.Row, declared.record.Change.Change, declared.record.Change.TheVariants.Put}
use Rattle.draft_core.specs.DraftRows.{RowsByKey, Said, IsRead, RowStands, Stands, later_of, overlaid_row, row_at, said_at}
use Rattle.draft_core.specs.{Transaction.TimingSide, Within.AreChangesWithin, declared.timing.Timing.Timing, declared.timing.Reach.Reach}
use Rattle.draft_core.proofs.Overlaid.{get-after_changes}
use Rattle.office_tables_shelf.specs.{Cells.Cell, Content.Content, Rows.draft_columns, Rows.draft_key, Rows.timing_columns, Rows.timing_key, Shelf.ListsDraft, declared.rows.IntersectionRow.IntersectionRow}
use Rattle.office_tables_shelf.proofs.{CellLemmas.tied, RowLemmas.timing_columns_tell}
use Rattle.office_machine.specs.Office.{Office, Intersection, side_at, side_of}
use Rattle.office_tables_decisions.{proofs.DraftLemmas.get_listed_draft, specs.Committed.IsCommittedSet, specs.StandFor.IsSaid, specs.StandFor.StandForSound, specs.StandFor.row_of, specs.StandFor.said_columns}
use Rattle.office_desk_timing.specs.{Reading.Finds, Reading.ReadsPlan, Reading.drafts_at, Reading.row_found, declared.reading.ReadIntersection.ReadIntersection}
use Rattle.office_desk_timing.proofs.{IntersectionTable.there, Stands.Says, Stands.draft_says, Stands.timing_says}
use Rattle.draft_core.specs.declared.timing.Reach.TheVariants as reach

-- ---- what changes within their limits say of a key

said_at_within : (change : Change) (key : Key) → IsChangeWithin current_limits change → IsSaid key (said_at change key)
said_at_within change key within = let same = key_exact key (changed_key change) in grind (arith, tied, same)

-- and over what was said
pub change_within : (change : Change) (key : Key) (early : Said) → IsChangeWithin current_limits change → IsSaid key early
    → IsSaid key (later_of (said_at change key) early)
change_within change key early within in_early = let said = said_at_within change key within in grind (arith, said)

-- and changes
pub row_at_within : (changes : List Change) (key : Key) → AreChangesWithin changes
    → IsSaid key (row_at changes key)
row_at_within [] key within = tt
row_at_within (change ∷ changes) key within =
    let first = said_at_within change key within.0 in
    let rest = row_at_within changes key within.1 in
    grind (arith, first, rest)

-- ---- the rows of a plan

-- the cells of a row tell what it says
cells_tell : (key : Key) (a b : Said) → said_columns a ≡ said_columns b → IsSaid key a → IsSaid key b → a ≡ b
cells_tell key a b e in_a in_b = grind (arith, timing_columns_tell)

-- the changes that a table lists say what it says
said_read : (tables : Content) (id : ℕ) {said : RowsByKey} → Says tables.draft id said → (changes : List Change) → ListsDraft tables id changes
    → AreChangesWithin changes → (key : Key) → row_at changes key ≡ said key
said_read tables id {said = said} says changes lists within key =
    cells_tell key (row_at changes key) (said key) (sym (get_listed_draft tables id changes lists key) ∙ says.stored key)
    (row_at_within changes key within) (says.within key)

-- committed rows, as the changes that put them
puts_listed : (id : ℕ) (rows : List Row) → map {B = List Cell × List Cell} (λ (change : Change). (draft_key id change, draft_columns change)) (map Put rows)
    ≡ map (λ row. (timing_key id (key_of row), timing_columns row)) rows
puts_listed id [] = refl
puts_listed id (row ∷ rows) = λ k. (timing_key id (key_of row), timing_columns row) ∷ puts_listed id rows k

puts_within : (rows : List Row) → AllByRecursion (IsRowWithin current_limits) rows → AreChangesWithin (map Put rows)
puts_within [] within = tt
puts_within (row ∷ rows) within = (within.0, puts_within rows within.1)

-- the set that was read is the committed set
pub committed_read : (tables : Content) (office : Office) (id : ℕ) (set : Rows) → StandForSound tables office → IsCommittedSet tables id set
    → set ≡ (side_at office id).committed
committed_read tables office id set stands is =
    let changes : List Change = map Put is.rows in
    let said = said_read (record tables { draft = tables.timing }) id (timing_says tables office id stands) changes
    (puts_listed id is.rows ∙ is.lists) (puts_within is.rows is.within) in
    is.made ∙ same_map key_total key_exact _ _ (λ key.
    get-after_changes changes empty key
    ∙ (λ k. overlaid_row (get-empty key_cmp key k) (said key k)) ∙ (grind arith))

plan_read : (reach : Reach) (tables : Content) (office : Office) (id : ℕ) (timing : Timing) (stands : StandForSound tables office)
    → ReadsPlan reach tables id timing.committed timing.delta → IsRead reach timing (drafts_at stands.stand id) (side_at office id)
plan_read reach.Row tables office id timing stands reads = tt
plan_read reach.Drafts tables office id timing stands reads =
    said_read tables id (draft_says tables office id stands) timing.delta reads.0 reads.1
plan_read reach.Plan tables office id timing stands reads = (
  said_read tables id (draft_says tables office id stands) timing.delta reads.0 reads.1,
  committed_read tables office id timing.committed stands reads.2,
)

-- ---- what was found

-- the intersection that was found is there with its row, and what was found stands for its timing side, as far as that was read
pub record FoundThere (reach : Reach) (tables : Content) (id : ℕ) (found : ReadIntersection) (office : Office) (stands_for : StandForSound tables office) : Type 0 where
  pub i : Intersection
  pub there : get office.intersections id ≡ Some i
  pub row : row_found found ≡ row_of i
  pub stands : Stands reach found.timing (drafts_at stands_for.stand id) i.timing

pub found_there : (reach : Reach) (tables : Content) (office : Office) (id : ℕ) (found : ReadIntersection) (stands : StandForSound tables office)
    → Finds reach tables id (Some found) → FoundThere reach tables id found office stands
found_there reach tables office id found stands finds =
    let at = there tables office id stands (row_found found) finds.0 in
    let side : side_at office id ≡ at.0.timing = ap side_of at.1 in
    record {
      i = at.0;
      there = at.1;
      row = at.2;
      stands = record {
        same_revision = ap (λ (r : IntersectionRow). r.revision) at.2;
        same_holder = ap (λ (r : IntersectionRow). r.holder) at.2;
        draft = λ key. subst (λ (s : TimingSide). RowStands (get s.committed key) (drafts_at stands.stand id key) s.draft key) side (stands.stand.draft id key).stands;
        read = subst (IsRead reach found.timing (drafts_at stands.stand id)) side (plan_read reach tables office id found.timing stands finds.1);
      };
    }
