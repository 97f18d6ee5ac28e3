-- The tables that stand for an office: that each row of a plan is a record, and what another intersection in its place makes of them.
use Rattle.std.proofs.Common.{◌≡◌, ◌≢◌, ℕ, pos, List, Option, Some, None, refl, ap, sym, subst, ◌∙◌, true, false, inl, inr, option_map, arith}
use Rattle.std.proofs.{Math.Path.subst₂, lemmas.Bool.Decides.nat_tests, lemmas.Bool.cond_both}
use Rattle.std.specs.{Cmp.nat_cmp_total, Int.IsInRange, Ordering.nat_cmp, Ordering.eq_by_cmp}
use Rattle.std.specs.FinMap.{get, insert, get-insert, nat_cmp-IsAntisymmetric}
use Rattle.cabinet_core.{proofs.Puts.all_put, specs.Register.Register}
use Rattle.signal_records.specs.{Row.key_of, Within.IsKeyWithin, Within.IsRowWithin, Within.current_limits, declared.key.Key.Key, declared.record.Row.Row, declared.record.Change.TheVariants.Put, declared.record.Change.TheVariants.Remove}
use Rattle.draft_core.specs.{DraftRows.RowsByKey, DraftRows.Said, DraftRows.silent, DraftRows.leaves, DraftRows.removes, Transaction.TimingSide, declared.timing.Reach.Reach}
use Rattle.office_tables_shelf.specs.{Damage.HasDamagedTiming, Damage.HasDamagedDraft, Cells.Cell, Cells.TableRows, Cells.number, Content.Content, RegisterStands.RegisterStands, Rows.intersection_key, Rows.timing_key, Rows.timing_columns, Rows.left_columns, Shelf.is_of}
use Rattle.office_tables_shelf.proofs.{CellLemmas.cell_exact, CellLemmas.tied, KeyCells.intersection_order, StoredMaps.insert_stored}
use Rattle.office_machine.specs.{Office.AreRecords, Office.Intersection, Office.IsSound, Office.IsSoundIntersection, Office.Office, Office.side_at, Office.side_of, Step.with_intersection}
use Rattle.office_tables_decisions.specs.{Damage.HasDamageIn, StandFor.DraftRowStands, StandFor.HasTimingKeys, StandFor.IsSaid, StandFor.StandFor, StandFor.StandForSound, StandFor.columns_of, StandFor.said_columns}
use Rattle.office_desk_timing.specs.Reading.{drafts_at}
use Rattle.office_desk_timing.proofs.{EmptySet.no_records, IntersectionTable.no_damaged_intersection}
pub use Rattle.office_desk_timing.proofs.IntersectionTable.{row_read}
use Rattle.draft_core.specs.declared.timing.Reach.TheVariants as reach

-- ---- a table of rows by the keys of an intersection

-- the rows say this of the keys of an intersection, within the limits of today, and no row stands under cells that are no such key
pub record Says (rows : TableRows) (id : ℕ) (said : RowsByKey) : Type 0 where
  pub keys : HasTimingKeys rows
  pub stored : (key : Key) → get rows (timing_key id key) ≡ said_columns (said key)
  pub within : (key : Key) → IsSaid key (said key)

-- what a committed row says, as a draft row says it
abbrev pub committed_said : Option Row → Said
committed_said None = silent
committed_said (Some row) = leaves row

-- the rows of a sound office's committed sets are records
records_at : (office : Office) (id : ℕ) → IsSound office → AreRecords (side_at office id).committed
records_at office id sound = let here = sound.intersections id in grind (arith, no_records, here)

module _ (tables : Content) (office : Office) (id : ℕ) (stands : StandForSound tables office) where
  pub timing_says : Says tables.timing id (λ key. committed_said (get (side_at office id).committed key))
  timing_says = record {
    keys = stands.stand.timing_keys;
    stored = λ key. stands.stand.timing id key ∙ (grind arith);
    within = λ key. let here = records_at office id stands.sound key in grind (arith, here);
  }

  pub draft_says : Says tables.draft id (drafts_at stands.stand id)
  draft_says = record {
    keys = stands.stand.draft_keys;
    stored = λ key. (stands.stand.draft id key).stored;
    within = λ key. (stands.stand.draft id key).within;
  }

-- the first cell of a key tells the intersection
pub of_key : (id q : ℕ) (key : Key) → is_of id (timing_key q key) ≡ true → q ≡ id
of_key id q key of = let same : number (pos id) ≡ number (pos q) = cell_exact _ _ (tied _ of) in cc

-- a row that stands under cells which begin with the number of an intersection stands under one of its keys
pub own : (rows : TableRows) (id : ℕ) (cells columns : List Cell) → HasTimingKeys rows → is_of id cells ≡ true → get rows cells ≡ Some columns
    → (key : Key) × (cells ≡ timing_key id key)
own rows id cells columns keys of stored =
    let at = keys cells columns stored in
    (at.1, at.2 ∙ ap (λ n. timing_key n at.1) (of_key id at.0 at.1 (ap (is_of id) (sym at.2) ∙ of)))

-- ---- each row is a record

undamaged : {rows : TableRows} {id : ℕ} {said : RowsByKey} → Says rows id said → (cells columns : List Cell) → is_of id cells ≡ true → get rows cells ≡ Some columns
    → ((row : Row) → IsRowWithin current_limits row → cells ≡ timing_key id (key_of row) → columns ≢ timing_columns row)
    → ((key : Key) → said key ≡ removes → IsKeyWithin current_limits key → cells ≡ timing_key id key → columns ≢ left_columns None) → ⊥
undamaged {rows = rows} {id = id} {said = said} says cells columns of stored no_row no_removal =
    let at = own rows id cells columns says.keys of stored in
    go at.0 at.1 (said at.0) refl (says.within at.0) (sym stored ∙ ap (get rows) at.1 ∙ says.stored at.0)
  where
    go : (key : Key) → cells ≡ timing_key id key → (s : Said) → said key ≡ s → IsSaid key s → Some columns ≡ said_columns s → ⊥
    go key here s is within same = grind (arith, no_row, no_removal)

pub no_damaged_timing : (tables : Content) (id : ℕ) → HasDamagedTiming tables id → (office : Office) → StandForSound tables office → ⊥
no_damaged_timing tables id damaged office stands =
    undamaged (timing_says tables office id stands) damaged.key damaged.columns damaged.of damaged.stored damaged.no_row
    (λ key is. absurd (grind arith))

no_damaged_draft : (tables : Content) (id : ℕ) → HasDamagedDraft tables id → (office : Office) → StandForSound tables office → ⊥
no_damaged_draft tables id damaged office stands =
    undamaged (draft_says tables office id stands) damaged.key damaged.columns damaged.of damaged.stored
    (λ row. damaged.no_row (Put row)) (λ key is. damaged.no_row (Remove key))

-- where the tables stand for a sound office, each row of an intersection is a record
pub no_damage : (reach : Reach) (tables : Content) (id : ℕ) → HasDamageIn reach tables id
    → (office : Office) → StandForSound tables office → ⊥
no_damage reach tables id (inl damaged) = no_damaged_intersection tables (record {
  key = intersection_key id;
  columns = damaged.columns;
  of = refl;
  stored = damaged.stored;
  no_row = λ e within here. damaged.no_row e.1 within.1;
})
no_damage reach.Row tables id (inr (there, none)) = λ office stands. none
no_damage reach.Drafts tables id (inr (there, draft)) = no_damaged_draft tables id draft
no_damage reach.Plan tables id (inr (there, inl timing)) = no_damaged_timing tables id timing
no_damage reach.Plan tables id (inr (there, inr draft)) = no_damaged_draft tables id draft

-- ---- another intersection in its place

apart : (q id : ℕ) → eq_by_cmp nat_cmp q id ≡ false → q ≡ id → ⊥
apart q id h e = grind (arith, nat_tests)

-- where an intersection is put, a timing side is the one of that, or what it was
pub data SideAfter (office : Office) (id : ℕ) (i : Intersection) (q : ℕ) : Type 0 where
  same_id : q ≡ id → side_at (with_intersection office id i) q ≡ i.timing → SideAfter office id i q
  other_id : (q ≡ id → ⊥) → side_at (with_intersection office id i) q ≡ side_at office q → SideAfter office id i q

pub side_after : (office : Office) (id : ℕ) (i : Intersection) (q : ℕ) → SideAfter office id i q
side_after office id i q =
    cond_both (eq_by_cmp nat_cmp q id) (Some i) (get office.intersections q)
    (λ o. side_at (with_intersection office id i) q ≡ side_of o → SideAfter office id i q)
    (λ hit is. same_id (nat_cmp-IsAntisymmetric q id (tied _ hit)) is) (λ miss is. other_id (apart q id miss) is)
    (ap side_of (get-insert nat_cmp_total office.intersections id i q))

-- the rows under the keys of other intersections stay, and each row stands under a key of some intersection still
pub record Spares (id : ℕ) (old new : TableRows) : Type 0 where
  pub others : (q : ℕ) → (q ≡ id → ⊥) → (key : Key) → get new (timing_key q key) ≡ get old (timing_key q key)
  pub keys : HasTimingKeys old → HasTimingKeys new

pub unchanged : (id : ℕ) (rows : TableRows) → Spares id rows rows
unchanged id rows = record { others = λ q ne key. refl; keys = λ has. has }

-- all but the rows of one intersection stays
pub record Stays (id : ℕ) (old new : Content) : Type 0 where
  pub timing : Spares id old.timing new.timing
  pub draft : Spares id old.draft new.draft
  pub register : (r : Register) → RegisterStands old r → RegisterStands new r

-- the tables of the register, beside other rows of the intersections
pub same_register : (tables : Content) (intersection timing draft : TableRows) (r : Register) → RegisterStands tables r
    → RegisterStands (record tables { intersection = intersection; timing = timing; draft = draft }) r
same_register tables intersection timing draft r stands = record {
  inspection = stands.inspection;
  work_order = stands.work_order;
  used_part = stands.used_part;
  delivery = stands.delivery;
  part = stands.part;
}

-- the tables have at a key of an intersection what its timing side has
pub record PlanStands (tables : Content) (side : TimingSide) (id : ℕ) (key : Key) : Type 0 where
  pub timing : get tables.timing (timing_key id key) ≡ option_map timing_columns (get side.committed key)
  pub draft : DraftRowStands tables side id key

-- and still do, where the rows at the key are the same
pub still_stands : (old new : Content) (office : Office) (q : ℕ) (key : Key) → StandFor old office
    → get new.timing (timing_key q key) ≡ get old.timing (timing_key q key) → get new.draft (timing_key q key) ≡ get old.draft (timing_key q key)
    → PlanStands new (side_at office q) q key
still_stands old new office q key stand timing draft = let held = stand.draft q key in record {
  timing = timing ∙ stand.timing q key;
  draft = record { said = held.said; stored = draft ∙ held.stored; stands = held.stands; within = held.within };
}

module _ (old new : Content) (office : Office) (id : ℕ) (i : Intersection) (stand : StandFor old office) (stays : Stays id old new)
    (here : (key : Key) → PlanStands new i.timing id key) where
  plan_at : (q : ℕ) (key : Key) → PlanStands new (side_at (with_intersection office id i) q) q key
  plan_at q key = elim (side_after office id i q) [
    | same_id e is ↦ subst₂ (λ (side : TimingSide) n. PlanStands new side n key) (sym is) (sym e) (here key)
    | other_id ne is ↦ subst (λ (side : TimingSide). PlanStands new side q key) (sym is)
        (still_stands old new office q key stand (stays.timing.others q ne key) (stays.draft.others q ne key))
  ]

  -- they stand for the office with that intersection
  pub stand_after : new.intersection ≡ insert old.intersection (intersection_key id) (columns_of i) → StandFor new (with_intersection office id i)
  stand_after put = record {
    intersection = put
        ∙ ap (λ (rows : TableRows). insert rows (intersection_key id) (columns_of i)) stand.intersection
        ∙ sym (insert_stored nat_cmp_total intersection_key columns_of intersection_order office.intersections id i);
    timing = λ q key. (plan_at q key).timing;
    timing_keys = stays.timing.keys stand.timing_keys;
    draft = λ q key. (plan_at q key).draft;
    draft_keys = stays.draft.keys stand.draft_keys;
    register = stays.register office.register stand.register;
  }

pub sound_with : (office : Office) (id : ℕ) (i : Intersection) → IsInRange 1 9999 id → IsSound office → IsSoundIntersection i → IsSound (with_intersection office id i)
sound_with office id i range sound here = record {
  numbers = all_put nat_cmp_total nat_cmp-IsAntisymmetric (λ q _. IsInRange 1 9999 q) office.intersections id i sound.numbers range;
  intersections = all_put nat_cmp_total nat_cmp-IsAntisymmetric (λ _. IsSoundIntersection) office.intersections id i sound.intersections here;
  register = sound.register;
}
