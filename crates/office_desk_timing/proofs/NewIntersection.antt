-- What AddIntersection answers, on the row that was read, is a step of the office.
use Rattle.std.proofs.Common.{◌≡◌, ◌≢◌, ℕ, ◌≤◌, List, [], ◌∷◌, Some, None, refl, ap, sym, subst, ◌∙◌, inr, lit≤, arith, if◌then◌else◌, ◌==◌, ◌&&◌, bytes_eq}
use Rattle.std.specs.{FinMap.get, Int.IsInRange}
use Rattle.signal_values.specs.Words.{AreWords}
use Rattle.draft_core.specs.Transaction.{TimingSide}
use Rattle.office_tables_shelf.specs.{Change.changed, Content.Content, Counts.writes_in, Shelf.ReadsIntersection, declared.rows.IntersectionRow.IntersectionRow, declared.rows.RowChange.TheVariants.AddIntersection as AddRow, declared.rows.Table.Table}
use Rattle.office_machine.specs.{Office.Office, Office.side_of, Step.add_step, Step.new_intersection, Step.with_intersection, declared.command.Command.TheVariants.AddIntersection, declared.reply.Reply.Reply}
use Rattle.office_tables_decisions.specs.{Changes.most_writes, Deciding.IsDecision, Named.RefusesBy, StandFor.StandFor, StandFor.row_of, declared.decided.Decided.Decided}
use Rattle.office_tables_decisions.proofs.Decisions.{accepted_decides, told_decides}
use Rattle.office_desk_timing.proofs.Stands.{PlanStands, same_register, sound_with, stand_after, still_stands, unchanged}
use Rattle.office_desk_timing.proofs.{EmptySet.no_records, EmptySet.no_violations, IntersectionTable.not_there, IntersectionTable.there}
use Rattle.office_machine.specs.declared.refusal.Refusal.TheVariants as refusal
use Rattle.office_machine.specs.declared.reply.Reply.TheVariants as reply

new_stands : (tables : Content) (office : Office) (id interval : ℕ) (name : List ℕ) → StandFor tables office → get office.intersections id ≡ None
    → StandFor (changed tables (AddRow id (row_of (new_intersection interval name)))) (with_intersection office id (new_intersection interval name))
new_stands tables office id interval name stand absent =
    let new : Content = changed tables (AddRow id (row_of (new_intersection interval name))) in
    stand_after tables new office id (new_intersection interval name) stand
    (record { timing = unchanged id tables.timing; draft = unchanged id tables.draft; register = same_register tables _ _ _ })
    (λ key. subst (λ (side : TimingSide). PlanStands new side id key) (ap side_of absent) (still_stands tables new office id key stand refl refl)) refl

module _ (is_honest : Type 0) (tables : Content) (id interval : ℕ) (name : List ℕ) (decided : Decided) where
  -- none was there
  pub added : IsInRange 1 9999 id → AreWords 120 name → IsInRange 1 3650 interval → (is_honest → ReadsIntersection tables id None)
      → decided.reply ≡ reply.Added → decided.changes.items ≡ AddRow id (row_of (new_intersection interval name)) ∷ []
      → IsDecision is_honest tables (AddIntersection id interval name) decided
  added range words days reads told rows =
      let i = new_intersection interval name in
      accepted_decides is_honest tables (AddIntersection id interval name) reply.Added _ decided told rows (λ refused. refused) (λ query. query)
      (λ honest office stands. let gone = not_there tables office id stands (reads honest) in record {
        next = with_intersection office id i;
        step = inr (ap (add_step office id interval name) gone);
        stand = record {
          stand = new_stands tables office id interval name stands.stand gone;
          sound = sound_with office id i range stands.sound (record {
            name = words;
            interval_low = days.0;
            interval_high = days.1;
            revision = lit≤ tt;
            rows = no_records;
            no_violations = no_violations;
            draft = tt;
          });
        };
      })
      (λ honest. few) (λ honest. (reads honest, tt))
    where
      few : (written : Table) → writes_in written (AddRow id (row_of (new_intersection interval name)) ∷ []) ≤ most_writes tables (AddIntersection id interval name) written
      few written = grind arith

  -- one was there
  pub there_answered : (row : IntersectionRow) (said : Reply) → (is_honest → ReadsIntersection tables id (Some row))
      → (if bytes_eq row.name name && (row.interval == interval) then reply.Same else reply.Refused refusal.IntersectionDiffers) ≡ said
      → said ≢ reply.Refused refusal.Damaged → RefusesBy (11 ∷ []) said → decided.reply ≡ said → decided.changes.items ≡ []
      → IsDecision is_honest tables (AddIntersection id interval name) decided
  there_answered row said reads is never named told none =
      told_decides is_honest tables (AddIntersection id interval name) said decided told never named none (λ honest office stands.
      let at = there tables office id stands row (reads honest) in
      ap (add_step office id interval name) at.1
      ∙ (λ k. (if bytes_eq (sym at.2 k).name name && ((sym at.2 k).interval == interval) then reply.Same else reply.Refused refusal.IntersectionDiffers, office))
      ∙ ap (λ (r : Reply). (r, office)) is)
