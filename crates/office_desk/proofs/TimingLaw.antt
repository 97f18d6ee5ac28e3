-- Over a run of commands, a committed set is the draft just before its last accepted commit, or what it was at the start.
use Rattle.std.proofs.Common.{◌≡◌, ℕ, Bool, true, false, List, [], ◌∷◌, Some, None, Ok, cond, refl, ap, sym, ◌∙◌, eq-eqb, ne_eqb}
use Rattle.std.specs.{Prelude.◌&&◌, FinMap.get}
use Rattle.signal_records.specs.{TimingSet.Rows, declared.state.Stage.Stage}
use Rattle.draft_core.specs.Transaction.{TimingSide, Draft, holder_of, owned, with_draft, begun_from, abandoned_from, table_line}
use Rattle.draft_core.specs.declared.{refusal.DraftRefusal.DraftRefusal, step.Step.Step as DraftStep, step.Step.TheVariants.Begin, step.Step.TheVariants.Commit, step.Step.TheVariants.Abandon}
use Rattle.draft_core.proofs.Sound.{owned_inverts, committed_inverts}
use Rattle.office_machine.specs.{Office.Office, Office.Intersection, Office.side_at, Step.Run, Step.moved_to, Step.with_intersection, Step.new_intersection, Timing.is_commit_of, Timing.is_moved, Timing.set_of_draft, Timing.running_plan, declared.command.Command.Command, declared.reply.Reply.Reply}
use Rattle.office_desk_timing.proofs.Stands.{same_id, other_id, side_after}
use Rattle.office_desk.proofs.Walks.{HoldsOfEach, records_so, step_so}
use Rattle.office_tables_decisions.specs.Asking.{asking_command}
use Rattle.office_machine.specs.declared.command.Command.TheVariants as command

-- ---- the lines of the table

owned_keeps : (stage : Stage) (wrong : DraftRefusal) (clerk : List ℕ) (next_draft : Draft → Draft) (side next : TimingSide)
    → owned holder_of side.draft stage wrong clerk (λ draft. Ok (with_draft side (next_draft draft))) ≡ Ok next → next.committed ≡ side.committed
owned_keeps stage wrong clerk next_draft side next e =
    let took = owned_inverts side stage wrong clerk (λ draft. Ok (with_draft side (next_draft draft))) next e in
    cc

-- what the set is after a step: the draft, where it is committed
abbrev set_after : DraftStep → TimingSide → Rows
set_after Commit side = set_of_draft side.draft side.committed
set_after _ side = side.committed

step_keeps : (step : DraftStep) (clerk : List ℕ) (side next : TimingSide) → table_line step clerk side ≡ Ok next
    → next.committed ≡ set_after step side
step_keeps Begin clerk side next e =
    (elim side.draft as (λ held. begun_from side clerk held ≡ Ok next → next.committed ≡ side.committed) [ None ↦ λ begun. cc | Some draft ↦ λ begun. absurd cc ]) e
step_keeps Commit clerk side next e =
    let made = committed_inverts side clerk next e in
    rw made.1 (ap (λ (s : TimingSide). s.committed) made.2.becomes)
step_keeps Abandon clerk side next e =
    (elim side.draft as (λ held. abandoned_from side held ≡ Ok next → next.committed ≡ side.committed) [ None ↦ λ dropped. absurd cc | Some draft ↦ λ dropped. cc ]) e
step_keeps _ clerk side next e = owned_keeps _ _ clerk _ side next e

-- ---- one step

-- what runs after one command: the draft where it was committed
abbrev After : ℕ → Office → Command → Reply → Office → Type 0
After q office command reply next = (side_at next q).committed ≡ cond (is_commit_of q command && is_moved reply) (set_of_draft (side_at office q).draft (side_at office q).committed) (side_at office q).committed

-- of an intersection that is put with the set that it had, no set is another
put_keeps : (q id : ℕ) (office : Office) (i : Intersection)
    → i.timing.committed ≡ (side_at office id).committed
    → (side_at (with_intersection office id i) q).committed ≡ (side_at office q).committed
put_keeps q id office i same = elim (side_after office id i q) [
  | same_id e is ↦ ap (λ (s : TimingSide). s.committed) is ∙ same ∙ ap (λ n. (side_at office n).committed) (sym e)
  | other_id ne is ↦ ap (λ (s : TimingSide). s.committed) is
]

commit_after : (q id : ℕ) (clerk : List ℕ) (office : Office) (i : Intersection) (next : TimingSide)
    → get office.intersections id ≡ Some i → table_line Commit clerk i.timing ≡ Ok next
    → After q office (command.Commit id clerk) (moved_to next)
    (with_intersection office id (record i { timing = next }))
commit_after q id clerk office i next there took = elim (side_after office id (record i { timing = next }) q) [
  | same_id e is ↦ rw (eq-eqb q id e, e, there) (rw e at (ap (λ (s : TimingSide). s.committed) is ∙ step_keeps Commit clerk i.timing next took))
  | other_id ne is ↦ rw (ne_eqb q id ne) (ap (λ (s : TimingSide). s.committed) is)
]

move_after : (step : DraftStep) (q id : ℕ) (clerk : List ℕ) (office : Office) (i : Intersection) (next : TimingSide)
    → get office.intersections id ≡ Some i → table_line step clerk i.timing ≡ Ok next
    → After q office (asking_command id clerk step) (moved_to next)
    (with_intersection office id (record i { timing = next }))
move_after Commit q id clerk office i next there took = commit_after q id clerk office i next there took
move_after step q id clerk office i next there took =
    put_keeps q id office (record i { timing = next }) (rw there (step_keeps step clerk i.timing next took))

-- a reply that accepts no step
unmoved_keeps : (b m : Bool) (taken kept : Rows) → m ≡ false → kept ≡ cond (b && m) taken kept
unmoved_keeps true m taken kept e = sym (ap (λ b. cond b taken kept) e)
unmoved_keeps false m taken kept e = refl

each_after : (q : ℕ) (office : Office) → HoldsOfEach office (After q office)
each_after q office = record {
  stays = λ asked said unmoved none. unmoved_keeps (is_commit_of q asked) (is_moved said) _ _ unmoved;
  adds = λ id interval name absent. put_keeps q id office (new_intersection interval name) (rw absent);
  moves = λ id clerk step i next there took. move_after step q id clerk office i next there took;
  records = λ c line. refl;
  imports = λ records done made. records_so
      (λ first cs last. (side_at last q).committed ≡ (side_at first q).committed) (record {
        none = λ first. refl;
        new = λ first c cs last there line later. later;
        old = λ first c cs last there line later. later;
      }) records 1 0 0 office done made;
}

-- ---- runs

pub runs_timing : (q : ℕ) (before : Rows) (commands : List Command) (replies : List Reply) (first last : Office) (run : Run first commands replies last)
    → (side_at first q).committed ≡ before → (side_at last q).committed ≡ running_plan q before first commands replies last run
runs_timing q before [] [] first last run is = ap (λ (o : Office). (side_at o q).committed) run ∙ is
runs_timing q before (command ∷ commands) (reply ∷ replies) first last run is =
    runs_timing q (cond (is_commit_of q command && is_moved reply) (set_of_draft (side_at first q).draft before) before) commands replies run.0 last run.2
    (rw (← is) (step_so first (After q first) (each_after q first) command reply run.0 run.1))
runs_timing q before _ _ first last run is = absurd run
