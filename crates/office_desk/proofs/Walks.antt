-- What one command may make of an office, and one import of its register: what each keeps, a run
-- keeps.
use Rattle.std.proofs.Common.{◌≡◌, ℕ, ◌+◌, Bool, true, false, ◌==◌, ◌&&◌, List, [], ◌∷◌, Option, Some, None, Result, Ok, Err, inl, inr, refl, sym, subst, subst₂}
use Rattle.std.proofs.lemmas.Bool.{cond_both}
use Rattle.std.specs.{FinMap.get, Str.bytes_eq}
use Rattle.cabinet_core.specs.Cabinet.{Line, added as added_line, same as same_line, refused as refused_line}
use Rattle.cabinet_core.specs.{Step.line_at, Step.with_record, Step.after_line, declared.command.RecordCommand.RecordCommand}
use Rattle.draft_core.specs.{Transaction.TimingSide, Transaction.table_line, declared.step.Step.Step as DraftStep}
use Rattle.office_machine.specs.Step.{Step, answered, add_step, new_intersection, with_intersection, transacted, moved, moved_to, shown, draft_shown, reply_of, record_step, recorded_at, step_if_known, cabinet_of, is_known, with_recorded, import_by, import_from, import_step}
use Rattle.office_machine.specs.{Office.Office, Office.Intersection, RegisterRuns.accepted_of, Timing.is_moved, declared.command.Command.Command, declared.refusal.Refusal.Refusal, declared.reply.Reply.Reply}
use Rattle.office_tables_decisions.specs.Asking.{asking_command}
use Rattle.draft_core.specs.declared.step.Step.TheVariants as step
use Rattle.office_machine.specs.declared.command.Command.TheVariants as command
use Rattle.office_machine.specs.declared.refusal.Refusal.TheVariants as refusal
use Rattle.office_machine.specs.declared.reply.Reply.TheVariants as reply

-- ---- one command

-- What is said of a command, its reply and the office after it holds of each kind of step: the
-- office stays, and neither a step of the transaction nor a record was accepted; an intersection is
-- added; a step of the transaction is taken; a record is added; or an import is accepted.
pub record HoldsOfEach (office : Office) (Holds : Command → Reply → Office → Type 0) : Type 0 where
  pub stays : (asked : Command) (said : Reply) → is_moved said ≡ false
      → accepted_of office asked said ≡ [] → Holds asked said office
  pub adds : (id interval : ℕ) (name : List ℕ) → get office.intersections id ≡ None
      → Holds (command.AddIntersection id interval name) reply.Added
      (with_intersection office id (new_intersection interval name))
  pub moves : (id : ℕ) (clerk : List ℕ) (step : DraftStep) (i : Intersection) (next : TimingSide)
      → get office.intersections id ≡ Some i → table_line step clerk i.timing ≡ Ok next
      → Holds (asking_command id clerk step) (moved_to next)
      (with_intersection office id (record i { timing = next }))
  pub records : (c : RecordCommand) → line_at office.register c ≡ added_line
      → Holds (command.Record c) reply.Added (with_recorded office c)
  pub imports : (records : List RecordCommand) (done : ℕ × ℕ × Office)
      → import_from 1 0 0 office records ≡ Ok done
      → Holds (command.Import records) (reply.Imported done.0 done.1) done.2

-- what holds of either case of a value holds of the value
option_both : {A : Type 0} (P : Option A → Type 0) (o : Option A) → (o ≡ None → P None)
    → ((x : A) → o ≡ Some x → P (Some x)) → P o
option_both P None none some = none refl
option_both P (Some x) none some = some x refl

result_both : {A E : Type 0} (P : Result A E → Type 0) (r : Result A E)
    → ((x : A) → r ≡ Ok x → P (Ok x)) → ((why : E) → P (Err why)) → P r
result_both P (Ok x) ok err = ok x refl
result_both P (Err why) ok err = err why

module _ (office : Office) (Holds : Command → Reply → Office → Type 0)
    (each : HoldsOfEach office Holds) where
  abbrev Has : Command → Reply × Office → Type 0
  Has asked answer = Holds asked answer.0 answer.1

  transact_so : (id : ℕ) (clerk : List ℕ) (step : DraftStep) → Has (asking_command id clerk step)
      (transacted office id (table_line step clerk) (get office.intersections id))
  transact_so id clerk step =
      let asked = asking_command id clerk step in
      option_both (λ there. Has asked (transacted office id (table_line step clerk) there))
      (get office.intersections id) (λ _. each.stays asked _ refl refl)
      (λ i there. result_both (λ side. Has asked (moved office id i side))
      (table_line step clerk i.timing)
      (λ next took. each.moves id clerk step i next there took)
      (λ why. each.stays asked _ refl refl))

  show_so : (asked : Command) (id : ℕ) (show : Intersection → Reply)
      → ((i : Intersection) → Has asked (show i, office))
      → Has asked (shown (get office.intersections id) show, office)
  show_so asked id show there =
      option_both (λ o. Has asked (shown o show, office)) (get office.intersections id)
      (λ _. each.stays asked _ refl refl) (λ i _. there i)

  line_so : (c : RecordCommand) (line : Line) → line_at office.register c ≡ line
      → Has (command.Record c) (
        reply_of line,
        record office {
          register = after_line line (with_record office.register c) office.register;
        },
      )
  line_so c added_line is = each.records c is
  line_so c same_line is = each.stays (command.Record c) reply.Same refl refl
  line_so c (refused_line why) is = each.stays (command.Record c) _ refl refl

  record_so : (c : RecordCommand) (about : Option ℕ)
      → Has (command.Record c) (recorded_at office about (record_step office c))
  record_so c None = line_so c (line_at office.register c) refl
  record_so c (Some id) =
      option_both (λ o. Has (command.Record c) (step_if_known office o (record_step office c)))
      (get office.intersections id) (λ _. each.stays (command.Record c) _ refl refl)
      (λ i _. line_so c (line_at office.register c) refl)

  answer_so : (asked : Command) → Has asked (answered office asked)
  answer_so (command.AddIntersection id interval name) =
      let asked = command.AddIntersection id interval name in
      option_both (λ o. Has asked (add_step office id interval name o))
      (get office.intersections id) (each.adds id interval name)
      (λ i _. cond_both (bytes_eq i.name name && (i.interval == interval)) _ _
      (λ said. Has asked (said, office))
      (λ _. each.stays asked reply.Same refl refl) (λ _. each.stays asked _ refl refl))
  answer_so (command.Begin id clerk) = transact_so id clerk step.Begin
  answer_so (command.Edit id clerk changes) = transact_so id clerk (step.Edit changes)
  answer_so (command.Verify id clerk) = transact_so id clerk step.Verify
  answer_so (command.Check id clerk) = transact_so id clerk step.Check
  answer_so (command.Commit id clerk) = transact_so id clerk step.Commit
  answer_so (command.Reopen id clerk) = transact_so id clerk step.Reopen
  answer_so (command.Abandon id clerk) = transact_so id clerk step.Abandon
  answer_so (command.Draft id) = show_so _ id (λ i. draft_shown i.timing.draft)
      (λ i. option_both (λ draft. Has (command.Draft id) (draft_shown draft, office))
      i.timing.draft (λ _. each.stays _ _ refl refl) (λ draft _. each.stays _ _ refl refl))
  answer_so (command.Record c) = record_so c (cabinet_of c)
  answer_so (command.Import records) =
      result_both (λ done. Has (command.Import records) (import_step office done))
      (import_from 1 0 0 office records) (λ done is. each.imports records done is)
      (λ why. each.stays _ _ refl refl)
  answer_so command.Stock = each.stays command.Stock _ refl refl
  answer_so (command.Overdue day) = each.stays (command.Overdue day) _ refl refl
  answer_so _ = show_so _ _ _ (λ i. each.stays _ _ refl refl)

  -- so it holds of a command that takes its step, or is answered Unavailable
  pub step_so : (asked : Command) (said : Reply) (next : Office) → Step office asked said next
      → Holds asked said next
  step_so asked said next (inl left) = subst₂ (Holds asked) (sym left.0) (sym left.1)
      (each.stays asked (reply.Refused refusal.Unavailable) refl refl)
  step_so asked said next (inr is) =
      subst (λ (p : Reply × Office). Holds asked p.0 p.1) is (answer_so asked)

-- ---- the records of an import

-- What is said of an office, records, and the office after their import holds of no records, and of
-- records of which the first is new or is there, and the others are imported after it.
pub record HoldsOfRecords (Holds : Office → List RecordCommand → Office → Type 0) : Type 0 where
  pub none : (office : Office) → Holds office [] office
  pub new : (office : Office) (c : RecordCommand) (cs : List RecordCommand) (last : Office)
      → is_known office (cabinet_of c) ≡ true → line_at office.register c ≡ added_line
      → Holds (with_recorded office c) cs last → Holds office (c ∷ cs) last
  pub old : (office : Office) (c : RecordCommand) (cs : List RecordCommand) (last : Office)
      → is_known office (cabinet_of c) ≡ true → line_at office.register c ≡ same_line
      → Holds office cs last → Holds office (c ∷ cs) last

-- where an import goes on after a record, that is known, and was added or was there
goes_on : {X P : Type 0} (at : ℕ) (there : Bool) (line : Line) (new old : Result X Refusal)
    (done : X) → (there ≡ true → line ≡ added_line → new ≡ Ok done → P)
    → (there ≡ true → line ≡ same_line → old ≡ Ok done → P)
    → import_by at there line new old ≡ Ok done → P
goes_on at false line new old done if_new if_old is = absurd cc
goes_on at true added_line new old done if_new if_old is = if_new refl refl is
goes_on at true same_line new old done if_new if_old is = if_old refl refl is
goes_on at true (refused_line why) new old done if_new if_old is = absurd cc

-- so it holds of an import that is accepted
pub records_so : (Holds : Office → List RecordCommand → Office → Type 0) → HoldsOfRecords Holds
    → (records : List RecordCommand) (at added same : ℕ) (office : Office) (done : ℕ × ℕ × Office)
    → import_from at added same office records ≡ Ok done → Holds office records done.2
records_so Holds each [] at added same office done is =
    let f : Ok (added, same, office) ≡ Ok done = is in
    let same_done : (added, same, office) ≡ done = cc in
    subst (λ (d : ℕ × ℕ × Office). Holds office [] d.2) same_done (each.none office)
records_so Holds each (c ∷ cs) at added same office done is =
    goes_on at (is_known office (cabinet_of c)) (line_at office.register c)
    (import_from (at + 1) (added + 1) same (with_recorded office c) cs)
    (import_from (at + 1) added (same + 1) office cs) done
    (λ there line made. each.new office c cs done.2 there line
    (records_so Holds each cs (at + 1) (added + 1) same (with_recorded office c) done made))
    (λ there line made. each.old office c cs done.2 there line
    (records_so Holds each cs (at + 1) added (same + 1) office done made)) is
