-- What was recorded stays recorded: so an import that was accepted finds all of its records there when it is sent again.
use Rattle.std.proofs.Common.{◌≡◌, inl, inr, ℕ, ◌+◌, true, false, cond, List, [], ◌∷◌, length, Option, Some, None, Result, Ok, Err, refl, ap, sym, subst, ◌∙◌, arith}
use Rattle.std.specs.{Prelude.is_some, Cmp.nat_cmp_total, FinMap.get, FinMap.get-insert, Ordering.nat_cmp, Ordering.eq_by_cmp}
use Rattle.cabinet_core.specs.{Cabinet.added as added_line, Cabinet.same as same_line, Step.line_at, Step.with_record, declared.command.RecordCommand.RecordCommand}
use Rattle.cabinet_core.proofs.RecordKept.{same_after, same_kept}
use Rattle.office_machine.specs.Step.{Step, Run, with_intersection, new_intersection, cabinet_of, is_known, with_recorded, import_by, import_from, import_step}
use Rattle.office_machine.specs.{Office.Office, Office.Intersection, Repeats.IsRepeat, Repeats.AreRepeats, Repeats.Repeats, declared.command.Command.Command, declared.refusal.Refusal.Refusal, declared.refusal.Refusal.TheVariants.Unavailable, declared.reply.Reply.Reply, declared.reply.Reply.TheVariants.Imported, declared.reply.Reply.TheVariants.Refused}
use Rattle.office_desk.proofs.Recorded.{same_known}
use Rattle.office_desk.proofs.Walks.{HoldsOfEach, HoldsOfRecords, records_so, step_so}
use Rattle.office_machine.specs.declared.command.Command.TheVariants as command

-- ---- records that are there

-- the intersection that the record is about is known, and the record is there
abbrev IsThere : Office → RecordCommand → Type 0
IsThere office c = (is_known office (cabinet_of c) ≡ true) × (line_at office.register c ≡ same_line)

-- each of the records is there
abbrev AreThere : Office → List RecordCommand → Type 0
AreThere office [] = Unit {0}
AreThere office (c ∷ cs) = IsThere office c × AreThere office cs

-- each record that was there is there
abbrev Keeps : Office → Office → Type 0
Keeps office next = (c : RecordCommand) → IsThere office c → IsThere next c

all_kept : (office next : Office) (records : List RecordCommand) → Keeps office next → AreThere office records → AreThere next records
all_kept office next [] keeps there = tt
all_kept office next (c ∷ cs) keeps there = (keeps c there.0, all_kept office next cs keeps there.1)

-- ---- one record, one intersection

-- an intersection more, or another in its place
known_with : (office : Office) (id : ℕ) (i : Intersection) (about : Option ℕ) → is_known office about ≡ true → is_known (with_intersection office id i) about ≡ true
known_with office id i None known = refl
known_with office id i (Some q) known =
    ap is_some (get-insert nat_cmp_total office.intersections id i q)
    ∙ elim (eq_by_cmp nat_cmp q id) as (λ b. is_some (cond b (Some i) (get office.intersections q)) ≡ true) [ true ↦ refl | false ↦ known ]

intersection_keeps : (office : Office) (id : ℕ) (i : Intersection) → Keeps office (with_intersection office id i)
intersection_keeps office id i c there = (known_with office id i (cabinet_of c) there.0, there.1)

-- a record in the register leaves the intersections
record_keeps : (office : Office) (c : RecordCommand) → line_at office.register c ≡ added_line → Keeps office (with_recorded office c)
record_keeps office c line d there = (sym (same_known office (with_record office.register c) (cabinet_of d)) ∙ there.0, same_kept office.register d c line there.1)

-- ---- imports

-- what was there before an import is there after it, and so is each of its records
abbrev Brings : Office → List RecordCommand → Office → Type 0
Brings office records next = Keeps office next × AreThere next records

each_brought : HoldsOfRecords Brings
each_brought = record {
  none = λ office. ((λ c there. there), tt);
  new = λ office c cs next there line later. (
    (λ d was. later.0 d (record_keeps office c line d was)),
    (later.0 c (sym (same_known office (with_record office.register c) (cabinet_of c)) ∙ there, same_after office.register c line), later.1),
  );
  old = λ office c cs next there line later. (later.0, (later.0 c (there, line), later.1));
}

import_brings : (records : List RecordCommand) (office : Office) (done : ℕ × ℕ × Office)
    → import_from 1 0 0 office records ≡ Ok done → Brings office records done.2
import_brings records office done is = records_so Brings each_brought records 1 0 0 office done is

-- an import of records that are there adds none, and leaves the office
import_again : (records : List RecordCommand) (at added same : ℕ) (office : Office) → AreThere office records → import_from at added same office records ≡ Ok (added, same + length records, office)
import_again [] at added same office there = let e : same ≡ same + 0 = omega arith in ap (λ n. Ok (added, n, office)) e
import_again (c ∷ cs) at added same office there =
    let new = import_from (at + 1) (added + 1) same (with_recorded office c) cs in
    let old = import_from (at + 1) added (same + 1) office cs in
    let e : same + 1 + length cs ≡ same + length (c ∷ cs) = omega arith in
    (λ k. import_by at (there.0.0 k) (there.0.1 k) new old)
    ∙ import_again cs (at + 1) added (same + 1) office there.1
    ∙ ap (λ n. Ok (added, n, office)) e

-- ---- one step

each_keeps : (office : Office) → HoldsOfEach office (λ asked said next. Keeps office next)
each_keeps office = record {
  stays = λ asked said unmoved none c there. there;
  adds = λ id interval name absent. intersection_keeps office id (new_intersection interval name);
  moves = λ id clerk ask i next there took.
      intersection_keeps office id (record i { timing = next });
  records = λ c line. record_keeps office c line;
  imports = λ records done made. (import_brings records office done made).0;
}

step_keeps : (office next : Office) (command : Command) (reply : Reply) → Step office command reply next → Keeps office next
step_keeps office next command reply =
    step_so office (λ asked said after. Keeps office after) (each_keeps office) command reply next

-- an import that is accepted
accepted_there : (office next : Office) (records : List RecordCommand) (added same : ℕ) (reply : Reply) → Step office (command.Import records) reply next → reply ≡ Imported added same → AreThere next records
accepted_there office next records added same reply (inl left) told_so = absurd (let f : Refused Unavailable ≡ Imported added same = sym left.0 ∙ told_so in cc)
accepted_there office next records added same reply (inr is) told_so = go (import_from 1 0 0 office records) refl is
  where
    go : (done : Result (ℕ × ℕ × Office) Refusal) → import_from 1 0 0 office records ≡ done → import_step office done ≡ (reply, next) → AreThere next records
    go (Ok done) made e = subst (λ (p : Reply × Office). AreThere p.1 records) e (import_brings records office done made).1
    go (Err why) made e = absurd (let f : Refused why ≡ Imported added same = ap (λ (p : Reply × Office). p.0) e ∙ told_so in cc)

-- an import of records that are there
sent_again : (office next : Office) (records : List RecordCommand) (reply : Reply) → Step office (command.Import records) reply next → AreThere office records → IsRepeat office records reply next
sent_again office next records reply (inl left) there = (inr left.0, left.1)
sent_again office next records reply (inr is) there =
    let all : ◌≡◌ {A = Reply × Office} (reply, next) (Imported 0 (0 + length records), office) = sym is ∙ ap (import_step office) (import_again records 1 0 0 office there) in
    let count : 0 + length records ≡ length records = omega arith in
    (inl (ap (λ (p : Reply × Office). p.0) all ∙ ap (Imported 0) count), ap (λ (p : Reply × Office). p.1) all)

-- ---- runs

-- of records that are there at its start
run_repeats : (records : List RecordCommand) (commands : List Command) (replies : List Reply) (first last : Office) (run : Run first commands replies last) → AreThere first records → AreRepeats records first commands replies last run
run_repeats records [] [] first last run there = tt
run_repeats records (command ∷ commands) (reply ∷ replies) first last run there = (
  (λ is. sent_again first run.0 records reply (subst (λ c. Step first c reply run.0) is run.1) there),
  run_repeats records commands replies run.0 last run.2 (all_kept first run.0 records (step_keeps first run.0 command reply run.1) there),
)
run_repeats records _ _ first last run there = tt

-- of imports that are accepted on the way
pub runs_repeat : (commands : List Command) (replies : List Reply) (first last : Office) (run : Run first commands replies last) → Repeats first commands replies last run
runs_repeat [] [] first last run = tt
runs_repeat (command ∷ commands) (reply ∷ replies) first last run = (
  (λ records added same is accepted. run_repeats records commands replies run.0 last run.2
      (accepted_there first run.0 records added same reply (subst (λ c. Step first c reply run.0) is run.1) accepted)),
  runs_repeat commands replies run.0 last run.2,
)
runs_repeat _ _ first last run = tt
