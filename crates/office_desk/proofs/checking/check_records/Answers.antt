use Rattle.std.proofs.Common.{◌≡◌, ◌+◌, arith, refl, subst, subst₂, sym}
use Rattle.office_desk.specs.{Checking.ChecksRecord, Damage.MeetsCabinetDamage, Recording.AreFound}
use Rattle.office_machine.specs.Step.{cabinet_of}
use Rattle.office_tables_shelf.specs.Content.{Content}
use Rattle.office_desk.proofs.{TriedRecords.CheckedSoFar, TriedRecords.checked_more, TriedRecords.none_checked, FoundAgain.none_found}
use Rattle.office_tables_decisions.proofs.ReadLemmas.{handed_reports, handed_told, unread}
use Rattle.office_desk.proofs.Imports.{damage_of_record, is_next, some_read, taken_reads}
use Rattle.office_desk.proofs.checking.check_records.Goals as goal

pub loop-command-init : goal.loop-command-init
loop-command-init g c =
    let stored = g.S.Shelf.content c.args.shelf.now in
    record {
      so_far = λ honest. subst₂ (CheckedSoFar stored c.args.records.now 0) (sym c.new-pending.ensures) (sym c.new-checked.ensures.items) (none_checked stored c.args.records.now);
      found = λ honest. none_found stored c.new-found.result c.new-found.ensures.empty;
      fresh = λ start. c.new-pending.ensures;
      reads = unread _ _ _ _ (λ later told. absurd (later refl));
    }

pub check_record-requires : goal.check_record-requires
check_record-requires g c = λ honest.
    let kept = c.loop-command.invariant.reads.kept in
    subst (λ tables. AreFound tables c.loop-command.found) (sym (kept.same_content honest)) (c.loop-command.invariant.found honest)

pub loop-command-preserved : goal.loop-command-preserved
loop-command-preserved g c =
    let all = c.args.records.now in
    let index = c.loop-command.command-index in
    let item = c.command-item.result in
    let inv = c.loop-command.invariant in
    let before = c.loop-command.pending in
    let came = c.in_ok-one.ensures in
    let next = is_next index item refl c.loop-command-test.true c.command-item.is in
    record {
      so_far = λ honest.
          let first = c.check_record.ensures.reads.kept.honest_before honest in
          subst (λ p. CheckedSoFar (g.S.Shelf.content c.args.shelf.now) all (index + 1) p c.keep.new.checked.items) (sym c.in_ok-pending.ensures)
          (checked_more (g.S.Shelf.content c.args.shelf.now) all index before c.in_ok-one.rows.items c.loop-command.checked.items _ item c.in_ok-one.one (inv.so_far first) next
          (subst (λ tables. ChecksRecord tables before item c.in_ok-one.one c.in_ok-one.rows.items) (inv.reads.kept.same_content first) (came.checks honest)) c.in_ok-keep.ensures);
      found = λ honest.
          let first = c.check_record.ensures.reads.kept.honest_before honest in
          subst (λ tables. AreFound tables c.check_record.new.found) (inv.reads.kept.same_content first) (came.found honest);
      fresh = λ start. absurd (let e : index + 1 ≡ 0 = start in let never : ⊥ = omega (arith, e) in never);
      reads = taken_reads g.S.Shelf _ before index _ _ _ _ _ inv.fresh inv.reads came.reads (λ told. tt);
    }

pub returns-in_err-one-clause-checks : goal.returns-in_err-one-clause-checks
returns-in_err-one-clause-checks g c = handed_reports _ _ _ _ _ c.from_residual.ensures.1 (λ damaged honest.
    let index = c.loop-command.command-index in
    let item = c.command-item.result in
    let next = is_next index item refl c.loop-command-test.true c.command-item.is in
    let first = c.check_record.ensures.reads.kept.honest_before honest in
    damage_of_record (g.S.Shelf.content c.args.shelf.now) c.args.records.now index item next
    (subst (λ (tables : Content). MeetsCabinetDamage tables item (cabinet_of item))
    (c.loop-command.invariant.reads.kept.same_content first) (c.in_err-one.ensures.checks damaged honest)))

pub returns-in_err-one-clause-reads : goal.returns-in_err-one-clause-reads
returns-in_err-one-clause-reads g c =
    taken_reads g.S.Shelf _ c.loop-command.pending c.loop-command.command-index _ _ _ _ _ c.loop-command.invariant.fresh
    c.loop-command.invariant.reads c.check_record.ensures.reads
    (handed_told c.from_residual.result _ c.in_err-one.field-0.0 c.in_err-one.was c.from_residual.ensures.1)

pub returns-clause-reads : goal.returns-clause-reads
returns-clause-reads g c =
    let inv = c.loop-command.invariant in
    record {
      kept = inv.reads.kept;
      clean_before = inv.reads.clean_before;
      stays = λ clean told honest. inv.reads.stays clean tt honest;
      read = λ some clean told. inv.reads.read (some_read c.args.records.now c.loop-command.command-index c.loop-command-test.false some) clean tt;
    }
