use Rattle.std.proofs.Common.{◌≡◌, ◌+◌, ◌≤◌, ◌∙◌, List, [], ◌∷◌, drop, length, inl, inr, ap, sym, refl, subst, arith}
use Rattle.cabinet_core.specs.declared.command.RecordCommand.{RecordCommand}
use Rattle.office_tables_shelf.specs.Counts.{writes_in}
use Rattle.office_tables_decisions.proofs.{ReadLemmas.handed_told, ReadLemmas.unread, Decisions.handed_decides, Decisions.refuses_so, Decisions.told_decides}
use Rattle.office_desk.specs.{Changes.most_import_writes, Damage.MeetsCabinetDamage, Recording.AreFound, Taking.TakesNext}
use Rattle.office_machine.specs.{Step.cabinet_of, declared.reply.Reply.TheVariants.Imported}
use Rattle.office_desk.proofs.Imports.{SoFar, WentOn, counted_on, damage_of_record, import_decides, is_next, none_next, none_taken, nothing_yet, one_more, refused_all, some_read, taken_reads, writes_left}
use Rattle.office_desk_cabinet.specs.Pending.{ComesTo}
use Rattle.office_desk.proofs.{FoundAgain.none_found, importing.decide_import.Goals.in-Added, importing.decide_import.Goals.in-Same}
use Rattle.office_desk.proofs.importing.decide_import.Goals as goal

pub loop-index-init : goal.loop-index-init
loop-index-init g c =
    let stored = g.S.Shelf.content c.args.shelf.now in
    let all = c.args.records.now in
    let none = c.new-pending.ensures in
    record {
      counted = refl;
      so_far = λ honest. subst (SoFar stored all 0 0 0) (sym none) (nothing_yet stored all);
      found = λ honest. none_found stored c.new-found.result c.new-found.ensures.empty;
      fresh = λ start. none;
      reads = unread _ _ _ _ (λ later told. absurd (later refl));
      writes = λ table. let zero_writes = ap (writes_in table) none in omega (arith, zero_writes);
    }

pub take_record-requires : goal.take_record-requires
take_record-requires g c = λ honest.
    let kept = c.loop-index.invariant.reads.kept in
    subst (λ tables. AreFound tables c.loop-index.found) (sym (kept.same_content honest)) (c.loop-index.invariant.found honest)

pub overflow_add-added : goal.overflow_add-added
overflow_add-added g c =
    let counted = c.loop-index.invariant.counted in
    let test = c.loop-index-test.true in
    omega (arith, counted, test, c.loop-index.auto.index-end)

pub loop-index-preserved : goal.loop-index-preserved
loop-index-preserved g c =
    let all = c.args.records.now in
    let index = c.loop-index.index in
    let item = c.command-item.result in
    let inv = c.loop-index.invariant in
    let before = c.loop-index.pending in
    let t = c.in_ok-taken.taken in
    let rows = c.in_ok-taken.rows.items in
    let told = c.in_ok-taken.ensures in
    let list = c.in_ok-pending.ensures in
    let next = is_next index item c.as_slice-command-items.ensures c.loop-index-test.true c.command-item.is in
    let came : WentOn t c.loop-index.added c.loop-index.same c.match-taken.added c.match-taken.same =
    elim c.match-taken.branch [ in-Added w ↦ inl (w.in-Added.is, w.added-is, w.same-is) | in-Same w ↦ inr (w.in-Same.is, w.added-is, w.same-is) ] in
    record {
      counted = counted_on c.loop-index.added c.loop-index.same index _ _ t inv.counted came;
      so_far = λ honest.
          let first = c.take_record.ensures.reads.kept.honest_before honest in
          subst (SoFar _ all (index + 1) _ _) (sym list) (one_more _ all index c.loop-index.added c.loop-index.same before rows item t (inv.so_far first) next
          (subst (λ tables. TakesNext tables before item t rows) (inv.reads.kept.same_content first) (told.takes honest)) _ _ came);
      found = λ honest.
          let first = c.take_record.ensures.reads.kept.honest_before honest in
          subst (λ tables. AreFound tables c.take_record.new.found) (inv.reads.kept.same_content first) (told.found honest);
      fresh = λ start. absurd (let e : index + 1 ≡ 0 = start in let never : ⊥ = omega (arith, e) in never);
      reads = taken_reads g.S.Shelf _ before index _ _ _ _ _ inv.fresh inv.reads told.reads (λ told. tt);
      writes = λ table. subst (λ p. writes_in table p + most_import_writes (drop (index + 1) all) table ≤ most_import_writes all table) (sym list)
          (writes_left table all index item before rows _ next (inv.writes table) (told.within.writes table));
    }

pub returns-in_err-taken : goal.returns-in_err-taken
returns-in_err-taken g c =
    let shelf = g.S.Shelf in
    let item = c.command-item.result in
    let inv = c.loop-index.invariant in
    let took = c.take_record.ensures in
    let next = is_next c.loop-index.index item c.as_slice-command-items.ensures c.loop-index-test.true c.command-item.is in
    record {
      decides = handed_decides _ _ _ _ _ c.from_residual.ensures.1
          (λ damaged honest. damage_of_record _ c.args.records.now c.loop-index.index item next
          (subst (λ tables. MeetsCabinetDamage tables item (cabinet_of item)) (inv.reads.kept.same_content (took.reads.kept.honest_before honest)) (c.in_err-taken.ensures.takes damaged honest)));
      reads = taken_reads shelf _ c.loop-index.pending c.loop-index.index _ _ _ _ _ inv.fresh inv.reads took.reads
          (handed_told c.from_residual.result _ c.in_err-taken.field-0.0 c.in_err-taken.was c.from_residual.ensures.1);
      nothing = λ none. absurd (none_next _ c.loop-index.index item next none);
    }

pub returns-in-Refused : goal.returns-in-Refused
returns-in-Refused g c =
    let all = c.args.records.now in
    let item = c.command-item.result in
    let inv = c.loop-index.invariant in
    let before = c.loop-index.pending in
    let next = is_next c.loop-index.index item c.as_slice-command-items.ensures c.loop-index-test.true c.command-item.is in
    let told = c.in_ok-taken.ensures in
    record {
      decides = told_decides _ _ _ _ _ c.all_or_none.ensures.reply (λ e. cc) (refuses_so (30 ∷ []) _ (inl refl)) (c.all_or_none.ensures.none tt)
          (λ honest office stands.
          let first = c.take_record.ensures.reads.kept.honest_before honest in
          refused_all _ all c.loop-index.index c.loop-index.added c.loop-index.same before c.in_ok-taken.rows.items item c.in_ok-taken.taken
          (inv.so_far first) next (subst (λ tables. TakesNext tables before item c.in_ok-taken.taken c.in_ok-taken.rows.items) (inv.reads.kept.same_content first) (told.takes honest))
          c.in-Refused.refusal _ office c.in-Refused.is c.number-cause.ensures stands);
      reads = taken_reads g.S.Shelf _ before c.loop-index.index _ _ _ _ _ inv.fresh inv.reads told.reads (λ told. tt);
      nothing = λ none. absurd (none_next _ c.loop-index.index item next none);
    }

pub returns : goal.returns
returns g c =
    let all = c.args.records.now in
    let index = c.loop-index.index in
    let inv = c.loop-index.invariant in
    let all_rows = c.all_or_none-2.ensures.all (λ refused. refused) in
    let high = subst (λ (list : List RecordCommand). length list ≤ index) c.as_slice-command-items.ensures c.loop-index-test.false in
    record {
      decides = import_decides _ _ all index c.loop-index.added c.loop-index.same c.loop-index.pending _ high inv.so_far inv.writes (subst (ComesTo _) (sym all_rows) c.in_ok-changes.ensures.comes) c.all_or_none-2.ensures.reply;
      reads = record {
        kept = inv.reads.kept;
        clean_before = inv.reads.clean_before;
        stays = λ clean told honest. inv.reads.stays clean tt honest;
        read = λ some clean told. inv.reads.read (some_read all index high some) clean tt;
      };
      nothing = λ none.
          let start = none_taken all _ index c.as_slice-command-items.ensures c.loop-index.auto.index-end none in
          let none_added : c.loop-index.added ≡ 0 = omega (arith, inv.counted, start) in
          let none_same : c.loop-index.same ≡ 0 = omega (arith, inv.counted, start) in
          (c.all_or_none-2.ensures.reply ∙ (λ k. Imported (none_added k) (none_same k)), all_rows ∙ c.in_ok-changes.ensures.none (inv.fresh start));
    }

pub returns-in_err-changes-clause-nothing : goal.returns-in_err-changes-clause-nothing
returns-in_err-changes-clause-nothing g c = λ none.
    let start = none_taken c.args.records.now _ c.loop-index.index c.as_slice-command-items.ensures c.loop-index.auto.index-end none in
    absurd (c.in_err-changes.ensures.none (c.loop-index.invariant.fresh start))
