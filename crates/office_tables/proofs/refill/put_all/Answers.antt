use Rattle.std.proofs.Common.{arith, refl, sym, ap, ◌∙◌}
use Rattle.sqlite.specs.Held.{state}
use Rattle.office_tables_statements.proofs.CallLemmas.{stands_then}
use Rattle.office_tables_statements.specs.Stored.{content_now}
use Rattle.office_tables.specs.Moved.{all_put}
use Rattle.office_tables.proofs.RefillLemmas.{last_row}
use Rattle.office_tables.proofs.refill.put_all.Goals as goal

pub loop-table-preserved : goal.loop-table-preserved
loop-table-preserved g c =
    let old = state g.S.Store c.args.tx.now.conn.now in
    let mid = state g.S.Store c.loop-table.tx.conn.now in
    let was = c.loop-table.invariant in
    let rest = c.pop.new.self.items in
    let it = c.in_ok-put_row.ensures in (
      it.same_reference ∙ was.0,
      stands_then old mid _ was.1 it.stands,
      λ clean ready.
          let before = was.2 (omega (arith, clean, it.stands.crash.clean)) ready in
          let then = it.put clean before.0.ready in (
            record { ready = then.ready; content = refl; version = then.version ∙ before.0.version },
            ap (λ tables. all_put tables rest) then.content ∙ sym (last_row (content_now mid) rest _)
                ∙ ap (all_put (content_now mid)) (sym c.in-Some.ensures.items) ∙ before.1,
          ),
    )
