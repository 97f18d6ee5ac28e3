use Rattle.std.proofs.Common.{arith, ◌+◌, drop, inl, inr, refl, sym, ap, ◌∙◌}
use Rattle.std.proofs.lemmas.List.{drop_more, nil_from_length}
use Rattle.office_tables_shelf.specs.Change.{changed, changed_by}
use Rattle.office_tables_statements.specs.Stored.{content_now}
use Rattle.sqlite.specs.Held.{state}
use Rattle.office_tables_statements.proofs.CallLemmas.{stands_then}
use Rattle.office_tables_sql.proofs.change.change_rows.Goals as goal

pub loop-change-preserved : goal.loop-change-preserved
loop-change-preserved g c =
    let old = state g.S.Store c.args.tx.now.conn.now in
    let mid = state g.S.Store c.loop-change.tx.conn.now in
    let new = state g.S.Store c.change_row.new.tx.conn.now in
    let was = c.loop-change.invariant in
    let it = c.in_ok-change_row.ensures in (
      it.same_reference ∙ was.0,
      stands_then old mid new was.1 it.stands,
      λ clean. inr (was.1.honest (c.in_ok-change_row.ensures.honest clean)),
      λ clean ready.
          let before = was.3 (omega (arith, clean, it.stands.crash.clean)) ready in
          let rest = drop (c.loop-change.change-index + 1) c.args.changes.now in
          let tables = content_now mid in
          let then = it.turned clean before.0.ready in (
            record { ready = then.ready; content = refl; version = then.version ∙ before.0.version },
            ap (λ t. changed_by t rest) then.content ∙ ap (λ x. changed_by (changed tables x) rest) c.change-item.is
                ∙ sym (ap (changed_by tables) (drop_more c.args.changes.now c.loop-change.change-index c.change-item.result c.loop-change-test.true)) ∙ before.1,
          ),
    )

pub returns-clause-honest : goal.returns-clause-honest
returns-clause-honest g c = λ clean some.
    elim (c.loop-change.invariant.2 clean) [
      | inl none ↦ absurd (some (nil_from_length c.args.changes.now (omega (arith, none, c.loop-change-test.false))))
      | inr honest ↦ honest
    ]
