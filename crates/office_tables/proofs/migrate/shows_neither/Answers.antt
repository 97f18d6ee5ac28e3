use Rattle.std.proofs.Common.{true, refl, subst, rules, arith, IsTrue}
use Rattle.std.proofs.lemmas.Result.{IfOk-weaker}
use Rattle.std.specs.Prelude.{IfOk}
use Rattle.sqlite.specs.{Held.state, State.HasCleanDisk}
use Rattle.office_tables_statements.proofs.CallLemmas.{begun_stands, asked_stands, unasked_stands}
use Rattle.office_tables.specs.Migrate.{AreNeither, ShowsNeither}
use Rattle.office_tables.proofs.migrate.shows_neither.Goals as goal

pub returns-clause-stands : goal.returns-clause-stands
returns-clause-stands g c =
    let begun = c.transaction-tx.ensures.begun in
    let it = c.in_ok-rows.ensures in
    let whole = begun_stands g.S.Store c.args.conn.now (state g.S.Store c.rollback.new.self.0) (asked_stands _ _ (state g.S.Store (record c.args.conn.now { in_transaction = true })) (state g.S.Store c.query_all.new.self.conn.now)
    (state g.S.Store c.rollback.new.self.0) refl (rw begun at it.survives) c.rollback.ensures.survives c.rollback.ensures.undone _ (rw begun at it.ok)) in
    search rules

pub returns-in_err-rows-clause-stands : goal.returns-in_err-rows-clause-stands
returns-in_err-rows-clause-stands g c =
    let begun = c.transaction-tx.ensures.begun in
    let it = c.in_err-rows.ensures in
    let whole = begun_stands g.S.Store c.args.conn.now (state g.S.Store c.drop-tx.new.self.0) (unasked_stands _ _ (state g.S.Store (record c.args.conn.now { in_transaction = true })) (state g.S.Store c.query_all.new.self.conn.now)
    (state g.S.Store c.drop-tx.new.self.0) refl (rw begun at it.survives) c.drop-tx.ensures.survives c.drop-tx.ensures.undone _ (rw begun at it.err)) in
    search rules

pub returns-clause-neither : goal.returns-clause-neither
returns-clause-neither g c =
    let mid = c.query_all.new.self.conn.now in
    let whole : HasCleanDisk (state g.S.Store c.rollback.new.self.0) → IfOk c.are_neither.result (λ neither. IsTrue neither → ShowsNeither g.S.Store c.args.conn.now) = λ clean.
    let early : HasCleanDisk (state g.S.Store mid) = omega (arith, clean, c.rollback.ensures.survives.clean) in
    IfOk-weaker c.are_neither.result _ _ (λ neither told yes. record {
      after = mid;
      rows = c.in_ok-rows.rows.items;
      shown = rw (c.transaction-tx.ensures.begun, c.params-to_sql.ensures) at (c.in_ok-rows.ensures.ok early);
      neither = subst AreNeither c.as_slice.ensures.value (told yes);
    }) c.are_neither.ensures in
    search rules
