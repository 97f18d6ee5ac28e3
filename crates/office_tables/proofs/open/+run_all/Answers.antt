use Rattle.std.proofs.Common.{◌≡◌, ◌∷◌, true, inl, inr, map, sym, subst, arith, rules}
use Rattle.std.proofs.lemmas.{Bool.cases_Bool, Result.IfOk-weaker}
use Rattle.sqlite.specs.{Held.state, State.HasCleanDisk}
use Rattle.office_tables_statements.proofs.CallLemmas.{ran_stands, stands_then}
use Rattle.office_tables.specs.Opening.{AreRun}
use Rattle.office_tables.proofs.open.+run_all.Goals as goal

pub returns-clause-stands : goal.returns-clause-stands
returns-clause-stands g t c =
    let old = c.args.tx.now.conn.now in
    let it = c.in_ok-execute.ensures in
    let inside : old.in_transaction ≡ true = elim (cases_Bool old.in_transaction) [ inl on ↦ on | inr off ↦ absurd (let e = (it.ended off).0 in cc) ] in
    stands_then (state g.S.Store old) (state g.S.Store c.execute.new.self.conn.now) _ (ran_stands 0 _ _ _ _ it.survives c.in_ok-execute.field-0 (λ clean. it.runs clean (rw inside))) c.run_all.ensures.stands

pub returns-clause-run : goal.returns-clause-run
returns-clause-run g t c clean inside =
    let old = c.args.tx.now.conn.now in
    let early : HasCleanDisk (state g.S.Store c.execute.new.self.conn.now) = omega (arith, clean, c.run_all.ensures.stands.crash.clean) in
    let ran = c.in_ok-execute.ensures.runs early (rw inside) in
    let texts : c.args.texts.now ≡ c.in-Some.sql.now ∷ c.in-Some.texts.now = search rules in
    IfOk-weaker c.run_all.result _ _ (λ _ rest. subst (λ texts. AreRun g.S.Store (map (λ text. text.now) texts) old c.run_all.new.tx.conn.now) (sym texts) (c.execute.new.self.conn.now, c.in_ok-execute.field-0, ran, rest))
    (c.run_all.ensures.run clean ran.1.mode)
