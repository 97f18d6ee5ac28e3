use Rattle.std.proofs.{Common.inl, Common.inr, Common.arith, lemmas.Bool.cases_Bool}
use Rattle.sqlite.specs.Held.{state}
use Rattle.office_tables_statements.proofs.CallLemmas.{ran}
use Rattle.office_tables_statements.proofs.statement.write.Goals as goal

pub returns-clause-ran : goal.returns-clause-ran
returns-clause-ran g c clean =
    let it = c.in_ok-count.ensures in
    elim (cases_Bool (state g.S.Store c.args.tx.now.conn.now).in_transaction) [
      | inl on ↦ ran 0 _ _ _ _ it.survives _ c.requires (it.runs clean (rw on))
      | inr off ↦ absurd (let e = (it.ended off).0 in cc)
    ]

pub returns-clause-honest : goal.returns-clause-honest
returns-clause-honest g c clean =
    let it = c.in_ok-count.ensures in
    elim (cases_Bool (state g.S.Store c.args.tx.now.conn.now).in_transaction) [
      | inl on ↦ (omega (arith, clean, it.survives.clean), (ran 0 _ _ _ _ it.survives _ c.requires (it.runs clean (rw on))).was_open)
      | inr off ↦ absurd (let e = (it.ended off).0 in cc)
    ]
