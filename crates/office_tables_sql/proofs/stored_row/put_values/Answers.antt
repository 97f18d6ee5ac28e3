use Rattle.std.proofs.Common.{◌≡◌, ◌≢◌, ◌∙◌, arith}
use Rattle.office_tables_statements.proofs.{CallLemmas.stands_then, StoredPuts.one_put, StoredPuts.two_put}
use Rattle.office_tables_sql.proofs.stored_row.put_values.Goals as goal

pub write-requires : goal.write-requires
write-requires g c = (_, c.texts-texts.ensures.update)

pub write-requires-2 : goal.write-requires-2
write-requires-2 g c = (_, c.texts-texts.ensures.insert)

pub returns-then-changed-gt0 : goal.returns-then-changed-gt0
returns-then-changed-gt0 g c = λ key columns taken is.
    let it = c.in_ok-changed.ensures in
    let some : c.in_ok-changed.changed ≢ 0 = λ none. absurd (omega (arith, none, c.if-changed-gt0.true)) in
    record {
      same_reference = it.same_reference;
      turned = λ clean ready. one_put _ _ _ taken _ c.texts-texts.ensures.update _ _ _ some ready (rw is at (it.ran clean));
      honest = it.honest;
      stands = it.stands;
    }

pub returns : goal.returns
returns g c = λ key columns taken is.
    let one = c.in_ok-changed.ensures in
    let two = c.in_ok-write.ensures in
    let none : c.in_ok-changed.changed ≡ 0 = omega (arith, c.if-changed-gt0.false) in
    record {
      same_reference = two.same_reference ∙ one.same_reference;
      turned = λ clean ready.
          two_put _ _ _ taken _ _ c.texts-texts.ensures.update c.texts-texts.ensures.insert _ _ _ _ _ none ready
          (rw is at (one.ran (omega (arith, clean, two.stands.crash.clean)))) (rw is at (two.ran clean));
      honest = λ clean. one.honest (omega (arith, clean, two.stands.crash.clean));
      stands = stands_then _ _ _ one.stands two.stands;
    }
