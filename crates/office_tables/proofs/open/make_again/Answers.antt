use Rattle.std.proofs.Common.{arith, rules, subst, ap, ◌∙◌}
use Rattle.sqlite.specs.{Held.state, State.HasCleanDisk}
use Rattle.office_tables.specs.{Moved.all_put, Opening.IsMade}
use Rattle.office_tables.proofs.{DropLemmas.blank_after, MadeLemmas.office_ready, MadeLemmas.office_empty}
use Rattle.office_tables.proofs.open.make_again.Goals as goal

pub returns : goal.returns
returns g c =
    let old = c.args.tx.now.conn.now in
    let bare = c.run_all.new.tx.conn.now in
    let mid = c.run_all-2.new.tx.conn.now in
    let last = c.in_ok-renew_version.ensures in
    record {
      same_reference = search rules;
      honest = search rules;
      made = λ clean before.
          let third : HasCleanDisk (state g.S.Store c.put_all.new.tx.conn.now) = omega (arith, clean, last.stands.crash.clean) in
          let second : HasCleanDisk (state g.S.Store mid) = omega (arith, third, c.in_ok-put_all.ensures.stands.crash.clean) in
          let first : HasCleanDisk (state g.S.Store bare) = omega (arith, second, c.in_ok-run_all-2.ensures.stands.crash.clean) in
          let blank = blank_after g.S.Store old bare before.0 before.1 (c.in_ok-run_all.ensures.run first before.0) in
          let run = c.in_ok-run_all-2.ensures.run second blank.1 in
          let put = c.in_ok-put_all.ensures.put third (office_ready g.S.Store bare mid run blank.0) in
          subst (λ tables. IsMade tables (state g.S.Store c.renew_version.new.tx.conn.now))
          (put.content ∙ ap (λ tables. all_put tables c.args.rows.items) (office_empty g.S.Store bare mid run blank.0)) (last.made clean put.ready);
      stands = search rules;
    }
