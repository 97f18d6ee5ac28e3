use Rattle.std.specs.Prelude.{◌==◌}
use Rattle.std.proofs.Common.{◌≡◌, ◌≢◌, [], length, true≢false, sym, ap, subst, ◌∙◌, rules}
use Rattle.sqlite.specs.{Effect.IsDatabase, Tree.Trees, Held.state, State.Survives}
use Rattle.office_tables_shelf.specs.Change.{changed_by}
use Rattle.office_tables_statements.specs.{Calls.IsHonest, Calls.IsOffice, Stored.content_now}
use Rattle.office_tables_sql.specs.{Promises.HoldUnder, Version.version_of}
use Rattle.office_tables_statements.proofs.CallLemmas.{commit_undone, commit_survives}
use Rattle.office_tables_sql.proofs.change.apply.Goals as goal

pub returns-in_err-commit-clause-office : goal.returns-in_err-commit-clause-office
returns-in_err-commit-clause-office g c =
    let begun = c.transaction-tx.ensures.begun in
    let it = c.in_ok-change_rows.ensures in
    let same : c.commit.new.self.0 ≡ c.conn-2-1.given.0 = search rules in
    subst (λ h. IsOffice (state g.S.Store h)) same (commit_undone g.S.Store c.args.conn.now c.change_rows.new.tx.conn.now (state g.S.Store c.commit.new.self.0) c.requires
    (rw begun at it.stands) (λ clean ready. (rw begun at (it.changed clean) ready).ready) c.commit.ensures.survives.clean _ c.in_err-commit.ensures.err c.commit.ensures.ended)

pub returns-in_err-commit-clause-crash : goal.returns-in_err-commit-clause-crash
returns-in_err-commit-clause-crash g c =
    let old = state g.S.Store c.args.conn.now in
    let begun = c.transaction-tx.ensures.begun in
    let it = c.in_ok-change_rows.ensures in
    let P = λ (trees : Trees). HoldUnder (changed_by (content_now old) c.args.changes.now) old.now.trees trees in
    let some : c.args.changes.now ≢ [] = λ none. true≢false (sym (c.is_empty.ensures ∙ ap (λ changes. length changes == 0) none) ∙ c.if-is_empty.false) in
    let same : c.commit.new.self.0 ≡ c.conn-2-1.given.0 = search rules in
    subst (λ h. Survives old (state g.S.Store h) (λ trees. IsHonest old × P trees)) same (commit_survives g.S.Store c.args.conn.now c.change_rows.new.tx.conn.now (state g.S.Store c.commit.new.self.0) c.requires
    P (rw begun at it.stands.crash) c.commit.ensures.survives (λ clean. (rw begun at (it.honest clean)) some) (λ clean ready. let then = (rw begun at (it.changed clean)) ready in
    let mid = (state g.S.Store c.change_rows.new.tx.conn.now).now in
    record {
      sound = subst (λ s. IsDatabase (record mid { schema = s })) then.ready.schema then.ready.sound;
      content = then.content;
      version = ap version_of then.version;
    }))
