use Rattle.std.proofs.Common.{◌≡◌, ◌-◌, Some, length, rules, arith, refl}
use Rattle.sqlite.specs.{Held.state, Tree.Trees}
use Rattle.office_tables_shelf.specs.Change.{changed_by}
use Rattle.office_tables_statements.specs.{Calls.IsHonest, Calls.Keeps, Stored.content_now}
use Rattle.office_tables_sql.specs.Version.{Completes, first_version, version_in}
use Rattle.office_tables.specs.{Migrate.IsAnew, declared.rewritten.Migrated.Migrated}
use Rattle.office_tables.proofs.MigrateLemmas.{anew_by, keeps_all, lists_draft, lists_timing, unwritten, written}
use Rattle.office_tables.proofs.migrate.spell_anew.{Given.Over, Goals.After-write_anew}
use Rattle.office_tables.proofs.migrate.spell_anew.Goals as goal

pub put_former-requires-clause-query : goal.put_former-requires-clause-query
put_former-requires-clause-query g c = lists_timing

pub put_former-requires-2-clause-query : goal.put_former-requires-2-clause-query
put_former-requires-2-clause-query g c = lists_draft

keeps : (g : Over) (c : After-write_anew g) → Keeps (state g.S.Store c.args.conn.now) (state g.S.Store c.put_former-2.new.conn)
keeps g c =
    keeps_all g.S.Store c.args.conn.now c.stored_version.new.conn c.put_former.new.conn c.put_former-2.new.conn c.requires c.stored_version.ensures.kept c.put_former.ensures.kept c.put_former-2.ensures.kept

anew : (g : Over) (c : After-write_anew g) (count : Migrated) → count.timing ≡ length c.put_former.new.changes.items → count.draft ≡ length c.put_former-2.new.changes.items - length c.put_former.new.changes.items
    → IsHonest (state g.S.Store c.put_former-2.new.conn) → (trees : Trees) → Completes (changed_by (content_now (state g.S.Store c.put_former-2.new.conn)) c.as_slice.result.now) trees
    → IsAnew (state g.S.Store c.args.conn.now).committed.trees trees count
anew g c =
    let version : IsHonest (state g.S.Store c.stored_version.new.conn) → Some first_version ≡ version_in (state g.S.Store c.args.conn.now).now.trees =
    λ honest. let told = rw c.in-Some-eq1.is at (c.in_ok-stored_version.ensures.found honest) in search rules in
    anew_by g.S.Store c.args.conn.now c.stored_version.new.conn c.put_former.new.conn c.put_former-2.new.conn c.requires c.stored_version.ensures.kept c.put_former.ensures.kept c.put_former-2.ensures.kept
    _ _ _ _ c.new-changes.ensures.items c.as_slice.ensures.value c.in_ok-put_former.ensures.puts c.in_ok-put_former-2.ensures.puts version

pub returns-in_err-write_anew : goal.returns-in_err-write_anew
returns-in_err-write_anew g c =
    let early = (goal.at.returns-in_err-write_anew g c).After-write_anew in
    unwritten g.S.Store c.args.conn.now c.put_former-2.new.conn c.requires (keeps g early) c.write_anew.new.conn _ _
    (anew g early (record { timing = length c.put_former.new.changes.items; draft = length c.put_former-2.new.changes.items - length c.put_former.new.changes.items }) refl refl)
    _ _ c.from_residual-in_err-write_anew.ensures.1 c.in_err-write_anew.ensures

pub overflow_sub-draft : goal.overflow_sub-draft
overflow_sub-draft g c = omega (arith, c.in_ok-put_former-2.ensures.grows, c.len.ensures, c.len-timing.ensures)

pub returns : goal.returns
returns g c =
    let early = (goal.at.returns g c).After-write_anew in
    written g.S.Store c.args.conn.now c.put_former-2.new.conn c.requires (keeps g early) c.write_anew.new.conn _ _ (anew g early _ (search rules) (search rules)) _ c.in_ok-write_anew.ensures (g.met.S.Store.settled c.write_anew.new.conn.store)
