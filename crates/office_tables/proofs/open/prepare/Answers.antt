use Rattle.std.proofs.Common.{◌≡◌, Some, sym, ◌∙◌, rules}
use Rattle.sqlite.specs.Held.{state}
use Rattle.office_tables_statements.specs.Calls.{IsHonest}
use Rattle.office_tables_sql.specs.Version.{current_version, version_in}
use Rattle.office_tables.proofs.OpenLemmas.{arranged_office, asked_found, prepares_before, today_prepared}
use Rattle.office_tables.proofs.open.prepare.Goals as goal

pub stored_version-requires : goal.stored_version-requires
stored_version-requires g c =
    let s = state g.S.Store c.args.conn in
    arranged_office s (sym c.is_autocommit.ensures.value ∙ c.if-not-is_autocommit.false) (sym c.schema.ensures.value ∙ c.is_office.ensures.is c.if-not-is_office.false)
    (λ h. c.is_autocommit.ensures.settled c.if-not-is_autocommit.false h.1) (λ h. (c.schema.ensures.live h.1).0) c.requires

pub returns-in-Ok-Some-eq2-clause-prepares : goal.returns-in-Ok-Some-eq2-clause-prepares
returns-in-Ok-Some-eq2-clause-prepares g c =
    let it = c.in-Ok-Some-eq2.ensures in
    let new = c.stored_version.new.conn in
    let today : IsHonest (state g.S.Store new) → Some current_version ≡ version_in (state g.S.Store c.args.conn).now.trees = λ honest. let told = it.found honest in search rules in
    today_prepared g.S.Store c.args.conn new (λ h. c.is_autocommit.ensures.settled c.if-not-is_autocommit.false h.1) it.kept it.open (g.met.S.Store.settled new.store) today

pub returns-in-Ok-clause-prepares : goal.returns-in-Ok-clause-prepares
returns-in-Ok-clause-prepares g c =
    let it = c.in-Ok.ensures in
    let new = c.stored_version.new.conn in
    let found = asked_found g.S.Store c.args.conn new (λ h. c.is_autocommit.ensures.settled c.if-not-is_autocommit.false h.1) it.kept it.open (g.met.S.Store.settled new.store) in
    prepares_before g.S.Store c.args.conn new found it.open it.kept.office.autocommit _ c.made_again-in-Ok.ensures
