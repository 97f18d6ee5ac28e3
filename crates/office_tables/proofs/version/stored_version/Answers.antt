use mir.{Syntax.w64, Val.SFits}
use Rattle.std.proofs.{Common.[], Common.◌∷◌, Common.pos, Common.rules, lemmas.Int.to_z-of_z}
use Rattle.sqlite.specs.{declared.types.Value.TheVariants.Int, Held.state}
use Rattle.office_tables_statements.specs.Calls.{Reads}
use Rattle.office_tables.specs.declared.version.TheConstants.{FIND}
use Rattle.office_tables.proofs.VersionLemmas.{find_version_is, none_found, number_found}
use Rattle.office_tables.proofs.version.stored_version.Goals as goal

pub select_one-requires-clause-query : goal.select_one-requires-clause-query
select_one-requires-clause-query g c = (_, find_version_is)

pub returns-in_ok-get-in-Some-clause-found : goal.returns-in_ok-get-in-Some-clause-found
returns-in_ok-get-in-Some-clause-found g c honest =
    let db = (state g.S.Store c.args.conn.now).now in
    let reads : Reads FIND.now (Int (pos 1) ∷ []) db (c.in-Some.row ∷ []) = rw (c.params-to_sql.ensures, c.in-Some.is) at (c.in_ok-row.ensures.row honest) in
    let told = number_found db (c.requires.ordered (c.select_one.ensures.kept.honest honest)).1.1.1.1.1.1.1.1.0 c.in-Some.row c.in_ok-get-in-Some.field-0 reads c.in_ok-get-in-Some.ensures.ok.1 in
    let fits : SFits w64 c.in_ok-get-in-Some.field-0 = search rules in
    simp to_z-of_z told

pub returns-in-None-clause-found : goal.returns-in-None-clause-found
returns-in-None-clause-found g c honest =
    none_found _ (c.requires.ordered (c.select_one.ensures.kept.honest honest)).1.1.1.1.1.1.1.1.0 (rw (c.params-to_sql.ensures, c.in-None.is) at (c.in_ok-row.ensures.row honest))
