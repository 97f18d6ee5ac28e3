use Rattle.std.proofs.Common.{◌<◌, ◌^◌, rules, pos, [], ◌∷◌, refl}
use Rattle.sqlite_tied.specs.Compute.{everything}
use Rattle.sqlite.specs.{declared.types.Value.TheVariants.Int, Held.state}
use Rattle.office_tables_shelf.specs.declared.rows.Table.TheVariants.{Timing}
use Rattle.office_tables_sql.specs.declared.plan.TheConstants.{COUNT}
use Rattle.office_tables_statements.specs.{Calls.Reads, Tables.IsCountText}
use Rattle.office_tables_statements.proofs.StoredLists.{counts}
use Rattle.office_tables_sql.proofs.plan.count.Goals as goal

count_is : IsCountText Timing COUNT.now
unfolding everything
count_is = refl

pub select_one-requires-clause-query : goal.select_one-requires-clause-query
select_one-requires-clause-query g c = (_, count_is)

pub returns-in-Ok-clause-count : goal.returns-in-Ok-clause-count
returns-in-Ok-clause-count g c honest =
    let db = (state g.S.Store c.args.conn.now).now in
    let before = c.select_one.ensures.kept.honest honest in
    let read : Reads COUNT.now (Int (pos c.args.id) ∷ []) db (c.in-Some.row ∷ []) =
    rw (c.in-Some.is, c.params-to_sql.ensures, c.get.ensures.value) at (c.in_ok-row.ensures.row honest) in
    let low : c.in-Ok.count < 2 ^ 32 = search rules in
    counts Timing db (c.requires.schema before) (c.requires.sound before) (c.requires.ordered before) COUNT.now count_is c.args.id c.in-Some.row read c.in-Ok.count low c.in-Ok.ensures.ok
