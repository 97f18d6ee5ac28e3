use Rattle.std.proofs.Common.{◌≡◌}
use Rattle.office_tables_sql.proofs.Walks.{Gathering}
use Rattle.office_tables_sql.proofs.each_row.gather_rows.Given as goal

abbrev pub invariant-rows : goal.invariant-rows
invariant-rows g l =
    (l.rows.conn.ghost_name ≡ l.initial.rows.conn.ghost_name)
    × Gathering g.S.Store g.G.Gather.holds g.T.StoredRow.kept l.fn.of l.fn.conn l.rows.conn.now l.found
