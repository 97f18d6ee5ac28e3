use Rattle.std.proofs.Common.{◌≡◌, ◌++◌, List, map}
use Rattle.std.specs.{List.AllByRecursion, Vec.Iter.into_iter_items}
use Rattle.sqlite.specs.Order.{Row}
use Rattle.sqlite_rules.specs.Lists.{Has}
use Rattle.office_tables_statements.specs.Tables.{row_shown, stored_for}
use Rattle.office_tables.specs.Rewritten.{IsFormer, KeptRow, former_columns, kept_key, puts, spelled_table}
use Rattle.office_tables.proofs.rewritten.put_rows.Given as goal

-- the rows so far stood for what was kept, whose rows are put again, and the rest are rows of the query
abbrev pub invariant-loop-row : goal.invariant-loop-row
invariant-loop-row l =
    (kept : List KeptRow) × (map (stored_for kept_key former_columns) kept ++ map (row_shown (spelled_table l.table)) (into_iter_items l.row-iterator) ≡ map (row_shown (spelled_table l.table)) l.fn.rows.items)
    × AllByRecursion (IsFormer l.table) kept × (l.changes.items ≡ l.initial.changes.items ++ puts l.table kept)
    × ((row : Row) → Has (into_iter_items l.row-iterator) row → Has l.fn.rows.items row)
