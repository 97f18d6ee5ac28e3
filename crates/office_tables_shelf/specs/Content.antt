-- What the tables of the office hold, whatever keeps them.
use Rattle.std.specs.Prelude.{ℕ, pos, Bool, false, not, ◌==◌, cond, List, [], ◌∷◌, refl}
use Rattle.std.specs.{Coded.Coded, Coded.code_by, Coded.coded×, Ordering.eq_by_cmp}
use Rattle.std.specs.FinMap.{empty, insert, remove, retain_keys}
use Rattle.office_tables_shelf.specs.Cells.{Cell, TableRows, number, cell_cmp, rows_code}
use Rattle.office_tables_shelf.specs.declared.rows.Table.{Table}
use Rattle.office_tables_shelf.specs.declared.rows.Table.TheVariants as table

-- the rows of the eight tables; the table of the stored version is none of them
pub record Content : Type 0 where
  pub intersection : TableRows
  pub timing : TableRows
  pub draft : TableRows
  pub inspection : TableRows
  pub work_order : TableRows
  pub part : TableRows
  pub delivery : TableRows
  pub used_part : TableRows

-- no table has a row
abbrev pub no_content : Content
no_content = record {
  intersection = empty;
  timing = empty;
  draft = empty;
  inspection = empty;
  work_order = empty;
  part = empty;
  delivery = empty;
  used_part = empty;
}

-- ---- one table

-- the rows of one of the eight tables
abbrev pub rows_at : Content → Table → TableRows
rows_at tables table.Intersection = tables.intersection
rows_at tables table.Timing = tables.timing
rows_at tables table.Draft = tables.draft
rows_at tables table.Inspection = tables.inspection
rows_at tables table.WorkOrder = tables.work_order
rows_at tables table.Part = tables.part
rows_at tables table.Delivery = tables.delivery
rows_at tables table.UsedPart = tables.used_part

-- the place of a table among the eight, counted from 0
abbrev pub place_at : Table → ℕ
place_at table.Intersection = 0
place_at table.Timing = 1
place_at table.Draft = 2
place_at table.Inspection = 3
place_at table.WorkOrder = 4
place_at table.Part = 5
place_at table.Delivery = 6
place_at table.UsedPart = 7

-- two tables are the same one
abbrev pub is_same_table : Table → Table → Bool
is_same_table t other = place_at t == place_at other

-- the tables, of which one now has these rows, and the others stay
abbrev pub with_rows : Content → Table → TableRows → Content
with_rows tables t rows = record {
  intersection = cond (is_same_table t table.Intersection) rows tables.intersection;
  timing = cond (is_same_table t table.Timing) rows tables.timing;
  draft = cond (is_same_table t table.Draft) rows tables.draft;
  inspection = cond (is_same_table t table.Inspection) rows tables.inspection;
  work_order = cond (is_same_table t table.WorkOrder) rows tables.work_order;
  part = cond (is_same_table t table.Part) rows tables.part;
  delivery = cond (is_same_table t table.Delivery) rows tables.delivery;
  used_part = cond (is_same_table t table.UsedPart) rows tables.used_part;
}

-- the tables with a row put into one of them: these columns under this key
abbrev pub put_in : Content → Table → List Cell → List Cell → Content
put_in tables t key columns = with_rows tables t (insert (rows_at tables t) key columns)

-- the tables without the row under this key in one of them
abbrev pub remove_in : Content → Table → List Cell → Content
remove_in tables t key = with_rows tables t (remove (rows_at tables t) key)

-- the key cells begin with the number of the intersection
abbrev pub is_of : ℕ → List Cell → Bool
is_of id [] = false
is_of id (cell ∷ cells) = eq_by_cmp cell_cmp (number (pos id)) cell

-- the rows of all other intersections
abbrev pub rows_but : ℕ → TableRows → TableRows
rows_but id rows = retain_keys rows (λ key. not (is_of id key))

-- the tables without the rows of an intersection in one of them
abbrev pub drop_in : Content → Table → ℕ → Content
drop_in tables t id = with_rows tables t (rows_but id (rows_at tables t))

-- ---- how the logic stores it

-- the content of the tables, as codes that a proof can compare
abbrev pub content_code : Coded Content
content_code = code_by (TableRows × (TableRows × (TableRows × (TableRows × (TableRows × (TableRows × (TableRows × TableRows)))))))
    (coded× rows_code (coded× rows_code (coded× rows_code (coded× rows_code (coded× rows_code (coded× rows_code (coded× rows_code rows_code)))))))
    (λ c. (c.intersection, (c.timing, (c.draft, (c.inspection, (c.work_order, (c.part, (c.delivery, c.used_part))))))))
    (λ p. record {
      intersection = p.0;
      timing = p.1.0;
      draft = p.1.1.0;
      inspection = p.1.1.1.0;
      work_order = p.1.1.1.1.0;
      part = p.1.1.1.1.1.0;
      delivery = p.1.1.1.1.1.1.0;
      used_part = p.1.1.1.1.1.1.1;
    }) (λ _. refl)
