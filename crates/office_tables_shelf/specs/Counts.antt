-- How many rows of each table were written.
use Rattle.std.specs.Prelude.{ℕ, ◌+◌, ◌-◌, ◌^◌, min, cond, List, [], ◌∷◌, refl, replicate, slice_index_or, slice_set}
use Rattle.std.specs.Coded.{Coded, code_by, coded_list, coded_ℕ}
use Rattle.office_tables_shelf.specs.{Change.row_writes, Change.table_of, Content.place_at, declared.counts.WriteCounts.WriteCounts, declared.rows.RowChange.RowChange, declared.rows.Table.Table}
pub use Rattle.office_tables_shelf.specs.Content.{is_same_table}

-- no row was written
abbrev pub no_writes : WriteCounts
no_writes = record { counts = replicate 8 0 }

-- how many rows of a table were written
abbrev pub count_of : WriteCounts → Table → ℕ
count_of counts table = slice_index_or counts.counts (place_at table) 0

-- a count after some more rows; at its largest value, 2 ^ 64 - 1, it stays
abbrev pub next_count : ℕ → (rows : ℕ) → ℕ
next_count n rows = min (n + rows) (2 ^ 64 - 1)

-- the counts after a write of some rows of a table
abbrev pub count_at : WriteCounts → Table → (rows : ℕ) → WriteCounts
count_at counts table rows = record {
  counts = slice_set counts.counts (place_at table) (next_count (count_of counts table) rows);
}

-- the counts after changes, each of which writes so many rows of its table
abbrev pub counts_after : WriteCounts → List RowChange → WriteCounts
counts_after counts [] = counts
counts_after counts (change ∷ changes) = counts_after (count_at counts (table_of change) (row_writes change)) changes

-- how many rows of a table the changes write
abbrev pub writes_in : Table → List RowChange → ℕ
writes_in table [] = 0
writes_in table (change ∷ changes) = cond (is_same_table (table_of change) table) (row_writes change) 0 + writes_in table changes

-- ---- how the logic stores counts

-- counts of writes, as codes that a proof can compare
abbrev pub counts_code : Coded WriteCounts
counts_code = code_by (List ℕ) (coded_list coded_ℕ) (λ c. c.counts) (λ counts. record { counts = counts }) (λ _. refl)
