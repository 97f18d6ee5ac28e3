-- What a shelf in memory shows: its tables and its counts.
use Rattle.std.specs.Prelude.{refl}
use Rattle.std.specs.Coded.{Coded, code_by, coded×}
use Rattle.office_tables_shelf.specs.{Content.Content, Content.content_code, Counts.counts_code, declared.counts.WriteCounts.WriteCounts}

-- the tables, and how often their rows were written
pub record ShelfView : Type 0 where
  pub tables : Content
  pub counts : WriteCounts

-- what is seen of the maps, as codes that a proof can compare
abbrev pub view_code : Coded ShelfView
view_code = code_by (Content × WriteCounts) (coded× content_code counts_code) (λ v. (v.tables, v.counts)) (λ p. record { tables = p.0; counts = p.1 }) (λ _. refl)
