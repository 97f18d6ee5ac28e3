-- What a shelf over SQL shows: its connection and its counts.
use Rattle.std.specs.Prelude.{◌≡◌, Some, refl}
use Rattle.std.specs.Coded.{Coded, code_by, coded×}
use Rattle.sqlite.specs.{Held.Held, Held.held_code, State.State, State.HasCleanDisk, Tree.Trees}
use Rattle.office_tables_shelf.specs.{Content.Content, Counts.counts_code, declared.counts.WriteCounts.WriteCounts}
use Rattle.office_tables_statements.specs.{Calls.IsHonest, Calls.IsOffice, Stored.content_of}
use Rattle.office_tables_sql.specs.Version.{AreToday, version_in, current_version}

-- what is seen of a shelf: the connection, and how often the rows of each table were written over it
pub record SqlView (S : Type 0) : Type 0 where
  pub conn : Held S
  pub counts : WriteCounts

-- the tables are those of the office, and today's version is stored, also in whatever a crash may leave
pub record IsCurrent (s : State) : Type 0 where
  pub office : IsOffice s
  pub stored : IsHonest s → version_in s.now.trees ≡ Some current_version
  pub left : HasCleanDisk s → (trees : Trees) → s.may_leave trees → AreToday trees

-- the disk has returned what was written, and a crash may leave trees with this content
abbrev pub MayLeave : State → Content → Type 0
MayLeave s tables = HasCleanDisk s × (trees : Trees) × s.may_leave trees × (content_of trees ≡ tables)

-- ---- how the logic stores what is seen of a shelf

-- what is seen of a shelf in SQL, as codes that a proof can compare
abbrev pub view_code : {S : Type 0} → Coded S → Coded (SqlView S)
view_code {S} store = code_by (Held S × WriteCounts) (coded× (held_code store) counts_code) (λ v. (v.conn, v.counts)) (λ p. record { conn = p.0; counts = p.1 }) (λ _. refl)
