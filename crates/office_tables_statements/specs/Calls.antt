-- What the calls of a shelf need of a connection and leave of it.
use Rattle.std.specs.Prelude.{◌≡◌, ℕ, false, List, [], Option, Some, None, Result, Ok, Err, IsTrue, OnOk}
use Rattle.std.specs.List.{AllByRecursion}
use Rattle.sqlite.specs.{Command.Command, Command.TheVariants.Nothing, Tree.Trees, View.IsShaped, Order.Row, Effect.Database, Effect.IsDatabase, Held.Held, Held.state, Listing.understood}
use Rattle.sqlite_trees.specs.declared.store.Store.{Ghosts}
use Rattle.sqlite.specs.State.{State, HasCleanDisk, Runs, Survives, text_of}
use Rattle.sqlite_resolve.specs.{Compile.compiled, declared.compiled.Compiled.Compiled, declared.error.CompileError.CompileError}
use Rattle.sqlite_schema.specs.declared.command.Returning.{Returning}
use Rattle.office_tables_shelf.specs.{Shelf.IsTold, declared.shelf.ShelfFault.ShelfFault, Content.Content}
use Rattle.office_tables_statements.specs.{Schema.office_schema, Stored.content_now}
use Rattle.sqlite_trees.specs.declared.store.Shape.TheVariants as shape
use Rattle.sqlite.specs.Effect as effect
use Rattle.office_tables_statements.specs.Layout as layout

-- The disk has returned what was written, and no failure of it has shut the database.
abbrev pub IsHonest : State → Type 0
IsHonest s = HasCleanDisk s × IsTrue s.is_open

-- each of the office's tables has its rows in the order of their rowids
abbrev pub AreOrdered : Trees → Type 0
AreOrdered trees = AllByRecursion (λ t. IsShaped shape.Table (trees t.tree)) office_schema.tables

-- no transaction is under way and, if the database is open, all is committed, the tables are those of the office, and
-- they obey their schema
pub record IsOffice (s : State) : Type 0 where
  pub autocommit : s.in_transaction ≡ false
  pub schema : IsHonest s → s.now.schema ≡ office_schema
  pub settled : IsHonest s → s.now ≡ s.committed
  pub ordered : IsHonest s → AreOrdered s.now.trees
  pub sound : IsHonest s → IsDatabase s.now

-- inside a transaction over the tables of the office, which obey their schema
pub record IsReady (s : State) : Type 0 where
  pub inside : IsTrue s.in_transaction
  pub schema : s.now.schema ≡ office_schema
  pub ordered : AreOrdered s.now.trees
  pub sound : IsDatabase s.now

-- A call that only reads: after it the tables are those of the office and, if the database is open, it was open before,
-- and they hold what they held. A crash leaves only what it could leave before; no fault is forgotten, and only a fault
-- shuts the connection.
pub record Keeps (old new : State) : Type 0 where
  pub office : IsOffice new
  pub honest : IsHonest new → IsHonest old
  pub same : IsHonest new → new.now ≡ old.now
  pub crash : Survives old new (λ _. ⊥)

-- on a clean disk, a call that answers leaves the database open
abbrev pub StaysOpen : {A E : Type 0} → Result A E → State → Type 0
StaysOpen result new = HasCleanDisk new → OnOk result (IsHonest new)

-- a call that answers, or reports a damaged row, leaves the database open, if its disk is clean
abbrev pub TellsOpen : {A : Type 0} → Result A ShelfFault → State → Type 0
TellsOpen result new = HasCleanDisk new → IsTold result → IsHonest new

-- the command of a text that was compiled; nothing where it was not
abbrev pub command_of : Result Compiled CompileError → Command
command_of (Ok c) = c.command
command_of (Err e) = Nothing

-- the text of a statement that was compiled; none where it was not
abbrev pub statement_of : List ℕ → Result Compiled CompileError → List ℕ
statement_of sql (Ok c) = text_of sql c
statement_of sql (Err e) = []

-- a command that has no RETURNING and does not read the time
abbrev pub bare : Command → Option Returning → List (List ℕ) → Option Command
bare command None [] = Some command
bare command _ _ = None

-- what was compiled is such a command
abbrev pub bare_command : Result Compiled CompileError → Option Command
bare_command (Ok c) = bare c.command c.returning c.formats
bare_command (Err e) = None

-- over the office's tables the text is this command, which has no RETURNING and does not read the time
abbrev pub Means : List ℕ → Command → Type 0
Means sql command = bare_command (compiled office_schema sql) ≡ Some command

-- over the office's tables the text is some such command
abbrev pub IsStatement : List ℕ → Type 0
IsStatement sql = (command : Command) × Means sql command

-- the rows are what the query of the text answers, with these parameters, over the database
abbrev pub Reads : List ℕ → Row → Database → List Row → Type 0
Reads sql params db rows = effect.Reads (command_of (understood office_schema sql)) db params rows

-- the write of the text was made with these parameters on so many rows, in a transaction that goes on
pub record Ran (sql : List ℕ) (params : Row) (old new : State) (count : ℕ) : Type 0 where
  pub was_open : IsTrue old.is_open
  pub inside : IsTrue new.in_transaction
  pub runs : old.now.schema ≡ office_schema → Runs old new None (command_of (understood office_schema sql)) (statement_of sql (understood office_schema sql)) params count

-- inside a transaction, the eight tables hold this content, and `office_version` is as it was
pub record IsTurned (tables : Content) (old new : State) : Type 0 where
  pub ready : IsReady new
  pub content : content_now new ≡ tables
  pub version : new.now.trees layout.office_version.tree ≡ old.now.trees layout.office_version.tree

-- a step that succeeds on a clean disk, in a transaction that was ready, leaves the eight tables with this content,
-- and `office_version` as it was
abbrev pub TurnsTo : {A E : Type 0} → Result A E → Content → State → State → Type 0
TurnsTo result tables old new = HasCleanDisk new → OnOk result (IsReady old → IsTurned tables old new)

-- A step of a transaction: if the database is open after it, it was open before, and the last commit stands. A crash
-- leaves only what it could leave before; no fault is forgotten, and only a fault shuts the connection.
pub record StandsOn (old new : State) : Type 0 where
  pub honest : IsHonest new → IsHonest old
  pub committed : IsHonest new → new.committed ≡ old.committed
  pub crash : Survives old new (λ _. ⊥)
