-- What a call that may fail promises of a connection, by the state that it found and the one that it left.
use Rattle.std.specs.Prelude.{◌≡◌, Result, Err, IfOk, OnOk, OnErr}
use Rattle.sqlite.specs.{Effect.IsDatabase, Held.Held, Held.state, State.State, State.HasCleanDisk, Tree.Trees, declared.transaction.Transaction.Transaction}
use Rattle.sqlite_trees.specs.declared.store.Store.{Ghosts}
use Rattle.office_tables_shelf.specs.{Content.Content, declared.shelf.ShelfFault.ShelfFault, declared.shelf.ShelfFault.TheVariants.Damaged}
use Rattle.office_tables_statements.specs.Calls.{IsHonest, Keeps, StandsOn, TellsOpen, TurnsTo}
use Rattle.office_tables_statements.specs.{Schema.office_schema, Stored.content_now, Stored.content_of}
use Rattle.office_tables_sql.specs.Version.{version_in}

-- a step of a transaction that succeeds on a clean disk found the disk clean and the database open
abbrev pub WasHonest : {A E : Type 0} → Result A E → State → State → Type 0
WasHonest result old new = HasCleanDisk new → OnOk result (IsHonest old)

-- A call reads the tables and writes nothing. Of an open database, what it gives is so, and it reports a damaged row only where there is one.
pub record LooksUp {S A : Type 0} (g : Ghosts S) (result : Result A ShelfFault) (Says : Content → A → Type 0) (damage : Content → Type 0) (old new : Held S) : Type 0 where
  pub says : IfOk result (λ found. IsHonest (state g new) → Says (content_now (state g old)) found)
  pub damaged : result ≡ Err Damaged → IsHonest (state g new) → damage (content_now (state g old))
  pub kept : Keeps (state g old) (state g new)
  pub stays_open : TellsOpen result (state g new)

-- a step of a transaction that makes this of the content
pub record Turns {S A E : Type 0} (g : Ghosts S) (result : Result A E) (next : Content → Content) (old new : Transaction S) : Type 0 where
  pub same_reference : new.conn.ghost_name ≡ old.conn.ghost_name
  pub turned : TurnsTo result (next (content_now (state g old.conn.now))) (state g old.conn.now) (state g new.conn.now)
  pub honest : WasHonest result (state g old.conn.now) (state g new.conn.now)
  pub stands : StandsOn (state g old.conn.now) (state g new.conn.now)

-- the trees are those of the office's tables, hold this content, and store the version of the old trees
pub record HoldUnder (tables : Content) (old trees : Trees) : Type 0 where
  pub sound : IsDatabase (record { schema = office_schema; trees = trees })
  pub content : content_of trees ≡ tables
  pub version : version_in trees ≡ version_in old

-- a call that fails leaves the last commit as it was, if the database is open after it
abbrev pub KeepsCommitted : {A E : Type 0} → Result A E → State → State → Type 0
KeepsCommitted result old new = IsHonest new → OnErr result (new.committed.trees ≡ old.committed.trees)

-- after a call that succeeds, a crash leaves what the database then holds, if it is open
abbrev pub Settles : {A E : Type 0} → Result A E → State → Type 0
Settles result new = IsHonest new → OnOk result ((trees : Trees) → new.may_leave trees → trees ≡ new.now.trees)

-- all that can be read is committed, if the database is open
abbrev pub IsSettled : State → Type 0
IsSettled s = IsHonest s → s.now ≡ s.committed
