-- What an opening of the tables makes of a database, and what it leaves where it refuses.
use Rattle.std.specs.Prelude.{◌≡◌, ◌⊎◌, ◌≤◌, ℕ, false, List, [], ◌∷◌, None, Some, Result, Ok, Err, IfOk, IsTrue, OnOk, MatchResult, Vec}
use Rattle.std.specs.{List.AllByRecursion, declared.alloc.Global.Global}
use Rattle.sqlite.specs.{Effect.Database, Effect.IsDatabase, Held.Held, Held.state, Order.Row, Steps.IsFresh, Tree.Trees, declared.transaction.Transaction.Transaction}
use Rattle.sqlite.specs.State.{State, HasCleanDisk, ExecutesInside, Survives}
use Rattle.sqlite_trees.specs.{View.doubt, View.IsClean, declared.store.Store.Ghosts}
use Rattle.office_tables_shelf.specs.{Content.Content, Content.no_content, Counts.no_writes, declared.rows.Table.Table}
use Rattle.office_tables_statements.specs.Calls.{IsHonest, IsOffice, IsReady, StandsOn, StaysOpen}
use Rattle.office_tables_statements.specs.Stored.{content_now, content_of}
use Rattle.office_tables.specs.{Arranged.IsArranged, SqlShelf.IsCurrent, SqlShelf.SqlView, Moved.all_put, Moved.moved_from, Moved.rows_named, declared.foreign.TheConstants.KEEPER, declared.gather.TheConstants.CHILDREN_FIRST, declared.open.OpenFault.OpenFault}
use Rattle.office_tables.specs.Foreign.{Hold, IsOurs, MayBeMade, TakesOver, Tell, TellsOfTables}
use Rattle.sqlite_schema.specs.declared.schema.Table.{Table as SqlTable}
use Rattle.office_tables_sql.specs.{Promises.KeepsCommitted, Promises.WasHonest, Version.Completes}

-- no failure has shut the database, if the disk has returned what was written
abbrev pub IsOpenIfClean : State → Type 0
IsOpenIfClean s = HasCleanDisk s → IsHonest s

-- what is read of these tables of a file: the rows that they hold, which may be put into tables made
-- anew, or why not
abbrev pub FindsIn : List SqlTable → Trees → Result (Vec (Table × Row) Global) OpenFault → Type 0
FindsIn tables trees found = MatchResult found
    (λ rows. (rows.items ≡ moved_from CHILDREN_FIRST (rows_named tables trees)) × Tell None tables (rows_named tables trees KEEPER.now) (moved_from CHILDREN_FIRST (rows_named tables trees)))
    (λ why. Tell (Some why) tables (rows_named tables trees KEEPER.now) (moved_from CHILDREN_FIRST (rows_named tables trees)))

-- what is read of the tables of a file: the rows that they hold, which may be put into tables made
-- anew, or why not
abbrev pub FindsTables : Result (Vec (Table × Row) Global) OpenFault → Trees → Type 0
FindsTables (Ok rows) trees = MayBeMade trees × Hold trees (all_put no_content rows.items)
FindsTables (Err why) trees = TellsOfTables why trees

-- a sound database without views, in which each table has one of the office's names
pub record AreOurs (db : Database) : Type 0 where
  pub sound : IsDatabase db
  pub no_views : db.schema.views ≡ []
  pub named : AllByRecursion (λ t. IsOurs t.name) db.schema.tables

-- inside a transaction over the office's tables: they hold this content, and store today's version
pub record IsMade (tables : Content) (s : State) : Type 0 where
  pub ready : IsReady s
  pub completes : Completes tables s.now.trees

-- A call that makes tables of this content and today's version in one transaction, which it commits,
-- or that fails and leaves the last commit. A crash leaves what it could before, or these tables.
pub record WritesToday {A E : Type 0} (result : Result A E) (tables : Content) (old new : State) : Type 0 where
  pub office : OnOk result (IsOffice new)
  pub opened : StaysOpen result new
  pub idle : new.in_transaction ≡ false
  pub honest : IsHonest new → IsHonest old
  pub made : IsHonest new → OnOk result (Completes tables new.now.trees)
  pub kept : KeepsCommitted result old new
  pub crash : Survives old new (λ trees. IsHonest old × Completes tables trees)

module _ {S : Type 0} (g : Ghosts S) where
  -- a step of a transaction that, where it succeeds on a clean disk, leaves the office's tables
  -- with this content and today's version, if its premise held before
  pub record TurnsToday {A E : Type 0} (result : Result A E) (Before : State → Type 0) (tables : Content) (old new : Transaction S) : Type 0 where
    pub same_reference : new.conn.ghost_name ≡ old.conn.ghost_name
    pub honest : WasHonest result (state g old.conn.now) (state g new.conn.now)
    pub made : HasCleanDisk (state g new.conn.now) → OnOk result (Before (state g old.conn.now) → IsMade tables (state g new.conn.now))
    pub stands : StandsOn (state g old.conn.now) (state g new.conn.now)

  -- these statements were run in their order in a transaction, and each succeeded
  abbrev pub AreRun : List (List ℕ) → Held S → Held S → Type 0
  AreRun [] old new = new ≡ old
  AreRun (sql ∷ more) old new = (mid : Held S) × (count : ℕ) × ExecutesInside 0 sql [] (state g old) (state g mid) (Ok count) × AreRun more mid new

  -- A connection over the office's tables, which were opened in another one. If its database is
  -- open, it took over what was found there; a crash leaves what it holds.
  pub record IsPrepared (conn new : Held S) : Type 0 where
    pub opened : IsOpenIfClean (state g new)
    pub honest : IsHonest (state g new) → HasCleanDisk (state g conn)
    pub takes : IsHonest (state g new) → TakesOver (state g conn).committed.trees (state g new).now.trees
    pub current : IsCurrent (state g new)
    pub crash : IsHonest (state g new) → (trees : Trees) → (state g new).may_leave trees → content_of trees ≡ content_now (state g new)

  -- a shelf was opened over a connection, and no write is counted
  abbrev pub IsOpened : Held S → SqlView S → Type 0
  IsOpened conn shelf = IsPrepared conn shelf.conn × (shelf.counts ≡ no_writes)

  -- the store in what a refusal gives back: in a connection, or alone where its connection was given
  -- up and no new one could be opened over it
  abbrev pub store_left : Result (Held S) S → S
  store_left (Ok c) = c.store
  store_left (Err s) = s

  -- the disk under the store has returned what was written
  abbrev pub IsCleanStore : S → Type 0
  IsCleanStore s = IsClean (g.view s)

  -- If the store that is left is open, the last commit stands in it. A crash leaves such trees.
  pub record IsLeft (conn : Held S) (MayBecome : Trees → Type 0) (left : S) : Type 0 where
    pub clean : doubt (state g conn).is_clean ≤ doubt (g.view left).is_clean
    pub committed : IsCleanStore left → IsTrue (g.view left).is_open → (g.view left).committed ≡ (state g conn).committed.trees
    pub crash : IsCleanStore left → (trees : Trees) → g.recovers left trees → MayBecome trees

  -- the store is left as the connection had it: nothing was written
  abbrev pub IsAsFound : Held S → S → Type 0
  IsAsFound conn = IsLeft conn (state g conn).may_leave

  -- the store that a connection gave back: on a clean disk it was open, and it holds the last commit,
  -- which is arranged
  pub record IsTaken (conn : Held S) (store : S) : Type 0 where
    pub clean : doubt (state g conn).is_clean ≤ doubt (g.view store).is_clean
    pub was_open : IsCleanStore store → IsTrue (state g conn).is_open
    pub fresh : IsCleanStore store → IsFresh (g.view store)
    pub trees : IsCleanStore store → (g.view store).trees ≡ (state g conn).committed.trees
    pub crash : IsCleanStore store → (trees : Trees) → g.recovers store trees → (state g conn).may_leave trees
    pub left : IsCleanStore store → (state g conn).may_leave (state g conn).committed.trees
    pub arranged : IsCleanStore store → IsArranged (state g conn).committed.trees

  -- The database of a connection that was checked again: no transaction is under way, and on a clean
  -- disk it is open, nothing was written, and its last commit is arranged.
  pub record IsCheckedAgain (conn new : Held S) : Type 0 where
    pub found : IsAsFound conn new.store
    pub opened : IsOpenIfClean (state g new)
    pub idle : new.in_transaction ≡ false
    pub settled : HasCleanDisk (state g new) → (state g new).now ≡ (state g new).committed
    pub arranged : HasCleanDisk (state g new) → IsArranged (state g new).committed.trees

  -- a database was checked again, or it was refused, and its store is left as it was found
  abbrev pub ChecksAgain : {E : Type 0} → Held S → Result (Held S) (E × S) → Type 0
  ChecksAgain conn result = MatchResult result (IsCheckedAgain conn) (λ e. IsAsFound conn e.1)

  -- What is known where an opening is refused. A commit that failed may be found after a crash: then the office's tables took over.
  -- A connection that comes back is in no transaction, or it is the one that was given.
  pub record IsRefused (conn : Held S) (why : OpenFault) (back : Result (Held S) S) : Type 0 where
    pub told : IsCleanStore (store_left back) → TellsOfTables why (state g conn).committed.trees
    pub left : IsLeft conn (λ trees. (state g conn).may_leave trees ⊎ TakesOver (state g conn).committed.trees trees) (store_left back)
    pub idle : IfOk back (λ c. (c.in_transaction ≡ false) ⊎ (c ≡ conn))

  -- a connection was prepared for a shelf, or refused
  abbrev pub Prepares : Held S → Result (Held S) (OpenFault × Result (Held S) S) → Type 0
  Prepares conn result = MatchResult result (IsPrepared conn) (λ e. IsRefused conn e.0 e.1)

  -- a shelf was opened over a connection, or refused
  abbrev pub Opens : Held S → Result (SqlView S) (OpenFault × Result (Held S) S) → Type 0
  Opens conn result = MatchResult result (IsOpened conn) (λ e. IsRefused conn e.0 e.1)
