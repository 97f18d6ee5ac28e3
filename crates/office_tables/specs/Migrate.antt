-- What bringing version 1 of the tables to today's version makes of a database, and what it leaves
-- where it refuses.
use Rattle.std.specs.Prelude.{◌≡◌, ◌≢◌, ◌⊎◌, ℤ, pos, true, false, List, [], ◌∷◌, None, Some, Result, Err, IfOk}
use Rattle.sqlite.specs.{declared.types.Value.TheVariants.Int, Held.Held, Held.state, Order.Row, Order.column, Tree.Trees}
use Rattle.sqlite.specs.State.{State, HasCleanDisk, Shown, Survives}
use Rattle.sqlite_trees.specs.declared.store.Store.{Ghosts}
use Rattle.sqlite_schema.specs.Names.{table_named}
use Rattle.office_machine.specs.Office.{Office, version_1}
use Rattle.office_tables_decisions.specs.StandFor.{StandForSoundIn}
use Rattle.office_tables_statements.specs.{Calls.IsHonest, Calls.StaysOpen, Stored.content_of}
use Rattle.office_tables.specs.{Rewritten.HasFormerDamage, Migration.IsMigrated, declared.foreign.TheConstants.KEEPER, declared.rewritten.Migrated.Migrated, declared.rewritten.Spelled.Spelled, declared.open.OpenFault.OpenFault, declared.version.TheConstants.FIND}
use Rattle.office_tables_sql.specs.Promises.{KeepsCommitted, Settles}
use Rattle.office_tables_sql.specs.Version.{AreToday, version_in, current_version, first_version}
use Rattle.office_tables.specs.declared.open.OpenFault.TheVariants as fault

-- version 1 was stored, each of its rows is now spelled as today, under today's version, and those
-- that were written anew are counted
pub record IsAnew (old new : Trees) (count : Migrated) : Type 0 where
  pub was : version_in old ≡ Some first_version
  pub migrated : IsMigrated (content_of old) (content_of new) count
  pub stored : AreToday new

-- the new trees hold version 1 as it is spelled today
abbrev pub MayBecome : Trees → Trees → Type 0
MayBecome old new = (count : Migrated) × IsAnew old new count

-- today's version was stored, nothing changed, and no row is counted
pub record IsToday (old new : Trees) (count : Migrated) : Type 0 where
  pub was : AreToday old
  pub same : new ≡ old
  pub none : count ≡ record { timing = 0; draft = 0 }

-- stored tables were of today's version and stayed, or were of version 1 and are spelled anew
abbrev pub IsBrought : Trees → Trees → Migrated → Type 0
IsBrought old new count = IsToday old new count ⊎ IsAnew old new count

-- rows that a query of the version shows: none, or a first one that shows a number which is neither
-- today's version, 2, nor 1
abbrev pub AreNeither : List Row → Type 0
AreNeither [] = Unit {0}
AreNeither (row ∷ more) = (n : ℤ) × (column row 0 ≡ Int n) × (n ≢ pos 2) × (n ≢ pos 1)

module _ {S : Type 0} (g : Ghosts S) where
  -- a query of the version, in tables of whatever layout, shows neither today's version nor version
  -- 1
  pub record ShowsNeither (conn : Held S) : Type 0 where
    pub after : Held S
    pub rows : List Row
    pub shown : Shown FIND.now (Int (pos 1) ∷ []) (state g (record conn { in_transaction = true }))
        (state g after) rows
    pub neither : AreNeither rows

  -- no table has the name of the one that keeps the version, or neither today's version nor version 1 is stored or shown
  abbrev pub HasUnknownVersion : Held S → Type 0
  HasUnknownVersion conn =
      (table_named (state g conn).now.schema KEEPER.now ≡ None)
      ⊎ (((version_in (state g conn).committed.trees ≢ Some current_version) × (version_in (state g conn).committed.trees ≢ Some first_version)) ⊎ ShowsNeither conn)

-- version 1 is stored, and cells stand in `timing` or `draft` in which it kept nothing
pub record HasDamagedFormer (trees : Trees) : Type 0 where
  pub was : version_in trees ≡ Some first_version
  pub damage : (t : Spelled) × HasFormerDamage t (content_of trees)

-- version 1 is stored, and the tables, read as version 1 reads them, stand for the office, which is
-- sound by the rules of version 1
pub record StandFormerly (trees : Trees) (office : Office) : Type 0 where
  pub version : version_in trees ≡ Some first_version
  pub stand : StandForSoundIn version_1 (content_of trees) office

-- a call that succeeds leaves tables of today's version as they were, or brings those of version 1
-- to it, if the database is open after it
abbrev pub Brings : {E : Type 0} → Result Migrated E → State → State → Type 0
Brings result old new = IsHonest new → IfOk result (IsBrought old.committed.trees new.now.trees)

-- on a clean disk, Version is reported only of tables that store neither today's version nor
-- version 1
abbrev pub TellsVersion : {A S : Type 0} → Ghosts S → Result A OpenFault → Held S → Held S → Type 0
TellsVersion g result old new =
    result ≡ Err fault.Version → HasCleanDisk (state g new) → HasUnknownVersion g old

-- on a clean disk, Damaged is reported only where version 1 is committed with cells in which it
-- kept nothing
abbrev pub TellsDamage : {A : Type 0} → Result A OpenFault → State → State → Type 0
TellsDamage result old new =
    result ≡ Err fault.Damaged → HasCleanDisk new → HasDamagedFormer old.committed.trees

-- What a migration makes of the tables of a connection. Done or refused, it leaves no transaction
-- open where none was, and so nothing that is not committed.
pub record Migrates {S : Type 0} (g : Ghosts S) (result : Result Migrated OpenFault) (old new : Held S) : Type 0 where
  pub brought : Brings result (state g old) (state g new)
  pub version : TellsVersion g result old new
  pub damaged : TellsDamage result (state g old) (state g new)
  pub unchanged : KeepsCommitted result (state g old) (state g new)
  pub crash : Survives (state g old) (state g new) (MayBecome (state g old).committed.trees)
  pub settled : Settles result (state g new)
  pub opened : StaysOpen result (state g new)
  pub idle : old.in_transaction ≡ false → new.in_transaction ≡ false
