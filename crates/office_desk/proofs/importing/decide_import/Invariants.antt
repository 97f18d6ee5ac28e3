use Rattle.std.proofs.Common.{◌≡◌, ◌≢◌, ◌+◌, ◌≤◌, [], drop}
use Rattle.office_tables_shelf.specs.{Counts.writes_in, declared.rows.Table.Table}
use Rattle.office_tables_decisions.proofs.ReadLemmas.{HasRead}
use Rattle.office_desk.specs.{Changes.most_import_writes, Recording.AreFound}
use Rattle.office_desk.proofs.Imports.{SoFar}
use Rattle.office_desk.proofs.importing.decide_import.Given as goal

-- the records before the next were taken, and their rows are pending; once one was, the shelf is open
abbrev pub invariant-loop-index : goal.invariant-loop-index
invariant-loop-index g l =
    let shelf = g.S.Shelf in
    record {
      counted : l.added + l.same ≡ l.index;
      so_far : shelf.is_honest l.shelf → SoFar (shelf.content l.fn.shelf) l.records l.index l.added l.same l.pending;
      found : shelf.is_honest l.shelf → AreFound (shelf.content l.fn.shelf) l.found;
      fresh : l.index ≡ 0 → l.pending ≡ [];
      reads : HasRead shelf (l.index ≢ 0) l.fn.shelf l.shelf;
      writes : (table : Table) → writes_in table l.pending + most_import_writes (drop l.index l.records) table ≤ most_import_writes l.records table;
    }
