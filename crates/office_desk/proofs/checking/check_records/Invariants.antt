use Rattle.std.proofs.Common.{◌≡◌, ◌≢◌, []}
use Rattle.office_tables_decisions.proofs.ReadLemmas.{HasRead}
use Rattle.office_desk.specs.Recording.{AreFound}
use Rattle.office_desk.proofs.TriedRecords.{CheckedSoFar}
use Rattle.office_desk.proofs.checking.check_records.Given as goal

-- the records before the next were tried, and the rows of those that would be taken are pending
abbrev pub invariant-loop-command : goal.invariant-loop-command
invariant-loop-command g l =
    let shelf = g.S.Shelf in
    record {
      so_far : shelf.is_honest l.shelf → CheckedSoFar (shelf.content l.fn.shelf) l.records l.command-index l.pending l.checked.items;
      found : shelf.is_honest l.shelf → AreFound (shelf.content l.fn.shelf) l.found;
      fresh : l.command-index ≡ 0 → l.pending ≡ [];
      reads : HasRead shelf (l.command-index ≢ 0) l.fn.shelf l.shelf;
    }
