use Rattle.std.proofs.Common.{◌≡◌, map, take}
use Rattle.std.specs.Prelude.{⊤}
use Rattle.office_tables_shelf.specs.Shelf.{ListsIntersections}
use Rattle.office_tables_decisions.proofs.ReadLemmas.{HasRead}
use Rattle.office_desk_timing.specs.Listing.{listed_in}
use Rattle.office_desk_timing.proofs.showing.list_intersections.Given as goal

-- what is listed so far of the rows that were read; the shelf is open
abbrev pub invariant-loop-id : goal.invariant-loop-id
invariant-loop-id g l =
    let shelf = g.S.Shelf in
    record {
      read : shelf.is_honest l.shelf → ListsIntersections (shelf.content l.fn.shelf) l.id-items;
      listed : shelf.is_honest l.shelf → l.found.items ≡ map (listed_in (shelf.content l.fn.shelf)) (take l.id-index l.id-items);
      reads : HasRead shelf ⊤ l.fn.shelf l.shelf;
    }
