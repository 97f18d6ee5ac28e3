-- The office over tables in memory.
use Rattle.std.specs.Prelude.{◌≡◌, ℕ, List}
use Rattle.std.specs.FinMap.{empty}
use Rattle.cabinet_core.specs.Register.{no_register}
use Rattle.office_machine.specs.Office.{Office}
use Rattle.office_desk.specs.StandFor.{StandForSound}
use Rattle.office_http.specs.Laws.{Serves}
use Rattle.office_http.specs.Protocol.{office_storage}
use Rattle.office_http_framing.specs.Front.{PlainRequest}
use Rattle.office_http_framing.specs.Stops.{Storage}
use Rattle.office_tables_shelf.specs.Content.{Content}
use Rattle.office_tables_shelf.specs.Counts.{no_writes}
use Rattle.office_tables_maps.specs.MapShelf.{ShelfView}

-- an office without intersections, in which nothing was recorded
abbrev pub new_office : Office
new_office = record { intersections = empty; register = no_register }

-- the tables in memory stand for the office, and no row was written yet
pub record StandsInMemory (shelf : ShelfView) (office : Office) : Type 0 where
  pub stand : StandForSound shelf.tables office
  pub unwritten : shelf.counts ≡ no_writes

-- how the office is stored in memory: no failure shuts its tables, so it is always honest
abbrev pub memory_storage : Storage ShelfView Office Content
memory_storage = office_storage (λ _. Unit {0}) (λ shelf. shelf.tables) (λ shelf. shelf.counts)
    (λ shelf tables. tables ≡ shelf.tables)

-- What was done over the requests from a new office, and their answers. What `Serves` says of stops
-- means nothing here: memory does not outlive one.
pub record ServesInMemory
    (after : Office) (requests : List PlainRequest) (answers : List (List ℕ)) : Type 0 where
  pub held : Content
  pub stands : StandForSound held new_office
  pub last : ShelfView
  pub kept : Content
  pub serves : Serves memory_storage (λ tables. Unit {0})
      (record { state = new_office; kept = held; written = no_writes }) last kept after requests answers
