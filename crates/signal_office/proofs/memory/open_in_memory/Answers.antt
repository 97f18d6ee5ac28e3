use Rattle.std.proofs.Common.{◌∙◌, ap}
use Rattle.office_tables_maps.specs.MapShelf.{ShelfView}
use Rattle.signal_office.proofs.MemoryLemmas.{nothing_stands}
use Rattle.signal_office.proofs.memory.open_in_memory.Goals as goal

pub returns : goal.returns
returns c = record {
  stand = nothing_stands _ (
      ap (λ (shelf : ShelfView). shelf.tables) c.new.ensures ∙ c.new-shelf.ensures.empty);
  unwritten = ap (λ (shelf : ShelfView). shelf.counts) c.new.ensures ∙ c.new-shelf.ensures.no_writes;
}
