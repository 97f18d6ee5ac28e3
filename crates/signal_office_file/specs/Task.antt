-- What a task does by an office.
use Rattle.std.specs.Prelude.{Result}
use Rattle.office_tables_shelf.specs.Content.{Content}
use Rattle.office_tables_shelf.specs.declared.shelf.Shelf.{Ghosts}
use Rattle.signal_office_faults.specs.declared.fault.Fault.{Fault}
use Rattle.signal_office_file.specs.Stopping.{StopsWithin}

-- What a task makes of the tables of an office, and what a stop may leave of them.
pub record Effect (T : Type 0) : Type 1 where
  -- from the first tables the task gave this and made the second ones
  pub does : Content → Result T Fault → Content → Type 0
  -- a stop of the task, begun over the first tables, may leave the second ones
  pub leaves : Content → Content → Type 0

-- A task was done by an office. If the disk is clean (it has returned what was written), it was so before; if the office is honest (no failure has
-- shut its database either), it was so before, and tables and result are what the effect does. On a clean disk a stop leaves what the effect may
-- leave, if before it left the tables alone.
pub record DoesTask {S T : Type 0} (g : Ghosts S) (old new : S) (effect : Effect T) (result : Result T Fault) : Type 0 where
  pub clean : g.is_clean new → g.is_clean old
  pub honest : g.is_honest new → g.is_honest old
  pub does : g.is_clean new → g.is_honest new → effect.does (g.content old) result (g.content new)
  pub stop : StopsWithin g old new effect.leaves
