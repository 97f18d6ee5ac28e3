-- The table of the office's refusals: for each its number, its name and its status code.
use Rattle.std.specs.Prelude.{ℕ, List, codes}
use Rattle.draft_core.specs.Refusal.{line_of as draft_line}
use Rattle.cabinet_core.specs.Refusal.{line_of as record_line}
use Rattle.office_machine.specs.declared.refusal.Refusal.{Refusal}
use Rattle.office_machine.specs.declared.refusal.Refusal.TheVariants.{UnknownIntersection, IntersectionDiffers, Draft, Cabinet, ImportRow, Unavailable, Damaged}
use Rattle.draft_core.specs.declared.refusal.DraftRefusal.TheVariants as draft
use Rattle.cabinet_core.specs.declared.refusal.CabinetRefusal.TheVariants as cabinet

-- a line of the table: a refusal's number, its name, and the status code of an HTTP answer that shows it (RFC 9110)
pub record RefusalLine : Type 0 where
  pub number : ℕ
  pub name : List ℕ
  pub status : ℕ

-- a refusal's number and name; those of the transaction and the register are in their own tables
abbrev pub number_and_name : Refusal → ℕ × List ℕ
number_and_name UnknownIntersection = (10, codes "UnknownIntersection")
number_and_name IntersectionDiffers = (11, codes "IntersectionDiffers")
number_and_name (Draft why) = draft_line why
number_and_name (Cabinet why) = record_line why
number_and_name (ImportRow at cause) = (30, codes "ImportRow")
number_and_name Unavailable = (90, codes "Unavailable")
number_and_name Damaged = (91, codes "Damaged")

-- a refusal's status code: 404 if an intersection or an order is unknown, 503 if memory or the database refused, 500
-- if a stored row is no record, and 409 for each other refusal
abbrev pub status_of : Refusal → ℕ
status_of UnknownIntersection = 404
status_of (Cabinet cabinet.UnknownOrder) = 404
status_of (Draft draft.NoMemory) = 503
status_of (Cabinet cabinet.NoMemory) = 503
status_of Unavailable = 503
status_of Damaged = 500
status_of why = 409

-- a refusal's line of the table: its number, its name and the status code of an answer that shows it
abbrev pub line_of : Refusal → RefusalLine
line_of why = record { number = (number_and_name why).0; name = (number_and_name why).1; status = status_of why }
