-- When a stored row keeps a command from being answered.
use Rattle.std.specs.Prelude.{◌≡◌, ◌⊎◌, ℕ, List, [], ◌∷◌, Option, Some, None}
use Rattle.std.specs.Option.{option_map}
use Rattle.signal_records.specs.declared.state.{Holder.Holder, Stage.TheVariants.Done}
use Rattle.draft_core.specs.{Steps.reach_of, declared.timing.Reach.Reach}
use Rattle.office_tables_shelf.specs.{Content.Content, Overdue.HasOverdueDamage, Shelf.IsThere, Shelf.ReadsIntersection, declared.rows.IntersectionRow.IntersectionRow, Damage.HasDamagedIntersection, Damage.HasDamagedTiming, Damage.HasDamagedDraft, Places.DamagedAt}
use Rattle.office_tables_shelf.specs.CabinetReads.{HasDamagedInspection, HasDamagedOrder, HasDamagedPart, HasDamagedUsed}
use Rattle.cabinet_core.specs.declared.command.RecordCommand.{RecordCommand}
use Rattle.cabinet_core.specs.declared.command.RecordCommand.TheVariants.{Inspect, OpenOrder, UsePart, CloseOrder, Receive}
use Rattle.office_machine.specs.{Step.cabinet_of, declared.command.Command.Command}
use Rattle.draft_core.specs.declared.step.Step.TheVariants as step
use Rattle.draft_core.specs.declared.timing.Reach.TheVariants as reach
use Rattle.office_tables_shelf.specs.Places as place
use Rattle.office_machine.specs.declared.command.Command.TheVariants as command

-- the row of an intersection is no record; or it is there, and what is read after it meets damage
abbrev pub MeetsAfter : Content → ℕ → Type 0 → Type 0
MeetsAfter tables id Later = HasDamagedIntersection tables id ⊎ (IsThere tables id × Later)

-- a row of the intersection's plan is no record, of the rows that a step with this reach reads
abbrev pub HasDamagedPlan : Reach → Content → ℕ → Type 0
HasDamagedPlan reach.Row tables id = ⊥
HasDamagedPlan reach.Drafts tables id = HasDamagedDraft tables id
HasDamagedPlan reach.Plan tables id = HasDamagedTiming tables id ⊎ HasDamagedDraft tables id

-- a row of the intersection or of its plan is no record, of the rows that a step with this reach reads
abbrev pub HasDamageIn : Reach → Content → ℕ → Type 0
HasDamageIn reach tables id = MeetsAfter tables id (HasDamagedPlan reach tables id)

-- a row of the intersection, of its committed set or of its draft is no record
abbrev pub HasDamage : Content → ℕ → Type 0
HasDamage = HasDamageIn reach.Plan

-- the row has a draft in state Done
abbrev pub IsDone : IntersectionRow → Type 0
IsDone row = option_map (λ (holder : Holder). holder.stage) row.holder ≡ Some Done

-- a draft is read to be judged, and a row of the intersection, of its committed set or of its draft is no record
pub record HasJudgedDamage (tables : Content) (id : ℕ) : Type 0 where
  pub row : IntersectionRow
  pub read : ReadsIntersection tables id (Some row)
  pub done : IsDone row
  pub damage : HasDamage tables id

-- ---- the register

-- a row that the command reads, under its own key, is no record
abbrev pub MeetsRecordDamage : Content → RecordCommand → Type 0
MeetsRecordDamage tables (Inspect id inspection) = DamagedAt tables (place.Inspection id inspection.number)
MeetsRecordDamage tables (OpenOrder id opening) = DamagedAt tables (place.Order id opening.number)
MeetsRecordDamage tables (UsePart id line) =
    DamagedAt tables (place.Line id line.order line.line)
    ⊎ (DamagedAt tables (place.Order id line.order) ⊎ DamagedAt tables (place.Part line.part))
MeetsRecordDamage tables (CloseOrder id order closing) = DamagedAt tables (place.Order id order)
MeetsRecordDamage tables (Receive delivery) = DamagedAt tables (place.Delivery delivery.part delivery.number) ⊎ DamagedAt tables (place.Part delivery.part)

-- a row of the intersection among its inspections, orders or used parts is no record
abbrev pub HasDamagedCabinet : Content → ℕ → Type 0
HasDamagedCabinet tables id =
    HasDamagedInspection tables id ⊎ (HasDamagedOrder tables id ⊎ HasDamagedUsed tables id)

-- the intersection's row, or a row of the register that the command reads, is no record
abbrev pub MeetsCabinetDamage : Content → RecordCommand → Option ℕ → Type 0
MeetsCabinetDamage tables c None = MeetsRecordDamage tables c
MeetsCabinetDamage tables c (Some id) = MeetsAfter tables id (MeetsRecordDamage tables c)

-- the row of an intersection that a record of an import is about, or a row of the register that the record reads, is no record
abbrev pub MeetsImportDamage : Content → List RecordCommand → Type 0
MeetsImportDamage tables [] = ⊥
MeetsImportDamage tables (c ∷ cs) = MeetsCabinetDamage tables c (cabinet_of c) ⊎ MeetsImportDamage tables cs

-- ---- any command

-- a row that the command reads is no record
abbrev pub MeetsDamage : Content → Command → Type 0
MeetsDamage tables (command.AddIntersection id interval name) = HasDamagedIntersection tables id
MeetsDamage tables (command.Begin id clerk) = HasDamageIn (reach_of step.Begin) tables id
MeetsDamage tables (command.Edit id clerk changes) = HasDamageIn (reach_of (step.Edit changes)) tables id
MeetsDamage tables (command.Verify id clerk) = HasDamageIn (reach_of step.Verify) tables id
MeetsDamage tables (command.Check id clerk) = HasDamageIn (reach_of step.Check) tables id
MeetsDamage tables (command.Commit id clerk) = HasDamageIn (reach_of step.Commit) tables id
MeetsDamage tables (command.Reopen id clerk) = HasDamageIn (reach_of step.Reopen) tables id
MeetsDamage tables (command.Abandon id clerk) = HasDamageIn (reach_of step.Abandon) tables id
MeetsDamage tables (command.State id) = HasDamagedIntersection tables id ⊎ HasJudgedDamage tables id
MeetsDamage tables (command.Timing id) = MeetsAfter tables id (HasDamagedTiming tables id)
MeetsDamage tables (command.Draft id) = HasDamage tables id
MeetsDamage tables (command.Record c) = MeetsCabinetDamage tables c (cabinet_of c)
MeetsDamage tables (command.Import records) = MeetsImportDamage tables records
MeetsDamage tables (command.Cabinet id) = MeetsAfter tables id (HasDamagedCabinet tables id)
MeetsDamage tables (command.OpenOrders id) = MeetsAfter tables id (HasDamagedOrder tables id)
MeetsDamage tables command.Stock = HasDamagedPart tables
MeetsDamage tables (command.Overdue day) = HasOverdueDamage tables
