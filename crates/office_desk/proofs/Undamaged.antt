-- In tables that stand for a sound office no row is damaged that a command reads.
use Rattle.std.proofs.Common.{ℕ, List, [], ◌∷◌, Option, Some, None, inl, inr, ⊎_elim}
use Rattle.cabinet_core.specs.declared.command.RecordCommand.{RecordCommand}
use Rattle.draft_core.specs.declared.timing.Reach.{Reach}
use Rattle.office_desk.specs.Damage.{HasDamageIn, MeetsAfter, MeetsCabinetDamage, MeetsDamage, MeetsImportDamage}
use Rattle.office_desk.specs.StandFor.{StandForSound}
use Rattle.office_desk_cabinet.proofs.Undamaged.{no_damaged_inspection, no_damaged_inspections, no_damaged_order, no_damaged_used, no_damaged_part, undamaged_record}
use Rattle.office_desk_timing.proofs.{IntersectionTable.no_damaged_intersection, Stands.no_damage, Stands.no_damaged_timing}
use Rattle.office_desk.proofs.Recorded.{register_of}
use Rattle.office_machine.specs.{Office.Office, Step.cabinet_of, declared.command.Command.Command}
use Rattle.office_tables_shelf.specs.{Content.Content, RegisterStands.RegisterStandsSound}
use Rattle.draft_core.specs.declared.timing.Reach.TheVariants as reach
use Rattle.office_machine.specs.declared.command.Command.TheVariants as command

module _ (tables : Content) (office : Office) (stands : StandForSound tables office) where
  registered : RegisterStandsSound tables office.register
  registered = register_of tables office stands

  no_after : (id : ℕ) {Later : Type 0} → (Later → ⊥) → MeetsAfter tables id Later → ⊥
  no_after id later (inl row) = no_damage reach.Row tables id (inl row) office stands
  no_after id later (inr after) = later after.1

  record_refuted : (c : RecordCommand) (about : Option ℕ) → MeetsCabinetDamage tables c about → ⊥
  record_refuted c None damage = undamaged_record tables office.register registered c damage
  record_refuted c (Some id) damage =
      no_after id (undamaged_record tables office.register registered c) damage

  import_refuted : (records : List RecordCommand) → MeetsImportDamage tables records → ⊥
  import_refuted [] damage = damage
  import_refuted (c ∷ cs) damage = ⊎_elim (record_refuted c (cabinet_of c)) (import_refuted cs) damage

  row_refuted : (r : Reach) (id : ℕ) → HasDamageIn r tables id → ⊥
  row_refuted r id damage = no_damage r tables id damage office stands

  pub damage_refuted : (asked : Command) → MeetsDamage tables asked → ⊥
  damage_refuted (command.AddIntersection id interval name) row = row_refuted reach.Row id (inl row)
  damage_refuted (command.Begin id clerk) damage = row_refuted reach.Row id damage
  damage_refuted (command.Verify id clerk) damage = row_refuted reach.Row id damage
  damage_refuted (command.Reopen id clerk) damage = row_refuted reach.Row id damage
  damage_refuted (command.Abandon id clerk) damage = row_refuted reach.Drafts id damage
  damage_refuted (command.State id) damage =
      ⊎_elim (λ row. row_refuted reach.Row id (inl row)) (λ judged. row_refuted reach.Plan id judged.damage) damage
  damage_refuted (command.Timing id) damage = no_after id (λ timing. no_damaged_timing tables id timing office stands) damage
  damage_refuted (command.Record c) damage = record_refuted c (cabinet_of c) damage
  damage_refuted (command.Import records) damage = import_refuted records damage
  damage_refuted (command.Cabinet id) damage =
      no_after id (⊎_elim (no_damaged_inspection tables office.register id registered)
      (⊎_elim (no_damaged_order tables office.register id registered)
      (no_damaged_used tables office.register id registered))) damage
  damage_refuted (command.OpenOrders id) damage =
      no_after id (no_damaged_order tables office.register id registered) damage
  damage_refuted command.Stock damage = no_damaged_part tables office.register registered damage
  damage_refuted (command.Overdue day) damage =
      ⊎_elim (λ row. no_damaged_intersection tables row office stands) (no_damaged_inspections tables office.register registered) damage
  damage_refuted _ damage = row_refuted reach.Plan _ damage
