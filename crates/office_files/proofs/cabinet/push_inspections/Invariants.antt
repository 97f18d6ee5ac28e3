use Rattle.std.proofs.Common.{◌≡◌, ◌++◌, map, take}
use Rattle.cabinet_core.specs.declared.command.RecordCommand.TheVariants as command
use Rattle.office_files.proofs.cabinet.push_inspections.Given as goal

abbrev pub invariant-loop-inspection : goal.invariant-loop-inspection
invariant-loop-inspection l =
    l.commands.items ≡ l.fn.commands.items ++ map (command.Inspect l.id) (take l.inspection-index l.inspections)
