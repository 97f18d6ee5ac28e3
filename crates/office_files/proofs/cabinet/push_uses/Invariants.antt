use Rattle.std.proofs.Common.{◌≡◌, ◌++◌, map, take}
use Rattle.std.specs.List.{filter}
use Rattle.cabinet_core.specs.declared.command.RecordCommand.TheVariants as command
use Rattle.office_files.specs.Records.{is_line_of}
use Rattle.office_files.proofs.cabinet.push_uses.Given as goal

abbrev pub invariant-loop-line : goal.invariant-loop-line
invariant-loop-line l =
    l.commands.items ≡ l.fn.commands.items ++ map (command.UsePart l.id) (filter (is_line_of l.order) (take l.line-index l.lines))
