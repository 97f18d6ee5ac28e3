use Rattle.std.proofs.Common.{map, take}
use Rattle.signal_office_line.specs.{CommandLine.app, CommandLine.rule_for, CommandLine.ParsesAs}
use Rattle.signal_office_line.proofs.arguments.command_of.Given as goal

-- the command has the arguments that came so far
abbrev pub invariant-loop-argument : goal.invariant-loop-argument
invariant-loop-argument l =
    ParsesAs l.command (app (l.usage.0.now, map rule_for (take l.argument-index l.arguments)))
