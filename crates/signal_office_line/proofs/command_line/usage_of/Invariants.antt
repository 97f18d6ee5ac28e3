use Rattle.std.proofs.Common.{◌≡◌, map, drop}
use Rattle.std.specs.Prelude.{find}
use Rattle.std.specs.Str.{bytes_eq}
use Rattle.signal_office_line.specs.CommandLine.{Words, commands, usage_as}
use Rattle.signal_office_line.proofs.command_line.usage_of.Given as goal

-- the command is one of those that are to come
abbrev pub invariant-loop-usage : goal.invariant-loop-usage
invariant-loop-usage l =
    find (λ (command : Words). bytes_eq command.0 l.name) commands
    ≡ find (λ (command : Words). bytes_eq command.0 l.name) (map usage_as (drop l.usage-index l.usages))
