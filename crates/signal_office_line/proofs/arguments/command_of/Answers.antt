use Rattle.std.proofs.Common.{List, map, take, subst}
use Rattle.std.proofs.lemmas.List.{take_all}
use Rattle.signal_office_line.specs.{CommandLine.app, CommandLine.rule_for, CommandLine.ParsesAs, declared.arguments.Argument.Argument}
use Rattle.signal_office_line.proofs.CommandLemmas.{ParsesAs-arg, ParsesAs-more}
use Rattle.signal_office_line.proofs.arguments.command_of.Goals as goal

pub loop-argument-init : goal.loop-argument-init
loop-argument-init c = c.in_ok-bare.ensures

pub loop-argument-preserved : goal.loop-argument-preserved
loop-argument-preserved c =
    let name = c.args.usage.now.0.now in
    let them = c.args.usage.now.1.now in
    let so_far = map rule_for (take c.loop-argument.argument-index them) in
    ParsesAs-more rule_for _ name them c.loop-argument.argument-index _ c.loop-argument-test.true
    (ParsesAs-arg _ _ _ name so_far _ c.loop-argument.invariant c.in_ok-arg.ensures.0 c.in_ok-arg.ensures.1 c.in_ok-command.ensures)

pub returns : goal.returns
returns c =
    subst (λ (xs : List Argument). ParsesAs c.loop-argument.command (app (c.args.usage.now.0.now, map rule_for xs)))
    (take_all c.loop-argument.argument-index c.args.usage.now.1.now c.loop-argument-test.false)
    c.loop-argument.invariant
