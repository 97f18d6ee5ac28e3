use Rattle.std.proofs.Common.{ap, ◌∙◌}
use Rattle.std.proofs.lemmas.Result.{IfOk-weaker}
use Rattle.clap.specs.declared.builder.arg.Arg.{Arg}
use Rattle.signal_office_line.specs.CommandLine.{tie}
use Rattle.signal_office_line.proofs.CommandLemmas.{tied_by_conflict, tied_by_lack, tied_by_need}
use Rattle.signal_office_line.proofs.arguments.given_as.Goals as goal

pub returns-in-With : goal.returns-in-With
returns-in-With c =
    rw c.in-With.is
    (IfOk-weaker c.requires_arg.result _ _
    (λ r adds. (tied_by_need c.args.arg r _ adds, ap (λ (arg : Arg). arg.global) adds.0)) c.requires_arg.ensures)

pub returns-in-Without : goal.returns-in-Without
returns-in-Without c =
    rw c.in-Without.is
    (IfOk-weaker c.conflicts_with.result _ _
    (λ r adds. (tied_by_conflict c.args.arg r _ adds, ap (λ (arg : Arg). arg.global) adds.0)) c.conflicts_with.ensures)

pub returns-in-Unless : goal.returns-in-Unless
returns-in-Unless c =
    rw c.in-Unless.is
    (IfOk-weaker c.required_unless_present.result _ _
    (λ r adds. (tied_by_lack c.args.arg r _ adds, ap (λ (arg : Arg). arg.global) adds.0)) c.required_unless_present.ensures)

pub returns-in_ok-required_unless_present-in-InsteadOf : goal.returns-in_ok-required_unless_present-in-InsteadOf
returns-in_ok-required_unless_present-in-InsteadOf c =
    let lacking = c.in_ok-required_unless_present-in-InsteadOf.field-0 in
    let lacks = c.in_ok-required_unless_present-in-InsteadOf.ensures in
    rw c.in-InsteadOf.is
    (IfOk-weaker c.conflicts_with-in-InsteadOf.result _ _
    (λ r adds. (
      tied_by_conflict lacking r _ adds ∙ ap tie (tied_by_lack c.args.arg lacking _ lacks),
      ap (λ (arg : Arg). arg.global) adds.0 ∙ ap (λ (arg : Arg). arg.global) lacks.0,
    )) c.conflicts_with-in-InsteadOf.ensures)
