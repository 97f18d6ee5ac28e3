use Rattle.std.proofs.Common.{Some, ap, ◌∙◌}
use Rattle.std.specs.Option.{option_map}
use Rattle.signal_records.specs.declared.{state.Holder.Holder, state.Stage.Stage}
use Rattle.office_tables_decisions.proofs.ReadLemmas.{handed_reports}
use Rattle.office_desk_timing.proofs.Shown.{no_verdict, verdict_found}
use Rattle.office_desk_timing.proofs.showing.verdict_at.Goals as goal

pub returns-in_default-2-clause-verdict : goal.returns-in_default-2-clause-verdict
returns-in_default-2-clause-verdict g c = λ honest.
    no_verdict _ c.args.id c.args.row.now _ (rw c.in_default-2.is at (c.in_ok-found.ensures.found honest))

pub returns-clause-verdict : goal.returns-clause-verdict
returns-clause-verdict g c = λ honest.
    verdict_found _ c.args.id c.args.row.now c.in-Some-2.found c.in_ok-verdict.field-0
    (rw c.in-Some-2.is at (c.in_ok-found.ensures.found honest)) c.in_ok-verdict.ensures

pub returns-in_err-found-clause-verdict : goal.returns-in_err-found-clause-verdict
returns-in_err-found-clause-verdict g c = handed_reports _ _ _ _ _ c.from_residual.ensures.1
    (λ damaged honest. (
      ap (option_map (λ (holder : Holder). holder.stage)) c.in-Some.is ∙ ap (λ (stage : Stage). Some stage) c.in-Done.is,
      c.in_err-found.ensures.found damaged honest,
    ))
