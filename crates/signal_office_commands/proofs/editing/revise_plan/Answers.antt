use Rattle.std.proofs.Common.{inl, rules}
use Rattle.signal_office_commands.proofs.ChangingLemmas.{asks_after, changes_none, changes_weaker}
use Rattle.signal_office_commands.proofs.EditingLemmas.{edit_answered}
use Rattle.signal_office_commands.proofs.editing.revise_plan.Goals as goal

pub returns : goal.returns
returns g c =
    changes_weaker (asks_after (edit_answered c.args.edit.now.id _ _ _ _ c.in_ok-clerk.ensures c.revise-reply.ensures) c.revised_by.ensures)
    (λ tables made both. inl (_, both.0, both.1)) (λ tables found after. after)

pub returns-in_err-clerk : goal.returns-in_err-clerk
returns-in_err-clerk g c = changes_none (λ tables. search rules)
