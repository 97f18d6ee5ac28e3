use Rattle.signal_rules.proofs.Reports.{reason_shows}
use Rattle.signal_rules.proofs.explaining.reasons.Goals as goal

pub returns-clause-shows : goal.returns-clause-shows
returns-clause-shows c = λ s r why h. reason_shows c.args.set.now s r why h

pub returns-in_err-subjects_of-clause-shows : goal.returns-in_err-subjects_of-clause-shows
returns-in_err-subjects_of-clause-shows c = λ s r why h. reason_shows c.args.set.now s r why h

pub returns-in_err-push_reasons-clause-shows : goal.returns-in_err-push_reasons-clause-shows
returns-in_err-push_reasons-clause-shows c = λ s r why h. reason_shows c.args.set.now s r why h
