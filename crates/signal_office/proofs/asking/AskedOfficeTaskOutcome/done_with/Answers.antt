use Rattle.std.proofs.Common.{ap, ◌∙◌}
use Rattle.office_desk.proofs.Looks.{keeps_then}
use Rattle.signal_office.proofs.RequestLemmas.{does_change, does_look}
use Rattle.signal_office.proofs.asking.AskedOfficeTaskOutcome.done_with.Goals as goal
use Rattle.signal_office.specs.Requests.{effect_of}
use Rattle.signal_office_commands.proofs.ChangingLemmas.{looks_first, changes_weaker}
use Rattle.signal_office_line.specs.declared.job.Request.TheVariants as request

pub returns-in-Show : goal.returns-in-Show
returns-in-Show g c = does_look _ (ap (λ it. effect_of it c.args.self.now.text.now) c.in-Show.is) c.report.ensures

pub returns-in-Fill : goal.returns-in-Fill
returns-in-Fill g c = does_look _ (ap (λ it. effect_of it c.args.self.now.text.now) c.in-Fill.is) c.fill_folder.ensures

pub returns-in-Add : goal.returns-in-Add
returns-in-Add g c = does_change _ _ _ _ _ (ap (λ it. effect_of it c.args.self.now.text.now) c.in-Add.is) c.add.ensures c.reply_outcome.ensures

pub returns-then-tried : goal.returns-then-tried
returns-then-tried g c =
    does_look _ (ap (λ it. effect_of it c.args.self.now.text.now) (c.in-Import.is ∙ ap (request.Import c.in-Import.csv c.in-Import.until) c.if-tried.true)) (keeps_then c.note_records.ensures c.check.ensures)

pub returns-else-tried : goal.returns-else-tried
returns-else-tried g c =
    does_change _ _ _ _ _ (ap (λ it. effect_of it c.args.self.now.text.now) (c.in-Import.is ∙ ap (request.Import c.in-Import.csv c.in-Import.until) c.if-tried.false)) (changes_weaker (looks_first c.note_records.ensures c.import.ensures) (λ tables made both. both.1) (λ tables found after. after)) c.reply_outcome-else-tried.ensures

pub returns-in-Edit : goal.returns-in-Edit
returns-in-Edit g c = does_change _ _ _ _ _ (ap (λ it. effect_of it c.args.self.now.text.now) c.in-Edit.is) c.edit.ensures c.edit_outcome.ensures

pub returns-in-Abandon : goal.returns-in-Abandon
returns-in-Abandon g c = does_change _ _ _ _ _ (ap (λ it. effect_of it c.args.self.now.text.now) c.in-Abandon.is) c.abandon.ensures c.print_outcome-in-Abandon.ensures
