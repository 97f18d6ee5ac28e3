use Rattle.std.proofs.Common.{sym}
use Rattle.std.proofs.lemmas.List.{take-map}
use Rattle.signal_office_faults.proofs.width.front.Goals as goal

pub returns-then-width-fields : goal.returns-then-width-fields
returns-then-width-fields c = sym (take-map (λ field. field.now) c.args.width c.args.fields.now)
