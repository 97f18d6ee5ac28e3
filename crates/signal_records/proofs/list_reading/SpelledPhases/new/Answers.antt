use Rattle.std.proofs.Common.{sym, ◌∙◌}
use Rattle.signal_records.specs.Reading.{parts}
use Rattle.signal_records.proofs.Parts.{spells_wider}
use Rattle.signal_records.proofs.list_reading.SpelledPhases.new.Goals as goal

pub invariant_of-result : goal.invariant_of-result
invariant_of-result c =
    let spells = sym c.spells_phases.ensures ∙ c.if-spells_phases.true in
    spells_wider c.args.last (parts c.args.bytes.now) c.requires spells
