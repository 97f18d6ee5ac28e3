use Rattle.std.proofs.Common.{◌≡◌, ℕ, Ok, eqb, true, ap, ◌∙◌, rules, tests}
use Rattle.std.proofs.{lemmas.Iterator.items_from_collect, lemmas.Iterator.Consumers.YieldsList-at, lemmas.Iterator.Consumers.YieldsList-from_filter_map, lemmas.Iterator.Splits.YieldsList-from_slice_split}
use Rattle.signal_records.specs.{PhaseList.is_phase_list, Reading.phase_in, Reading.spelled_numbers}
use Rattle.signal_values.specs.declared.number.TheConstants.{PHASES}
use Rattle.signal_records.proofs.{Parts.bytes_found, list_reading.SpelledPhases.list.Goals.In_ok-phases}
use Rattle.signal_records.proofs.list_reading.SpelledPhases.list.Goals as goal

-- the phases that were found are those that are spelled
found : (c : In_ok-phases) → (c.in_ok-phases.phases.items ≡ spelled_numbers c.self.inside.bytes.now) × (is_phase_list PHASES (spelled_numbers c.self.inside.bytes.now) ≡ true)
found c =
    bytes_found c.self.inside.bytes.now c.in_ok-phases.phases.items
    c.if-is_empty.ensures c.self.invariant
    (items_from_collect {E = ℕ} (Ok c.in_ok-phases.phases) c.in_ok-phases.ensures.ran
    (YieldsList-from_filter_map _ phase_in
    (YieldsList-at c.filter_map.ensures.source
    (YieldsList-from_slice_split _ (λ b. eqb b 32) c.self.inside.bytes.now
    c.split-parts.ensures.rest c.split-parts.ensures.done c.split-parts.ensures.closure
    (λ x b q k. search (rules, tests))))
    c.filter_map.ensures.closure (λ x r q k. search (rules, tests))))

pub from_phases-requires-2 : goal.from_phases-requires-2
from_phases-requires-2 c =
    let it = found (goal.at.from_phases-requires-2 c).In_ok-phases in
    ap (is_phase_list PHASES) it.0 ∙ it.1

pub returns-clause-list : goal.returns-clause-list
returns-clause-list c = c.from_phases-2.ensures ∙ (found (goal.at.returns-clause-list c).In_ok-phases).0 ∙ c.self.view_is
