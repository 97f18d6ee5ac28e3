use Rattle.std.proofs.Common.{◌≡◌, ℕ, List, ◌∷◌, ◌++◌, true, false, eqb, refl, sym, ap, ◌∙◌, rules, tests, of_calls}
use Rattle.std.specs.Str.Parse.{digits_value}
use Rattle.std.proofs.{lemmas.Iterator.Splits.YieldsList-from_slice_split, lemmas.Iterator.Consumers.YieldsList-at, lemmas.List.map_push}
use Rattle.signal_records.specs.Reading.{parts, texts}
use Rattle.signal_records.proofs.{Lists.may_follow, Marks.none_met, Marks.met_tells, Marks.met_more, Parts.values, Parts.spells}
use Rattle.signal_records.proofs.Parts.{split_turn, split_end, no_numeral, no_phase, small_phase, one_more}
use Rattle.signal_records.proofs.list_reading.spells_phases.Goals.{In-Some}
use Rattle.signal_records.proofs.list_reading.spells_phases.Goals as goal

pub loop-part-init : goal.loop-part-init
loop-part-init c = record {
  can_next = search of_calls;
  finite = search of_calls;
  met = none_met c.none-met.result.met c.none-met.ensures;
  fits = refl;
}

-- a turn: the parts so far, this one, and others
turn : (c : In-Some) → (rest : List (List ℕ)) × (parts c.args.bytes.now ≡ texts c.loop-part.yielded ++ c.in-Some.part.now ∷ rest)
turn c =
    split_turn c.args.bytes.now c.if-is_empty.ensures
    (YieldsList-at c.into_iter-part-iterator.ensures.into_iter_gives
    (YieldsList-from_slice_split _ (λ b. eqb b 32) c.args.bytes.now c.split-part-items.ensures.rest
    c.split-part-items.ensures.done c.split-part-items.ensures.closure
    (λ x b q k. search (rules, tests))))
    c.loop-part.yielded _ c.loop-part.yielded_by _ c.next.new.self
    c.in-Some.part c.in-Some.is c.next.ensures.steps

pub returns-in_default : goal.returns-in_default
returns-in_default c =
    let ts = texts c.loop-part.yielded in
    let t = c.in-Some.part.now in
    let here = turn (goal.at.returns-in_default c).In-Some in
    let fails = no_numeral c.args.last ts t here.0 c.in_default.ensures.none in
    sym (ap (spells c.args.last) here.1 ∙ fails)

pub returns-then-not-meets : goal.returns-then-not-meets
returns-then-not-meets c =
    let last = c.args.last in
    let n = c.in-Some-numeral.n in
    let ts = texts c.loop-part.yielded in
    let t = c.in-Some.part.now in
    let here = turn (goal.at.returns-then-not-meets c).In-Some in
    let so_far = c.loop-part.invariant in
    let tells = met_tells last n c.loop-part.met.met (values ts) c.requires so_far.met in
    let may : may_follow last (values ts) n ≡ false =
    sym tells ∙ sym c.meets.ensures.told ∙ c.if-not-meets.true in
    let fails = no_phase last c.requires ts t here.0 n c.in-Some-numeral.ensures.value may in
    sym (ap (spells last) here.1 ∙ fails)

pub loop-part-preserved : goal.loop-part-preserved
loop-part-preserved c =
    let last = c.args.last in
    let n = c.in-Some-numeral.n in
    let ts = texts c.loop-part.yielded in
    let t = c.in-Some.part.now in
    let so_far = c.loop-part.invariant in
    let tells = met_tells last n c.loop-part.met.met (values ts) c.requires so_far.met in
    let may : may_follow last (values ts) n ≡ true =
    sym tells ∙ sym c.meets.ensures.told ∙ c.if-not-meets.false in
    let value = c.in-Some-numeral.ensures.value in
    let same = small_phase last c.requires (values ts) (digits_value 10 t) n value may in
    let met = met_more last n c.loop-part.met.met c.meets.new.self.met (values ts) c.requires
    so_far.met may (c.meets.ensures.met c.if-not-meets.false) in
    let fits = one_more last ts t so_far.fits c.in-Some-numeral.ensures.some (rw same at may) in
    record {
      can_next = search of_calls;
      finite = search of_calls;
      met = rw (map_push, map_push, ← same) met;
      fits = rw map_push fits;
    }

pub returns : goal.returns
returns c =
    let whole = split_end
    c.args.bytes.now c.if-is_empty.ensures
    (YieldsList-at c.into_iter-part-iterator.ensures.into_iter_gives
    (YieldsList-from_slice_split _ (λ b. eqb b 32) c.args.bytes.now c.split-part-items.ensures.rest
    c.split-part-items.ensures.done c.split-part-items.ensures.closure
    (λ x b q k. search (rules, tests))))
    c.loop-part.yielded _ c.loop-part.yielded_by _ c.next.new.self
    c.in-None.is c.next.ensures.steps in
    sym (ap (spells c.args.last) whole ∙ c.loop-part.invariant.fits)
