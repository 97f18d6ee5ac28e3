use Rattle.std.proofs.Common.{◌≡◌, ◌+◌, ◌++◌, ◌∷◌, [], true, false, take, drop, refl, sym, ap, subst, ◌∙◌, arith}
use Rattle.std.proofs.lemmas.List.{take_more}
use Rattle.signal_records.specs.PhaseList.{is_phase_list}
use Rattle.signal_values.specs.declared.number.TheConstants.{PHASES}
use Rattle.signal_records.proofs.Lists.{may_follow, refused, followed, at_place}
use Rattle.signal_records.proofs.Marks.{AreMet, none_met, met_tells, met_more}
use Rattle.signal_records.proofs.phase_list.are_phases.Goals as goal

pub loop-n-init : goal.loop-n-init
loop-n-init c = record { met = none_met c.none-met.result.met c.none-met.ensures; fits = refl }

pub returns-then-not-meets : goal.returns-then-not-meets
returns-then-not-meets c =
    let ns = c.args.numbers.now in
    let i = c.loop-n.n-index in
    let n = c.from.result in
    let met = c.loop-n.invariant.met in
    let tells = met_tells PHASES n c.loop-n.met.met (take i ns) (omega arith) met in
    let may : may_follow PHASES (take i ns) n ≡ false =
    sym tells ∙ sym c.meets.ensures.told ∙ c.if-not-meets.true in
    let place = at_place ns i 0 n c.loop-n-test.true c.from.ensures in
    sym (ap (is_phase_list PHASES) place ∙ refused PHASES (take i ns) n (drop (i + 1) ns) may)

pub loop-n-preserved : goal.loop-n-preserved
loop-n-preserved c =
    let ns = c.args.numbers.now in
    let i = c.loop-n.n-index in
    let n = c.from.result in
    let front = take i ns in
    let met = c.loop-n.invariant.met in
    let tells = met_tells PHASES n c.loop-n.met.met front (omega arith) met in
    let may : may_follow PHASES front n ≡ true =
    sym tells ∙ sym c.meets.ensures.told ∙ c.if-not-meets.false in
    let next : take (i + 1) ns ≡ front ++ n ∷ [] =
    take_more ns i 0 c.loop-n-test.true ∙ ap (λ m. front ++ m ∷ []) (sym c.from.ensures) in
    let more = met_more PHASES n c.loop-n.met.met c.meets.new.self.met front (omega arith) met may
    (c.meets.ensures.met c.if-not-meets.false) in
    let fits = followed PHASES front n c.loop-n.invariant.fits may in
    record {
      met = subst (AreMet c.meets.new.self.met) (sym next) more;
      fits = ap (is_phase_list PHASES) next ∙ fits;
    }
