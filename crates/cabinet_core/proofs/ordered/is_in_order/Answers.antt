use Rattle.std.proofs.Common.{◌≡◌, ◌-◌, true, false, ap, arith, refl, ◌∙◌}
use Rattle.std.proofs.lemmas.List.{get_or_default, Sorted.IsNonDecreasingBy-from_all_adjacent}
use Rattle.cabinet_core.proofs.ordered.is_in_order.Goals as goal

pub returns-then-place : goal.returns-then-place
returns-then-place g c =
    let i = c.loop-next.next - 1 in
    let x = c.index-list-next-in-loop-next.result in
    let y = c.index-list-next.result in
    let first = c.place-in-loop-next.ensures
    ∙ ap g.T.Placed.place (c.index-list-next-in-loop-next.is
    ∙ get_or_default c.args.list.now i x y (omega arith)) in
    let second = c.place.ensures ∙ ap g.T.Placed.place c.index-list-next.is in
    let below = c.if-place.true in (
      λ (out : false ≡ true). absurd cc,
      λ up. let rises = up i c.loop-next.next y (omega arith) (omega arith) in
          absurd (omega arith),
    )

pub returns : goal.returns
returns g c = (
  λ _. IsNonDecreasingBy-from_all_adjacent g.T.Placed.place c.args.list.now
      (λ k d before. c.loop-next.invariant k d (omega arith)),
  λ _. refl,
)
