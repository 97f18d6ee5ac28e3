use Rattle.std.proofs.Common.{◌≡◌, IsTrue, false, sym, ◌∙◌, subst}
use Rattle.std.proofs.lemmas.Bool.{true_from_ne_false, both_ways}
use Rattle.sqlite.specs.View.{IsClean}
use Rattle.office_tables.specs.Arranged.{IsArranged}
use Rattle.office_tables.proofs.{ArrangedLemmas.stored_arranged}
use Rattle.office_tables.proofs.foreign.store_of.Goals as goal

pub returns-clause-taken : goal.returns-clause-taken
returns-clause-taken g c =
    let store = c.into_store-store.result in
    let it = c.into_store-store.ensures in
    let view = g.S.Store.view store in
    let unbroken : IsClean view → view.is_broken ≡ false = λ h. sym (c.is_broken.ensures h) ∙ c.if-is_broken.false in
    let opened : IsClean view → IsTrue view.is_open = λ h. true_from_ne_false _ (λ shut. both_ways _ (unbroken h) (g.met.S.Store.broken_if_shut store shut)) in
    record {
      clean = it.quiet.clean;
      was_open = λ h. (it.undone.kept h).was_open (opened h);
      fresh = λ h. record { sound = unbroken h; numbered = it.numbered h; clean = (it.undone.undone (opened h)).0 ∙ sym ((it.undone.kept h).committed (opened h)); unmarked = (it.undone.kept h).marks (opened h) };
      trees = λ h. (it.undone.undone (opened h)).0;
      crash = λ h trees may. it.quiet.outcomes trees may;
      left = λ h. subst (g.S.Store.recovers c.args.conn.store) ((it.undone.kept h).committed (opened h)) (it.quiet.outcomes _ (g.met.S.Store.stays store (opened h)));
      arranged = λ h. subst IsArranged (it.undone.undone (opened h)).0 (stored_arranged view (g.met.S.Alter.listed store (unbroken h)) (g.met.S.Store.ordered store (unbroken h)));
    }
