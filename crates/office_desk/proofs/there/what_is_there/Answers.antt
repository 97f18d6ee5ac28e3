use Rattle.std.proofs.Common.{◌≡◌, ◌∙◌, ap, rules, subst, sym}
use Rattle.office_tables_shelf.specs.{Change.changed_by, Places.DamagedAt, Places.Place, Places.place_of}
use Rattle.office_tables_decisions.proofs.ReadLemmas.{handed_reports}
use Rattle.office_desk_cabinet.specs.{Registers.held_in, declared.deciding.Taken.Taken, declared.deciding.Taken.TheVariants.Refused}
use Rattle.office_desk_cabinet.proofs.Found.{stands_at}
use Rattle.office_desk.specs.Checking.{MeetsThere, there_in, told_there}
use Rattle.office_desk.proofs.TriedRecords.{damage_there}
use Rattle.office_machine.specs.declared.refusal.Refusal.{Refusal, TheVariants.Cabinet}
use Rattle.office_desk.proofs.there.what_is_there.Goals as goal

pub returns-clause-there : goal.returns-clause-there
returns-clause-there g c = λ honest r stands.
    let place = place_of c.key_told-key.result in
    let refused : c.args.taken ≡ Refused (Cabinet c.in-Refused-Cabinet.why) = search rules in
    c.in_ok-there_at.ensures
    ∙ ap (told_there place) (stands_at (changed_by (g.S.Shelf.content c.args.shelf.now) c.args.pending.now) r stands place _ (c.in_ok-found.ensures.row honest))
    ∙ ap (λ (at : Place). told_there at (held_in r at)) c.key_told-key.ensures ∙ ap (there_in r c.args.command.now) (sym refused)

pub returns-in_err-found-clause-there : goal.returns-in_err-found-clause-there
returns-in_err-found-clause-there g c = handed_reports _ _ _ _ _ c.from_residual.ensures.1 (λ damaged honest.
    let stored = g.S.Shelf.content c.args.shelf.now in
    let refused : c.args.taken ≡ Refused (Cabinet c.in-Refused-Cabinet.why) = search rules in
    subst (MeetsThere stored c.args.command.now) (sym refused) (damage_there stored c.args.command.now c.in-Refused-Cabinet.why
    (subst (DamagedAt stored) c.key_told-key.ensures (c.in_err-found.ensures.row damaged honest))))
