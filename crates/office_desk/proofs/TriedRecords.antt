-- Records that are tried in turn.
use Rattle.std.proofs.Common.{◌≡◌, ◌+◌, ◌++◌, ℕ, List, [], ◌∷◌, drop, refl, ap, sym, ◌∙◌, inl, inr, append_assoc}
use Rattle.cabinet_core.specs.declared.{command.RecordCommand.RecordCommand, refusal.CabinetRefusal.CabinetRefusal}
use Rattle.office_tables_shelf.specs.{Content.Content, declared.rows.RowChange.RowChange, Places.DamagedAt}
use Rattle.office_tables_decisions.specs.Damage.{MeetsRecordDamage}
use Rattle.office_desk_cabinet.specs.declared.deciding.Taken.{Taken}
use Rattle.office_desk.specs.Checking.{ChecksRecord, checked_as, checked_from, place_told, there_in}
use Rattle.office_desk.specs.{StandFor.StandForSound, Taking.office_with, declared.checking.Checked.Checked}
use Rattle.office_desk.proofs.{Imports.IsNext, Recorded.register_of, Taking.Follows, Taking.follows_none, Taking.follows_on, Taking.taken_so}
use Rattle.office_machine.specs.Office.{Office}
use Rattle.cabinet_core.specs.declared.command.RecordCommand.TheVariants as asks
use Rattle.cabinet_core.specs.declared.refusal.CabinetRefusal.TheVariants as cabinet

-- ---- what is there

-- a damaged row there is one that the record reads
pub damage_there : (tables : Content) (c : RecordCommand) (why : CabinetRefusal) → DamagedAt tables (place_told c why) → MeetsRecordDamage tables c
damage_there tables (asks.Inspect id asked) why damage = damage
damage_there tables (asks.OpenOrder id asked) why damage = damage
damage_there tables (asks.UsePart id asked) cabinet.LineDiffers damage = inl damage
damage_there tables (asks.UsePart id asked) cabinet.NoStock damage = inr (inr damage)
damage_there tables (asks.UsePart id asked) why damage = inr (inl damage)
damage_there tables (asks.CloseOrder id number asked) why damage = damage
damage_there tables (asks.Receive asked) cabinet.DeliveryDiffers damage = inl damage
damage_there tables (asks.Receive asked) why damage = inr damage

-- ---- one after the other

-- from an office: the pending rows made a register, and the rest is checked from there
abbrev pub CheckedSoFar : (stored : Content) (all : List RecordCommand) (index : ℕ) (pending : List RowChange) (done : List Checked) → Type 0
CheckedSoFar stored all index pending done =
    (office : Office) → StandForSound stored office → Follows stored pending office (λ now. checked_from office all ≡ done ++ checked_from now (drop index all))

pub none_checked : (stored : Content) (all : List RecordCommand) → CheckedSoFar stored all 0 [] []
none_checked stored all office stands = follows_none stored office _ stands refl

pub checked_more : (stored : Content) (all : List RecordCommand) (index : ℕ) (pending rows : List RowChange) (done more : List Checked) (c : RecordCommand) (it : Checked)
    → CheckedSoFar stored all index pending done → IsNext all index c → ChecksRecord stored pending c it rows → more ≡ done ++ it ∷ []
    → CheckedSoFar stored all (index + 1) (pending ++ rows) more
checked_more stored all index pending rows done more c it so_far next (t, at, takes, tells, is) list office stands =
    let made = so_far office stands in
    let now : Office = record office { register = made.register } in
    let rest = checked_from (office_with t now c) (drop (index + 1) all) in
    let here = is ∙ ap (checked_as t) (tells made.register (register_of _ _ made.stand)) in
    follows_on stored pending c t rows takes office made (λ after. checked_from office all ≡ more ++ checked_from after (drop (index + 1) all))
    (made.goes ∙ ap (λ (cs : List RecordCommand). done ++ checked_from now cs) next.left
    ∙ ap (λ (t : Taken). done ++ checked_as t (there_in made.register c t) ∷ checked_from (office_with t now c) (drop (index + 1) all)) (sym (taken_so stored pending c t rows takes office stands made))
    ∙ ap (λ (x : Checked). done ++ x ∷ rest) (sym here) ∙ sym (append_assoc done (it ∷ []) rest) ∙ ap (λ (xs : List Checked). xs ++ rest) (sym list))
