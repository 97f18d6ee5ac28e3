-- A record that was taken, as an office takes it.
use Rattle.std.proofs.Common.{◌≡◌, ◌∙◌, ◌++◌, true, false, List, [], refl, ap, sym, subst, arith}
use Rattle.std.specs.Prelude.{IsSome}
use Rattle.cabinet_core.specs.{Register.Register, Step.line_at, declared.command.RecordCommand.RecordCommand, declared.refusal.CabinetRefusal.CabinetRefusal}
use Rattle.office_tables_shelf.specs.{Change.changed_by, Content.Content, declared.rows.RowChange.RowChange}
use Rattle.office_tables_decisions.specs.Damage.{MeetsRecordDamage}
use Rattle.office_tables_decisions.proofs.Decisions.{refuses_so}
use Rattle.office_desk_cabinet.specs.Decides.{TakesRecord, WritesRecord, register_with, taken_by}
use Rattle.office_desk_cabinet.specs.declared.deciding.Taken.{Taken, TheVariants.Refused}
use Rattle.office_desk_cabinet.proofs.PendingLemmas.{changed_append}
use Rattle.office_desk.specs.{Checking.MeetsThere, Damage.MeetsCabinetDamage, Named.numbers_of, Recording.TellsAbout, Recording.TellsIntersection, StandFor.StandForSound, Taking.TakesNext, Taking.office_with, Taking.taken_in}
use Rattle.office_desk.proofs.Recorded.{meets_record, register_of, same_known, stands_after, unknown_named}
use Rattle.office_machine.specs.{Office.Office, Step.cabinet_of, declared.command.Command.TheVariants.Record, declared.refusal.Refusal.TheVariants.Cabinet, declared.refusal.Refusal.TheVariants.UnknownIntersection}

-- ---- a record whose intersection is not there

pub takes_unknown : (tables : Content) (c : RecordCommand) → TakesRecord false tables c (Refused UnknownIntersection) []
takes_unknown tables c = record {
  told = λ r stands. refl;
  stand = λ r stands. stands;
  leaves = record { intersection = refl; timing = refl; draft = refl };
  news = tt;
  there = λ why e. absurd cc;
}

pub writes_unknown : (c : RecordCommand) → IsSome (cabinet_of c) → WritesRecord c (Refused UnknownIntersection) []
writes_unknown c asked = record {
  writes = λ table. omega arith;
  refused = λ refused. refl;
  named = refuses_so (numbers_of (Record c)) UnknownIntersection (unknown_named (cabinet_of c) _ asked);
}

-- ---- records that were taken

-- some records were taken: with the pending rows the tables stand for the office with some register, and this holds of it
pub record Follows (stored : Content) (pending : List RowChange) (office : Office) (Goes : Office → Type 0) : Type 0 where
  pub register : Register
  pub stand : StandForSound (changed_by stored pending) (record office { register = register })
  pub goes : Goes (record office { register = register })

pub follows_none : (stored : Content) (office : Office) (Goes : Office → Type 0) → StandForSound stored office → Goes office → Follows stored [] office Goes
follows_none stored office Goes stands goes = record { register = office.register; stand = stands; goes = goes }

module _ (stored : Content) (pending : List RowChange) (c : RecordCommand) (t : Taken) (rows : List RowChange) (takes : TakesNext stored pending c t rows) where
  -- an office takes it so
  pub taken_so : (office : Office) {Goes : Office → Type 0} → StandForSound stored office → (made : Follows stored pending office Goes) → t ≡ taken_in (record office { register = made.register }) c
  taken_so office stands made =
      takes.2.told made.register (register_of _ _ made.stand)
      ∙ ap (λ known. taken_by known (line_at made.register c)) (takes.1.known office stands ∙ same_known office made.register (cabinet_of c))

  -- and goes on
  pub follows_on : (office : Office) {Goes : Office → Type 0} → (made : Follows stored pending office Goes) → (Then : Office → Type 0) → Then (office_with t (record office { register = made.register }) c)
      → Follows stored (pending ++ rows) office Then
  follows_on office made Then goes = record {
    register = register_with t made.register c;
    stand = subst (λ tables. StandForSound tables (office_with t (record office { register = made.register }) c)) (sym (changed_append stored pending rows))
        (stands_after (changed_by stored pending) rows (record office { register = made.register }) (register_with t made.register c) made.stand takes.2.leaves
        (takes.2.stand made.register (register_of _ _ made.stand)));
    goes = goes;
  }

-- a damaged row that is met where the register refuses a record
pub damage_met : (stored : Content) (pending : List RowChange) (c : RecordCommand) (t : Taken) (rows : List RowChange) → TakesNext stored pending c t rows → MeetsThere stored c t → MeetsCabinetDamage stored c (cabinet_of c)
damage_met stored pending c (Refused (Cabinet why)) rows takes damage =
    meets_record stored c (cabinet_of c) (subst (TellsAbout stored (cabinet_of c)) (takes.2.there why refl) takes.1.told) damage
damage_met stored pending c _ rows takes damage = absurd damage

-- of a record that is decided, where its intersection was found to be there before
module _ (is_honest : Type 0) (stored mid : Content) (pending : List RowChange) (c : RecordCommand) (same : is_honest → mid ≡ stored) (there : is_honest → TellsIntersection stored (cabinet_of c) true) where
  pub known_takes : (t : Taken) (rows : List RowChange) → (is_honest → TakesRecord true (changed_by mid pending) c t rows) → is_honest → TakesNext stored pending c t rows
  known_takes t rows takes honest = (true, there honest, subst (λ tables. TakesRecord true (changed_by tables pending) c t rows) (same honest) (takes honest))

  pub known_damage : (is_honest → MeetsRecordDamage mid c) → is_honest → MeetsCabinetDamage stored c (cabinet_of c)
  known_damage damage honest = meets_record stored c (cabinet_of c) (there honest).told (subst (λ tables. MeetsRecordDamage tables c) (same honest) (damage honest))
