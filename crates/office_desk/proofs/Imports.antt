-- The records of an import, one after the other.
use Rattle.std.proofs.Common.{◌≡◌, ◌+◌, ◌++◌, ◌≤◌, ◌<◌, ◌≢◌, ℕ, Bool, true, false, List, [], ◌∷◌, Result, Err, length, drop, get_or, zero, suc, refl, ap, sym, subst, ◌∙◌, inl, inr, arith}
use Rattle.std.proofs.{Math.Seq.drop-cons, lemmas.List.drop_all}
use Rattle.std.specs.Prelude.{◌⊎◌}
use Rattle.cabinet_core.specs.{Cabinet.Line, Cabinet.added as added_line, Cabinet.same as same_line, Cabinet.refused as refused_line, Step.line_at, declared.command.RecordCommand.RecordCommand}
use Rattle.office_tables_shelf.specs.{Change.AddNew, Change.changed_by, Content.Content, Counts.writes_in, Shelf.IsTold, declared.shelf.Shelf.Ghosts, declared.shelf.ShelfFault.ShelfFault, declared.rows.RowChange.RowChange, declared.rows.Table.Table}
use Rattle.office_tables_shelf.proofs.KeptLemmas.{kept_on}
use Rattle.office_tables_decisions.specs.{Reads.OnlyReads, RecordBounds.most_record_writes, declared.decided.Decided.Decided}
use Rattle.office_tables_decisions.proofs.{Decisions.accepted_decides, ReadLemmas.HasRead}
use Rattle.office_desk_cabinet.specs.{Decides.taken_by, Pending.ComesTo, declared.deciding.Taken.Taken}
use Rattle.office_desk_cabinet.proofs.PendingLemmas.{news_after}
use Rattle.office_desk.specs.{Changes.most_import_writes, Damage.MeetsCabinetDamage, Damage.MeetsImportDamage, Deciding.IsDecision, StandFor.StandForSound, Taking.TakesNext, Taking.office_with, Taking.taken_in}
use Rattle.office_desk.proofs.{Taking.Follows, Taking.follows_none, Taking.follows_on, Taking.taken_so, Writes.import_writes}
use Rattle.office_machine.specs.Step.{answered, cabinet_of, import_by, import_from, import_step, is_known, with_recorded}
use Rattle.office_machine.specs.{Office.Office, Refusal.line_of, declared.refusal.Refusal.Refusal, declared.refusal.Refusal.TheVariants.ImportRow, declared.reply.Reply.TheVariants.Imported, declared.reply.Reply.TheVariants.Refused}
use Rattle.office_desk_cabinet.specs.declared.deciding.Taken.TheVariants as taken
use Rattle.office_machine.specs.declared.command.Command.TheVariants as command

-- ---- the records that are left

-- a record is the next of those that are left
pub record IsNext (all : List RecordCommand) (index : ℕ) (c : RecordCommand) : Type 0 where
  pub low : index < length all
  pub left : drop index all ≡ c ∷ drop (index + 1) all

pub is_next : {list all : List RecordCommand} (index : ℕ) (c : RecordCommand) → list ≡ all → index < length list → c ≡ get_or list index c → IsNext all index c
is_next {list = list} index c same low at = subst (λ (all : List RecordCommand). IsNext all index c) same (record {
  low = low;
  left = let next : suc index ≡ index + 1 = omega arith in drop-cons list index c low ∙ (λ k. sym at k ∷ drop (next k) list);
})

-- damage that one of the last records meets
damage_among : (tables : Content) (records : List RecordCommand) (n : ℕ) → MeetsImportDamage tables (drop n records) → MeetsImportDamage tables records
damage_among tables records zero damage = damage
damage_among tables [] (suc n) damage = damage
damage_among tables (c ∷ cs) (suc n) damage = inr (damage_among tables cs n damage)

pub damage_of_record : (tables : Content) (records : List RecordCommand) (n : ℕ) (c : RecordCommand) → IsNext records n c → MeetsCabinetDamage tables c (cabinet_of c) → MeetsImportDamage tables records
damage_of_record tables records n c next damage = damage_among tables records n (subst (MeetsImportDamage tables) (sym next.left) (inl damage))

writes_after : (table : Table) (pending rows : List RowChange) → writes_in table (pending ++ rows) ≡ writes_in table pending + writes_in table rows
writes_after table [] rows = omega arith
writes_after table (change ∷ pending) rows = let rest = writes_after table pending rows in omega (arith, rest)

-- the most writes of the records are those of one and of the others
pub writes_left : (table : Table) (records : List RecordCommand) (n : ℕ) (c : RecordCommand) (pending rows : List RowChange) (all : ℕ) → IsNext records n c
    → writes_in table pending + most_import_writes (drop n records) table ≤ all → writes_in table rows ≤ most_record_writes c table
    → writes_in table (pending ++ rows) + most_import_writes (drop (n + 1) records) table ≤ all
writes_left table records n c pending rows all next few step =
    let front : most_import_writes (drop n records) table ≡ most_record_writes c table + most_import_writes (drop (n + 1) records) table = ap (λ cs. most_import_writes cs table) next.left in
    omega (arith, few, step, front, writes_after table pending rows)

-- ---- from record to record

-- how an import goes on after the record of this number, counted from 1: a refused one ends it, and the cause is that refusal's number
abbrev goes_on : {X : Type 0} → (at : ℕ) → Taken → (new old : Result X Refusal) → Result X Refusal
goes_on at taken.Added new old = new
goes_on at taken.Same new old = old
goes_on at (taken.Refused why) new old = Err (ImportRow at (line_of why).number)

goes_by : {X : Type 0} (at : ℕ) (known : Bool) (line : Line) (new old : Result X Refusal) → import_by at known line new old ≡ goes_on at (taken_by known line) new old
goes_by at false line new old = refl
goes_by at true added_line new old = refl
goes_by at true same_line new old = refl
goes_by at true (refused_line why) new old = refl

-- how a record was taken, with the counts before it and after it
abbrev pub WentOn : Taken → (added same added_now same_now : ℕ) → Type 0
WentOn t added same added_now same_now =
    ((t ≡ taken.Added) × (added_now ≡ added + 1) × (same_now ≡ same))
    ⊎ ((t ≡ taken.Same) × (added_now ≡ added) × (same_now ≡ same + 1))

pub counted_on : (added same index added_now same_now : ℕ) (t : Taken) → added + same ≡ index
    → WentOn t added same added_now same_now → added_now + same_now ≡ index + 1
counted_on added same index added_now same_now t is (inl new) = let a = new.1 in let b = new.2 in omega (arith, is, a, b)
counted_on added same index added_now same_now t is (inr old) = let a = old.1 in let b = old.2 in omega (arith, is, a, b)

-- what is known before the next record, of this number counted from 0: whichever sound office the stored tables stand for, the import of all comes to what the import of
-- the rest comes to, with so many added and so many that were there; and what the pending rows add is new
pub record SoFar (stored : Content) (all : List RecordCommand) (index added same : ℕ) (pending : List RowChange) : Type 0 where
  pub imports : (office : Office) → StandForSound stored office
      → Follows stored pending office (λ now. import_from 1 0 0 office all ≡ import_from (index + 1) added same now (drop index all))
  pub news : AddNew stored pending

pub nothing_yet : (stored : Content) (all : List RecordCommand) → SoFar stored all 0 0 0 []
nothing_yet stored all = record { imports = λ office stands. follows_none stored office _ stands refl; news = tt }

module _ (stored : Content) (all : List RecordCommand) (index added same : ℕ) (pending rows : List RowChange) (c : RecordCommand) (t : Taken)
    (so_far : SoFar stored all index added same pending) (next : IsNext all index c) (takes : TakesNext stored pending c t rows) where
  -- where the record is new, and where it is there
  abbrev if_new : Office → Result (ℕ × ℕ × Office) Refusal
  if_new now = import_from (index + 1 + 1) (added + 1) same (with_recorded now c) (drop (index + 1) all)

  abbrev if_old : Office → Result (ℕ × ℕ × Office) Refusal
  if_old now = import_from (index + 1 + 1) added (same + 1) now (drop (index + 1) all)

  goes_further : (now : Office) (added_now same_now : ℕ) → WentOn t added same added_now same_now
      → goes_on (index + 1) t (if_new now) (if_old now) ≡ import_from (index + 1 + 1) added_now same_now (office_with t now c) (drop (index + 1) all)
  goes_further now added_now same_now (inl new) = rw (new.0, new.1, new.2)
  goes_further now added_now same_now (inr old) = rw (old.0, old.1, old.2)

  -- the import of all goes on as this record is taken
  goes_as : (office : Office) (stands : StandForSound stored office) → let now : Office = record office { register = (so_far.imports office stands).register } in
      import_from 1 0 0 office all ≡ goes_on (index + 1) t (if_new now) (if_old now)
  goes_as office stands =
      let made = so_far.imports office stands in
      let now : Office = record office { register = made.register } in
      made.goes ∙ ap (import_from (index + 1) added same now) next.left
      ∙ goes_by (index + 1) (is_known now (cabinet_of c)) (line_at made.register c) (if_new now) (if_old now)
      ∙ ap (λ (t : Taken). goes_on (index + 1) t (if_new now) (if_old now)) (sym (taken_so stored pending c t rows takes office stands made))

  -- one further
  pub one_more : (added_now same_now : ℕ) → WentOn t added same added_now same_now → SoFar stored all (index + 1) added_now same_now (pending ++ rows)
  one_more added_now same_now went = record {
    imports = λ office stands.
        let made = so_far.imports office stands in
        follows_on stored pending c t rows takes office made _ (goes_as office stands ∙ goes_further (record office { register = made.register }) added_now same_now went);
    news = news_after stored pending rows so_far.news takes.2.news;
  }

  -- or is refused, and refuses them all
  pub refused_all : (why : Refusal) (cause : ℕ) (office : Office) → t ≡ taken.Refused why → cause ≡ (line_of why).number → StandForSound stored office
      → answered office (command.Import all) ≡ (Refused (ImportRow (index + 1) cause), office)
  refused_all why cause office is number stands =
      let now : Office = record office { register = (so_far.imports office stands).register } in
      ap (import_step office) (goes_as office stands ∙ ap (λ (t : Taken). goes_on (index + 1) t (if_new now) (if_old now)) is)
      ∙ (λ k. (Refused (ImportRow (index + 1) (sym number k)), office))

-- every record was taken, and rows are written that come to those that are pending
pub import_decides : (is_honest : Type 0) (stored : Content) (all : List RecordCommand) (index added same : ℕ) (pending : List RowChange) (decided : Decided) → length all ≤ index
    → (is_honest → SoFar stored all index added same pending) → ((table : Table) → writes_in table pending + most_import_writes (drop index all) table ≤ most_import_writes all table)
    → ComesTo pending decided.changes.items → decided.reply ≡ Imported added same → IsDecision is_honest stored (command.Import all) decided
import_decides is_honest stored all index added same pending decided high so_far few comes told =
    accepted_decides is_honest stored (command.Import all) (Imported added same) decided.changes.items decided told refl (λ refused. refused) (λ query. query)
    (λ honest office stands.
    let done = (so_far honest).imports office stands in
    let next : Office = record office { register = done.register } in
    record {
      next = next;
      step = inr (ap (import_step office) (done.goes ∙ ap (import_from (index + 1) added same next) (drop_all index all high)));
      stand = subst (λ tables. StandForSound tables next) (sym (comes.makes stored)) done.stand;
    })
    (λ honest. import_writes stored all decided.changes.items (λ table. let most = few table in let fewer = comes.writes table in omega (arith, most, fewer)))
    (λ honest. comes.news stored (so_far honest).news)

-- ---- on a clean disk

-- the first record is read, and a later one leaves open what was open
pub taken_reads : {S A B : Type 0} (g : Ghosts S) (reads : Type 0) (pending : List RowChange) (index : ℕ) (given : Result A ShelfFault) (result : Result B ShelfFault) (old mid new : S)
    → (index ≡ 0 → pending ≡ []) → HasRead g (index ≢ 0) old mid → OnlyReads g (pending ≡ []) given mid new → (IsTold result → IsTold given) → OnlyReads g reads result old new
taken_reads g reads pending index given result old mid new fresh before taken tells = record {
  kept = kept_on _ _ _ _ old mid new before.kept taken.kept;
  clean_before = λ clean. before.clean_before (taken.clean_before clean);
  stays = λ clean told honest. now_open index fresh before clean (tells told);
  read = λ reading clean told. now_open index fresh before clean (tells told);
}
  where
    now_open : (n : ℕ) → (n ≡ 0 → pending ≡ []) → HasRead g (n ≢ 0) old mid → g.is_clean new → IsTold given → g.is_honest new
    now_open zero fresh before clean told = taken.read (fresh refl) clean told
    now_open (suc n) fresh before clean told =
        taken.stays clean told (before.read (λ e. let never : ⊥ = omega (arith, e) in never) (taken.clean_before clean) tt)

pub none_next : (records : List RecordCommand) (n : ℕ) (c : RecordCommand) → IsNext records n c → records ≢ []
none_next records n c next none = let few = ap (λ (list : List RecordCommand). length list) none in omega (arith, next.low, few)

-- of no records none was taken
pub none_taken : (all list : List RecordCommand) (index : ℕ) → list ≡ all → index ≤ length list → all ≡ [] → index ≡ 0
none_taken all list index same low none = let size = ap (λ (list : List RecordCommand). length list) (same ∙ none) in omega (arith, size, low)

-- after the last of some records, some were read
pub some_read : (records : List RecordCommand) (n : ℕ) → length records ≤ n → records ≢ [] → n ≢ 0
some_read [] n high some = absurd (some refl)
some_read (c ∷ cs) n high some = λ e. let never : ⊥ = omega (arith, high, e) in never
