-- What running commands promises, of the shelf before and after them.
use Rattle.std.specs.Prelude.{◌≡◌, ◌≢◌, ◌≤◌, ◌⊎◌, ℕ, List, [], Result, Ok, Err}
use Rattle.office_tables_shelf.specs.{Change.AddNew, Change.changed_by, Content.Content, Counts.counts_after, Counts.writes_in, declared.rows.RowChange.RowChange, declared.rows.Table.Table, declared.shelf.Shelf.Ghosts, declared.shelf.ShelfFault.ShelfFault, declared.shelf.ShelfFault.TheVariants.Damaged as ShelfDamaged}
use Rattle.office_desk.specs.{Answers.AnswersAny, Answers.EndsIn, Asks.OnlyLooks, Asks.TellsTables, Changes.IsQueryCommand, Changes.IsRefused, Changes.most_writes, Damage.MeetsDamage, Named.IsNamedFor}
use Rattle.office_machine.specs.{Office.Office, Office.IsSound, Office.side_at, Step.AreSound, Step.Run, Timing.running_plan, RegisterRuns.RegisterRuns, Repeats.Repeats, declared.command.Command.Command, declared.refusal.Refusal.TheVariants.Damaged, declared.refusal.Refusal.TheVariants.Unavailable, declared.reply.Reply.Reply, declared.reply.Reply.TheVariants.Refused}
use Rattle.office_tables_decisions.specs.{declared.decided.Decided.Decided, StandFor.StandForSound}
use Rattle.signal_plans.specs.StreetLaws.{StreetLaws}

-- Where the disk has returned what was written, this holds of the tables that the database held before (any tables, if it was shut) and of some that were
-- made of them, which are those that it holds now, if it is open.
abbrev pub MakesTables : {S : Type 0} → Ghosts S → (old new : S) → (Content → Content → Type 0) → Type 0
MakesTables g old new Makes = TellsTables g old new (λ tables. EndsIn (g.is_honest new) (g.content new) (Makes tables))

-- ---- a decision

-- A COMMAND WAS ANSWERED, on these tables: the reply and what the rows make of the tables are one step; the rows are at most those of the kind of command, and
-- none where it is refused or only asks; where one is added, none stands under its key; a refusal is one that is named for the command, Unavailable, or
-- Damaged, which tells only of a row that the command reads and that is no record.
pub record IsAnswerTo (tables : Content) (command : Command) (decided : Decided) : Type 0 where
  pub step : AnswersAny tables command decided.reply (changed_by tables decided.changes.items)
  pub writes : (table : Table) → writes_in table decided.changes.items ≤ most_writes tables command table
  pub news : AddNew tables decided.changes.items
  pub refused : IsRefused decided.reply → decided.changes.items ≡ []
  pub query : IsQueryCommand command → decided.changes.items ≡ []
  pub named : IsNamedFor command decided.reply
  pub damaged : decided.reply ≡ Refused Damaged → MeetsDamage tables command

-- ---- rows that are written

-- the rows that were written: all of them, or none where that was refused
abbrev pub rows_made : Result Unit ShelfFault → List RowChange → List RowChange
rows_made (Ok made) rows = rows
rows_made (Err why) rows = []

-- ALL ROWS ARE WRITTEN, OR NONE. Once some were, the database is still open on a clean disk, and a crash leaves the tables of now alone; else it leaves what it
-- could leave before, or the tables with all rows. This makes no disk clean again, and opens no database.
pub record AppliesRows {S : Type 0} (g : Ghosts S) (rows : List RowChange) (result : Result Unit ShelfFault) (old new : S) : Type 0 where
  pub clean : g.is_clean new → g.is_clean old
  pub honest : g.is_honest new → g.is_honest old
  pub made : g.is_honest new → g.content new ≡ changed_by (g.content old) (rows_made result rows)
  pub counted : g.written new ≡ counts_after (g.written old) (rows_made result rows)
  pub still_open : g.is_clean new → rows_made result rows ≢ [] → g.is_honest new
  pub settled : rows_made result rows ≢ [] → (tables : Content) → g.may_leave new tables → tables ≡ g.content new
  pub crash : (tables : Content) → g.may_leave new tables → g.may_leave old tables
      ⊎ (g.is_honest old × (tables ≡ changed_by (g.content old) rows) × (rows ≢ []))
  pub idle : rows ≡ [] → (new ≡ old) × (result ≡ Ok tt)
  pub undamaged : result ≢ Err ShelfDamaged

-- the reply of a decision is told where its rows are written, Unavailable where that is refused
abbrev pub reply_made : Result Unit ShelfFault → Reply → Reply
reply_made (Ok made) said = said
reply_made (Err why) said = Refused Unavailable

-- the rows of a decision are written, or none, and it is replied so
pub record CarriesOut {S : Type 0} (g : Ghosts S) (decided : Decided) (reply : Reply) (old new : S) : Type 0 where
  pub made : Result Unit ShelfFault
  pub writes : AppliesRows g decided.changes.items made old new
  pub told : reply ≡ reply_made made decided.reply

-- WHAT WAS ASKED IS DONE, all of it or none: it was decided by reads alone, and then carried out
pub record WasDone {S : Type 0} (g : Ghosts S) (Decides : Content → Decided → Type 0) (reply : Reply) (old new : S) : Type 0 where
  pub decided : Decided
  pub mid : S
  pub looks : OnlyLooks g old mid (λ tables. Decides tables decided)
  pub carried : CarriesOut g decided reply mid new

-- a command was run
abbrev pub IsRun : {S : Type 0} → Ghosts S → Command → Reply → (old new : S) → Type 0
IsRun g command = WasDone g (λ tables. IsAnswerTo tables command)

-- ---- what was done

-- What was asked was answered, and Damaged is replied only where a row Meets damage.
pub record WasAnswered (Answers : Content → Reply → Content → Type 0) (Meets : Content → Type 0) (old : Content) (given : Reply) (new : Content) : Type 0 where
  pub step : Answers old given new
  pub damaged : given ≡ Refused Damaged → Meets old

-- a command, whichever sound office the tables stood for
abbrev pub Answered : Content → (asked : Command) → (given : Reply) → Content → Type 0
Answered old asked given new = WasAnswered (λ tables. AnswersAny tables asked) (λ tables. MeetsDamage tables asked) old given new

-- On a clean disk a stop leaves only what it could leave before, or tables that are After those that an open database held before.
abbrev pub StopLeaves : {S : Type 0} → Ghosts S → (old new : S) → (Content → Content → Type 0) → Type 0
StopLeaves g old new After =
    TellsTables g old new (λ tables. (found : Content) → g.may_leave new found → g.may_leave old found ⊎ After tables found)

-- ---- what a run of commands means

-- in every sound office, each committed timing set keeps the laws of the street
abbrev pub KeepsTheStreet : Type 0
KeepsTheStreet = (office : Office) → IsSound office → (id : ℕ) → StreetLaws (side_at office id).committed

-- from an office, the replies are those of a run, each office of which is sound, and the tables stand for the last
pub record Reaches (office : Office) (commands : List Command) (replies : List Reply) (tables : Content) : Type 0 where
  pub last : Office
  pub run : Run office commands replies last
  pub sound : AreSound office commands replies last run
  pub stand : StandForSound tables last

-- Such a run keeps the laws. Each committed set of the last office keeps the laws of the street, and is the draft as it stood just before its last accepted commit, or
-- what it was at the start (empty where there was no intersection). Orders and stock are what the accepted commands of the register made of them. An import that
-- was accepted and is sent again adds nothing.
pub record RunsTo (office : Office) (commands : List Command) (replies : List Reply) (tables : Content) : Type 0 where
  pub reached : Reaches office commands replies tables
  pub street : (id : ℕ) → StreetLaws (side_at reached.last id).committed
  pub running : (id : ℕ) → (side_at reached.last id).committed ≡ running_plan id (side_at office id).committed office commands replies reached.last reached.run
  pub register : RegisterRuns office commands replies reached.last reached.run
  pub repeats : Repeats office commands replies reached.last reached.run

-- Whichever sound office the old tables stand for, the replies and the new tables are a run of it.
abbrev pub RunsAny : Content → List Command → List Reply → Content → Type 0
RunsAny old commands replies new = (office : Office) → StandForSound old office → RunsTo office commands replies new
