-- What a call that only asks an office promises.
use Rattle.std.specs.Prelude.{◌≡◌, ◌⊎◌, Result, Ok, Err, ⊤}
use Rattle.office_desk.specs.{Answers.AnswersAny, Damage.MeetsDamage, Named.IsNamedFor}
use Rattle.office_machine.specs.declared.{command.Command.Command, refusal.Refusal.Refusal, refusal.Refusal.TheVariants.Damaged, refusal.Refusal.TheVariants.Unavailable, reply.Reply.Reply, reply.Reply.TheVariants.Refused}
use Rattle.office_tables_shelf.specs.{Content.Content, Keeps.KeepsShelf, declared.shelf.Shelf.Ghosts}

-- where its database is open, the shelf holds these tables
abbrev pub HoldsTables : {S : Type 0} → Ghosts S → S → Content → Type 0
HoldsTables g shelf tables = g.is_honest shelf → g.content shelf ≡ tables

-- Where the disk has returned what was written, this is said of the tables that the database held before, if it was open then; and of any tables, if it was
-- shut.
abbrev pub TellsTables : {S : Type 0} → Ghosts S → (old new : S) → (Content → Type 0) → Type 0
TellsTables g old new Says = g.is_clean new → (tables : Content) → HoldsTables g old tables → Says tables

-- An office was only asked: its shelf is as it was, the call makes no disk clean again, and on a clean disk `Says` holds of the tables that the database held,
-- if it was open, and of any tables, if it was shut.
pub record OnlyLooks {S : Type 0} (g : Ghosts S) (old new : S) (Says : Content → Type 0) : Type 0 where
  pub kept : KeepsShelf g old new
  pub clean : g.is_clean new → g.is_clean old
  pub tells : TellsTables g old new Says

-- an office was only asked, and nothing is said of what was answered
abbrev pub KeepsOffice : {S : Type 0} → Ghosts S → (old new : S) → Type 0
KeepsOffice g old new = OnlyLooks g old new (λ _. ⊤)

-- A read gives what is said of it, or is refused: with Unavailable, for want of memory or by the shelf, or with Damaged, where a row that it reads is no record.
abbrev pub Gives : {A : Type 0} → Result A Refusal → (Says : A → Type 0) → (damage : Type 0) → Type 0
Gives (Ok it) Says damage = Says it
Gives (Err why) Says damage = (why ≡ Unavailable) ⊎ ((why ≡ Damaged) × damage)

-- the reply that a read stands for: what it shows, or its refusal
abbrev pub reply_to : {A : Type 0} → (show : A → Reply) → Result A Refusal → Reply
reply_to show (Ok it) = show it
reply_to show (Err why) = Refused why

-- A query was answered, whichever sound office the tables stand for. Damaged is replied only where a row that it reads is no record; and a refusal is one that
-- is named for the query, Unavailable or Damaged.
pub record IsReply (tables : Content) (query : Command) (reply : Reply) : Type 0 where
  pub step : AnswersAny tables query reply tables
  pub named : IsNamedFor query reply
  pub damaged : reply ≡ Refused Damaged → MeetsDamage tables query

-- an office was only asked this query, and replied so
abbrev pub ReadsOffice : {S : Type 0} → Ghosts S → (old new : S) → Command → Reply → Type 0
ReadsOffice g old new query reply = OnlyLooks g old new (λ tables. IsReply tables query reply)
