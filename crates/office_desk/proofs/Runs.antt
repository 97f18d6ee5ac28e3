-- From a decision to what was done, and from steps to runs.
use Rattle.std.proofs.Common.{◌≡◌, ◌≢◌, ◌⊎◌, List, [], ◌∷◌, ◌++◌, Result, Ok, Err, refl, ap, sym, subst, ◌∙◌, inl, inr}
use Rattle.office_desk.specs.{Answers.AnswersAny, Answers.StandsAfterStep, StandFor.StandForSound}
use Rattle.office_desk.specs.Running.{Answered, IsAnswerTo, WasDone, IsRun, MakesTables, Reaches, RunsAny, StopLeaves, WasAnswered, reply_made, rows_made}
use Rattle.office_desk.proofs.{Answering.unavailable_answers, RegisterLaws.runs_register, Repeats.runs_repeat, Street.keeps_the_street, TimingLaw.runs_timing}
use Rattle.office_machine.specs.{Step.AreSound, Step.Step, Step.Run, Office.Office, Office.IsSound, declared.command.Command.Command, declared.reply.Reply.Reply, declared.refusal.Refusal.TheVariants.Damaged, declared.refusal.Refusal.TheVariants.Unavailable, declared.reply.Reply.TheVariants.Refused}
use Rattle.office_tables_decisions.specs.declared.decided.Decided.{Decided}
use Rattle.office_tables_shelf.specs.{Change.changed_by, Content.Content, declared.rows.RowChange.RowChange, declared.shelf.Shelf.Ghosts, declared.shelf.ShelfFault.ShelfFault}

pub none_or_some : (changes : List RowChange) → (changes ≡ []) ⊎ (changes ≢ [])
none_or_some [] = inl refl
none_or_some (x ∷ xs) = inr (λ e. cc)

-- ---- what was done

module _ {S : Type 0} {g : Ghosts S} {Decides : Content → Decided → Type 0} {reply : Reply} {old new : S} (it : WasDone g Decides reply old new) where
  pub done_clean : g.is_clean new → g.is_clean old
  done_clean clean = it.looks.clean (it.carried.writes.clean clean)

  pub done_honest : g.is_honest new → g.is_honest old
  done_honest honest = it.looks.kept.honest_before (it.carried.writes.honest honest)

  -- what a decision makes of the tables, by its rows that were written
  pub done_makes : (Makes : Content → Content → Type 0) → ((tables : Content) → Decides tables it.decided → Makes tables (changed_by tables (rows_made it.carried.made it.decided.changes.items)))
      → MakesTables g old new Makes
  done_makes Makes makes clean tables held =
      let rows = rows_made it.carried.made it.decided.changes.items in (
        changed_by tables rows,
        makes tables (it.looks.tells (it.carried.writes.clean clean) tables held),
        λ honest.
            let before = it.carried.writes.honest honest in
            it.carried.writes.made honest ∙ ap (λ t. changed_by t rows) (it.looks.kept.same_content before ∙ held (it.looks.kept.honest_before before)),
      )

  -- a stop leaves what it could leave before, or what all rows of the decision make of the tables
  pub done_stops : (After : Content → Content → Type 0)
      → ((tables : Content) → Decides tables it.decided → it.decided.changes.items ≢ [] → After tables (changed_by tables it.decided.changes.items))
      → StopLeaves g old new After
  done_stops After after clean tables held found may = elim (it.carried.writes.crash found may) [
    | inl before ↦ inl (it.looks.kept.same_outcomes found before)
    | inr made ↦
        let same = it.looks.kept.same_content made.0 ∙ held (it.looks.kept.honest_before made.0) in
        inr (subst (After tables) (sym (made.1 ∙ ap (λ t. changed_by t it.decided.changes.items) same))
        (after tables (it.looks.tells (it.carried.writes.clean clean) tables held) made.2))
  ]

-- ---- one command

pub was_answered : (Answers : Content → Reply → Content → Type 0) (Meets : Content → Type 0) (tables : Content) (decided : Decided) (made : Result Unit ShelfFault)
    → Answers tables decided.reply (changed_by tables decided.changes.items) → Answers tables (Refused Unavailable) tables → (decided.reply ≡ Refused Damaged → Meets tables)
    → WasAnswered Answers Meets tables (reply_made made decided.reply) (changed_by tables (rows_made made decided.changes.items))
was_answered Answers Meets tables decided (Ok made) step unavailable meets = record { step = step; damaged = meets }
was_answered Answers Meets tables decided (Err why) step unavailable meets = record { step = unavailable; damaged = λ told. absurd cc }

-- the changes of an answer make the office after the command's own step
after_step : (tables : Content) (command : Command) (decided : Decided) → IsAnswerTo tables command decided → decided.changes.items ≢ []
    → StandsAfterStep tables command (changed_by tables decided.changes.items)
after_step tables command decided is some office stands =
    let answer = is.step office stands in
    elim answer.step [
      | inl left ↦ absurd (some (is.refused (rw left.0 tt)))
      | inr own ↦ subst (StandForSound (changed_by tables decided.changes.items)) (ap (λ (p : Reply × Office). p.1) (sym own)) answer.stand
    ]

module _ {S : Type 0} {g : Ghosts S} {command : Command} {reply : Reply} {old new : S} (it : IsRun g command reply old new) where
  pub run_makes : MakesTables g old new (λ tables. Answered tables command reply)
  run_makes = done_makes it _ (λ tables is.
      rw it.carried.told (was_answered _ _ tables it.decided it.carried.made is.step (unavailable_answers tables command) is.damaged))

  pub run_stops : StopLeaves g old new (λ tables. StandsAfterStep tables command)
  run_stops = done_stops it _ (λ tables. after_step tables command it.decided)

-- ---- commands in turn

-- whichever sound office the old tables stand for
abbrev pub ReachesAny : List Command → List Reply → Content → Content → Type 0
ReachesAny commands replies old new = (office : Office) → StandForSound old office → Reaches office commands replies new

-- a run, and one command more
run_more : (commands : List Command) (replies : List Reply) (first mid last : Office) (command : Command) (reply : Reply) (run : Run first commands replies mid)
    → AreSound first commands replies mid run → Step mid command reply last → IsSound last
    → (more : Run first (commands ++ command ∷ []) (replies ++ reply ∷ []) last) × AreSound first (commands ++ command ∷ []) (replies ++ reply ∷ []) last more
run_more [] [] first mid last command reply same sound step ends =
    ((last, subst (λ o. Step o command reply last) same step, refl), (sound, ends))
run_more (c ∷ cs) (r ∷ rs) first mid last command reply run sound step ends =
    let rest = run_more cs rs run.0 mid last command reply run.2 sound.1 step ends in
    ((run.0, run.1, rest.0), (sound.0, rest.1))
run_more _ _ first mid last command reply run sound step ends = absurd run

reaches_more : (commands : List Command) (replies : List Reply) (command : Command) (reply : Reply) (old mid new : Content) → ReachesAny commands replies old mid → AnswersAny mid command reply new
    → ReachesAny (commands ++ command ∷ []) (replies ++ reply ∷ []) old new
reaches_more commands replies command reply old mid new before step office stands =
    let first = before office stands in
    let now = step first.last first.stand in
    let more = run_more commands replies office first.last now.next command reply first.run first.sound now.step now.stand.sound in
    record { last = now.next; run = more.0; sound = more.1; stand = now.stand }

module _ {S : Type 0} (g : Ghosts S) where
  pub makes_none : (shelf : S) (replies : List Reply) → replies ≡ [] → MakesTables g shelf shelf (ReachesAny [] replies)
  makes_none shelf replies none = rw none (λ clean tables held. (tables, λ office stands. record { last = office; run = refl; sound = stands.sound; stand = stands }, held))

  pub makes_more : (commands : List Command) (replies : List Reply) (command : Command) (reply : Reply) {old mid new : S} → MakesTables g old mid (ReachesAny commands replies) → IsRun g command reply mid new
      → MakesTables g old new (ReachesAny (commands ++ command ∷ []) (replies ++ reply ∷ []))
  makes_more commands replies command reply first run clean tables held =
      let before = first (done_clean run clean) tables held in
      let now = run_makes run clean before.0 before.2 in
      (now.0, reaches_more commands replies command reply tables before.0 now.0 before.1 now.1.step, now.2)

  pub run_ends : (commands : List Command) (replies : List Reply) {old new : S} → MakesTables g old new (ReachesAny commands replies) → MakesTables g old new (λ tables. RunsAny tables commands replies)
  run_ends commands replies makes clean tables held =
      let made = makes clean tables held in (
        made.0,
        λ office stands.
            let it = made.1 office stands in
            record {
              reached = it;
              street = keeps_the_street it.last it.stand.sound;
              running = λ id. runs_timing id _ commands replies office it.last it.run refl;
              register = runs_register commands replies office it.last it.run stands.sound it.stand.sound;
              repeats = runs_repeat commands replies office it.last it.run;
            },
        made.2,
      )
