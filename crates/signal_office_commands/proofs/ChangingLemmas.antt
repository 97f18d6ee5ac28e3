-- Changes of an office, and calls after them that only ask it.
use Rattle.std.proofs.Common.{◌≡◌, ◌∙◌, inl, inr, Result, subst}
use Rattle.office_desk.proofs.{Looks.still_held, Runs.done_clean, Runs.done_honest, Runs.run_makes, Runs.run_stops}
use Rattle.office_desk.specs.{Asks.OnlyLooks, Running.IsRun}
use Rattle.office_machine.specs.declared.{command.Command.Command, reply.Reply.Reply}
use Rattle.office_tables_shelf.specs.{Content.Content, declared.shelf.Shelf.Ghosts}
use Rattle.signal_office_commands.specs.Changing.{AfterStep, Changes, ChangesShelf, RunsCommand, accept_reply}
use Rattle.signal_office_faults.specs.declared.fault.Fault.{Fault}

module _ {S : Type 0} {g : Ghosts S} where
  -- nothing was changed
  pub changes_none : {shelf : S} {Made After : Content → Content → Type 0} → ((tables : Content) → Made tables tables) → ChangesShelf g shelf shelf Made After
  changes_none made = record {
    clean = λ clean. clean;
    honest = λ honest. honest;
    makes = λ clean tables held. (tables, made tables, held);
    stop = λ clean tables held found may. inl may;
  }

  -- what was changed so, was changed so too by other words
  pub changes_weaker : {old new : S} {Made After Other Later : Content → Content → Type 0} → ChangesShelf g old new Made After
      → ((tables made : Content) → Made tables made → Other tables made) → ((tables found : Content) → After tables found → Later tables found) → ChangesShelf g old new Other Later
  changes_weaker it so later = record {
    clean = it.clean;
    honest = it.honest;
    makes = λ clean tables held. let made = it.makes clean tables held in (made.0, so tables made.0 made.1, made.2);
    stop = λ clean tables held found may. elim (it.stop clean tables held found may) [ inl was ↦ inl was | inr after ↦ inr (later tables found after) ];
  }

  -- the office was asked after it
  pub asks_after : {old mid new : S} {Made After : Content → Content → Type 0} {Says : Content → Type 0} → ChangesShelf g old mid Made After → OnlyLooks g mid new Says
      → ChangesShelf g old new (λ tables made. Made tables made × Says made) After
  asks_after first rest = record {
    clean = λ clean. first.clean (rest.clean clean);
    honest = λ honest. first.honest (rest.kept.honest_before honest);
    makes = λ clean tables held.
        let made = first.makes (rest.clean clean) tables held in
        (made.0, (made.1, rest.tells clean made.0 made.2), λ honest. rest.kept.same_content honest ∙ made.2 (rest.kept.honest_before honest));
    stop = λ clean tables held found may. first.stop (rest.clean clean) tables held found (rest.kept.same_outcomes found may);
  }

  -- the office was asked before it
  pub looks_first : {old mid new : S} {Says : Content → Type 0} {Made After : Content → Content → Type 0} → OnlyLooks g old mid Says → ChangesShelf g mid new Made After
      → ChangesShelf g old new (λ tables made. Says tables × Made tables made) After
  looks_first {old} {mid} first rest = record {
    clean = λ clean. first.clean (rest.clean clean);
    honest = λ honest. first.kept.honest_before (rest.honest honest);
    makes = λ clean tables held.
        let made = rest.makes clean tables (still_held g old mid tables first.kept held) in
        (made.0, (first.tells (rest.clean clean) tables held, made.1), made.2);
    stop = λ clean tables held found may. elim (rest.stop clean tables (still_held g old mid tables first.kept held) found may) [
      | inl was ↦ inl (first.kept.same_outcomes found was)
      | inr after ↦ inr after
    ];
  }

  -- the office was only asked
  pub only_asks : {old new : S} {Says : Content → Type 0} {Made After : Content → Content → Type 0} → OnlyLooks g old new Says → ((tables : Content) → Says tables → Made tables tables)
      → ChangesShelf g old new Made After
  only_asks {old} {new} it so = record {
    clean = it.clean;
    honest = it.kept.honest_before;
    makes = λ clean tables held. (tables, so tables (it.tells clean tables held), still_held g old new tables it.kept held);
    stop = λ clean tables held found may. inl (it.kept.same_outcomes found may);
  }

  -- a command was run, and its reply is taken so
  pub runs_command : {old new : S} (asked : Command) (given : Reply) (result : Result Reply Fault) → result ≡ accept_reply given → IsRun g asked given old new
      → ChangesShelf g old new (λ tables made. RunsCommand asked tables made result) (AfterStep asked)
  runs_command asked given result is ran = record {
    clean = done_clean ran;
    honest = done_honest ran;
    makes = λ clean tables held. let made = run_makes ran clean tables held in (made.0, (given, made.1, is), made.2);
    stop = run_stops ran;
  }

  -- a command that was run is a change, of whatever it is seen as
  pub runs_change : {old new : S} {A : Type 0} {made asked : A} (command : A → Command) (result : Result Reply Fault) → made ≡ asked
      → ChangesShelf g old new (λ tables made_of. RunsCommand (command made) tables made_of result) (AfterStep (command made))
      → ChangesShelf g old new (λ tables made_of. Changes (command asked) tables made_of result) (AfterStep (command asked))
  runs_change {old} {new} command result same ran =
      subst (λ it. ChangesShelf g old new (λ tables made_of. Changes (command it) tables made_of result) (AfterStep (command it))) same
      (changes_weaker ran (λ tables made_of run. inl run) (λ tables found after. after))
