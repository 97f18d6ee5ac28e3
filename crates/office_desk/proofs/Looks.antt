-- What a read gives, from the shelf on; and reads one after another.
use Rattle.std.proofs.Common.{◌≡◌, ◌⊎◌, ◌∙◌, Result, Ok, Err, IsErrAnd, ap, inl, inr, refl, subst}
use Rattle.std.specs.Prelude.{IfOk, MatchResult}
use Rattle.office_desk.specs.{Asks.Gives, Asks.HoldsTables, Asks.KeepsOffice, Asks.OnlyLooks, Asks.ReadsOffice, Changes.IsQueryCommand, Running.IsAnswerTo}
use Rattle.office_desk_timing.specs.Decisions.{refusal_of}
use Rattle.office_machine.specs.declared.{command.Command.Command, refusal.Refusal.Refusal, refusal.Refusal.TheVariants.Unavailable}
use Rattle.office_tables_decisions.specs.{Reads.Reports, declared.decided.Decided.Decided}
use Rattle.office_tables_shelf.specs.{Content.Content, Keeps.KeepsShelf, Shelf.IsTold, declared.shelf.Shelf.Ghosts, declared.shelf.ShelfFault.ShelfFault, declared.shelf.ShelfFault.TheVariants.Damaged as StoredDamaged}
use Rattle.office_tables_shelf.proofs.KeptLemmas.{kept_on}

-- what an open database held, it holds after a look
pub still_held : {S : Type 0} (g : Ghosts S) (old new : S) (tables : Content) → KeepsShelf g old new → HoldsTables g old tables → HoldsTables g new tables
still_held g old new tables kept held honest = kept.same_content honest ∙ held (kept.honest_before honest)

module _ {S : Type 0} {g : Ghosts S} where
  -- what is said of the tables that an open database holds
  pub looks_open : {old new : S} {Says : Content → Type 0} → KeepsShelf g old new → (g.is_clean new → g.is_clean old) → (g.is_clean new → g.is_honest new)
      → (g.is_honest new → Says (g.content old)) → OnlyLooks g old new Says
  looks_open {Says = Says} kept before opened says = record {
    kept = kept;
    clean = before;
    tells = λ clean tables held. let honest = opened clean in subst Says (held (kept.honest_before honest)) (says honest);
  }

  -- what is said of any
  pub looks_any : {old new : S} {Says : Content → Type 0} → KeepsShelf g old new → (g.is_clean new → g.is_clean old) → ((tables : Content) → Says tables) → OnlyLooks g old new Says
  looks_any kept before says = record { kept = kept; clean = before; tells = λ clean tables held. says tables }

  -- nothing was asked
  pub looks_none : {shelf : S} {Says : Content → Type 0} → ((tables : Content) → Says tables) → OnlyLooks g shelf shelf Says
  looks_none says = looks_any (record {
    honest_before = λ honest. honest;
    same_content = λ _. refl;
    same_counts = refl;
    same_outcomes = λ tables left. left;
  }) (λ clean. clean) says

  -- what was asked says this too
  pub looks_weaker : {old new : S} {Says Other : Content → Type 0} → OnlyLooks g old new Says → ((tables : Content) → Says tables → Other tables) → OnlyLooks g old new Other
  looks_weaker it so = record {
    kept = it.kept;
    clean = it.clean;
    tells = λ clean tables held. so tables (it.tells clean tables held);
  }

  -- what was asked first, and then, of the same tables
  pub looks_then : {old mid new : S} {First Then Says : Content → Type 0} → OnlyLooks g old mid First → OnlyLooks g mid new Then
      → ((tables : Content) → First tables → Then tables → Says tables) → OnlyLooks g old new Says
  looks_then {old} {mid} first rest so = record {
    kept = kept_on _ _ _ _ _ _ _ first.kept rest.kept;
    clean = λ clean. first.clean (rest.clean clean);
    tells = λ clean tables held.
        so tables (first.tells (rest.clean clean) tables held) (rest.tells clean tables (still_held g old mid tables first.kept held));
  }

  -- of what only looks it is enough that the office is as it was
  pub keeps_none : {shelf : S} → KeepsOffice g shelf shelf
  keeps_none = looks_none (λ tables. tt)

  pub keeps : {old new : S} {Says : Content → Type 0} → OnlyLooks g old new Says → KeepsOffice g old new
  keeps it = looks_weaker it (λ tables says. tt)

  pub keeps_then : {old mid new : S} {First Then : Content → Type 0} → OnlyLooks g old mid First → OnlyLooks g mid new Then → KeepsOffice g old new
  keeps_then first rest = looks_then first rest (λ tables one two. tt)

  -- ---- one query

  -- a query that was decided was read
  pub decided_read : {old new : S} {query : Command} {decided : Decided} → OnlyLooks g old new (λ tables. IsAnswerTo tables query decided) → IsQueryCommand query → ReadsOffice g old new query decided.reply
  decided_read it asks = looks_weaker it (λ tables is. record { step = rw (is.query asks) at is.step; named = is.named; damaged = is.damaged })

-- ---- what a read of a shelf gives, with its fault as a refusal

-- what is reported, by the clauses of a shelf
pub shelf_reports : {A : Type 0} (is_honest : Type 0) (Says : A → Type 0) (damage : Type 0) (read : Result A ShelfFault) → IfOk read (λ it. is_honest → Says it)
    → (read ≡ Err StoredDamaged → is_honest → damage) → Reports is_honest read Says damage
shelf_reports is_honest Says damage (Ok it) says meets = says
shelf_reports is_honest Says damage (Err why) says meets = λ damaged. meets (ap Err damaged)

-- the result of a read, its fault as the refusal
abbrev pub IsRefusedAs : {A : Type 0} → Result A ShelfFault → Result A Refusal → Type 0
IsRefusedAs read result = MatchResult read (λ it. result ≡ Ok it) (λ fault. IsErrAnd result (λ why. why ≡ refusal_of fault))

-- on an open database it gives what is said; and it was told, or refused with Unavailable
gives : {A : Type 0} {is_honest : Type 0} (Says More : A → Type 0) (damage : Type 0) (read : Result A ShelfFault) (result : Result A Refusal) → IsRefusedAs read result
    → Reports is_honest read Says damage → ((it : A) → Says it → More it) → (is_honest → Gives result More damage) × (IsTold read ⊎ (result ≡ Err Unavailable))
gives Says More damage (Ok it) result is reports more = (λ honest. rw is (more it (reports honest)), inl tt)
gives Says More damage (Err why) (Ok it) is reports more = absurd is
gives Says More damage (Err StoredDamaged) (Err why) is reports more = (λ honest. inr (is, reports refl honest), inl refl)
gives Says More damage (Err _) (Err why) is reports more = (λ honest. inl is, inr (ap Err is))

module _ {S : Type 0} {g : Ghosts S} {old new : S} {A : Type 0} (read : Result A ShelfFault) (result : Result A Refusal) (Says More : Content → A → Type 0) (Meets : Content → Type 0)
    (kept : KeepsShelf g old new) (clean_before : g.is_clean new → g.is_clean old) (reports : Reports (g.is_honest new) read (Says (g.content old)) (Meets (g.content old)))
    (is : IsRefusedAs read result) (more : (tables : Content) (it : A) → Says tables it → More tables it) where
  pub gives_open : OnlyLooks g old new (λ tables. g.is_honest new → Gives result (More tables) (Meets tables))
  gives_open = record {
    kept = kept;
    clean = clean_before;
    tells = λ clean tables held honest. subst (λ t. Gives result (More t) (Meets t)) (held (kept.honest_before honest)) ((gives _ _ _ read result is reports (more (g.content old))).0 honest);
  }

  -- where what is told was read from an open database
  pub gives_looks : (g.is_clean new → IsTold read → g.is_honest new) → OnlyLooks g old new (λ tables. Gives result (More tables) (Meets tables))
  gives_looks told =
      let it = gives _ _ _ read result is reports (more (g.content old)) in
      elim it.1 [
        | inl was ↦ looks_open kept clean_before (λ clean. told clean was) it.0
        | inr not ↦ looks_any kept clean_before (λ tables. rw not (inl refl))
      ]
