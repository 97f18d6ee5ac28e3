-- Reads of a shelf, one after the other.
use Rattle.std.proofs.Common.{◌≡◌, Result, Ok, Err, IsErrAnd, refl, sym, subst, ◌∙◌}
use Rattle.office_tables_shelf.specs.{Keeps.ReadsShelf, Shelf.IsTold, declared.shelf.Shelf.Ghosts, declared.shelf.ShelfFault.ShelfFault, declared.shelf.ShelfFault.TheVariants.Damaged}
use Rattle.office_tables_shelf.proofs.KeptLemmas.{kept_on}
use Rattle.office_tables_decisions.specs.Reads.{OnlyReads, Reports}

-- a fault that is handed on is told as it was
pub handed_told : {A B : Type 0} (result : Result A ShelfFault) (given : Result B ShelfFault) (fault : ShelfFault) → given ≡ Err fault → IsErrAnd result (λ told. told ≡ fault) → IsTold result → IsTold given
handed_told (Ok found) given fault is handed told = absurd handed
handed_told (Err why) given fault is handed told = subst IsTold (sym is) (sym handed ∙ told)

-- it reports damage as it did
pub handed_reports : {A : Type 0} (is_honest : Type 0) (fault : ShelfFault) (result : Result A ShelfFault) (Says : A → Type 0) (damage : Type 0)
    → IsErrAnd result (λ told. told ≡ fault) → (fault ≡ Damaged → is_honest → damage) → Reports is_honest result Says damage
handed_reports is_honest fault (Ok answer) Says damage handed met = absurd handed
handed_reports is_honest fault (Err why) Says damage handed met = λ damaged. met (sym handed ∙ damaged)

-- reads that all answered, one after the other
abbrev pub HasRead : {S : Type 0} → Ghosts S → (reads : Type 0) → (old new : S) → Type 0
HasRead g reads old new = OnlyReads {A = Unit {0}} g reads (Ok tt) old new

module _ {S : Type 0} (g : Ghosts S) where
  -- nothing was read
  pub unread : {A : Type 0} (reads : Type 0) (result : Result A ShelfFault) (old : S) → (reads → IsTold result → g.is_honest old) → OnlyReads g reads result old old
  unread reads result old never = record {
    kept = record { honest_before = λ honest. honest; same_content = λ honest. refl; same_counts = refl; same_outcomes = λ tables left. left };
    clean_before = λ clean. clean;
    stays = λ clean told honest. honest;
    read = λ reading clean told. never reading told;
  }

  -- a read that is sure to read, whose result is told on
  pub told_on : {A B : Type 0} (before reads : Type 0) (given : Result A ShelfFault) (result : Result B ShelfFault) (old new : S)
      → OnlyReads g before given old new → before → (IsTold result → IsTold given) → OnlyReads g reads result old new
  told_on before reads given result old new read sure tells = record {
    kept = read.kept;
    clean_before = read.clean_before;
    stays = λ clean told honest. read.read sure clean (tells told);
    read = λ reading clean told. read.read sure clean (tells told);
  }
