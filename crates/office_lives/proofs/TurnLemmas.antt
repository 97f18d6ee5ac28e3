-- The turns of a task over one file.
use Rattle.std.proofs.Common.{◌≡◌, ◌+◌, ℕ, List, [], ◌∷◌, ◌++◌, length, Result, refl, sym, subst, arith, length-append}
use Rattle.sqlite.specs.Files.{image_of}
use Rattle.sqlite_disk.specs.declared.Disk.{Ghosts as Disk}
use Rattle.sqlite_disk.specs.declared.Files.{Files}
use Rattle.office_tables_shelf.specs.Content.{Content}
use Rattle.signal_office_faults.specs.declared.fault.Fault.{Fault}
use Rattle.signal_office_file.specs.{Files.HoldIn, Files.KeepTables, Task.Effect}
use Rattle.office_lives.specs.Life.{Life}
use Rattle.office_lives.specs.Turns.{DoneInTurns, after_turns, turns_of}

-- one more turn after those of a task
module _ {D T Given : Type 0} (g : Disk D) (effect : T → T → Effect Given) where
  after_then : (turns : List (T × Result Given Fault)) (first last : T) (done : Result Given Fault) → last ≡ after_turns effect first (turns ++ (last, done) ∷ [])
  after_then [] first last done = refl
  after_then (it ∷ turns) first last done = after_then turns it.0 last done

  life_then : (turns : List (T × Result Given Fault)) (first last : T) (done : Result Given Fault) (old middle new : Content) → Life g old (turns_of effect first turns) middle
      → (effect (after_turns effect first turns) last).does middle done new → Life g old (turns_of effect first (turns ++ (last, done) ∷ [])) new
  life_then [] first last done old middle new life does = (new, subst (λ t. (effect first last).does t done new) life does, refl)
  life_then (it ∷ turns) first last done old middle new life does = (life.0, life.1, life_then turns it.0 last done life.0 middle new life.2 does)

  pub first_turn : (count : ℕ) → count ≡ 1 → (files back : Files D) (first last : T) (done : Result Given Fault) (old new : Content) → HoldIn (image_of g files) old → (effect first last).does old done new
      → KeepTables g back new → DoneInTurns effect g count files back first last
  first_turn count one files back first last done old new held does kept = record {
    old = old;
    new = new;
    turns = (last, done) ∷ [];
    counted = sym one;
    held = held;
    is_last = refl;
    life = (new, does, refl);
    kept = kept;
  }

  pub one_turn_more : (count more : ℕ) → more ≡ count + 1 → (files between back : Files D) (first at last : T) (done : Result Given Fault) (found new : Content)
      → (so_far : DoneInTurns effect g count files between first at) → found ≡ so_far.new → (effect at last).does found done new → KeepTables g back new
      → DoneInTurns effect g more files back first last
  one_turn_more count more one files between back first at last done found new so_far same does kept = record {
    old = so_far.old;
    new = new;
    turns = so_far.turns ++ (last, done) ∷ [];
    counted =
        let sum : length (so_far.turns ++ (last, done) ∷ []) ≡ length so_far.turns + 1 = length-append so_far.turns ((last, done) ∷ []) in
        omega (arith, sum, so_far.counted, one);
    held = so_far.held;
    is_last = after_then so_far.turns first last done;
    life = life_then so_far.turns first last done so_far.old so_far.new new so_far.life
        (subst (λ t. (effect (after_turns effect first so_far.turns) last).does t done new) same (subst (λ (it : T). (effect it last).does found done new) so_far.is_last does));
    kept = kept;
  }
