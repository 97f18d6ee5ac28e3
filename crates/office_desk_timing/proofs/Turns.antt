-- Steps of the transaction as commands in turn, all of them or none, are the lines of its table.
use Rattle.std.proofs.Common.{◌≡◌, ℕ, Bool, true, false, cond, List, [], ◌∷◌, ◌++◌, map, Option, Some, None, Result, Ok, Err, refl, ap, ◌∙◌}
use Rattle.std.specs.FinMap.{FinMap, get, get-insert, same_map, nat_cmp-IsAntisymmetric}
use Rattle.std.specs.{Cmp.nat_cmp_total, Cmp.tied_itself, Ordering.nat_cmp, Ordering.eq_by_cmp, Ordering.is_eq}
use Rattle.draft_core.specs.{Revising.and_then, Revising.lines_of, Transaction.TimingSide, Transaction.table_line, declared.refusal.DraftRefusal.DraftRefusal, declared.step.Step.Step}
use Rattle.office_machine.specs.Step.{answered, moved, moved_to, transacted, with_intersection}
use Rattle.office_machine.specs.{Office.Intersection, Office.Office, declared.reply.Reply.Reply, declared.reply.Reply.TheVariants.Same}
use Rattle.office_tables_decisions.specs.Asking.{asking_command}
use Rattle.office_desk_timing.specs.Revising.{all_or_none, unless_refused}
use Rattle.office_desk_timing.proofs.{Moved.with_timing_side, Transactions.by_line}

-- ---- an intersection in its place

last_put : {X : Type 0} (here : Bool) (late early : X) (there : Option X)
    → cond here (Some late) (cond here (Some early) there) ≡ cond here (Some late) there
last_put true late early there = refl
last_put false late early there = refl

-- of two intersections under one number the last stands
put_twice : (office : Office) (id : ℕ) (early late : Intersection)
    → with_intersection (with_intersection office id early) id late ≡ with_intersection office id late
put_twice office id early late = ap (λ (rows : FinMap nat_cmp Intersection). record office { intersections = rows })
    (same_map nat_cmp_total nat_cmp-IsAntisymmetric _ _ (λ q. simp (get-insert {X = Intersection} nat_cmp_total)
    (last_put (eq_by_cmp nat_cmp q id) late early (get office.intersections q))))

put_found : (office : Office) (id : ℕ) (i : Intersection)
    → get (with_intersection office id i).intersections id ≡ Some i
put_found office id i = get-insert nat_cmp_total office.intersections id i id
    ∙ ap (λ o. cond (is_eq o) (Some i) (get office.intersections id)) (tied_itself nat_cmp_total id)

-- ---- commands in turn

module _ (office : Office) (id : ℕ) (clerk : List ℕ) (i : Intersection) where
  -- what comes of the steps that are left
  abbrev ends : List Step → Office → Reply → Reply × Office
  ends steps now last = all_or_none office now last (map (asking_command id clerk) steps)

  abbrev GoesOn : List Step → TimingSide → Type 0
  GoesOn steps side =
      ends steps (with_intersection office id (with_timing_side i side)) (moved_to side)
      ≡ moved office id i (lines_of clerk steps side)

  -- one of them, from an office that has this timing side in the intersection's place, and the rest
  one_goes : (step : Step) (steps : List Step) (now : Office) (side : TimingSide) (last : Reply)
      → get now.intersections id ≡ Some (with_timing_side i side)
      → ((next : Intersection) → with_intersection now id next ≡ with_intersection office id next)
      → ((next : TimingSide) → GoesOn steps next)
      → ends (step ∷ steps) now last ≡ moved office id i (lines_of clerk (step ∷ steps) side)
  one_goes step steps now side last there rest more =
      ap (λ (a : Reply × Office). unless_refused office a.0 (ends steps a.1 a.0))
      (by_line step now id clerk ∙ ap (transacted now id (table_line step clerk)) there)
      ∙ elim (table_line step clerk side) as (λ (r : Result TimingSide DraftRefusal). unless_refused office (moved now id (with_timing_side i side) r).0
      (ends steps (moved now id (with_timing_side i side) r).1 (moved now id (with_timing_side i side) r).0)
      ≡ moved office id i (and_then r (lines_of clerk steps))) [
        | Ok next ↦ ap (λ now. ends steps now (moved_to next)) (rest (with_timing_side i next)) ∙ more next
        | Err why ↦ refl
      ]

  goes_on : (steps : List Step) (side : TimingSide) → GoesOn steps side
  goes_on [] side = refl
  goes_on (step ∷ steps) side =
      let put = with_timing_side i side in
      one_goes step steps (with_intersection office id put) side (moved_to side)
      (put_found office id put) (put_twice office id put) (goes_on steps)

  -- one command at least, all or none, is the lines of the table
  pub all_are : (before : List Step) (step : Step) (after : List Step)
      → get office.intersections id ≡ Some i → ends (before ++ step ∷ after) office Same
      ≡ moved office id i (lines_of clerk (before ++ step ∷ after) i.timing)
  all_are [] step after there = one_goes step after office i.timing Same there (λ next. refl) (goes_on after)
  all_are (first ∷ before) step after there =
      one_goes first (before ++ step ∷ after) office i.timing Same there (λ next. refl) (goes_on (before ++ step ∷ after))
