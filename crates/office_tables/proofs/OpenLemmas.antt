-- What the steps of an opening come to.
use Rattle.std.proofs.Common.{◌≡◌, ◌≢◌, ◌≤◌, inl, inr, Result, Ok, Err, Some, IsTrue, not, true, false, refl, sym, ap, subst, ◌∙◌, arith}
use Rattle.std.proofs.lemmas.{Bool.not-true, Result.IfOk-weaker}
use Rattle.sqlite.specs.State.{State, HasCleanDisk, Opens, IsLive}
use Rattle.sqlite.specs.{Effect.Database, Effect.IsDatabase, Held.Held, Held.state, Steps.IsFresh, Tree.Trees, View.View, View.IsClean}
use Rattle.sqlite_trees.specs.{View.doubt, View.IsQuiet, Objects.catalog_tree, declared.store.Store.Ghosts}
use Rattle.sqlite_catalog.specs.Listing.{AreListed}
use Rattle.office_tables_shelf.specs.Content.{Content}
use Rattle.office_tables_statements.specs.{Schema.office_schema, Calls.IsHonest, Calls.IsOffice, Calls.Keeps, Stored.content_now, Stored.content_of}
use Rattle.office_tables.specs.{Arranged.IsArranged, Arranged.IsUnchanged, SqlShelf.SqlView, declared.open.OpenFault.OpenFault}
use Rattle.office_tables.specs.Foreign.{Hold, MayBeMade, TakesOver, TellsOfTables}
use Rattle.office_tables.specs.Opening.{IsAsFound, IsCheckedAgain, IsCleanStore, IsOpenIfClean, IsPrepared, IsRefused, IsTaken, Opens as OpensShelf, Prepares, WritesToday, store_left}
use Rattle.office_tables.proofs.{ArrangedLemmas.tables_rise, MovedLemmas.office_hold, VersionLemmas.are_today}
use Rattle.office_tables_sql.specs.{Version.AreToday, Version.Completes, Version.version_in, Version.current_version}
use Rattle.office_tables.specs.declared.open.OpenFault.TheVariants as fault

-- the tables of the office in a database that holds what it lists
pub arranged_office : (s : State) → not s.in_transaction ≡ true → s.now.schema ≡ office_schema → (IsHonest s → s.now ≡ s.committed)
    → (IsHonest s → IsDatabase s.now) → (HasCleanDisk s → IsArranged s.committed.trees) → IsOffice s
arranged_office s autocommit schema settled sound arranged = record {
  autocommit = not-true s.in_transaction autocommit;
  schema = λ h. schema;
  settled = settled;
  ordered = λ h. tables_rise s.now.trees (subst (λ (d : Database). IsArranged d.trees) (sym (settled h)) (arranged h.0)) office_schema
      (subst (AreListed (s.now.trees catalog_tree)) schema (sound h).lists.listed);
  sound = sound;
}

-- a fault of the store tells nothing of the tables
pub tells_none : (why : OpenFault) (trees : Trees) → why ≢ fault.Version → why ≢ fault.Damaged → TellsOfTables why trees
tells_none fault.Version trees other sound = absurd (other refl)
tells_none fault.Damaged trees other sound = absurd (sound refl)
tells_none _ trees other sound = tt

-- tables that were made anew took over
made_over : (old new : Trees) (tables : Content) → MayBeMade old × Hold old tables → Completes tables new → TakesOver old new
made_over old new tables may it = record { taken = inr may.0; kept = subst (Hold old) (sym it.content) may.1; today = it.today }

module _ {S : Type 0} (g : Ghosts S) (conn : Held S) where
  abbrev old : State
  old = state g conn

  -- tables that took over, of which a crash leaves what is committed, are prepared
  prepared : (c : Held S) → IsOffice (state g c) → IsOpenIfClean (state g c) → (IsHonest (state g c) → HasCleanDisk old) → (IsHonest (state g c) → TakesOver old.committed.trees (state g c).now.trees)
      → ((trees : Trees) → IsTrue (state g c).is_open → (state g c).may_leave trees → trees ≡ (state g c).committed.trees) → IsPrepared g conn c
  prepared c office opened honest takes settled = record {
    opened = opened;
    honest = honest;
    takes = takes;
    current = record { office = office; stored = λ h. (takes h).today.stored; left = λ clean trees may. let h = opened clean in subst AreToday (sym (left_now h trees may)) (takes h).today };
    crash = λ h trees may. ap content_of (left_now h trees may);
  }
    where
      left_now : IsHonest (state g c) → (trees : Trees) → (state g c).may_leave trees → trees ≡ (state g c).now.trees
      left_now h trees may = settled trees h.1 may ∙ sym (ap (λ (d : Database). d.trees) (office.settled h))

  -- ---- the office's tables, which were asked for their version
  module _ (c : Held S) (settled : IsHonest old → old.now ≡ old.committed) (it : Keeps old (state g c)) (opened : IsOpenIfClean (state g c))
      (stays : (trees : Trees) → IsTrue (state g c).is_open → (state g c).may_leave trees → trees ≡ (state g c).committed.trees) where
    same : IsHonest (state g c) → (state g c).now.trees ≡ old.committed.trees
    same h = ap (λ (d : Database). d.trees) (it.same h ∙ settled (it.honest h))

    pub asked_found : IsAsFound g conn c.store
    asked_found = record {
      clean = it.crash.clean;
      committed = λ clean up. ap (λ (d : Database). d.trees) (sym (it.office.settled (clean, up))) ∙ same (clean, up);
      crash = λ clean trees may. elim (it.crash.crash clean trees may) [ inl was ↦ was | inr none ↦ absurd none ];
    }

    -- today's version is stored in them
    pub today_prepared : (IsHonest (state g c) → Some current_version ≡ version_in old.now.trees) → IsPrepared g conn c
    today_prepared is = prepared c it.office opened (λ h. (it.honest h).0) (λ h.
        let new = state g c in
        let today = are_today new (it.office.schema h) (it.office.sound h) (ap (λ (d : Database). version_in d.trees) (it.same h) ∙ sym (is h)) in
        subst (λ (was : Trees). TakesOver was new.now.trees) (same h) (record {
          taken = inl today.stored;
          kept = office_hold new.now.trees (content_now new) today.sound.lists.listed refl;
          today = today;
        })) stays

  -- ---- a store that was read since it was taken
  module _ (store after : S) (it : IsTaken g conn store) (quiet : IsQuiet g.view g.faults g.recovers g.is_shielded store after) where
    pub still_taken : (IsClean (g.view after) → IsUnchanged (g.view store) (g.view after)) → IsTaken g conn after
    still_taken same = record {
      clean = omega (arith, it.clean, quiet.clean);
      was_open = λ h. it.was_open (omega (arith, h, quiet.clean));
      fresh = λ h. let was = it.fresh (omega (arith, h, quiet.clean)) in subst IsFresh (sym (same h)) (record { sound = was.sound; numbered = was.numbered; clean = was.clean; unmarked = was.unmarked });
      trees = λ h. ap (λ (v : View). v.trees) (same h) ∙ it.trees (omega (arith, h, quiet.clean));
      crash = λ h trees may. it.crash (omega (arith, h, quiet.clean)) trees (quiet.outcomes trees may);
      left = λ h. it.left (omega (arith, h, quiet.clean));
      arranged = λ h. it.arranged (omega (arith, h, quiet.clean));
    }

    pub still_found : ((db : Trees) → IsTrue old.is_open → old.may_leave db → db ≡ old.committed.trees) → (IsTrue (g.view after).is_open → g.recovers after (g.view after).committed) → IsAsFound g conn after
    still_found settled stays = record {
      clean = omega (arith, it.clean, quiet.clean);
      committed = λ h up. settled _ (it.was_open (omega (arith, h, quiet.clean))) (it.crash (omega (arith, h, quiet.clean)) _ (quiet.outcomes _ (stays up)));
      crash = λ h trees may. it.crash (omega (arith, h, quiet.clean)) trees (quiet.outcomes trees may);
    }

  -- and opened again
  pub again : (store : S) (new : Held S) → IsTaken g conn store → new.in_transaction ≡ false → doubt (g.view store).is_clean ≤ doubt (state g new).is_clean
      → (HasCleanDisk (state g new) → Opens (state g new) × IsLive (state g new)) → (HasCleanDisk (state g new) → (state g new).now.trees ≡ (g.view store).trees)
      → ((trees : Trees) → IsTrue (state g new).is_open → (state g new).may_leave trees → trees ≡ (state g new).committed.trees) → IsCheckedAgain g conn new
  again store new it idle clean opens trees settled = record {
    found = record {
      clean = omega (arith, it.clean, clean);
      committed = λ h up. same h;
      crash = λ h left may. subst old.may_leave (sym (settled left (opens h).0.is_open may ∙ same h)) (it.left (omega (arith, h, clean)));
    };
    opened = λ h. (h, (opens h).0.is_open);
    idle = idle;
    settled = λ h. (opens h).0.clean;
    arranged = λ h. subst IsArranged (sym (same h)) (it.arranged (omega (arith, h, clean)));
  }
    where
      same : HasCleanDisk (state g new) → (state g new).committed.trees ≡ old.committed.trees
      same h = sym (ap (λ (d : Database). d.trees) (opens h).0.clean) ∙ trees h ∙ it.trees (omega (arith, h, clean))

  -- ---- what came of another connection over the store, whose database was found the same
  module _ (c : Held S) (found : IsAsFound g conn c.store) (opened : IsOpenIfClean (state g c)) (idle : c.in_transaction ≡ false) where
    kept : HasCleanDisk (state g c) → (state g c).committed.trees ≡ old.committed.trees
    kept h = found.committed h (opened h).1

    pub prepares_before : (r : Result (Held S) (OpenFault × Result (Held S) S)) → Prepares g c r → Prepares g conn r
    prepares_before (Ok last) it = record {
      opened = it.opened;
      honest = λ h. omega (arith, it.honest h, found.clean);
      takes = λ h. subst (λ (t : Trees). TakesOver t (state g last).now.trees) (kept (it.honest h)) (it.takes h);
      current = it.current;
      crash = it.crash;
    }
    prepares_before (Err e) it =
        let early : IsCleanStore g (store_left g e.1) → HasCleanDisk (state g c) = λ h. omega (arith, h, it.left.clean) in
        record {
          told = λ h. subst (TellsOfTables e.0) (kept (early h)) (it.told h);
          left = record {
            clean = omega (arith, it.left.clean, found.clean);
            committed = λ h up. it.left.committed h up ∙ kept (early h);
            crash = λ h trees may. elim (it.left.crash h trees may) [
              | inl was ↦ inl (found.crash (early h) trees was)
              | inr over ↦ inr (subst (λ (t : Trees). TakesOver t trees) (kept (early h)) over)
            ];
          };
          idle = IfOk-weaker e.1 _ _ (λ h was. inl (elim was [ inl none ↦ none | inr is ↦ ap (λ (x : Held S). x.in_transaction) is ∙ idle ])) it.idle;
        }

    pub opens_before : (r : Result (SqlView S) (OpenFault × Result (Held S) S)) → OpensShelf g c r → OpensShelf g conn r
    opens_before (Ok shelf) it = (prepares_before (Ok shelf.conn) it.0, it.1)
    opens_before (Err e) it = prepares_before (Err e) it

    -- in which the tables were made again
    module _ (new : Held S) (tables : Content) (may : HasCleanDisk (state g c) → MayBeMade old.committed.trees × Hold old.committed.trees tables) where
      pub made_prepared : {A E : Type 0} (done : A) → WritesToday {E = E} (Ok done) tables (state g c) (state g new)
          → ((trees : Trees) → IsTrue (state g new).is_open → (state g new).may_leave trees → trees ≡ (state g new).committed.trees) → IsPrepared g conn new
      made_prepared done it = prepared new it.office it.opened (λ h. omega (arith, (it.honest h).0, found.clean))
          (λ h. made_over _ _ tables (may (it.honest h).0) (it.made h))

      pub made_refused : {A E : Type 0} (error : E) (why : OpenFault) → why ≢ fault.Version → why ≢ fault.Damaged → WritesToday {A = A} (Err error) tables (state g c) (state g new) → IsRefused g conn why (Ok new)
      made_refused error why other sound it = record {
        told = λ h. tells_none why _ other sound;
        left = record {
          clean = omega (arith, it.crash.clean, found.clean);
          committed = λ h up. it.kept (h, up) ∙ kept (it.honest (h, up)).0;
          crash = λ h trees may_be. elim (it.crash.crash h trees may_be) [
            | inl was ↦ inl (found.crash (omega (arith, h, it.crash.clean)) trees was)
            | inr made ↦ inr (made_over _ _ tables (may made.0.0) made.1)
          ];
        };
        idle = inl it.idle;
      }
