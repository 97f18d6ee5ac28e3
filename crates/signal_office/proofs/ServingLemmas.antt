-- A turn of a port that was served, as a task of the tables of a file: what it did, and what a stop leaves of it.
use Rattle.std.proofs.Common.{◌≡◌, ℕ, List, [], ◌∷◌, Option, Some, None, refl, sym, subst, ◌⊎◌, inl, inr}
use Rattle.std.specs.Prelude.{Result, Err, ⊤}
use Rattle.office_http.specs.Laws.{KeepsLaws}
use Rattle.office_http.specs.Listening.{Connected, Listening, Listens, ServesConnection, ServesEach, no_listening, served_by, system_listening}
use Rattle.office_http.specs.Protocol.{office_protocol, office_storage}
use Rattle.office_http_framing.proofs.ServeLemmas.{DidPart-weaker}
use Rattle.office_http_framing.specs.Serve.{DidPart}
use Rattle.office_http_framing.specs.Stops.{KeepsState, Storage, moment_of}
use Rattle.office_desk.specs.StandFor.{StandForSound}
use Rattle.office_machine.specs.Office.{Office}
use Rattle.office_tables_shelf.specs.Content.{Content}
use Rattle.office_tables_shelf.specs.declared.shelf.Shelf.{Ghosts}
use Rattle.signal_office_faults.specs.declared.fault.Fault.{Fault}
use Rattle.signal_office.specs.Serving.{InTurn, IsUnheard, ServesAs, ServesFrom, ServesListener, ServesPort, AfterConnection, AfterServing, ServedFrom}
use Rattle.signal_office.specs.declared.serving.Serving.{Serving}
use Rattle.signal_office_file.specs.Stopping.{AfterRequest, StopsWithin}
use Rattle.signal_office_file.proofs.StopLemmas.{left_of_run}

some_is_not_none : (it : Listening) → Some it ≡ None → ⊥
some_is_not_none it is = cc

-- ---- a turn

-- without a listener nothing was served
pub unheard_turn : (listener : Option Listening) (count : ℕ) (new : Serving) (why : Fault) → listener ≡ None → IsUnheard (Err why) → new.listener ≡ None → new.left ≡ count
    → ServesFrom listener count new [] (Err why)
unheard_turn (Some it) count new why none unheard gone left = absurd (some_is_not_none it none)
unheard_turn None count new why none unheard gone left = inl (unheard, gone, left, refl)

-- the listener of the turn before was served on, or a new one
heard_from : (listener : Option Listening) (count : ℕ) (from : Listening) (new : Serving) (served : List Connected) (result : Result ⊤ Fault)
    → ((it : Listening) → listener ≡ Some it → from ≡ it) → (listener ≡ None → from ≡ system_listening no_listening None)
    → ServesListener from count new served result → ServesFrom listener count new served result
heard_from (Some it) count from new served result some none serves = subst (λ (listening : Listening). ServesListener listening count new served result) (some it refl) serves
heard_from None count from new served result some none serves = inr (subst (λ (listening : Listening). ServesListener listening count new served result) (none refl) serves)

pub heard_turn : (listener : Option Listening) (left count : ℕ) (from : Listening) (new : Serving) (served : List Connected) (result : Result ⊤ Fault) → left ≡ count
    → ((it : Listening) → listener ≡ Some it → from ≡ it) → (listener ≡ None → from ≡ system_listening no_listening None)
    → ServesListener from left new served result → ServesFrom listener count new served result
heard_turn listener left count from new served result same some none serves =
    heard_from listener count from new served result some none (subst (λ (many : ℕ). ServesListener from many new served result) same serves)

module _ {S : Type 0} (g : Ghosts S) where
  abbrev storage : Storage S Office Content
  storage = office_storage g.is_honest g.content g.written g.may_leave

  abbrev Served : (first : S) (held : Content) (before : Office) (last : S) (kept : Content) (after : Office) → Connected → Type 0
  Served = ServesConnection office_protocol (served_by storage)

  abbrev Each : (first : S) (held : Content) (before : Office) → List Connected → (last : S) (kept : Content) (after : Office) → Type 0
  Each = ServesEach office_protocol (served_by storage)

  -- what is said of one part holds without the shelf
  keeps_laws : (first : S) (held : Content) (before : Office) (last : S) (kept : Content) (after : Office) (it : Connected) (one : Served first held before last kept after it)
      → DidPart office_protocol (λ requests answers. KeepsLaws before requests answers after) it.start.left it.start.held it.end.held it.start.ends it.end.ends one.outcome
  keeps_laws first held before last kept after it one =
      DidPart-weaker office_protocol _ _ _ _ _ _ _ one.outcome (λ requests answers ran. ran.laws) one.did

  in_turn : (served : List Connected) (first : S) (held : Content) (before : Office) (last : S) (kept : Content) (after : Office)
      → Each first held before served last kept after → InTurn before served after
  in_turn [] first held before last kept after each = each.2
  in_turn (it ∷ parts) first held before last kept after each = (
    each.2,
    each.3.outcome,
    keeps_laws first held before each.0 each.1 each.2 it each.3,
    in_turn parts each.0 each.1 each.2 last kept after each.4,
  )

  pub serves : (old new : Serving) (first last : S) (result : Result ⊤ Fault) (served : List Connected) → ServesPort old new served result
      → ((before : Office) (tables : Content) → KeepsState storage first tables before → Listens storage first tables before last served)
      → g.is_honest last → ServesAs old new (g.content first) result (g.content last)
  serves old new first last result served ended did honest = record {
    served = served;
    ended = ended;
    in_turn = λ before stands.
        let x = did before (g.content first) (record { stands = stands; held = λ _. refl }) in (
          x.after,
          in_turn served first (g.content first) before last x.kept x.after x.each,
          subst (λ tables. StandForSound tables x.after) (sym (x.keeps.held honest)) x.keeps.stands,
        );
  }

  -- ---- what a stop leaves of it

  -- what was left at the end of a part was left before it, or after one of its requests
  after_connection : (first : S) (held : Content) (before : Office) (last : S) (kept : Content) (after : Office) (it : Connected) (one : Served first held before last kept after it)
      → (found : Content) → g.may_leave last found
      → g.may_leave first found ⊎ ServedFrom before it after (λ requests answers. AfterRequest before requests answers found)
  after_connection first held before last kept after it one found may =
      elim (left_of_run g.is_honest g.content g.written g.may_leave _ (moment_of storage first held before) (moment_of storage last kept after) one.did.requests one.did.answers _ one.did.ran.ran.leaves found may) [
        | inl was ↦ inl was
        | inr step ↦ inr (
          one.outcome,
          record {
            given = one.did.given;
            requests = one.did.requests;
            answers = one.did.answers;
            tail = one.did.tail;
            reads = one.did.reads;
            begins = one.did.begins;
            ran = (one.did.ran.laws, step);
            as_many = one.did.as_many;
            counted = one.did.counted;
            ends = one.did.ends;
            writes = one.did.writes;
            calls = one.did.calls;
            asks = one.did.asks;
          },
        )
      ]

  after_each : (served : List Connected) (first : S) (held : Content) (before : Office) (last : S) (kept : Content) (after : Office)
      → Each first held before served last kept after → (found : Content) → g.may_leave last found
      → g.may_leave first found ⊎ AfterConnection before served found
  after_each [] first held before last kept after each found may = inl (subst (λ (s : S). g.may_leave s found) each.0 may)
  after_each (it ∷ parts) first held before last kept after each found may =
      elim (after_each parts each.0 each.1 each.2 last kept after each.4 found may) [
        | inl middle ↦ elim (after_connection first held before each.0 each.1 each.2 it each.3 found middle) [
          | inl was ↦ inl was
          | inr step ↦ inr (each.2, inl step)
        ]
        | inr later ↦ inr (each.2, inr ((each.3.outcome, DidPart-weaker office_protocol _ _ _ _ _ _ _ each.3.outcome (λ requests answers ran. (ran.laws, tt)) each.3.did), later))
      ]

  pub served_within : (first last : S) (served : List Connected)
      → (g.is_clean last → (before : Office) (tables : Content) → KeepsState storage first tables before → Listens storage first tables before last served)
      → StopsWithin g first last AfterServing
  served_within first last served did clean tables held alone found may before stands =
      let x = did clean before tables (record { stands = stands; held = held }) in (
        served,
        elim (after_each served first tables before last x.kept x.after x.each found may) [
          | inl was ↦ inl (alone found was)
          | inr after ↦ inr after
        ],
      )
