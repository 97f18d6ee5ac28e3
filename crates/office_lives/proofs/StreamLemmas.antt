-- Two turns of a stream, over the tables of one file.
use Rattle.std.proofs.Common.{◌≡◌, ◌-◌, ℕ, List, ◌++◌, Result, Ok, sym, subst, inl, inr}
use Rattle.std.specs.Prelude.{IfOk}
use Rattle.office_desk.specs.StandFor.{StandForSound}
use Rattle.office_http.specs.{Laws.Serves, Listening.ConnectionState, Protocol.office_protocol, Protocol.office_storage}
use Rattle.office_http.proofs.CutLaws.{laws_join}
use Rattle.office_http_framing.specs.{Front.PlainRequest, Laws.after_requests, Serve.DidPart, Stops.Storage, Stops.moment_of}
use Rattle.office_http_framing.specs.declared.{engine.Part.Part, engine.ServeFault.ServeFault}
use Rattle.office_http_framing.specs.declared.engine.PartEnd.TheVariants as part
use Rattle.office_http_framing.proofs.{CutLemmas.joins_parts, ServeLemmas.DidPart-weaker}
use Rattle.office_machine.specs.Office.{Office}
use Rattle.office_tables_shelf.specs.{Content.Content, declared.shelf.Shelf.Ghosts}
use Rattle.signal_office_faults.specs.declared.fault.Fault.{Fault}
use Rattle.signal_office_file.specs.Ended.{RunsOver}
use Rattle.signal_office_file.proofs.StopLemmas.{left_of_run}
use Rattle.office_lives.specs.Turns.{AfterTurn, ServesPart, ServesTurn}

same_outcome : {T E : Type 0} (told : Result T E) (it that : T) → told ≡ Ok it → told ≡ Ok that → it ≡ that
same_outcome told it that a b = cc

-- a turn over the tables that were found is one over the same tables
pub turn_over : {start end : ConnectionState} {found tables last : Content} {done : Result (Result Part ServeFault) Fault} → found ≡ tables → ServesTurn start end found done last
    → ServesTurn start end tables done last
turn_over {start} {end} {found} {tables} {last} {done} same serves = subst (λ t. ServesTurn start end t done last) same serves

-- what ran over the tables of two turns is one run, over those of the last
runs_join : (middle last : Content) (before between after : Office) (requests more : List PlainRequest) (answers others : List (List ℕ))
    → RunsOver middle before between requests answers → RunsOver last between after more others → RunsOver last before after (requests ++ more) (answers ++ others)
runs_join middle last before between after requests more answers others one two = record {
  laws = laws_join before between after requests more answers others one.laws two.laws;
  stands = two.stands;
}

-- a part that paused, and the one after it over the tables that it left, are one part
pub one_part : (start middle end : ConnectionState) (old tables last : Content) (first second : Result (Result Part ServeFault) Fault) (n : ℕ)
    → (one : ServesTurn start middle old first tables) → (two : ServesTurn middle end tables second last)
    → first ≡ Ok (Ok (record { requests = n; end = part.Paused }))
    → ServesPart start end old (after_requests n two.outcome) last
one_part start middle end old tables last first second n one two is before stands =
    let paused : one.outcome ≡ Ok (record { requests = n; end = part.Paused }) = same_outcome first one.outcome _ one.is is in
    let fewer : middle.left ≡ start.left - n = subst (λ (it : Result Part ServeFault). IfOk it (λ p. middle.left ≡ start.left - p.requests)) paused one.left in
    let did = one.did before stands in
    let later = two.did did.0 did.1.ran.stands in (
      later.0,
      joins_parts office_protocol (RunsOver tables before did.0) (RunsOver last did.0 later.0) (RunsOver last before later.0)
          (λ requests more answers others. runs_join tables last before did.0 later.0 requests more answers others)
          start.left n start.held middle.held end.held start.ends middle.ends end.ends two.outcome one.outcome paused did.1 one.fault
          (subst (λ (left : ℕ). DidPart office_protocol (RunsOver last did.0 later.0) left middle.held end.held middle.ends end.ends two.outcome) fewer later.1),
    )

module _ {S : Type 0} (g : Ghosts S) (start end : ConnectionState) (outcome : Result Part ServeFault) (first last : S) where
  abbrev storage : Storage S Office Content
  storage = office_storage g.is_honest g.content g.written g.may_leave

  -- what `serve_buffered` says of a part that was served from these tables
  abbrev Did : Office → Content → Type 0
  Did before tables = (after : Office) × (kept : Content) × DidPart office_protocol
      (Serves storage (g.may_leave first) (moment_of storage first tables before) last kept after) start.left start.held end.held start.ends end.ends outcome

  -- an honest office holds what was kept
  pub serves_part : ((before : Office) → StandForSound (g.content first) before → Did before (g.content first)) → g.is_honest last
      → ServesPart start end (g.content first) outcome (g.content last)
  serves_part did honest before stands =
      let it = did before stands in (
        it.0,
        DidPart-weaker office_protocol _ _ start.left start.held end.held start.ends end.ends outcome
            (λ requests answers ran. record {
              laws = ran.laws;
              stands = subst (λ tables. StandForSound tables it.0) (sym (ran.ran.keeps.held honest)) ran.ran.keeps.stands;
            }) it.2,
      )

  -- a stop leaves what it could before the part, or what a request of it left
  pub stops_part : (tables found : Content) → ((left : Content) → g.may_leave first left → left ≡ tables) → g.may_leave last found
      → ((before : Office) → StandForSound tables before → Did before tables) → AfterTurn start end tables found
  stops_part tables found alone may did before stands =
      let it = did before stands in (
        it.0,
        outcome,
        DidPart-weaker office_protocol _ _ start.left start.held end.held start.ends end.ends outcome
            (λ requests answers ran. (
              ran.laws,
              elim (left_of_run g.is_honest g.content g.written g.may_leave _ (moment_of storage first tables before) (moment_of storage last it.1 it.0) requests answers _ ran.ran.leaves found may) [
                | inl was ↦ inl (alone found was)
                | inr step ↦ inr step
              ],
            )) it.2,
      )
