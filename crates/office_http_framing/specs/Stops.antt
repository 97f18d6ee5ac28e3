-- What a stop may leave of the state of a machine, while it deals with requests one after another.
use Rattle.std.specs.Prelude.{◌≡◌, ℕ, ◌⊎◌, List, [], ◌∷◌, Result, Ok, Err}
use Rattle.office_http_framing.specs.declared.machine.Answer.{Answer}
use Rattle.office_http_framing.specs.declared.machine.Unavailable.{Unavailable}
use Rattle.office_http_framing.specs.Front.{PlainRequest}
use Rattle.office_http_framing.specs.Protocol.{Protocol, bytes_of}

-- How a machine stores its state: whether it is honest (what was written has come back, and no
-- failure has shut it), what it holds, what a crash at this moment may leave of that (while what
-- was written has come back, whether or not a failure shut it), and the states that either stands
-- for; how often it has written; and what the step of a request, from a state, may make of what is
-- stored and of that count.
pub record Storage (Machine State Stored : Type 0) : Type 1 where
  pub is_honest : Machine → Type 0
  pub holds : Machine → Stored
  pub may_leave : Machine → Stored → Type 0
  pub stands : Stored → State → Type 0
  pub Counts : Type 0
  pub written : Machine → Counts
  pub may_write : State → PlainRequest → (held kept : Stored) → (old new : Counts) → Type 0

-- What is kept stands for the state, and the machine holds it while it is honest.
pub record KeepsState
    {Machine State Stored : Type 0} (storage : Storage Machine State Stored)
    (machine : Machine) (kept : Stored) (state : State) : Type 0 where
  pub stands : storage.stands kept state
  pub held : storage.is_honest machine → storage.holds machine ≡ kept

-- a moment between two requests: the state, what is kept of it, and how often was written
pub record Moment
    {Machine State Stored : Type 0} (storage : Storage Machine State Stored) : Type 0 where
  pub state : State
  pub kept : Stored
  pub written : storage.Counts

-- the moment of a machine that keeps this for this state
abbrev pub moment_of : {Machine State Stored : Type 0} →
    (storage : Storage Machine State Stored) → Machine → Stored → State → Moment storage
moment_of storage machine kept state =
    record { state = state; kept = kept; written = storage.written machine }

-- how a request is dealt with: it takes its step, or is answered unavailable
pub data How : Type 0 where
  stepped unavailable : How

module _
    {Machine State Stored : Type 0} (protocol : Protocol State)
    (storage : Storage Machine State Stored) where
  -- One request, from one moment to the next. It took its step, with no writes but what that may,
  -- and what is kept stands for the state after it; or it was answered unavailable, and all stayed.
  abbrev pub Passes : How → PlainRequest → List ℕ → (old new : Moment storage) → Type 0
  Passes stepped request answer old new =
      protocol.step old.state request answer new.state × storage.stands new.kept new.state
      × storage.may_write old.state request old.kept new.kept old.written new.written
  Passes unavailable request answer old new = (answer ≡ protocol.unavailable_text) × (new ≡ old)

  -- what is stored stands for the state after the request's step, whichever answer that has
  abbrev pub StandsAfterStep : State → PlainRequest → Stored → Type 0
  StandsAfterStep before request stored =
      (answer : List ℕ) × (after : State) × protocol.step before request answer after
      × storage.stands stored after

  -- What a crash may leave after a request, if it could leave `may` before. If the request took its
  -- step: what is kept, and nothing else once that has changed. If it was answered unavailable:
  -- what it could before, or the request's step.
  abbrev pub LeavesOne :
      How → PlainRequest → (may : Stored → Type 0) → (old new : Moment storage) → Stored → Type 0
  LeavesOne stepped request may old new left =
      (left ≡ new.kept) ⊎ ((new.kept ≡ old.kept) × may left)
  LeavesOne unavailable request may old new left = may left ⊎ StandsAfterStep old.state request left

  -- one request, as a machine dealt with it
  pub record Deals
      (how : How) (request : PlainRequest) (answer : List ℕ)
      (before after : Machine) (old new : Moment storage) : Type 0 where
    pub keeps : KeepsState storage after new.kept new.state
    pub passes : Passes how request answer old new
    pub leaves : (left : Stored) → storage.may_leave after left
        → LeavesOne how request (storage.may_leave before) old new left

  -- The machine answered the request by its step; or said that it is unavailable, and the state and
  -- what is kept of it stay.
  abbrev pub DealsBy : (before after : Machine) → Moment storage → PlainRequest
      → Result Answer Unavailable → Type 0
  DealsBy before after old request (Ok answer) =
      (kept : Stored) × (state : State)
      × Deals stepped request (bytes_of answer) before after old
      (moment_of storage after kept state)
  DealsBy before after old request (Err refused) =
      Deals unavailable request protocol.unavailable_text before after old
      (moment_of storage after old.kept old.state)

  -- THE STOP. The requests were dealt with in turn, from one moment to the last; and a crash leaves
  -- no more than each lets it: `may` before the first one, and `at_end` after the last. So it
  -- leaves the state after the last request that took its step and changed what is kept, or after a
  -- later one.
  abbrev pub Leaves : (may : Stored → Type 0) → Moment storage → List PlainRequest
      → List (List ℕ) → (at_end : Stored → Type 0) → Moment storage → Type 0
  Leaves may first [] [] at_end last = ((left : Stored) → at_end left → may left) × (last ≡ first)
  Leaves may first (request ∷ requests) (answer ∷ answers) at_end last =
      (how : How) × (next : Moment storage) × Passes how request answer first next
      × Leaves (LeavesOne how request may first next) next requests answers at_end last
  Leaves may first _ _ at_end last = ⊥

  -- The machine ran over the requests and gave these answers, from this moment on, when a crash
  -- could leave `may`: what it keeps at the end stands for the state, and a crash leaves no more
  -- than `Leaves` says.
  pub record Ran
      (may : Stored → Type 0) (first : Moment storage) (machine : Machine) (kept : Stored)
      (state : State) (requests : List PlainRequest) (answers : List (List ℕ)) : Type 0 where
    pub keeps : KeepsState storage machine kept state
    pub leaves : Leaves may first requests answers (storage.may_leave machine)
        (moment_of storage machine kept state)
