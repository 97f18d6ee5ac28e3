-- How a run goes on by one request, with what is kept and what a crash may leave.
use Rattle.std.proofs.Common.{ℕ, List, [], ◌∷◌, ◌++◌, inl, inr, refl, ap, subst}
use Rattle.office_http_framing.specs.{Front.PlainRequest, Protocol.Protocol, Protocol.MayAnswer}
use Rattle.office_http_framing.specs.Stops.{Storage, KeepsState, Moment, moment_of, How, stepped, unavailable, Passes, LeavesOne, Deals, Leaves, Ran}

module _ {Machine State Stored : Type 0} (protocol : Protocol State) (storage : Storage Machine State Stored) where
  -- the request took its step, or was answered unavailable and left the state
  pub may_answer : (how : How) (request : PlainRequest) (answer : List ℕ) (old new : Moment storage) → Passes protocol storage how request answer old new
      → MayAnswer protocol old.state request answer new.state
  may_answer stepped request answer old new passes = inl passes.0
  may_answer unavailable request answer old new passes = inr (passes.0, ap (λ (moment : Moment storage). moment.state) passes.1)

  -- where more could be left before a request, more may be left after it
  more_after_one : (how : How) (request : PlainRequest) (may more : Stored → Type 0) (old new : Moment storage) → ((left : Stored) → may left → more left) → (left : Stored)
      → LeavesOne protocol storage how request may old new left → LeavesOne protocol storage how request more old new left
  more_after_one stepped request may more old new wider left leaves =
      elim leaves [ inl now ↦ inl now | inr same ↦ inr (same.0, wider left same.1) ]
  more_after_one unavailable request may more old new wider left leaves =
      elim leaves [ inl earlier ↦ inl (wider left earlier) | inr made ↦ inr made ]

  module _ (old new : Moment storage) (how : How) (request : PlainRequest) (answer : List ℕ) (so_far at_end : Stored → Type 0)
      (passes : Passes protocol storage how request answer old new)
      (leaves : (left : Stored) → at_end left → LeavesOne protocol storage how request so_far old new left) where
    -- one request more, at the end of a run
    leaves-next : (may : Stored → Type 0) (first : Moment storage) (requests : List PlainRequest) (answers : List (List ℕ))
        → Leaves protocol storage may first requests answers so_far old
        → Leaves protocol storage may first (requests ++ request ∷ []) (answers ++ answer ∷ []) at_end new
    leaves-next may first [] [] none =
        subst (λ moment. Leaves protocol storage may moment (request ∷ []) (answer ∷ []) at_end new) none.1
        (how, new, passes, ((λ left is. more_after_one how request so_far may old new none.0 left (leaves left is)), refl))
    leaves-next may first (r ∷ requests) (a ∷ answers) some =
        (some.0, some.1, some.2, leaves-next (LeavesOne protocol storage some.0 r may first some.1) some.1 requests answers some.3)
    leaves-next may first _ _ none = absurd none

  -- nothing was answered yet
  pub ran-start : (machine : Machine) (held : Stored) (before : State) → KeepsState storage machine held before
      → Ran protocol storage (storage.may_leave machine) (moment_of storage machine held before) machine held before [] []
  ran-start machine held before keeps = record { keeps = keeps; leaves = (λ left may. may, refl) }

  -- one request more was dealt with
  pub ran-next : (may : Stored → Type 0) (first : Moment storage) (before after : Machine) (held kept : Stored) (middle state : State) (how : How) (request : PlainRequest) (answer : List ℕ)
      → Deals protocol storage how request answer before after (moment_of storage before held middle) (moment_of storage after kept state)
      → (requests : List PlainRequest) (answers : List (List ℕ)) → Ran protocol storage may first before held middle requests answers
      → Ran protocol storage may first after kept state (requests ++ request ∷ []) (answers ++ answer ∷ [])
  ran-next may first before after held kept middle state how request answer deals requests answers ran = record {
    keeps = deals.keeps;
    leaves = leaves-next (moment_of storage before held middle) (moment_of storage after kept state) how request answer (storage.may_leave before) (storage.may_leave after)
        deals.passes deals.leaves may first requests answers ran.leaves;
  }

  -- where more could be left before a run, no more is left at its end than it lets
  leaves_wider : (may more : Stored → Type 0) (first : Moment storage) (requests : List PlainRequest) (answers : List (List ℕ)) (at_end : Stored → Type 0) (last : Moment storage)
      → ((left : Stored) → may left → more left)
      → Leaves protocol storage may first requests answers at_end last → Leaves protocol storage more first requests answers at_end last
  leaves_wider may more first [] [] at_end last wider none = (λ left is. wider left (none.0 left is), none.1)
  leaves_wider may more first (r ∷ requests) (a ∷ answers) at_end last wider some = (
    some.0,
    some.1,
    some.2,
    leaves_wider (LeavesOne protocol storage some.0 r may first some.1) (LeavesOne protocol storage some.0 r more first some.1) some.1 requests answers at_end last
        (more_after_one some.0 r may more first some.1 wider) some.3,
  )
  leaves_wider may more first _ _ at_end last wider none = absurd none

  pub ran-wider : (may more : Stored → Type 0) (first : Moment storage) (machine : Machine) (kept : Stored) (state : State) (requests : List PlainRequest) (answers : List (List ℕ))
      → ((left : Stored) → may left → more left) → Ran protocol storage may first machine kept state requests answers → Ran protocol storage more first machine kept state requests answers
  ran-wider may more first machine kept state requests answers wider ran = record {
    keeps = ran.keeps;
    leaves = leaves_wider may more first requests answers (storage.may_leave machine) (moment_of storage machine kept state) wider ran.leaves;
  }
