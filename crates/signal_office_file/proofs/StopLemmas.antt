-- What a stop leaves of requests that were answered in turn.
use Rattle.std.proofs.Common.{◌⊎◌, ℕ, List, [], ◌∷◌, ap, inl, inr, subst, sym}
use Rattle.office_http.specs.Protocol.{office_protocol, office_storage}
use Rattle.office_http_framing.specs.Front.{PlainRequest}
use Rattle.office_http_framing.specs.Stops.{How, stepped, unavailable, Leaves, LeavesOne, Moment, Passes, Storage}
use Rattle.office_http_framing.proofs.StopLemmas.{may_answer}
use Rattle.office_machine.specs.Office.{Office}
use Rattle.office_tables_shelf.specs.{Content.Content, declared.counts.WriteCounts.WriteCounts}
use Rattle.signal_office_file.specs.Stopping.{AfterRequest, AfterStepOf, table_storage}

module _ {S : Type 0} (is_honest : S → Type 0) (content : S → Content) (written : S → WriteCounts) (may_leave : S → Content → Type 0) where
  abbrev storage : Storage S Office Content
  storage = office_storage is_honest content written may_leave

  -- one request leaves what was left before, or its own step
  left_of_one : (may : Content → Type 0) (how : How) (request : PlainRequest) (answer : List ℕ) (old new : Moment storage) → Passes office_protocol storage how request answer old new
      → (found : Content) → LeavesOne office_protocol storage how request may old new found → may found ⊎ AfterStepOf old.state request found
  left_of_one may stepped request answer old new passes found (inl same) =
      inr (answer, new.state, passes.0, subst (λ (t : Content). storage.stands t new.state) (sym same) passes.1)
  left_of_one may stepped request answer old new passes found (inr was) = inl was.1
  left_of_one may unavailable request answer old new passes found (inl was) = inl was
  left_of_one may unavailable request answer old new passes found (inr step) = inr step

  pub left_of_run : (may : Content → Type 0) (first last : Moment storage) (requests : List PlainRequest) (answers : List (List ℕ)) (at_end : Content → Type 0)
      → Leaves office_protocol storage may first requests answers at_end last
      → (found : Content) → at_end found → may found ⊎ AfterRequest first.state requests answers found
  left_of_run may first last [] [] at_end it found end = inl (it.0 found end)
  left_of_run may first last (request ∷ requests) (answer ∷ answers) at_end it found end =
      elim (left_of_run (λ left. LeavesOne office_protocol storage it.0 request may first it.1 left) it.1 last requests answers at_end it.3 found end) [
        | inl one ↦ elim (left_of_one may it.0 request answer first it.1 it.2 found one) [
          | inl was ↦ inl was
          | inr step ↦ inr (inl step)
        ]
        | inr later ↦ inr (inr (it.1.state, may_answer office_protocol storage it.0 request answer first it.1 it.2, later))
      ]
  left_of_run may first last [] (answer ∷ answers) at_end none found end = absurd none
  left_of_run may first last (request ∷ requests) [] at_end none found end = absurd none

  -- a moment of any tables
  abbrev table_moment : Moment storage → Moment table_storage
  table_moment at = record { state = at.state; kept = at.kept; written = at.written }

  -- what the requests leave of a machine they leave of its tables, and so of less that a stop leaves at the end
  pub tables_left : (may : Content → Type 0) (first last : Moment storage) (requests : List PlainRequest) (answers : List (List ℕ)) (more less : Content → Type 0)
      → ((left : Content) → less left → more left) → Leaves office_protocol storage may first requests answers more last
      → Leaves office_protocol table_storage may (table_moment first) requests answers less (table_moment last)
  tables_left may first last [] [] more less fewer it = ((λ left end. it.0 left (fewer left end)), ap table_moment it.1)
  tables_left may first last (request ∷ requests) (answer ∷ answers) more less fewer (stepped, next, passes, rest) =
      (stepped, table_moment next, passes, tables_left (λ left. LeavesOne office_protocol storage stepped request may first next left) next last requests answers more less fewer rest)
  tables_left may first last (request ∷ requests) (answer ∷ answers) more less fewer (unavailable, next, passes, rest) =
      (unavailable, table_moment next, (passes.0, ap table_moment passes.1), tables_left (λ left. LeavesOne office_protocol storage unavailable request may first next left) next last requests answers more less fewer rest)
  tables_left may first last [] (answer ∷ answers) more less fewer none = absurd none
  tables_left may first last (request ∷ requests) [] more less fewer none = absurd none
