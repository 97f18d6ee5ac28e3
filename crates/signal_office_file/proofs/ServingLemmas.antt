-- What a stop leaves of a stream that was served.
use Rattle.std.proofs.Common.{Result, List, ℕ, sym, subst}
use Rattle.std.proofs.Math.Logic.{∥∥₁_map}
use Rattle.sqlite.specs.{Held.Held, State.State}
use Rattle.office_machine.specs.Office.{Office}
use Rattle.office_tables.specs.{Calls.IsHonest, Content.Content, Stored.content_now}
use Rattle.signal_office_file.specs.Stopping.{IsServedToAStop, MayBeFound}
use Rattle.signal_office_file.proofs.StopLemmas.{tables_left}
use Rattle.office_tables.specs.SqlShelf.{MayLeave, SqlView}
use Rattle.office_desk.specs.StandFor.{StandForSound}
use Rattle.office_http.specs.Protocol.{office_protocol}
use Rattle.office_http_framing.specs.{Front.PlainRequest, Serve.Did, Serve.Ends}
use Rattle.office_http_framing.specs.declared.{engine.Served.Served, engine.ServeFault.ServeFault}
use Rattle.office_http_framing.proofs.ServeLemmas.{Did-weaker}
use Rattle.signal_office_file.specs.Serving.{ServesFiles}

module _ {S : Type 0} (state_of : Held S → State) (held : Content) (last : SqlView S) where
  -- whatever a stop leaves of the connection at the end, it leaves of the requests
  pub served_leaves : (before after : Office) (requests : List PlainRequest) (answers : List (List ℕ)) → ServesFiles state_of held before last after requests answers
      → (found : Content) → MayLeave (state_of last.conn) found → MayBeFound held before after requests answers found
  served_leaves before after requests answers it found may = record {
    kept = it.kept;
    counts = last.counts;
    leaves = tables_left {S = SqlView S} (λ (shelf : SqlView S). IsHonest (state_of shelf.conn)) (λ (shelf : SqlView S). content_now (state_of shelf.conn)) (λ (shelf : SqlView S). shelf.counts)
        (λ (shelf : SqlView S) (tables : Content). MayLeave (state_of shelf.conn) tables) _ _ _ requests answers _ _
        (λ left is. subst (MayLeave (state_of last.conn)) (sym is) may) it.serves.ran.leaves;
  }

  -- whatever a stop leaves of the connection at the end, it leaves of the stream
  pub served_to_a_stop : (limit : ℕ) (start end : Ends) (outcome : Result Served ServeFault) (found : Content)
      → ((before : Office) → StandForSound held before → (after : Office) × Did office_protocol (ServesFiles state_of held before last after) limit start end outcome)
      → ∥ MayLeave (state_of last.conn) found ∥₁ → IsServedToAStop limit start end held outcome found
  served_to_a_stop limit start end outcome found did may before stands =
      let ran = did before stands in (
        ran.0,
        Did-weaker office_protocol _ _ limit start end outcome
            (λ requests answers it. (it.serves.laws, ∥∥₁_map may (served_leaves before ran.0 requests answers it found))) ran.1,
      )
