use Rattle.std.proofs.Common.{refl, subst}
use Rattle.sqlite.specs.Held.{state}
use Rattle.office_http.specs.Protocol.{office_protocol}
use Rattle.office_http_framing.proofs.ServeLemmas.{Did-weaker}
use Rattle.office_http.proofs.ServedLemmas.{from_opened}
use Rattle.office_tables.specs.Stored.{content_now}
use Rattle.office_tables_shelf.specs.Counts.{no_writes}
use Rattle.office_tables.specs.SqlShelf.{IsCurrent}
use Rattle.signal_office_file.specs.Serving.{sql_storage}
use Rattle.signal_office_file.proofs.serving.serve_over.Goals as goal

-- what was served is counted from no row, and a crash could leave no more than what was held
pub returns-clause-did : goal.returns-clause-did
returns-clause-did g c clean image opened before stands =
    let held = content_now (state g.S.Store c.args.office.conn) in
    let served = c.serve-outcome.ensures.did clean before held (record { stands = stands; held = λ _. refl }) in (
      served.0,
      Did-weaker office_protocol _ _ c.args.max_requests _ _ c.serve-outcome.result
          (λ requests answers serves. record {
            kept = served.1;
            serves = from_opened (sql_storage (state g.S.Store)) _ _ held _ no_writes
                opened.unwritten opened.crash before _ served.1 served.0 requests answers serves;
          }) served.2,
    )

pub returns-clause-current : goal.returns-clause-current
returns-clause-current g c = subst (λ office. IsCurrent (state g.S.Store office.conn)) c.shelf.ensures c.known.ensures
