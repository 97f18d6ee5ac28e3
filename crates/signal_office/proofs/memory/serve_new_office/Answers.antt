use Rattle.std.proofs.Common.{refl}
use Rattle.office_http_framing.proofs.ServeLemmas.{Did-weaker}
use Rattle.office_http.specs.Protocol.{office_protocol}
use Rattle.office_tables_shelf.specs.Counts.{no_writes}
use Rattle.office_http.proofs.ServedLemmas.{from_opened}
use Rattle.signal_office.specs.Memory.{memory_storage, new_office}
use Rattle.signal_office.proofs.memory.serve_new_office.Goals as goal

-- nothing is promised of a stop, since memory keeps nothing
pub returns-clause-did : goal.returns-clause-did
returns-clause-did g c =
    let opened = c.open_in_memory-office.ensures in
    let tables = c.open_in_memory-office.result.tables in
    let served = c.serve.ensures.did tt new_office tables
    (record { stands = opened.stand; held = λ _. refl }) in (
      served.0,
      Did-weaker office_protocol _ _ _ _ _ c.serve.result
          (λ requests answers serves. record {
            held = tables;
            stands = opened.stand;
            last = c.serve.new.office;
            kept = served.1;
            serves = from_opened memory_storage _ _ tables _ no_writes opened.unwritten
                (λ left may. tt) new_office _ served.1 served.0 requests answers serves;
          }) served.2,
    )
