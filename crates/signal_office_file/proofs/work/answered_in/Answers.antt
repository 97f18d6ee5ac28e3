use Rattle.std.proofs.Common.{sym, subst}
use Rattle.sqlite.specs.Files.{file_state}
use Rattle.office_desk.specs.StandFor.{StandForSound}
use Rattle.office_http.specs.Protocol.{office_protocol}
use Rattle.office_http_framing.proofs.ServeLemmas.{Did-weaker}
use Rattle.office_tables.specs.{Calls.IsHonest, Stored.content_now}
use Rattle.signal_office_faults.specs.Stream.{fault_of_stream}
use Rattle.signal_office_file.proofs.{FilesLemmas.closing_told, FilesLemmas.first_told, FilesLemmas.unclosed_leaves, ServingLemmas.served_leaves}
use Rattle.signal_office_file.proofs.work.answered_in.Goals as goal

pub returns-in-Err : goal.returns-in-Err
returns-in-Err g c = (c.in-Err.ensures.untouched, c.in-Err.ensures.refused.refused)

-- closed on a clean disk, the database was open to the end, and holds what was kept
pub returns-in-Ok-close_office : goal.returns-in-Ok-close_office
returns-in-Ok-close_office g c =
    let closed = c.in-Ok-close_office.ensures in
    let served = c.in-Ok.served in
    record {
      begun = c.in-Ok.ensures.calls.fault;
      clean = λ clean. c.in-Ok.ensures.clean (closed.copied clean).was_clean;
      made = λ clean.
          let honest : IsHonest (file_state served.0.conn) = ((closed.copied clean).was_clean, (closed.copied clean).was_open) in
          let did = c.in-Ok.ensures.did honest.0 in (
            did.0,
            content_now (file_state served.0.conn),
            did.1,
            (λ before stands.
                let ran = did.2 before stands in (
                  ran.0,
                  Did-weaker office_protocol _ _ c.args.max_requests _ _ served.1
                      (λ requests answers it. record {
                        laws = it.serves.laws;
                        stands = subst (λ t. StandForSound t ran.0) (sym (it.serves.ran.keeps.held honest)) it.serves.ran.keeps.stands;
                      }) ran.1,
                )),
            closed.kept clean,
          );
    }

pub returns-in-Err-close_office : goal.returns-in-Err-close_office
returns-in-Err-close_office g c =
    let back = c.in-Err-close_office.ensures in
    let served = c.in-Ok.served in (
      served.1,
      c.in-Ok.ensures.calls.fault,
      first_told fault_of_stream served.1 c.in-Err-close_office.fault c.first_fault.result
          (closing_told served.0.conn c.in-Err-close_office.fault c.in-Err-close_office.left back.0) c.first_fault.ensures,
      λ clean.
          let left = unclosed_leaves served.0.conn c.in-Err-close_office.fault c.in-Err-close_office.left back clean in
          let did = c.in-Ok.ensures.did left.1 in (
            did.0,
            did.1,
            (
              (left.0, back.1, λ found may. tt),
              λ before stands.
                  let ran = did.2 before stands in (
                    ran.0,
                    Did-weaker office_protocol _ _ c.args.max_requests _ _ served.1
                        (λ requests answers it. (it.serves.laws, (left.0, back.1, λ found may. served_leaves file_state did.0 served.0 before ran.0 requests answers it found (left.2 found may)))) ran.1,
                  ),
            ),
          ),
    )
