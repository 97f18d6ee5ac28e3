use Rattle.std.proofs.Common.{inl}
use Rattle.office_http_framing.proofs.FrontLemmas.{is_window}
use Rattle.office_http_framing.proofs.front.next_request.Goals as goal

pub front_with_head-requires-clause-start : goal.front_with_head-requires-clause-start
front_with_head-requires-clause-start c = is_window c.args.bytes.now c.min.result c.min.ensures

pub returns-in-Ok-Partial : goal.returns-in-Ok-Partial
returns-in-Ok-Partial c =
    let same = is_window c.args.bytes.now c.min.result c.min.ensures in
    let clauses = rw c.in-Ok-Partial.field-0-is at c.in-Ok-Partial.ensures in
    inl (c.if-bytes-lt-HEAD_LIMIT.true, (rw same at clauses.partial, rw same at clauses.unfinished))

pub returns-in-Ok-Partial-2 : goal.returns-in-Ok-Partial-2
returns-in-Ok-Partial-2 c =
    let same = is_window c.args.bytes.now c.min.result c.min.ensures in
    let clauses = rw c.in-Ok-Partial.field-0-is at c.in-Ok-Partial.ensures in
    (c.if-bytes-lt-HEAD_LIMIT.false, (rw same at clauses.partial, rw same at clauses.unfinished))

pub returns-in-Err : goal.returns-in-Err
returns-in-Err c =
    let same = is_window c.args.bytes.now c.min.result c.min.ensures in
    rw (← same) c.in-Err.ensures.no_room
