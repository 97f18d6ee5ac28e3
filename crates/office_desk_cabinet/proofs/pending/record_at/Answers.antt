use Rattle.std.proofs.Common.{◌≡◌, rules}
use Rattle.office_tables_shelf.specs.Places.{place_of}
use Rattle.office_tables_decisions.proofs.ReadLemmas.{unread}
use Rattle.office_desk_cabinet.proofs.PendingLemmas.{put_stands, seen, some_put, still_stands}
use Rattle.office_desk_cabinet.proofs.pending.record_at.Goals as goal

pub returns-in-Some-clause-row : goal.returns-in-Some-clause-row
returns-in-Some-clause-row g c = λ honest.
    let place = place_of c.args.key.now in
    let viewed : c.pending.inside.changes.items ≡ c.args.pending.now = search rules in
    put_stands place (g.S.Shelf.content c.args.shelf.now) c.args.pending.now c.in-Some.put (rw c.in-Some.is at c.in_ok-put.ensures.within)
    (seen place viewed c.pending.invariant c.in-Some.is c.in_ok-put.ensures.row)

pub returns-clause-row : goal.returns-clause-row
returns-clause-row g c = λ honest.
    let place = place_of c.args.key.now in
    let viewed : c.pending.inside.changes.items ≡ c.args.pending.now = search rules in
    still_stands place (g.S.Shelf.content c.args.shelf.now) c.args.pending.now _
    (seen place viewed c.pending.invariant c.in_default.is c.in_ok-put.ensures.row) (c.in_ok-before.ensures.row honest)

pub returns-in-Some-clause-reads : goal.returns-in-Some-clause-reads
returns-in-Some-clause-reads g c =
    let place = place_of c.args.key.now in
    let viewed : c.pending.inside.changes.items ≡ c.args.pending.now = search rules in
    unread _ _ _ _ (λ none told. absurd (some_put place c.args.pending.now c.in-Some.put (rw c.in-Some.is at c.in_ok-put.ensures.within)
    (seen place viewed c.pending.invariant c.in-Some.is c.in_ok-put.ensures.row) none))
