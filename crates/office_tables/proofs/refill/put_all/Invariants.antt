use Rattle.std.proofs.Common.{◌≡◌, vec_len}
use Rattle.sqlite.specs.{State.HasCleanDisk, Held.state}
use Rattle.office_tables_statements.specs.{Calls.IsReady, Calls.IsTurned, Calls.StandsOn, Stored.content_now}
use Rattle.office_tables.specs.{Moved.all_put}
use Rattle.office_tables.proofs.refill.put_all.Given as goal

-- the rows that are left lead to the end
abbrev pub invariant-loop-table : goal.invariant-loop-table
invariant-loop-table g l =
    let old = state g.S.Store l.initial.tx.conn.now in
    let now = state g.S.Store l.tx.conn.now in
    (l.tx.conn.ghost_name ≡ l.initial.tx.conn.ghost_name) × StandsOn old now
    × (HasCleanDisk now → IsReady old → IsTurned (content_now now) old now × (all_put (content_now now) l.rows.items ≡ all_put (content_now old) l.initial.rows.items))

abbrev pub decreases-loop-table : goal.decreases-loop-table
decreases-loop-table g l = vec_len l.rows
