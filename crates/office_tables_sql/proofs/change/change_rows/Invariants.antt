use Rattle.std.proofs.Common.{◌≡◌, ◌⊎◌, drop}
use Rattle.sqlite.specs.{State.HasCleanDisk, Held.state}
use Rattle.office_tables_shelf.specs.Change.{changed_by}
use Rattle.office_tables_statements.specs.{Calls.IsHonest, Calls.IsReady, Calls.IsTurned, Calls.StandsOn, Stored.content_now}
use Rattle.office_tables_sql.proofs.change.change_rows.Given as goal

-- the changes that are left lead to the end, and the last commit stands; a change that was made found the database open
abbrev pub invariant-loop-change : goal.invariant-loop-change
invariant-loop-change g l =
    let old = state g.S.Store l.initial.tx.conn.now in
    let now = state g.S.Store l.tx.conn.now in
    (l.tx.conn.ghost_name ≡ l.initial.tx.conn.ghost_name) × StandsOn old now
    × (HasCleanDisk now → (l.change-index ≡ 0) ⊎ IsHonest old)
    × (HasCleanDisk now → IsReady old → IsTurned (content_now now) old now × (changed_by (content_now now) (drop l.change-index l.changes) ≡ changed_by (content_now old) l.changes))
