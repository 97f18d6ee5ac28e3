use Rattle.std.proofs.Common.{◌≡◌, Err, rules}
use Rattle.sqlite.specs.Held.{state}
use Rattle.office_tables_shelf.specs.{Places.Part, Places.DamagedAt, declared.shelf.ShelfFault.TheVariants.Damaged}
use Rattle.office_tables_statements.specs.{Calls.IsHonest, Stored.content_now}
use Rattle.office_tables_sql.proofs.register.record_at.Goals as goal

pub returns-in_ok-found-in-Inspection-clause-read : goal.returns-in_ok-found-in-Inspection-clause-read
returns-in_ok-found-in-Inspection-clause-read g c = rw c.in-Inspection.is (search rules)

pub returns-in_err-found-in-Inspection-clause-read : goal.returns-in_err-found-in-Inspection-clause-read
returns-in_err-found-in-Inspection-clause-read g c = rw c.in-Inspection.is (search rules)

pub returns-in_ok-found-in-Order-clause-read : goal.returns-in_ok-found-in-Order-clause-read
returns-in_ok-found-in-Order-clause-read g c = rw c.in-Order.is (search rules)

pub returns-in_err-found-in-Order-clause-read : goal.returns-in_err-found-in-Order-clause-read
returns-in_err-found-in-Order-clause-read g c = rw c.in-Order.is (search rules)

pub returns-in_ok-found-in-Line-clause-read : goal.returns-in_ok-found-in-Line-clause-read
returns-in_ok-found-in-Line-clause-read g c = rw c.in-Line.is (search rules)

pub returns-in_err-found-in-Line-clause-read : goal.returns-in_err-found-in-Line-clause-read
returns-in_err-found-in-Line-clause-read g c = rw c.in-Line.is (search rules)

pub returns-in_ok-found-in-Delivery-clause-read : goal.returns-in_ok-found-in-Delivery-clause-read
returns-in_ok-found-in-Delivery-clause-read g c = rw c.in-Delivery.is (search rules)

pub returns-in_err-found-in-Delivery-clause-read : goal.returns-in_err-found-in-Delivery-clause-read
returns-in_err-found-in-Delivery-clause-read g c = rw c.in-Delivery.is (search rules)

pub returns-in-Some-clause-read : goal.returns-in-Some-clause-read
returns-in-Some-clause-read g c = rw c.in-Part.is (search rules)

pub returns-in-None-clause-read : goal.returns-in-None-clause-read
returns-in-None-clause-read g c = rw c.in-Part.is (search rules)

pub returns-in_err-found-in-Part-clause-read : goal.returns-in_err-found-in-Part-clause-read
returns-in_err-found-in-Part-clause-read g c =
    let damaged : c.find-in-Part.result ≡ Err Damaged → IsHonest (state g.S.Store c.find-in-Part.new.conn) → DamagedAt (content_now (state g.S.Store c.args.conn.now)) (Part c.in-Part.part.now) = λ is honest.
    let d = rw (c.params-to_sql-in-Part.ensures, c.as_str.ensures.text) at (c.find-in-Part.ensures.read.damaged is honest) in
    record { columns = d.columns; stored = d.stored; no_row = λ hand within. d.no_row (c.in-Part.part.now, hand) (c.as_str.ensures.code, within) } in
    rw c.in-Part.is (search rules)
