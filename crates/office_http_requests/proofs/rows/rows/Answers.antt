use Rattle.std.proofs.Common.{◌≡◌, ◌∙◌, sym, length, arith}
use Rattle.std.proofs.lemmas.List.{map-append}
use Rattle.signal_records.specs.Reading.{texts}
use Rattle.office_http_requests.specs.Rows.{texts_in, rows_seen}
use Rattle.office_http_requests.proofs.RowLemmas.{onto-nil, rows_in-array, rows_in-other, walk-next, walk-stop, walk-end}
use Rattle.office_http_requests.proofs.rows.rows.Goals as goal

pub returns-in_default : goal.returns-in_default
returns-in_default c = rows_in-other _ (sym c.in_default.ensures)

pub loop-row-init : goal.loop-row-init
loop-row-init c =
    rw (c.in_ok-rows.ensures.items, c.as_slice-row-items.ensures.value)
    (onto-nil _ ∙ sym (rows_in-array _ c.in-Some.list.now.items (sym c.in-Some.ensures)))

pub returns-in_default-2 : goal.returns-in_default-2
returns-in_default-2 c =
    sym c.loop-row.invariant
    ∙ walk-stop texts_in c.as_slice-row-items.result.now c.loop-row.row-index c.row-item.result _ (omega arith) c.row-item.is (rw c.in_default-2.is at c.in_ok-texts.ensures)

pub loop-row-preserved : goal.loop-row-preserved
loop-row-preserved c =
    let next =
    walk-next texts_in c.as_slice-row-items.result.now c.loop-row.row-index c.row-item.result (texts c.in-Some-2.texts.items) (rows_seen c.loop-row.rows.items) (omega arith) c.row-item.is (rw c.in-Some-2.is at c.in_ok-texts.ensures)
    ∙ c.loop-row.invariant in
    rw (c.in_ok-push.ensures.items, map-append) next

pub returns : goal.returns
returns c =
    let ended : c.loop-row.row-index ≡ length c.as_slice-row-items.result.now = omega arith in
    sym (rw ended at c.loop-row.invariant) ∙ walk-end texts_in c.as_slice-row-items.result.now _
