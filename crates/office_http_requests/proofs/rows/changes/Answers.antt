use Rattle.std.proofs.Common.{ap, refl, arith}
use Rattle.std.proofs.lemmas.Result.{err_from_is_err_and}
use Rattle.signal_records.specs.{Reading.change_at, Reading.texts, Within.current_limits}
use Rattle.office_files.specs.CsvRow.{rows_from}
use Rattle.office_files.proofs.CsvRowLemmas.{told-next, told-stop}
use Rattle.office_http_requests.specs.AskFault.{ask_fault}
use Rattle.office_http_requests.specs.{FaultsInOrder.or_bad_row, Rows.RowRefs}
use Rattle.office_http_requests.proofs.rows.changes.Goals as goal

pub loop-index-init : goal.loop-index-init
unfolding rows_from
loop-index-init c = rw c.in_ok-changes.ensures.items refl

pub returns-in_err-change : goal.returns-in_err-change
returns-in_err-change c =
    let told = err_from_is_err_and c.from_residual-in_err-change.result c.from_residual-in_err-change.ensures.1 in
    let read = rw c.deref.ensures.value at c.read_change.ensures.exact in
    rw (told.1, told.2) (λ other. ap or_bad_row (told-stop (change_at current_limits) (λ (row : RowRefs). texts row.items)
    c.args.rows.now c.loop-index.index c.index-rows-index.result c.loop-index.changes.items _ c.read_change.result
    (omega arith) c.index-rows-index.is c.loop-index.invariant read c.in_err-change.ensures (λ memory. other (ap ask_fault memory))))

pub loop-index-preserved : goal.loop-index-preserved
loop-index-preserved c =
    let read = rw c.deref.ensures.value at c.read_change.ensures.exact in
    rw c.in_ok-push.ensures.items (told-next (change_at current_limits) (λ (row : RowRefs). texts row.items)
    c.args.rows.now c.loop-index.index c.index-rows-index.result c.loop-index.changes.items c.in_ok-change.change c.read_change.result
    (omega arith) c.index-rows-index.is c.loop-index.invariant read c.in_ok-change.ensures)
