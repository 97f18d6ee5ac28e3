use Rattle.std.proofs.Common.{ℕ, List, map, arith, ◌∙◌, ap, refl, Bor}
use Rattle.std.proofs.lemmas.Result.{err_from_is_err_and}
use Rattle.csv.specs.Records.{fields_of}
use Rattle.office_files.specs.CsvRow.{rows_from}
use Rattle.office_files.proofs.CsvRowLemmas.{told-next, told-stop}
use Rattle.office_files.proofs.rows.read_rows.Goals as goal

pub loop-i-init : goal.loop-i-init
unfolding rows_from
loop-i-init g c =
    let made = c.in_ok-rows.ensures in
    record { rows = rw made.items refl; len = made.len; room = omega (arith, made.exact, c.len.ensures, c.deref-record-items.ensures.len) }

pub returns-in_err-row-clause-fault : goal.returns-in_err-row-clause-fault
returns-in_err-row-clause-fault g c =
    let told = err_from_is_err_and c.from_residual-in_err-row.result c.from_residual-in_err-row.ensures.1 in
    let fields = ap (map (λ (f : Bor (List ℕ)). f.now)) c.deref.ensures.value ∙ c.in_ok-fields.ensures in
    let read = rw fields at c.read_fields.ensures in
    let records = ap (map fields_of) c.deref-record-items.ensures.value ∙ c.in_ok-records.ensures in
    rw (told.1, told.2) (λ other. rw records at (told-stop g.T.CsvRow.reading fields_of c.deref-record-items.result.now c.loop-i.i c.record-item.result c.loop-i.rows.items _ c.read_fields.result (omega arith) c.record-item.is c.loop-i.invariant.rows read c.in_err-row.ensures other))

pub loop-i-preserved : goal.loop-i-preserved
loop-i-preserved g c =
    let fields = ap (map (λ (f : Bor (List ℕ)). f.now)) c.deref.ensures.value ∙ c.in_ok-fields.ensures in
    let read = rw fields at c.read_fields.ensures in
    let pushed = c.push_reserved.ensures in
    record {
      rows = rw pushed.items (told-next g.T.CsvRow.reading fields_of c.deref-record-items.result.now c.loop-i.i c.record-item.result c.loop-i.rows.items c.in_ok-row.row c.read_fields.result (omega arith) c.record-item.is c.loop-i.invariant.rows read c.in_ok-row.ensures);
      len = omega arith;
      room = omega arith;
    }
