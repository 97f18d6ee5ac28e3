use Rattle.std.proofs.Common.{◌≡◌, map, drop}
use Rattle.serde_json.specs.{Find.as_str, View.view}
use Rattle.signal_records.specs.Reading.{texts}
use Rattle.office_http_requests.specs.Rows.{each, texts_in}
use Rattle.office_http_requests.proofs.RowLemmas.{onto}
use Rattle.office_http_requests.proofs.rows.texts.Given as goal

abbrev pub invariant-loop-value : goal.invariant-loop-value
invariant-loop-value l = onto (texts l.texts.items) (each as_str (drop l.value-index (map view l.value-items))) ≡ texts_in (view l.row)
