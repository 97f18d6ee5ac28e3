use Rattle.std.proofs.Common.{◌≡◌, map, drop}
use Rattle.serde_json.specs.View.{view}
use Rattle.office_http_requests.specs.Rows.{each, texts_in, rows_in, rows_seen}
use Rattle.office_http_requests.proofs.RowLemmas.{onto}
use Rattle.office_http_requests.proofs.rows.rows.Given as goal

abbrev pub invariant-loop-row : goal.invariant-loop-row
invariant-loop-row l = onto (rows_seen l.rows.items) (each texts_in (drop l.row-index (map view l.row-items))) ≡ rows_in (view l.body)
