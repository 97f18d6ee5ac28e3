use Rattle.std.proofs.Common.{◌≡◌, ◌∙◌, sym, length, arith}
use Rattle.std.proofs.lemmas.List.{map-append}
use Rattle.serde_json.specs.Find.{as_str}
use Rattle.signal_records.specs.Reading.{texts}
use Rattle.office_http_requests.proofs.RowLemmas.{onto-nil, texts_in-array, texts_in-other, walk-next, walk-stop, walk-end}
use Rattle.office_http_requests.proofs.rows.texts.Goals as goal

pub returns-in_default : goal.returns-in_default
returns-in_default c = texts_in-other _ (sym c.in_default.ensures)

pub loop-value-init : goal.loop-value-init
loop-value-init c =
    rw (c.in_ok-texts.ensures.items, c.as_slice-value-items.ensures.value)
    (onto-nil _ ∙ sym (texts_in-array _ c.in-Some.list.now.items (sym c.in-Some.ensures)))

pub returns-in_default-as_str : goal.returns-in_default-as_str
returns-in_default-as_str c =
    sym c.loop-value.invariant
    ∙ walk-stop as_str c.as_slice-value-items.result.now c.loop-value.value-index c.value-item.result _ (omega arith) c.value-item.is (sym c.in_default-as_str.ensures)

pub loop-value-preserved : goal.loop-value-preserved
loop-value-preserved c =
    let next =
    walk-next as_str c.as_slice-value-items.result.now c.loop-value.value-index c.value-item.result c.in-Some-as_str.text.now (texts c.loop-value.texts.items) (omega arith) c.value-item.is (sym c.in-Some-as_str.ensures)
    ∙ c.loop-value.invariant in
    rw (c.in_ok-push.ensures.items, map-append, c.as_bytes.ensures.value) next

pub returns : goal.returns
returns c =
    let ended : c.loop-value.value-index ≡ length c.as_slice-value-items.result.now = omega arith in
    sym (rw ended at c.loop-value.invariant) ∙ walk-end as_str c.as_slice-value-items.result.now _
