use Rattle.std.proofs.Common.{sym, ◌∙◌, rules, tests}
use Rattle.std.specs.{Prelude.codes, Prelude.◌==◌, List.slice_split}
use Rattle.std.proofs.{lemmas.Iterator.Splits.YieldsList-from_slice_split, lemmas.Iterator.Search.any_from_yields_List}
use Rattle.httparse.specs.Grammar.{trim_ows}
use Rattle.office_http_framing.specs.Fields.{eq_ignore_case, lists_close}
use Rattle.office_http_framing.proofs.FieldLemmas.{list_any-map}
use Rattle.office_http_framing.proofs.fields.lists_close.Goals as goal

pub returns : goal.returns
unfolding lists_close
returns c =
    let value = c.args.value.now in
    let pieces = slice_split (λ b. b == 44) value in
    any_from_yields_List (λ piece. eq_ignore_case (trim_ows piece) (codes "close")) _ _ c.any.result c.any.ensures.ran
    (YieldsList-from_slice_split _ (λ b. b == 44) value c.split.ensures.rest c.split.ensures.done c.split.ensures.closure (λ x b q k. search (rules, tests)))
    (λ x b q k. search (rules, tests))
    ∙ sym (list_any-map (λ element. eq_ignore_case element (codes "close")) trim_ows pieces)
