use Rattle.std.specs.Prelude.{◌==◌}
use Rattle.std.proofs.Common.{inr, length, true≢false, sym, ap, ◌∙◌}
use Rattle.office_tables.proofs.ForeignLemmas.{no_version, none_of}
use Rattle.office_tables.proofs.foreign.refusal.Goals as goal

pub returns-then-is_empty-2 : goal.returns-then-is_empty-2
returns-then-is_empty-2 c = inr (no_version _ (sym c.is_empty.ensures ∙ c.if-is_empty.true), none_of _ (sym c.is_empty-then-is_empty.ensures ∙ c.if-is_empty-2.true))

pub returns-then-is_empty : goal.returns-then-is_empty
returns-then-is_empty c = (
  no_version _ (sym c.is_empty.ensures ∙ c.if-is_empty.true),
  λ none. true≢false (sym (c.is_empty-then-is_empty.ensures ∙ ap (λ rows. length rows == 0) none) ∙ c.if-is_empty-2.false),
)
