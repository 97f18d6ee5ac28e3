-- Calls that only read.
use Rattle.std.proofs.Common.{◌∙◌}
use Rattle.office_tables_shelf.specs.{Content.Content, Shelf.IsKept, declared.counts.WriteCounts.WriteCounts}

-- two calls that only read, one after the other
pub kept_on : {S : Type 0} (is_honest : S → Type 0) (content : S → Content) (written : S → WriteCounts) (may_leave : S → Content → Type 0) (old mid new : S)
    → IsKept is_honest content written may_leave old mid → IsKept is_honest content written may_leave mid new → IsKept is_honest content written may_leave old new
kept_on is_honest content written may_leave old mid new first rest = record {
  honest_before = λ honest. first.honest_before (rest.honest_before honest);
  same_content = λ honest. rest.same_content honest ∙ first.same_content (rest.honest_before honest);
  same_counts = rest.same_counts ∙ first.same_counts;
  same_outcomes = λ tables left. first.same_outcomes tables (rest.same_outcomes tables left);
}
