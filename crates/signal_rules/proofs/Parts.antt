-- Rules by their parts.
use Rattle.std.proofs.Common.{◌≡◌, ◌&&◌, is_some, ap, ◌∙◌}
use Rattle.signal_records.specs.{declared.record.Pattern.Pattern, TimingSet.Rows}
use Rattle.signal_rules.specs.declared.reason.Reason.TheVariants as reason
use Rattle.signal_rules.specs.declared.reason.PatternReason.TheVariants.{NoSequence, NoSplit}
use Rattle.signal_rules.specs.{Lookup.split_at, Lookup.phases, Lookup.has_sequence}
use Rattle.signal_rules.specs.PatternRules.{splits_cases, has_splits, has_rows}
use Rattle.signal_rules.proofs.Cases.{holds-cons, holds-map}

pub rows_by_parts : (set : Rows) (pattern : Pattern) → has_rows set pattern ≡ (has_sequence set pattern.seq && has_splits set pattern.split)
rows_by_parts set pattern =
    holds-cons (has_sequence set pattern.seq) (reason.Pattern (NoSequence pattern.seq)) (splits_cases set pattern.split (phases set))
    ∙ ap (λ b. has_sequence set pattern.seq && b) (holds-map (λ p. is_some (split_at set pattern.split p)) (λ p. reason.Pattern (NoSplit pattern.split p)) (phases set))
