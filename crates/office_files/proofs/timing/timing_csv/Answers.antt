use Rattle.std.proofs.Common.{◌∙◌}
use Rattle.signal_records.specs.{Spelling.spelling, Within.current_limits, Within.IsRowWithin}
use Rattle.office_files.proofs.{Utf8Lemmas.given_utf8, SpelledTexts.row_texts, TimingLemmas.given_reads_back, RestoreLemmas.given_restored}
use Rattle.office_files.proofs.timing.timing_csv.Goals as goal

pub returns-clause-utf8 : goal.returns-clause-utf8
returns-clause-utf8 c =
    given_utf8 (spelling current_limits) (IsRowWithin current_limits) row_texts (λ text. text.items) c.write_records.result _ c.write_records.ensures.text c.write_records.ensures.within

pub returns-clause-reads_back : goal.returns-clause-reads_back
returns-clause-reads_back c =
    given_reads_back (λ text. text.items) c.write_records.result _ _ (c.deref.ensures.value ∙ c.in_ok-rows.ensures.rows) c.write_records.ensures.text c.write_records.ensures.within

pub returns-clause-restores : goal.returns-clause-restores
returns-clause-restores c = given_restored c.write_records.result c.args.set.now c.in_ok-rows.ensures.keyed
