use Rattle.std.proofs.Common.{sym, ap, ◌∙◌}
use Rattle.signal_records.specs.{Reading.texts, Within.AreLimits}
use Rattle.signal_records.proofs.RowLaws.{are_current, are_version_1}
use Rattle.std.specs.List.{slice_split}
use Rattle.office_tables_shelf.proofs.RowLemmas.{is_comma, fields_back, body_back}
use Rattle.office_tables_statements.specs.{Versions.limits_of, declared.body_reading.Version.Version, declared.body_reading.Version.TheVariants.First, declared.body_reading.Version.TheVariants.Current}
use Rattle.office_tables_statements.proofs.body_reading.row_of_body.Goals as goal

are_limits : (version : Version) → AreLimits (limits_of version)
are_limits First = are_version_1
are_limits Current = are_current

pub returns-in-Ok-clause-ok : goal.returns-in-Ok-clause-ok
returns-in-Ok-clause-ok c =
    (body_back (limits_of c.args.version) c.in-Ok.row c.args.body.now (sym c.in_ok-fields.ensures ∙ ap texts (sym c.deref.ensures.value) ∙ c.in-Ok.ensures.found), c.in-Ok.ensures.within)

pub returns : goal.returns
returns c = record {
  ok = tt;
  none = λ is row within same.
      let only = c.in-Err.ensures.only row within (ap texts c.deref.ensures.value ∙ c.in_ok-fields.ensures ∙ ap (slice_split is_comma) (sym same) ∙ fields_back (limits_of c.args.version) row (are_limits c.args.version) within) in
      let apart = only c.in_default.not-NoMemory in
      absurd cc;
}
