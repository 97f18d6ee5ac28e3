use Rattle.std.proofs.Common.{◌≡◌, ap₂, ◌∙◌}
use Rattle.sqlite_schema.specs.Code.{terms_in}
use Rattle.office_tables_statements.proofs.parts.are_checks.Goals as goal

pub returns-in-Some : goal.returns-in-Some
returns-in-Some c =
    let shown = ap₂ terms_in c.as_slice.ensures c.as_slice-in-Some.ensures ∙ c.checks.view_is in
    (λ true. let it = c.is_check.ensures.0 true in cc, λ is. c.is_check.ensures.1 cc)
