use Rattle.std.proofs.Common.{refl}
use Rattle.sqlite_tied.specs.Compute.{everything}
use Rattle.office_tables_shelf.specs.declared.rows.Table.TheVariants.{Draft}
use Rattle.office_tables_sql.specs.declared.change.TheConstants.{DROP}
use Rattle.office_tables_statements.specs.Tables.{IsDropText}
use Rattle.office_tables_statements.proofs.StoredPuts.{drops}
use Rattle.office_tables_sql.proofs.change.drop_draft.Goals as goal

drop_is : IsDropText Draft DROP.now
unfolding everything
drop_is = refl

pub write-requires : goal.write-requires
write-requires g c = (_, drop_is)

pub returns : goal.returns
returns g c =
    let it = c.in_ok-write.ensures in
    record {
      same_reference = it.same_reference;
      turned = λ clean ready.
          drops Draft DROP.now drop_is c.args.id _ _ _ ready
          (rw (c.params-to_sql.ensures, c.get.ensures.value) at (it.ran clean));
      honest = it.honest;
      stands = it.stands;
    }
