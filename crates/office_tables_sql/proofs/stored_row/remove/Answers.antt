use Rattle.office_tables_statements.proofs.StoredPuts.{removes}
use Rattle.office_tables_sql.proofs.stored_row.remove.Goals as goal

pub write-requires : goal.write-requires
write-requires g c = (_, c.texts.ensures.remove)

pub returns : goal.returns
returns g c =
    let it = c.in_ok-write.ensures in
    record {
      same_reference = it.same_reference;
      turned = λ clean ready. removes _ _ c.texts.ensures.remove _ c.requires _ _ _ ready (it.ran clean);
      honest = it.honest;
      stands = it.stands;
    }
