use Rattle.office_tables_statements.proofs.StoredPuts.{inserts}
use Rattle.office_tables_sql.proofs.stored_row.add.Goals as goal

pub write-requires : goal.write-requires
write-requires g c = (_, c.texts.ensures.insert)

pub returns : goal.returns
returns g c =
    let it = c.in_ok-write.ensures in
    record {
      same_reference = it.same_reference;
      turned = λ clean ready.
          inserts _ _ _ c.in_ok-values.ensures.taken _ c.texts.ensures.insert _ _ _ ready
          (rw (c.as_slice.ensures.value, c.in_ok-values.ensures.bound) at (it.ran clean));
      honest = it.honest;
      stands = it.stands;
    }
