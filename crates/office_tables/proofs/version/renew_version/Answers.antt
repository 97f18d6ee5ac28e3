use Rattle.std.proofs.Common.{arith, rules}
use Rattle.sqlite.specs.{Held.state, State.HasCleanDisk}
use Rattle.office_tables.proofs.VersionLemmas.{drop_version_is, put_version_is, renewed}
use Rattle.office_tables.proofs.version.renew_version.Goals as goal

pub write-requires : goal.write-requires
write-requires g c = (_, drop_version_is)

pub write-requires-2 : goal.write-requires-2
write-requires-2 g c = (_, put_version_is)

pub returns : goal.returns
returns g c = record {
  same_reference = search rules;
  honest = search rules;
  made = λ clean ready.
      let early : HasCleanDisk (state g.S.Store c.write.new.tx.conn.now) = omega (arith, clean, c.in_ok-write-2.ensures.stands.crash.clean) in
      renewed _ _ _ _ _ ready (rw c.params-to_sql.ensures at (c.in_ok-write.ensures.ran early))
      (rw (c.params-to_sql-2.ensures, c.params-to_sql-3.ensures) at (c.in_ok-write-2.ensures.ran clean));
  stands = search rules;
}
