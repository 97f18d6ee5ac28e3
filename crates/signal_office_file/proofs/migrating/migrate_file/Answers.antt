use Rattle.std.proofs.Common.{◌≡◌, sym, subst}
use Rattle.std.specs.Prelude.{MatchResult}
use Rattle.office_tables.proofs.ArrangedLemmas.{found_arranged}
use Rattle.signal_office_file.specs.Migrating.{BringsToday}
use Rattle.signal_office_file.proofs.MigratingLemmas.{closed_migrated, migrates_in, stands_today}
use Rattle.signal_office_file.specs.declared.ended.Ended.TheVariants.{Closed}
use Rattle.signal_office_file.proofs.migrating.migrate_file.Goals as goal

pub migrate-outcome-requires : goal.migrate-outcome-requires
migrate-outcome-requires g c clean = found_arranged _ _ (c.in-Ok.ensures.opened clean).0.reads

pub returns-in-Err : goal.returns-in-Err
returns-in-Err g c = record { ends = c.in-Err.ensures.unopened; today = tt }

pub returns-in-Ok-close_file : goal.returns-in-Ok-close_file
returns-in-Ok-close_file g c =
    let tried = c.migrate-outcome in
    let it = tried.ensures in
    let files = c.args.files in
    let back = c.in-Ok-close_file.files in
    let closed = closed_migrated files tried.new.conn back tried.result c.in-Ok-close_file.ensures.1
    (migrates_in g.met.D.Disk.seen_may_stay files tried.result c.in-Ok.conn tried.new.conn c.in-Ok.ensures.opened it.opened it.brought it.settled it.version it.damaged it.unchanged it.crash) in
    record {
      ends = (tried.result, c.rows_written-done.ensures, c.in-Ok-close_file.ensures.0, closed);
      today = subst (λ told. BringsToday {g = g.D.Disk} files (Closed told back)) (sym c.rows_written-done.ensures)
          (stands_today {g = g.D.Disk} files back tried.result closed);
    }

pub returns-in-Err-close_file : goal.returns-in-Err-close_file
returns-in-Err-close_file g c =
    let tried = c.migrate-outcome in
    let it = tried.ensures in
    let told = c.first_fault.result in
    record {
      ends = record {
        outcome = tried.result;
        conn = tried.new.conn;
        migrates = migrates_in g.met.D.Disk.seen_may_stay c.args.files tried.result c.in-Ok.conn tried.new.conn c.in-Ok.ensures.opened it.opened it.brought it.settled it.version it.damaged it.unchanged it.crash;
        closing = c.in-Err-close_file.fault;
        unclosed = c.in-Err-close_file.ensures;
        told_is = subst (λ done. MatchResult done (λ _. told ≡ c.in-Err-close_file.fault) (λ cause. told ≡ cause)) c.rows_written-done.ensures c.first_fault.ensures;
      };
      today = tt;
    }
