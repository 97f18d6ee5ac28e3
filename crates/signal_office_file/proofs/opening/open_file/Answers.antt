use Rattle.std.proofs.Common.{sym, ◌∙◌}
use Rattle.sqlite.specs.Files.{file_state}
use Rattle.office_tables.proofs.ArrangedLemmas.{found_arranged}
use Rattle.signal_office_file.proofs.LeftLemmas.{refused_files}
use Rattle.signal_office_file.specs.declared.left.FileLeft.TheVariants as left
use Rattle.signal_office_file.proofs.opening.open_file.Goals as goal

pub office_over-requires : goal.office_over-requires
office_over-requires g c clean = found_arranged _ _ (c.in-Ok.ensures.opened clean).0.reads

-- what was opened holds what the files held
pub returns-in-Ok-office_over : goal.returns-in-Ok-office_over
returns-in-Ok-office_over g c =
    let it = c.in-Ok-office_over.ensures.opened.0 in
    record {
      clean = λ clean. (c.in-Ok.ensures.opened (it.honest (it.opened clean))).0.honest;
      opened = λ clean.
          let honest = it.opened clean in
          let found = (c.in-Ok.ensures.opened (it.honest honest)).0 in
          record {
            is_open = honest.1;
            held = record {
              trees = (file_state c.in-Ok.conn).committed.trees;
              those = record { holds = found.holds; reads = found.reads };
              hold = (it.takes honest).kept;
            };
            crash = λ tables left. sym left.3 ∙ it.crash honest left.1 left.2;
            unwritten = c.in-Ok-office_over.ensures.opened.1;
          };
      current = it.current;
    }

pub returns-in-Err : goal.returns-in-Err
returns-in-Err g c = refused_files g.met.D.Disk.seen_may_stay c.args.files c.in-Err.fault (left.Unopened c.in-Err.left) c.in-Err.ensures.unopened

pub returns-in-Err-office_over : goal.returns-in-Err-office_over
returns-in-Err-office_over g c =
    let it = c.in-Err-office_over in
    refused_files g.met.D.Disk.seen_may_stay c.args.files c.fault_of_opening.result (left.Database it.left)
    (record { conn = c.in-Ok.conn; found = c.in-Ok.ensures.opened; cause = it.fault; told_is = c.fault_of_opening.ensures; refused = it.ensures.refused })
