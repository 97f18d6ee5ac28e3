use Rattle.std.proofs.Common.{inl, refl, sym, subst}
use Rattle.office_tables_decisions.specs.StandFor.{StandForSound}
use Rattle.signal_office_file.proofs.FilesLemmas.{found_tables}
use Rattle.office_lives.proofs.lives.migrated_and_served.Goals as goal

pub returns : goal.returns
returns g c clean =
    let two = c.in_ok-outcome.ensures.made clean in
    let one = c.in_ok-files.ensures (c.in_ok-outcome.ensures.clean clean) in
    let same = found_tables g.D.Disk c.in_ok-files.files one.2 one.5 _ (inl refl) two.0 two.2 in
    (one.0, one.1, two.1, one.3, (one.2, one.4, (two.1, (λ before stands. two.3 before (subst (λ t. StandForSound t before) (sym same) stands)), refl)), two.4)
