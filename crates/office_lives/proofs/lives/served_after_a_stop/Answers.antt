use Rattle.std.proofs.Common.{refl, sym}
use Rattle.std.proofs.Math.Logic.{∥∥₁_map}
use Rattle.sqlite.specs.Files.{file_state}
use Rattle.signal_office_file.proofs.{FilesLemmas.hold_today, ServingLemmas.served_to_a_stop}
use Rattle.office_lives.proofs.lives.served_after_a_stop.Goals as goal

-- what the second run found is what the stop left of the first one
pub returns : goal.returns
returns g c clean =
    let two = c.in_ok-second.ensures.made clean in
    let again = c.in_ok-second.ensures.clean clean in
    let was_clean = c.stop_office-files.ensures.clean again in
    let did = c.in-Ok.ensures.did was_clean in
    let may = ∥∥₁_map (c.stop_office-files.ensures.found again two.2.trees two.2.those)
    (λ m. (was_clean, two.2.trees, m, sym (hold_today two.2.trees two.0 (c.in-Ok.ensures.current.left was_clean two.2.trees m) two.2.hold))) in
    (did.0, two.1, did.1, (two.0, served_to_a_stop file_state did.0 c.in-Ok.office _ _ _ c.in-Ok.first two.0 did.2 may, (two.1, two.3, refl)), two.4)
