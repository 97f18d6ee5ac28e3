use Rattle.office_tables.proofs.ArrangedLemmas.{found_arranged}
use Rattle.office_trials.proofs.files.database.Goals as goal

-- what an opening finds in files is arranged
pub returns-in-Ok : goal.returns-in-Ok
returns-in-Ok g c clean = found_arranged _ _ (c.in-Ok.ensures.found clean).reads
