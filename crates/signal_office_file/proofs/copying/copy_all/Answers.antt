use Rattle.signal_office_file.proofs.HeldLemmas.{uncopied}
use Rattle.signal_office_file.proofs.copying.copy_all.Goals as goal

pub returns-clause-fault : goal.returns-clause-fault
returns-clause-fault g c = uncopied _ _ c.copy_blocks.result c.copy_blocks.ensures.fault
