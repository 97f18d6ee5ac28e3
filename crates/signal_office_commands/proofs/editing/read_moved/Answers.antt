use Rattle.std.proofs.Common.{Ok, ap}
use Rattle.signal_office_commands.proofs.EditingLemmas.{tells_committed, tells_open}
use Rattle.signal_office_commands.specs.declared.editing.Revised.TheVariants.{Committed}
use Rattle.signal_office_commands.proofs.editing.read_moved.Goals as goal

pub returns-in-Normal : goal.returns-in-Normal
returns-in-Normal g c = tells_committed _ _ _ _ c.in-Normal.is c.timing.ensures (ap (λ running. Ok (Committed running)) c.ok-running.ensures.value)

pub returns-in-Transaction : goal.returns-in-Transaction
returns-in-Transaction g c = tells_open _ _ _ _ c.in-Transaction.is c.draft.ensures c.open_draft.ensures
