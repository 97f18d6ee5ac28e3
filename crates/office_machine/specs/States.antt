-- The names of the states of the transaction.
use Rattle.std.specs.Prelude.{ℕ, List, codes}
use Rattle.signal_records.specs.declared.state.DbState.{DbState}
use Rattle.signal_records.specs.declared.state.DbState.TheVariants.{Normal, Transaction, Verify, Done}

-- the name of a state, as `dbCreateTransaction` has it
abbrev pub state_name : DbState → List ℕ
state_name Normal = codes "normal"
state_name Transaction = codes "transaction"
state_name Verify = codes "verify"
state_name Done = codes "done"
