-- The numbers of a key are small.
use Rattle.std.proofs.Common.{ℕ, ◌<◌, ◌^◌, arith}
use Rattle.signal_records.specs.{Key.kind_of, Key.first_of, Key.second_of, declared.key.Key.Key, Within.IsKeyWithin, Within.current_limits}
use Rattle.signal_records.specs.declared.key.Key.TheVariants.{Phase, Seq, Split, Pattern}

pub small : (key : Key) → IsKeyWithin current_limits key → (kind_of key < 2 ^ 32) × (first_of key < 2 ^ 32) × (second_of key < 2 ^ 32)
small (Phase p) within = let top = within.1 in (omega arith, omega arith, omega arith)
small (Seq n ring) within = let top = within.0.1 in let last = within.1.1 in (omega arith, omega arith, omega arith)
small (Split n p) within = let top = within.0.1 in let last = within.1.1 in (omega arith, omega arith, omega arith)
small (Pattern n) within = let top = within.1 in (omega arith, omega arith, omega arith)
