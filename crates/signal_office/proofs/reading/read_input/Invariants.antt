use Rattle.std.proofs.Common.{◌-◌, ◌^◌, vec_len}
use Rattle.signal_office.proofs.reading.read_input.Given as goal

abbrev pub decreases-loop-piece : goal.decreases-loop-piece
decreases-loop-piece g l = 2 ^ 64 - vec_len l.bytes
