use Rattle.std.proofs.Common.{◌≡◌, ◌+◌, ◌*◌, ◌≤◌, length, drop}
use Rattle.signal_plans.specs.PatternWarnings.{seconds_of, seconds_before, begin_of}
use Rattle.signal_plans.proofs.pattern.begin_of.Given as goal

-- the seconds of the phases so far, and those that are left before the phase
abbrev pub invariant-loop-q : goal.invariant-loop-q
invariant-loop-q l = record {
  rest : l.second + seconds_before (seconds_of l.set l.pattern) l.p (drop l.q-index l.q-items) ≡ begin_of l.set l.pattern l.p;
  short : length l.q-items ≤ 33;
  small : l.second ≤ 255 * l.q-index;
}
