use Rattle.std.proofs.Common.{◌≡◌, ◌+◌, List, length}
use Rattle.office_http_framing.specs.Stops.{KeepsState}
use Rattle.office_http.specs.Listening.{Connected, Exchanges, ListensBy, NoneGoesOn, ran_by, returned_after}
use Rattle.office_http.proofs.listening.serve_by.Given as goal

-- each connection that was given was served and taken back, and is no longer left
abbrev pub invariant-loop-left : goal.invariant-loop-left
invariant-loop-left g l = record {
  clean : g.M.Machine.is_clean l.machine → g.M.Machine.is_clean l.fn.machine;
  honest : g.M.Machine.storage.is_honest l.machine → g.M.Machine.storage.is_honest l.fn.machine;
  served : (served : List Connected) × NoneGoesOn served × (l.left + length (returned_after served) ≡ l.fn.left)
      × Exchanges (g.L.Listen.told l.fn.listener) (g.L.Listen.told l.listener) served
      × (g.M.Machine.is_clean l.machine → (before : g.M.Machine.State) (held : g.M.Machine.Stored) → KeepsState g.M.Machine.storage l.fn.machine held before
      → ListensBy g.M.Machine.protocol g.M.Machine.storage (ran_by g.M.Machine.protocol g.M.Machine.storage) l.fn.machine held before l.machine served);
}

abbrev pub decreases-loop-left : goal.decreases-loop-left
decreases-loop-left g l = l.left
