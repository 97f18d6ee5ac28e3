use Rattle.std.proofs.Common.{◌≡◌, ◌++◌, codes, decimal, string_bytes, take, flat_map}
use Rattle.office_files.specs.Cells.{when_empty}
use Rattle.office_files.proofs.cells.push_numbers.Given as goal

abbrev pub invariant-loop-phase : goal.invariant-loop-phase
invariant-loop-phase l =
    string_bytes l.text ≡ string_bytes l.fn.text ++ (when_empty l.phases (codes " -") ++ flat_map (λ n. codes " " ++ decimal n) (take l.phase-index l.phases))
