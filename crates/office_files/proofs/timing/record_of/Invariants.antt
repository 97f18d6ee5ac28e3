use Rattle.std.proofs.Common.{◌≡◌, [], map, take, string_bytes}
use Rattle.csv.specs.Records.{fields_of, partial_of}
use Rattle.office_files.proofs.timing.record_of.Given as goal

abbrev pub invariant-loop-text : goal.invariant-loop-text
invariant-loop-text l =
    (fields_of l.«record» ≡ map string_bytes (take l.text-index l.texts)) × (partial_of l.«record» ≡ [])
