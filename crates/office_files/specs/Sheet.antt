-- The timing sheet of an intersection.
use Rattle.std.specs.Prelude.{ℕ, List, [], ◌++◌, flat_map, codes, decimal, Option, Some, None}
use Rattle.signal_records.specs.declared.record.Ped.{Ped}
use Rattle.signal_records.specs.declared.record.Phase.{Phase}
use Rattle.signal_records.specs.declared.record.Row.{Row}
use Rattle.signal_records.specs.declared.record.Row.TheVariants as row
use Rattle.signal_records.specs.SplitMode.{mode_code}
use Rattle.office_files.specs.Cells.{number_column, tenths_column, flag_column, numbers_text}

-- the six columns of a pedestrian part, or a dash in each
abbrev pub ped_columns : Option Ped → List ℕ
ped_columns None = codes "     -     -     -     -     -     -"
ped_columns (Some ped) =
    number_column ped.walk ++ number_column ped.clear ++ tenths_column ped.width ++ tenths_column ped.setback ++ flag_column ped.short
    ++ number_column ped.lead

-- the columns of a phase before its pedestrian part's: its number, its ring, minimum green, passage, maximum green,
-- yellow and red; the greens are seconds; passage, yellow and red are tenths of a second with a point
abbrev pub interval_columns : ℕ → Phase → List ℕ
interval_columns p phase =
    number_column p ++ number_column phase.ring ++ number_column phase.min_green ++ tenths_column phase.passage
    ++ number_column phase.max1 ++ tenths_column phase.yellow ++ tenths_column phase.red

-- the line of a phase row, with its mates at the end; nothing for any other row
abbrev pub phase_line : Row → List ℕ
phase_line (row.Phase p phase) = interval_columns p phase ++ ped_columns phase.ped ++ numbers_text phase.mates ++ codes "\n"
phase_line other = []

-- the line of a sequence row: its number, its ring and the phases in order; nothing for any other row
abbrev pub sequence_line : Row → List ℕ
sequence_line (row.Seq n ring seq) = number_column n ++ number_column ring ++ numbers_text seq.list ++ codes "\n"
sequence_line other = []

-- the line of a split row: its number, its phase, the time, the code of the mode and the flag; nothing for any other
-- row
abbrev pub split_line : Row → List ℕ
split_line (row.Split n p split) =
    number_column n ++ number_column p ++ number_column split.time ++ number_column (mode_code split.mode) ++ flag_column split.coord ++ codes "\n"
split_line other = []

-- the line of a pattern row: its number, cycle, offset, split and sequence; nothing for any other row
abbrev pub pattern_line : Row → List ℕ
pattern_line (row.Pattern n pattern) =
    number_column n ++ number_column pattern.cycle ++ number_column pattern.offset ++ number_column pattern.split ++ number_column pattern.seq ++ codes "\n"
pattern_line other = []

-- the section of phases: its headings, and a line for each
abbrev pub phases_section : List Row → List ℕ
phases_section rows =
    codes "Phases\n    No  Ring   Min  Pass   Max   Yel   Red  Walk Clear Width Setbk Short  Lead Mates\n" ++ flat_map phase_line rows

-- the section of sequences: its headings, and a line for each row
abbrev pub sequences_section : List Row → List ℕ
sequences_section rows = codes "Sequences\n    No  Ring Phases\n" ++ flat_map sequence_line rows

-- the section of splits: its headings, and a line for each row
abbrev pub splits_section : List Row → List ℕ
splits_section rows = codes "Splits\n    No Phase  Time  Mode Coord\n" ++ flat_map split_line rows

-- the section of patterns: its headings, and a line for each
abbrev pub patterns_section : List Row → List ℕ
patterns_section rows = codes "Patterns\n    No Cycle  Offs Split   Seq\n" ++ flat_map pattern_line rows

-- the four sections of a sheet, in their order
abbrev pub sections : List Row → List ℕ
sections rows = phases_section rows ++ sequences_section rows ++ splits_section rows ++ patterns_section rows

-- the two lines at the top of a sheet: the intersection's number and name, and the revision
abbrev pub title : ℕ → List ℕ → ℕ → List ℕ
title id name revision =
    codes "Intersection " ++ decimal id ++ codes ": " ++ name ++ codes "\nRevision " ++ decimal revision ++ codes "\n"

-- the timing sheet of an intersection by its number, its name, its revision and its rows in key order
abbrev pub sheet_text : ℕ → List ℕ → ℕ → List Row → List ℕ
sheet_text id name revision rows = title id name revision ++ sections rows
