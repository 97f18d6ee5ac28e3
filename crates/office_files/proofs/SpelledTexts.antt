-- What rows and records are spelled with are texts.
use Rattle.std.proofs.Common.{true, ℕ, ◌+◌, ◌<◌, ◌/◌, ◌%◌, List, [], ◌∷◌, Option, Some, None, refl, arith}
use Rattle.std.specs.Prelude.{IsUtf8, codes, if◌then◌else◌}
use Rattle.std.proofs.lemmas.Str.{IsUtf8-nil}
use Rattle.signal_records.specs.{declared.record.Ped.Ped, declared.record.Phase.Phase, declared.record.Row.Row, Spelling.spelling, Spelling.phase_front, Spelling.ped_fields, SplitMode.mode_code, Within.current_limits, Within.IsRowWithin}
use Rattle.signal_records.specs.declared.record.Row.TheVariants as row
use Rattle.cabinet_core.specs.Day.{CivilDay, civil_day, civil_text, day_text, IsDay}
use Rattle.cabinet_core.specs.{declared.command.RecordCommand.RecordCommand, Within.IsRecordWithin}
use Rattle.cabinet_core.specs.declared.command.RecordCommand.TheVariants as command
use Rattle.cabinet_core.proofs.{DayLemmas.IsShort, DayLemmas.civil_day_is_short, PartLemmas.IsUtf8-from_code}
use Rattle.office_files.specs.RecordSpelling.{record_spelling}
use Rattle.office_files.proofs.Utf8Lemmas.{AreTexts, AreTexts-append, before, IsUtf8-low, IsUtf8-decimal, IsUtf8-list}

phase_texts : (p : ℕ) (phase : Phase) → AreTexts (phase_front p phase)
phase_texts p phase =
    (IsUtf8-decimal p, (IsUtf8-decimal phase.ring, (IsUtf8-decimal phase.min_green, (IsUtf8-decimal phase.passage, (IsUtf8-decimal phase.max1, (IsUtf8-decimal phase.yellow, (IsUtf8-decimal phase.red, (IsUtf8-list phase.mates, tt))))))))

ped_texts : (ped : Option Ped) → AreTexts (ped_fields true ped)
ped_texts None = tt
ped_texts (Some ped) =
    (IsUtf8-decimal ped.walk, (IsUtf8-decimal ped.clear, (IsUtf8-decimal ped.width, (IsUtf8-decimal ped.setback, (IsUtf8-decimal (if ped.short then 1 else 0), (IsUtf8-decimal ped.lead, tt))))))

pub row_texts : (r : Row) → IsRowWithin current_limits r → AreTexts (spelling current_limits r)
row_texts (row.Phase p phase) within =
    (IsUtf8-low (codes "phase") refl, AreTexts-append (phase_front p phase) (ped_fields true phase.ped) (phase_texts p phase) (ped_texts phase.ped))
row_texts (row.Seq n ring r) within =
    (IsUtf8-low (codes "seq") refl, (IsUtf8-decimal n, (IsUtf8-decimal ring, (IsUtf8-list r.list, tt))))
row_texts (row.Split n p split) within =
    (IsUtf8-low (codes "split") refl, (IsUtf8-decimal n, (IsUtf8-decimal p, (IsUtf8-decimal split.time, (IsUtf8-decimal (mode_code split.mode), (IsUtf8-decimal (if split.coord then 1 else 0), tt))))))
row_texts (row.Pattern n pattern) within =
    (IsUtf8-low (codes "pattern") refl, (IsUtf8-decimal n, (IsUtf8-decimal pattern.cycle, (IsUtf8-decimal pattern.offset, (IsUtf8-decimal pattern.split, (IsUtf8-decimal pattern.seq, tt))))))

-- a number of two digits before a text
two_before : (n : ℕ) (text : List ℕ) → n < 100 → IsUtf8 text → IsUtf8 ((48 + n / 10) ∷ (48 + n % 10) ∷ text)
two_before n text low h = before (48 + n / 10) _ (omega arith) (before (48 + n % 10) text (omega arith) h)

civil_text-utf8 : (c : CivilDay) → IsShort c → IsUtf8 (civil_text c)
civil_text-utf8 c short =
    two_before (c.year / 100) _ short.century (two_before (c.year % 100) _ short.year (before 45 _ (omega arith) (two_before c.month _ short.month (before 45 _ (omega arith) (two_before c.day [] short.day IsUtf8-nil)))))

day_text-utf8 : (n : ℕ) → IsDay n → IsUtf8 (day_text n)
unfolding day_text
day_text-utf8 n h = civil_text-utf8 (civil_day n) (civil_day_is_short n h)

pub record_texts : (c : RecordCommand) → IsRecordWithin c → AreTexts (record_spelling c)
record_texts (command.Inspect id r) within =
    (IsUtf8-low (codes "inspection") refl, (IsUtf8-decimal id, (IsUtf8-decimal r.number, (day_text-utf8 r.day within.1.day, (within.1.clerk.utf8, (within.1.text.utf8, tt))))))
record_texts (command.OpenOrder id r) within =
    (IsUtf8-low (codes "order") refl, (IsUtf8-decimal id, (IsUtf8-decimal r.number, (day_text-utf8 r.day within.1.day, (within.1.clerk.utf8, (within.1.text.utf8, tt))))))
record_texts (command.UsePart id r) within =
    (IsUtf8-low (codes "use") refl, (IsUtf8-decimal id, (IsUtf8-decimal r.order, (IsUtf8-decimal r.line, (IsUtf8-from_code r.part within.1.part.spelt, (IsUtf8-decimal r.count, tt))))))
record_texts (command.CloseOrder id order r) within =
    (IsUtf8-low (codes "close") refl, (IsUtf8-decimal id, (IsUtf8-decimal order, (day_text-utf8 r.day within.1.1.day, (within.1.1.closer.utf8, tt)))))
record_texts (command.Receive r) within =
    (IsUtf8-low (codes "delivery") refl, (IsUtf8-from_code r.part within.part.spelt, (IsUtf8-decimal r.number, (day_text-utf8 r.day within.day, (IsUtf8-decimal r.count, tt)))))
