-- The laws of the record rows: what is read is spelled so, and what spells a command is read as it.
use Rattle.std.proofs.Common.{◌≡◌, ℕ, List, [], ◌∷◌, length, Result, Ok, Err, refl, ap, subst, map, All, ◌∙◌, arith, eqb-true}
use Rattle.std.specs.{Prelude.codes, Prelude.IfOk, Prelude.OnOk, Fmt.decimal, Option.ok_or}
use Rattle.signal_records.specs.declared.fault.RowFault.TheVariants as fault
use Rattle.signal_records.specs.Reading.{text_at, number_of, number_at}
use Rattle.signal_records.proofs.FieldLaws.{same_ok, number_only}
use Rattle.signal_records.proofs.RowLaws.{number_step, bind_only, cons_is, places_all, by_kind}
use Rattle.cabinet_core.specs.{Day.day_text, declared.record.Inspection.Inspection, declared.record.Opening.Opening, declared.record.UsedLine.UsedLine, declared.record.Closing.Closing, declared.record.Delivery.Delivery, declared.command.RecordCommand.RecordCommand, Within.IsDeliveryWithin, Within.IsRecordWithin}
use Rattle.cabinet_core.specs.declared.command.RecordCommand.TheVariants as command
use Rattle.office_files.specs.RecordReading.{day_of, day_at, words_of, words_at, part_of, part_at, inspection_at, opening_at, use_at, close_at, delivery_at, record_at}
use Rattle.office_files.specs.{RecordSpelling.record_spelling, Csv.csv_records, Csv.csv_text}
use Rattle.office_files.specs.Records.{commands_of}
use Rattle.office_files.proofs.FileLaws.{AreRowLaws, file_only}
use Rattle.office_files.proofs.WritingLemmas.{BeginsWithLetter, csv_records-spellings}
use Rattle.office_files.proofs.RecordFieldLemmas.{day_step, day_only, words_step, words_only, part_step, part_only}

abbrev IsFound : List (List ℕ) → RecordCommand → Type 0
IsFound fields c = (fields ≡ record_spelling c) × IsRecordWithin c

-- inspections

inspection_found : (fields : List (List ℕ)) (c : RecordCommand) → text_at 1 fields ≡ codes "inspection" → length fields ≡ 6 → inspection_at fields ≡ Ok c → IsFound fields c
unfolding inspection_at
inspection_found fields c kind six h =
    let id = number_step 1 9999 2 fields _ c (omega arith) h in
    let number = number_step 1 999_999 3 fields _ c (omega arith) id.rest in
    let day = day_step 4 fields _ c number.rest in
    let clerk = words_step 40 5 fields _ c day.rest in
    let text = words_step 500 6 fields _ c clerk.rest in
    let spelled = places_all 6 fields six ∙ cons_is kind (cons_is id.spelt (cons_is number.spelt (cons_is day.spelt (cons_is clerk.spelt (cons_is text.spelt refl))))) in
    subst (IsFound fields) (same_ok _ c text.rest) (spelled, (id.within, record { number = number.within; day = day.within; clerk = clerk.within; text = text.within }))

inspection_only : (id : ℕ) (r : Inspection) → IsRecordWithin (command.Inspect id r) → inspection_at (record_spelling (command.Inspect id r)) ≡ Ok (command.Inspect id r)
unfolding inspection_at number_at day_at words_at
inspection_only id r within =
    bind_only (number_of 1 9999 2 (decimal id)) _ id _ (number_only 1 9999 2 id (omega arith) within.0) (
    bind_only (number_of 1 999_999 3 (decimal r.number)) _ r.number _ (number_only 1 999_999 3 r.number (omega arith) within.1.number) (
    bind_only (ok_or (day_of (day_text r.day)) (fault.Day 4)) _ r.day _ (day_only r.day (fault.Day 4) within.1.day) (
    bind_only (ok_or (words_of 40 r.clerk) (fault.Text 5)) _ r.clerk _ (words_only 40 r.clerk (fault.Text 5) within.1.clerk) (
    bind_only (ok_or (words_of 500 r.text) (fault.Text 6)) _ r.text _ (words_only 500 r.text (fault.Text 6) within.1.text) refl))))

-- orders

opening_found : (fields : List (List ℕ)) (c : RecordCommand) → text_at 1 fields ≡ codes "order" → length fields ≡ 6 → opening_at fields ≡ Ok c → IsFound fields c
unfolding opening_at
opening_found fields c kind six h =
    let id = number_step 1 9999 2 fields _ c (omega arith) h in
    let number = number_step 1 999_999 3 fields _ c (omega arith) id.rest in
    let day = day_step 4 fields _ c number.rest in
    let clerk = words_step 40 5 fields _ c day.rest in
    let text = words_step 500 6 fields _ c clerk.rest in
    let spelled = places_all 6 fields six ∙ cons_is kind (cons_is id.spelt (cons_is number.spelt (cons_is day.spelt (cons_is clerk.spelt (cons_is text.spelt refl))))) in
    subst (IsFound fields) (same_ok _ c text.rest) (spelled, (id.within, record { number = number.within; day = day.within; clerk = clerk.within; text = text.within }))

opening_only : (id : ℕ) (r : Opening) → IsRecordWithin (command.OpenOrder id r) → opening_at (record_spelling (command.OpenOrder id r)) ≡ Ok (command.OpenOrder id r)
unfolding opening_at number_at day_at words_at
opening_only id r within =
    bind_only (number_of 1 9999 2 (decimal id)) _ id _ (number_only 1 9999 2 id (omega arith) within.0) (
    bind_only (number_of 1 999_999 3 (decimal r.number)) _ r.number _ (number_only 1 999_999 3 r.number (omega arith) within.1.number) (
    bind_only (ok_or (day_of (day_text r.day)) (fault.Day 4)) _ r.day _ (day_only r.day (fault.Day 4) within.1.day) (
    bind_only (ok_or (words_of 40 r.clerk) (fault.Text 5)) _ r.clerk _ (words_only 40 r.clerk (fault.Text 5) within.1.clerk) (
    bind_only (ok_or (words_of 500 r.text) (fault.Text 6)) _ r.text _ (words_only 500 r.text (fault.Text 6) within.1.text) refl))))

-- used parts

use_found : (fields : List (List ℕ)) (c : RecordCommand) → text_at 1 fields ≡ codes "use" → length fields ≡ 6 → use_at fields ≡ Ok c → IsFound fields c
unfolding use_at
use_found fields c kind six h =
    let id = number_step 1 9999 2 fields _ c (omega arith) h in
    let order = number_step 1 999_999 3 fields _ c (omega arith) id.rest in
    let line = number_step 1 99 4 fields _ c (omega arith) order.rest in
    let part = part_step 5 fields _ c line.rest in
    let count = number_step 1 999_999_999 6 fields _ c (omega arith) part.rest in
    let spelled = places_all 6 fields six ∙ cons_is kind (cons_is id.spelt (cons_is order.spelt (cons_is line.spelt (cons_is part.spelt (cons_is count.spelt refl))))) in
    subst (IsFound fields) (same_ok _ c count.rest) (spelled, (id.within, record { order = order.within; line = line.within; part = part.within; count = count.within }))

use_only : (id : ℕ) (r : UsedLine) → IsRecordWithin (command.UsePart id r) → use_at (record_spelling (command.UsePart id r)) ≡ Ok (command.UsePart id r)
unfolding use_at number_at part_at
use_only id r within =
    bind_only (number_of 1 9999 2 (decimal id)) _ id _ (number_only 1 9999 2 id (omega arith) within.0) (
    bind_only (number_of 1 999_999 3 (decimal r.order)) _ r.order _ (number_only 1 999_999 3 r.order (omega arith) within.1.order) (
    bind_only (number_of 1 99 4 (decimal r.line)) _ r.line _ (number_only 1 99 4 r.line (omega arith) within.1.line) (
    bind_only (ok_or (part_of r.part) (fault.Text 5)) _ r.part _ (part_only r.part (fault.Text 5) within.1.part) (
    bind_only (number_of 1 999_999_999 6 (decimal r.count)) _ r.count _ (number_only 1 999_999_999 6 r.count (omega arith) within.1.count) refl))))

-- closings

close_found : (fields : List (List ℕ)) (c : RecordCommand) → text_at 1 fields ≡ codes "close" → length fields ≡ 5 → close_at fields ≡ Ok c → IsFound fields c
unfolding close_at
close_found fields c kind five h =
    let id = number_step 1 9999 2 fields _ c (omega arith) h in
    let order = number_step 1 999_999 3 fields _ c (omega arith) id.rest in
    let day = day_step 4 fields _ c order.rest in
    let closer = words_step 40 5 fields _ c day.rest in
    let spelled = places_all 5 fields five ∙ cons_is kind (cons_is id.spelt (cons_is order.spelt (cons_is day.spelt (cons_is closer.spelt refl)))) in
    subst (IsFound fields) (same_ok _ c closer.rest) (spelled, (id.within, (order.within, record { day = day.within; closer = closer.within })))

close_only : (id order : ℕ) (r : Closing) → IsRecordWithin (command.CloseOrder id order r) → close_at (record_spelling (command.CloseOrder id order r)) ≡ Ok (command.CloseOrder id order r)
unfolding close_at number_at day_at words_at
close_only id order r within =
    bind_only (number_of 1 9999 2 (decimal id)) _ id _ (number_only 1 9999 2 id (omega arith) within.0) (
    bind_only (number_of 1 999_999 3 (decimal order)) _ order _ (number_only 1 999_999 3 order (omega arith) within.1.0) (
    bind_only (ok_or (day_of (day_text r.day)) (fault.Day 4)) _ r.day _ (day_only r.day (fault.Day 4) within.1.1.day) (
    bind_only (ok_or (words_of 40 r.closer) (fault.Text 5)) _ r.closer _ (words_only 40 r.closer (fault.Text 5) within.1.1.closer) refl)))

-- deliveries

delivery_found : (fields : List (List ℕ)) (c : RecordCommand) → text_at 1 fields ≡ codes "delivery" → length fields ≡ 5 → delivery_at fields ≡ Ok c → IsFound fields c
unfolding delivery_at
delivery_found fields c kind five h =
    let part = part_step 2 fields _ c h in
    let number = number_step 1 999_999 3 fields _ c (omega arith) part.rest in
    let day = day_step 4 fields _ c number.rest in
    let count = number_step 1 999_999_999 5 fields _ c (omega arith) day.rest in
    let spelled = places_all 5 fields five ∙ cons_is kind (cons_is part.spelt (cons_is number.spelt (cons_is day.spelt (cons_is count.spelt refl)))) in
    subst (IsFound fields) (same_ok _ c count.rest) (spelled, record { part = part.within; number = number.within; day = day.within; count = count.within })

delivery_only : (r : Delivery) → IsDeliveryWithin r → delivery_at (record_spelling (command.Receive r)) ≡ Ok (command.Receive r)
unfolding delivery_at number_at day_at part_at
delivery_only r within =
    bind_only (ok_or (part_of r.part) (fault.Text 2)) _ r.part _ (part_only r.part (fault.Text 2) within.part) (
    bind_only (number_of 1 999_999 3 (decimal r.number)) _ r.number _ (number_only 1 999_999 3 r.number (omega arith) within.number) (
    bind_only (ok_or (day_of (day_text r.day)) (fault.Day 4)) _ r.day _ (day_only r.day (fault.Day 4) within.day) (
    bind_only (number_of 1 999_999_999 5 (decimal r.count)) _ r.count _ (number_only 1 999_999_999 5 r.count (omega arith) within.count) refl)))

-- commands

record_found : (fields : List (List ℕ)) (c : RecordCommand) → record_at fields ≡ Ok c → (fields ≡ record_spelling c) × IsRecordWithin c
unfolding record_at
record_found [] c h = absurd cc
record_found (kind ∷ rest) c h =
    let fields = kind ∷ rest in
    by_kind (IsFound fields) kind (codes "inspection") _ _ _ c h
    (λ name count. inspection_found fields c name (eqb-true (length fields) 6 count)) (λ h.
    by_kind (IsFound fields) kind (codes "order") _ _ _ c h
    (λ name count. opening_found fields c name (eqb-true (length fields) 6 count)) (λ h.
    by_kind (IsFound fields) kind (codes "use") _ _ _ c h
    (λ name count. use_found fields c name (eqb-true (length fields) 6 count)) (λ h.
    by_kind (IsFound fields) kind (codes "close") _ _ _ c h
    (λ name count. close_found fields c name (eqb-true (length fields) 5 count)) (λ h.
    by_kind (IsFound fields) kind (codes "delivery") _ _ _ c h
    (λ name count. delivery_found fields c name (eqb-true (length fields) 5 count))
    (λ h. absurd cc)))))

record_only : (c : RecordCommand) → IsRecordWithin c → record_at (record_spelling c) ≡ Ok c
unfolding record_at
record_only (command.Inspect id r) within = inspection_only id r within
record_only (command.OpenOrder id r) within = opening_only id r within
record_only (command.UsePart id r) within = use_only id r within
record_only (command.CloseOrder id order r) within = close_only id order r within
record_only (command.Receive r) within = delivery_only r within

pub record_laws : AreRowLaws record_at record_spelling IsRecordWithin
record_laws = record { found = record_found; only = record_only }

begins_with_kind : (c : RecordCommand) → BeginsWithLetter (record_spelling c)
begins_with_kind (command.Inspect id r) = (omega arith, omega arith)
begins_with_kind _ = (omega arith, omega arith)

-- the file of commands is read as them
pub given_reads_back : {V E : Type 0} (items : V → List ℕ) (result : Result V E) (shown commands : List RecordCommand) → shown ≡ commands → IfOk result (λ text. items text ≡ csv_text (map record_spelling shown)) → OnOk result (All IsRecordWithin shown) → IfOk result (λ text. commands_of (items text) ≡ Ok commands)
given_reads_back items (Ok text) shown commands same written within =
    file_only record_at record_spelling IsRecordWithin record_laws (items text) shown within (ap csv_records written ∙ csv_records-spellings record_spelling begins_with_kind shown) ∙ ap Ok same
given_reads_back items (Err e) shown commands same written within = tt
