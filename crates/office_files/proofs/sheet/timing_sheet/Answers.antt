use Rattle.std.proofs.Common.{◌≡◌, ◌∙◌, ℕ, List, [], ◌++◌, string_bytes}
use Rattle.signal_records.specs.declared.record.Row.{Row}
use Rattle.office_files.specs.Sheet.{sections, title}
use Rattle.office_files.proofs.sheet.timing_sheet.Goals as goal

-- what is written after the title
titled : (start old new bytes head : List ℕ) (lines : List Row → List ℕ) (shown rows : List Row) → start ≡ [] → old ≡ start ++ head → new ≡ old ++ lines shown → shown ≡ rows → bytes ≡ new → bytes ≡ head ++ lines rows
titled start old new bytes head lines shown rows none one two same all = cc

pub returns : goal.returns
returns c =
    titled _ _ (string_bytes c.push_sections.new.text) c.into_bytes.result.items (title c.args.id c.args.name.now c.args.revision) sections c.deref.result.now _ c.new-text.ensures.bytes c.in_ok-push_title.ensures c.in_ok-push_sections.ensures
    (c.deref.ensures.value ∙ c.in_ok-rows.ensures.rows) (cc c.into_bytes.ensures.value)
