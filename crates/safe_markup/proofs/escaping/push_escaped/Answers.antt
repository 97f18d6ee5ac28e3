use Rattle.std.proofs.Common.{ap, sym, ◌∙◌, append_assoc, append-nil}
use Rattle.std.proofs.lemmas.Str.{IsUtf8-past_char}
use Rattle.safe_markup.proofs.{Characters.escaped_empty, Characters.escaped_step, Marks.none_added, Restored.restored}
use Rattle.safe_markup.specs.Escaping.{marks}
use Rattle.safe_markup.proofs.escaping.push_escaped.Goals as goal

pub loop-c-preserved : goal.loop-c-preserved
loop-c-preserved c =
    let held = c.loop-c.invariant in
    let parts = c.in-Some.ensures.steps.0 in
    let step = escaped_step _ _ c.in-Some.c parts in
    record {
      left = IsUtf8-past_char _ _ c.in-Some.c held.left parts;
      whole = rw (c.in_ok-push_character.ensures, append_assoc) (rw step at held.whole);
    }

pub returns-clause-written : goal.returns-clause-written
returns-clause-written c = sym (append-nil _) ∙ rw (escaped_empty _ c.in-None.ensures.steps.0.0) at c.loop-c.invariant.whole

pub returns-clause-marks : goal.returns-clause-marks
returns-clause-marks c = ap marks (returns-clause-written c) ∙ none_added _ _

pub returns-clause-read : goal.returns-clause-read
returns-clause-read c = restored _

pub returns-in_err-push_character-clause-read : goal.returns-in_err-push_character-clause-read
returns-in_err-push_character-clause-read c = restored _
