-- Each step of the transaction leads from a sound timing side to a sound one.
use Rattle.std.proofs.Common.{◌≡◌, ◌+◌, ◌≤◌, ◌==◌, ℕ, false, List, [], Option, Some, None, Result, Ok, Err, sym, subst, arith}
use Rattle.std.proofs.lemmas.Bool.Decides.{nat_tests}
use Rattle.std.specs.{Prelude.IfSome}
use Rattle.signal_values.specs.Words.{AreWords}
use Rattle.signal_records.specs.{Row.key_of, TimingSet.Rows, TimingSet.after_changes, Within.IsRowWithin, Within.current_limits, declared.record.Change.Change, declared.revision.TheConstants.LAST_REVISION, declared.state.Stage.Stage, declared.state.Stage.TheVariants.Transaction}
use Rattle.signal_rules.specs.Violations.{violations_of}
use Rattle.draft_core.specs.{Steps.asked_changes, Within.AreChangesWithin, declared.refusal.DraftRefusal.DraftRefusal, declared.step.Step.Step, declared.refusal.DraftRefusal.TheVariants.NotNormal, declared.refusal.DraftRefusal.TheVariants.NotTransaction}
use Rattle.draft_core.specs.Transaction.{TimingSide, Draft, holder_of, owned, with_draft, begun_from, abandoned_from, table_line}
use Rattle.draft_core.proofs.{Overlaid.get-after_changes, Sound.owned_inverts, Sound.committed_inverts}
use Rattle.office_machine.specs.Office.{Intersection, IsSoundIntersection, IsSoundDraft, AreRecords}
use Rattle.office_desk_timing.proofs.ReadBack.{row_at_within}
use Rattle.draft_core.specs.declared.step.Step.TheVariants as step

-- ---- records after changes

records_after : (changes : List Change) (set : Rows) → AreRecords set → AreChangesWithin changes → AreRecords (after_changes set changes)
records_after changes set records within key =
    let before = records key in
    let said = row_at_within changes key within in
    subst (λ o. IfSome o (λ row. IsRowWithin current_limits row × (key_of row ≡ key))) (sym (get-after_changes changes set key)) (grind (arith, before, said))

-- ---- sound timing sides

pub record IsSoundSide (side : TimingSide) : Type 0 where
  pub revision : side.revision ≤ LAST_REVISION
  pub rows : AreRecords side.committed
  pub no_violations : violations_of side.committed ≡ []
  pub draft : IfSome side.draft IsSoundDraft

pub sound_intersection : (i : Intersection) (next : TimingSide) → IsSoundIntersection i → IsSoundSide next → IsSoundIntersection (record i { timing = next })
sound_intersection i next sound side = record {
  name = sound.name;
  interval_low = sound.interval_low;
  interval_high = sound.interval_high;
  revision = side.revision;
  rows = side.rows;
  no_violations = side.no_violations;
  draft = side.draft;
}

-- with another draft, which is sound, or none
drafted_sound : (side : TimingSide) (draft : Option Draft) (next : TimingSide) → IsSoundSide side → IfSome draft IsSoundDraft
    → ◌≡◌ {A = Result TimingSide DraftRefusal} (Ok (record side { draft = draft })) (Ok next) → IsSoundSide next
drafted_sound side draft next sound drafted is =
    let made : TimingSide = record side { draft = draft } in
    let same : made ≡ next = cc in
    subst IsSoundSide same (record { revision = sound.revision; rows = sound.rows; no_violations = sound.no_violations; draft = drafted })

begun_sound : (side : TimingSide) (clerk : List ℕ) (held : Option Draft) (next : TimingSide) → IsSoundSide side → AreWords 40 clerk → begun_from side clerk held ≡ Ok next → IsSoundSide next
begun_sound side clerk None next sound words is = drafted_sound side _ next sound (record { owner = words; rows = sound.rows }) is
begun_sound side clerk (Some draft) next sound words is = absurd (let f : Err NotNormal ≡ Ok next = is in cc)

abandoned_sound : (side : TimingSide) (held : Option Draft) (next : TimingSide) → IsSoundSide side → abandoned_from side held ≡ Ok next → IsSoundSide next
abandoned_sound side None next sound is = absurd (let f : Err NotTransaction ≡ Ok next = is in cc)
abandoned_sound side (Some draft) next sound is = drafted_sound side None next sound tt is

-- a step of the owner, to a draft that is sound where the draft before was
owned_sound : (side next : TimingSide) (stage : Stage) (wrong : DraftRefusal) (clerk : List ℕ)
    (next_draft : Draft → Draft) → ((d : Draft) → IsSoundDraft d → IsSoundDraft (next_draft d))
    → IsSoundSide side → owned holder_of side.draft stage wrong clerk
    (λ draft. Ok (with_draft side (next_draft draft))) ≡ Ok next → IsSoundSide next
owned_sound side next stage wrong clerk next_draft keeps sound is =
    let step = owned_inverts side stage wrong clerk (λ draft. Ok (with_draft side (next_draft draft))) next is in
    drafted_sound side (Some (next_draft step.draft)) next sound
    (keeps step.draft (subst (λ d. IfSome d IsSoundDraft) step.held sound.draft)) step.gives

not_last : (n : ℕ) → (n == 999999) ≡ false → n ≤ 999999 → n + 1 ≤ 999999
not_last n e h = grind (arith, nat_tests)

-- each line of the table keeps a timing side sound
pub line_keeps : (step : Step) (clerk : List ℕ) (side next : TimingSide) → AreWords 40 clerk
    → AreChangesWithin (asked_changes step) → IsSoundSide side → table_line step clerk side ≡ Ok next
    → IsSoundSide next
line_keeps step.Begin clerk side next words within sound is = begun_sound side clerk side.draft next sound words is
line_keeps (step.Edit changes) clerk side next words within sound is =
    owned_sound side next Transaction NotTransaction clerk (λ draft. record draft { stage = Transaction; set = after_changes draft.set changes })
    (λ d held. record { owner = held.owner; rows = records_after changes d.set held.rows within }) sound is
line_keeps step.Commit clerk side next words within sound is =
    let made = committed_inverts side clerk next is in
    let held : IsSoundDraft made.0 = subst (λ d. IfSome d IsSoundDraft) made.1 sound.draft in
    subst IsSoundSide (sym made.2.becomes) (record {
      revision = not_last side.revision made.2.before sound.revision;
      rows = held.rows;
      no_violations = made.2.sound;
      draft = tt;
    })
line_keeps step.Abandon clerk side next words within sound is = abandoned_sound side side.draft next sound is
line_keeps _ clerk side next words within sound is =
    owned_sound side next _ _ clerk _ (λ d held. record { owner = held.owner; rows = held.rows }) sound is
