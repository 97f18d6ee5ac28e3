-- How a run over requests is a run of the office machine over their commands, and so keeps its laws.
use Rattle.std.proofs.Common.{◌≡◌, ◌⊎◌, ◌++◌, ℕ, List, [], ◌∷◌, inl, inr, refl, sym, ap, subst}
use Rattle.std.specs.Prelude.{Result, Ok, Err}
use Rattle.office_machine.specs.{Office.IsSound, Office.Office, Step.AreSound, Step.Run, declared.command.Command.Command, declared.refusal.Refusal.TheVariants.Unavailable, declared.reply.Reply.Reply}
use Rattle.office_machine.specs.declared.reply.Reply.TheVariants.{Refused}
use Rattle.office_desk.proofs.{RegisterLaws.runs_register, Repeats.runs_repeat, Street.keeps_the_street, TimingLaw.runs_timing}
use Rattle.office_tables_shelf.specs.{Content.Content, declared.counts.WriteCounts.WriteCounts}
use Rattle.office_http.specs.Laws.{KeepsLaws, Serves, TellsRead, TellsReplies, asked_in, command_read}
use Rattle.office_http.specs.Protocol.{AnswersRead, office_protocol, office_storage, read_of}
use Rattle.office_http_requests.specs.declared.fault.AskFault.{AskFault}
use Rattle.office_http_framing.specs.Front.{PlainRequest}
use Rattle.office_http_framing.specs.Stops.{How, stepped, unavailable, Leaves, LeavesOne, Moment, Passes, Ran, Storage, moment_of}
use Rattle.office_http_framing.proofs.StopLemmas.{may_answer}
use Rattle.office_http_responses.specs.Unavailable.{unavailable_bytes}
use Rattle.office_http_requests.specs.declared.command.Asked.{Asked}

-- the replies of a run that the answers tell
pub record Told (before : Office) (requests : List PlainRequest) (answers : List (List ℕ)) (after : Office) : Type 0 where
  pub replies : List Reply
  pub run : Run before (asked_in requests) replies after
  pub sound : AreSound before (asked_in requests) replies after run
  pub tells : TellsReplies requests replies answers

-- such a run, between sound offices, keeps the laws of the office machine
pub keeps_laws : (before after : Office) (requests : List PlainRequest) (answers : List (List ℕ)) → IsSound before → IsSound after → Told before requests answers after
    → KeepsLaws before requests answers after
keeps_laws before after requests answers first last it = record {
  replies = it.replies;
  run = it.run;
  tells = it.tells;
  sound = it.sound;
  street = keeps_the_street after last;
  running = λ id. runs_timing id _ (asked_in requests) it.replies before after it.run refl;
  register = runs_register (asked_in requests) it.replies before after it.run first last;
  repeats = runs_repeat (asked_in requests) it.replies before after it.run;
}

-- the answer to one request, before those to the rest
one_more : (read : Result Asked AskFault) (before mid after : Office) (answer : List ℕ) (commands : List Command) (replies : List Reply)
    → AnswersRead read before answer mid ⊎ ((answer ≡ unavailable_bytes) × (mid ≡ before)) → IsSound before
    → (run : Run mid commands replies after) → AreSound mid commands replies after run
    → (all : List Reply) × (longer : Run before (command_read read ++ commands) all after) × AreSound before (command_read read ++ commands) all after longer × TellsRead read answer all replies
one_more (Ok asked) before mid after answer commands replies (inl step) first run sound =
    (step.reply ∷ replies, (mid, inr step.step, run), (first, sound), (step.reply, inl step.text, refl))
one_more (Ok asked) before mid after answer commands replies (inr same) first run sound =
    (Refused Unavailable ∷ replies, (mid, inl (refl, same.1), run), (first, sound), (Refused Unavailable, inr (refl, same.0), refl))
one_more (Err fault) before mid after answer commands replies (inl step) first run sound =
    let here = subst (λ o. (r : Run o commands replies after) × AreSound o commands replies after r) step.1 (run, sound) in
    (replies, here.0, here.1, (inl step.0, refl))
one_more (Err fault) before mid after answer commands replies (inr same) first run sound =
    let here = subst (λ o. (r : Run o commands replies after) × AreSound o commands replies after r) same.1 (run, sound) in
    (replies, here.0, here.1, (inr same.0, refl))

module _ {Shelf : Type 0} (is_honest : Shelf → Type 0) (content : Shelf → Content) (written : Shelf → WriteCounts) (may_leave : Shelf → Content → Type 0) where
  abbrev storage : Storage Shelf Office Content
  storage = office_storage is_honest content written may_leave

  -- what is kept after a request stands for a sound office
  sound_after : (how : How) (request : PlainRequest) (answer : List ℕ) (old new : Moment storage) → Passes office_protocol storage how request answer old new → IsSound old.state → IsSound new.state
  sound_after stepped request answer old new passes sound = passes.1.sound
  sound_after unavailable request answer old new passes sound = subst (λ (moment : Moment storage). IsSound moment.state) (sym passes.1) sound

  told : (may : Content → Type 0) (first last : Moment storage) (requests : List PlainRequest) (answers : List (List ℕ)) (at_end : Content → Type 0) → IsSound first.state
      → Leaves office_protocol storage may first requests answers at_end last → Told first.state requests answers last.state
  told may first last [] [] at_end sound leaves = record { replies = []; run = ap (λ (moment : Moment storage). moment.state) leaves.1; sound = sound; tells = tt }
  told may first last (request ∷ requests) (answer ∷ answers) at_end sound leaves =
      let next = leaves.1 in
      let so_far = told (LeavesOne office_protocol storage leaves.0 request may first next) next last requests answers at_end (sound_after leaves.0 request answer first next leaves.2 sound) leaves.3 in
      let all = one_more (read_of request) first.state next.state last.state answer (asked_in requests) so_far.replies (may_answer office_protocol storage leaves.0 request answer first next leaves.2) sound so_far.run so_far.sound in
      record { replies = all.0; run = all.1; sound = all.2; tells = (so_far.replies, all.3, so_far.tells) }
  told may first last [] (answer ∷ answers) at_end sound leaves = absurd leaves
  told may first last (request ∷ requests) [] at_end sound leaves = absurd leaves

  -- a run from a sound office keeps the laws of the office machine
  pub serves : (may : Content → Type 0) (first : Moment storage) (last : Shelf) (kept : Content) (after : Office) → IsSound first.state
      → (requests : List PlainRequest) (answers : List (List ℕ)) → Ran office_protocol storage may first last kept after requests answers
      → Serves storage may first last kept after requests answers
  serves may first last kept after sound requests answers ran = record {
    ran = ran;
    laws = keeps_laws first.state after requests answers sound ran.keeps.stands.sound
        (told may first (moment_of storage last kept after) requests answers (may_leave last) sound ran.leaves);
  }
