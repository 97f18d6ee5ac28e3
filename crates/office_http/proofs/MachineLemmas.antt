-- How a decision and its answer deal with a request.
use Rattle.std.proofs.Common.{◌≡◌, ◌≢◌, ◌⊎◌, inl, inr, ℕ, List, refl, sym, ap, subst}
use Rattle.std.specs.Prelude.{Result, Ok, Err, IfOk}
use Rattle.office_tables_shelf.specs.{Content.Content, declared.counts.WriteCounts.WriteCounts}
use Rattle.office_desk.specs.{Answers.AnswersAny, Changes.IsQueryCommand, Changes.IsRefused, Changes.RiseAtMost, StandFor.StandForSound}
use Rattle.office_machine.specs.{Office.Office, Step.Step, Step.answered, declared.command.Command.Command, declared.refusal.Refusal.TheVariants.Unavailable, declared.reply.Reply.Reply}
use Rattle.office_machine.specs.declared.reply.Reply.TheVariants.{Refused}
use Rattle.office_desk.proofs.Writes.{no_rise}
use Rattle.office_http_responses.specs.{Answers.answer_bytes, Faults.ask_fault_text}
use Rattle.office_http_requests.specs.declared.command.Asked.{Asked}
use Rattle.office_http_requests.specs.{declared.fault.AskFault.AskFault, declared.fault.AskFault.TheVariants.NoMemory}
use Rattle.office_http_framing.specs.{Front.PlainRequest, Protocol.bytes_of, Stops.DealsBy, Stops.StandsAfterStep, Stops.Moment, Stops.Storage, Stops.moment_of}
use Rattle.office_http_framing.specs.declared.machine.Answer.{Answer}
use Rattle.office_http_framing.specs.declared.machine.Unavailable.{Unavailable as IsUnavailable}
use Rattle.office_http.specs.Protocol.{AnswersAsked, AnswersRead, ChangesNothing, WritesAsked, WritesRead, office_protocol, office_storage, read_of}

-- a reply that is not unavailable is that of the command's own step
own_step : (before : Office) (asked : Asked) (reply : Reply) (after : Office) (answer : List ℕ) → reply ≢ Refused Unavailable
    → answer ≡ answer_bytes reply asked.form → Step before asked.command reply after → AnswersAsked before asked answer after
own_step before asked reply after answer other text (inl same) = absurd (other same.0)
own_step before asked reply after answer other text (inr step) = record { reply = reply; step = step; text = text }

own_reply : (before : Office) (command : Command) (reply : Reply) (after : Office) → reply ≢ Refused Unavailable → Step before command reply after → (answered before command).0 ≡ reply
own_reply before command reply after other (inl same) = absurd (other same.0)
own_reply before command reply after other (inr step) = ap (λ (it : Reply × Office). it.0) step

-- a command for which rows were written changes something
changes_something : (before : Office) (command : Command) (reply : Reply) → (answered before command).0 ≡ reply → (IsQueryCommand command → ⊥) → (IsRefused reply → ⊥) → ChangesNothing before command → ⊥
changes_something before command reply own asks accepted (inl query) = asks query
changes_something before command reply own asks accepted (inr refused) = accepted (subst IsRefused own refused)

-- what was decided, once it is made, is answered by a step
answers_asked : (old new : Content) (asked : Asked) (reply : Reply) (answer : List ℕ) → AnswersAny old asked.command reply new → reply ≢ Refused Unavailable
    → answer ≡ answer_bytes reply asked.form → (before : Office) → StandForSound old before
    → (after : Office) × StandForSound new after × AnswersAsked before asked answer after × ((answered before asked.command).0 ≡ reply)
answers_asked old new asked reply answer any other text before stands =
    let step = any before stands in
    (step.next, step.stand, own_step before asked reply step.next answer other text step.step, own_reply before asked.command reply step.next other step.step)

module _ {Shelf : Type 0} (is_honest : Shelf → Type 0) (content : Shelf → Content) (written : Shelf → WriteCounts) (may_leave : Shelf → Content → Type 0) (tables : Content) (before : Office) (request : PlainRequest)
    (stands : StandForSound tables before) where
  abbrev storage : Storage Shelf Office Content
  storage = office_storage is_honest content written may_leave

  -- ---- a command

  module _ (asked : Asked) (reply : Reply) (is_read : read_of request ≡ Ok asked) (other : reply ≢ Refused Unavailable) where
    step_of : (answer : List ℕ) (after : Office) → AnswersAsked before asked answer after → office_protocol.step before request answer after
    step_of answer after step = subst (λ (read : Result Asked AskFault). AnswersRead read before answer after) (sym is_read) step

    writes_of : (kept : Content) (old new : WriteCounts) → WritesAsked before asked.command tables kept old new → WritesRead (read_of request) before tables kept old new
    writes_of kept old new writes = subst (λ (read : Result Asked AskFault). WritesRead read before tables kept old new) (sym is_read) writes

    -- nothing was to be changed
    pub deals_read : (old new : Shelf) (answer : Answer) → AnswersAny tables asked.command reply tables → bytes_of answer ≡ answer_bytes reply asked.form
        → (is_honest new → content new ≡ tables) → written new ≡ written old → ((left : Content) → may_leave new left → may_leave old left)
        → DealsBy office_protocol storage old new (moment_of storage old tables before) request (Ok answer)
    deals_read old new answer any text held same kept =
        let made = answers_asked tables tables asked reply (bytes_of answer) any other text before stands in (
          tables,
          made.0,
          record {
            keeps = record { stands = made.1; held = held };
            passes = (
              step_of (bytes_of answer) made.0 made.2,
              made.1,
              writes_of tables (written old) (written new) (record { bounds = no_rise tables asked.command (written old) (written new) same; nothing = λ _. (refl, same) }),
            );
            leaves = λ left may. inr (refl, kept left may);
          },
        )

    -- the changes were made
    pub deals_made : (old new : Shelf) (answer : Answer) → AnswersAny tables asked.command reply (content new) → bytes_of answer ≡ answer_bytes reply asked.form
        → RiseAtMost tables asked.command (written old) (written new) → (IsQueryCommand asked.command → ⊥) → (IsRefused reply → ⊥) → ((left : Content) → may_leave new left → left ≡ content new)
        → DealsBy office_protocol storage old new (moment_of storage old tables before) request (Ok answer)
    deals_made old new answer any text bounds asks accepted settled =
        let made = answers_asked tables (content new) asked reply (bytes_of answer) any other text before stands in (
          content new,
          made.0,
          record {
            keeps = record { stands = made.1; held = λ _. refl };
            passes = (
              step_of (bytes_of answer) made.0 made.2,
              made.1,
              writes_of (content new) (written old) (written new) (record { bounds = bounds; nothing = λ nothing. absurd (changes_something before asked.command reply made.3 asks accepted nothing) }),
            );
            leaves = λ left may. inl (settled left may);
          },
        )

    -- tables with the changes stand for the office after the command's step
    pub after_step : (left : Content) (answer : List ℕ) → AnswersAny tables asked.command reply left → answer ≡ answer_bytes reply asked.form
        → StandsAfterStep office_protocol storage before request left
    after_step left answer any text =
        let made = answers_asked tables left asked reply answer any other text before stands in
        (answer, made.0, step_of answer made.0 made.2, made.1)

  -- ---- what is not answered, and what is no command

  -- it was answered unavailable
  pub deals_refused : (old new : Shelf) (refused : IsUnavailable) → (is_honest new → content new ≡ tables) → written new ≡ written old
      → ((left : Content) → may_leave new left → may_leave old left ⊎ StandsAfterStep office_protocol storage before request left)
      → DealsBy office_protocol storage old new (moment_of storage old tables before) request (Err refused)
  deals_refused old new refused held same leaves =
      let counted : WriteCounts → Moment storage = λ count. record { state = before; kept = tables; written = count } in
      record { keeps = record { stands = stands; held = held }; passes = (refl, ap counted same); leaves = leaves }

  -- a request that asks nothing is answered with its fault, or unavailable, and leaves the office
  pub fault_dealt : (shelf : Shelf) (fault : AskFault) (result : Result Answer IsUnavailable) → (is_honest shelf → content shelf ≡ tables) → (fault ≢ NoMemory → read_of request ≡ Err fault)
      → IfOk result (λ answer. (fault ≢ NoMemory) × (bytes_of answer ≡ ask_fault_text fault))
      → DealsBy office_protocol storage shelf shelf (moment_of storage shelf tables before) request result
  fault_dealt shelf fault (Ok answer) held gives text = (
    tables,
    before,
    record {
      keeps = record { stands = stands; held = held };
      passes = (
        subst (λ (read : Result Asked AskFault). AnswersRead read before (bytes_of answer) before) (sym (gives text.0)) (text.1, refl),
        stands,
        subst (λ (read : Result Asked AskFault). WritesRead read before tables tables (written shelf) (written shelf)) (sym (gives text.0)) (refl, refl),
      );
      leaves = λ left may. inr (refl, may);
    },
  )
  fault_dealt shelf fault (Err refused) held gives text = deals_refused shelf shelf refused held refl (λ left may. inl may)
