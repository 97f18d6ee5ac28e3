use Rattle.std.proofs.Common.{◌≡◌, ◌∙◌, [], Ok, inl, inr, sym, subst}
use Rattle.office_http_framing.specs.{Protocol.bytes_of, Stops.DealsBy, Stops.moment_of}
use Rattle.office_tables_shelf.specs.{Change.changed_by, Counts.counts_after}
use Rattle.office_desk.specs.Answers.{AnswersAny}
use Rattle.office_desk.proofs.{Runs.none_or_some, Writes.rise_at_most}
use Rattle.office_http.proofs.MachineLemmas.{after_step, deals_made, deals_read, deals_refused}
use Rattle.office_http.specs.Protocol.{office_protocol, office_storage}
use Rattle.office_http.proofs.machine.answer_asked.Goals as goal

-- nothing was changed, since the answer found no memory or the tables were refused
pub returns-in_default-clause-deals : goal.returns-in_default-clause-deals
returns-in_default-clause-deals g c clean before tables request is_read keeps =
    let kept = c.decide-decided.ensures.kept in
    deals_refused g.S.Shelf.is_honest g.S.Shelf.content g.S.Shelf.written g.S.Shelf.may_leave tables before request keeps.stands c.args.office.now c.decide-decided.new.self _
    (λ honest. kept.same_content honest ∙ keeps.held (kept.honest_before honest)) kept.same_counts (λ left may. inl (kept.same_outcomes left may))

-- where nothing is to be changed, the tables are those that were kept, whether they were read or a failure has shut them
pub returns-in-Ok-apply-clause-deals : goal.returns-in-Ok-apply-clause-deals
returns-in-Ok-apply-clause-deals g c clean before tables request is_read keeps =
    let storage = office_storage g.S.Shelf.is_honest g.S.Shelf.content g.S.Shelf.written g.S.Shelf.may_leave in
    let kept = c.decide-decided.ensures.kept in
    let is = c.decide-decided.ensures.tells (c.apply.ensures.clean clean) tables keeps.held in
    let value = c.as_slice.ensures.value in
    elim (none_or_some c.decide-decided.result.changes.items) [
      | inl none ↦
          subst (λ shelf. DealsBy office_protocol storage c.args.office.now shelf (moment_of storage c.args.office.now tables before) request (Ok c.in-Ok.answer)) (sym (c.apply.ensures.idle (value ∙ none)).0)
          (deals_read g.S.Shelf.is_honest g.S.Shelf.content g.S.Shelf.written g.S.Shelf.may_leave tables before request keeps.stands c.args.asked.now c.decide-decided.result.reply is_read c.in-Ok.ensures.told
          c.args.office.now c.decide-decided.new.self c.in-Ok.answer (rw none at is.step) c.in-Ok.ensures.text (λ honest. kept.same_content honest ∙ keeps.held (kept.honest_before honest)) kept.same_counts kept.same_outcomes)
      | inr changed ↦
          let some = λ (none : c.as_slice.result.now ≡ []). changed (sym value ∙ none) in
          let honest = c.in-Ok-apply.ensures.still_open clean some in
          let read = c.apply.ensures.honest honest in
          let made : g.S.Shelf.content c.apply.new.self ≡ changed_by tables c.decide-decided.result.changes.items =
          c.in-Ok-apply.ensures.made honest ∙ (λ i. changed_by ((kept.same_content read ∙ keeps.held (kept.honest_before read)) i) (value i)) in
          deals_made g.S.Shelf.is_honest g.S.Shelf.content g.S.Shelf.written g.S.Shelf.may_leave tables before request keeps.stands c.args.asked.now c.decide-decided.result.reply is_read c.in-Ok.ensures.told
          c.args.office.now c.apply.new.self c.in-Ok.answer (subst (AnswersAny tables c.args.asked.now.command c.decide-decided.result.reply) (sym made) is.step) c.in-Ok.ensures.text
          (rise_at_most tables c.args.asked.now.command c.decide-decided.result.changes.items _ _ is.writes (c.in-Ok-apply.ensures.counted ∙ (λ i. counts_after (kept.same_counts i) (value i))))
          (λ query. changed (is.query query)) (λ refused. changed (is.refused refused)) (c.in-Ok-apply.ensures.settled some)
    ]

-- refused, the changes may stand all the same after a crash
pub returns-clause-deals : goal.returns-clause-deals
returns-clause-deals g c clean before tables request is_read keeps =
    let kept = c.decide-decided.ensures.kept in
    let is = c.decide-decided.ensures.tells (c.apply.ensures.clean clean) tables keeps.held in
    deals_refused g.S.Shelf.is_honest g.S.Shelf.content g.S.Shelf.written g.S.Shelf.may_leave tables before request keeps.stands c.args.office.now c.apply.new.self _
    (λ honest.
    let read = c.apply.ensures.honest honest in
    c.in-Err.ensures.made honest ∙ kept.same_content read ∙ keeps.held (kept.honest_before read))
    (c.in-Err.ensures.counted ∙ kept.same_counts)
    (λ left may. elim (c.apply.ensures.crash left may) [
      | inl earlier ↦ inl (kept.same_outcomes left earlier)
      | inr made ↦
          let now : left ≡ changed_by tables c.decide-decided.result.changes.items =
          made.1 ∙ (λ i. changed_by ((kept.same_content made.0 ∙ keeps.held (kept.honest_before made.0)) i) (c.as_slice.ensures.value i)) in
          inr (after_step g.S.Shelf.is_honest g.S.Shelf.content g.S.Shelf.written g.S.Shelf.may_leave tables before request keeps.stands c.args.asked.now c.decide-decided.result.reply is_read c.in-Ok.ensures.told left (bytes_of c.in-Ok.answer)
          (subst (AnswersAny tables c.args.asked.now.command c.decide-decided.result.reply) (sym now) is.step) c.in-Ok.ensures.text)
    ])
