use Rattle.std.proofs.Common.{◌≡◌, ℕ, true, List, [], ◌∷◌, ◌+◌, ◌-◌, ◌<◌, ◌≤◌, length, drop, refl, sym, ap, subst, ◌∙◌, inl, inr, arith}
use Rattle.std.specs.Prelude.{◌==◌}
use Rattle.std.proofs.{KnownBytes.Appends-nil, lemmas.Bool.Decides.nat_tests, lemmas.List.append-nil, lemmas.List.length-drop, lemmas.List.length-append}
use Rattle.office_http_framing.specs.{Front.plain, Front.BeginsWithRequest, Front.IsIncomplete, Front.IsFaulty, Stream.closed, Stream.unfinished, Stream.faulty, Serve.ends_of}
use Rattle.office_http_framing.proofs.AskLemmas.{AsksSoFar, asks-start, asks-next, asks-more, only_asks}
use Rattle.office_http_framing.proofs.EndLemmas.{NoneStops-refl, NoneStops-trans, then-fails, then-is-empty, then-stops, wrote, wrote-in-part, Rose-after, Rose-empty}
use Rattle.office_http_framing.proofs.StopLemmas.{ran-start, ran-next}
use Rattle.office_http_framing.proofs.StreamLemmas.{request-bound, incomplete-bound}
use Rattle.office_http_framing.proofs.ServeLemmas.{Progress-start, Progress-more, Progress-next, Progress-as, Progress-waited, none-waited, Deed-ended, Deed-broken, ends_left, tells_left, all_taken, one_more_taken, one_more_begun, written_whole, written_in_part, Consumes-none, Consumes-from_Keeps}
use Rattle.office_http_framing.proofs.engine.serve_buffered.Goals as goal

pub loop-left-init : goal.loop-left-init
loop-left-init g c = record {
  clean = λ clean. clean;
  honest = λ honest. honest;
  progress = λ clean before held keeps. (
    before,
    held,
    Progress-start _ c.args.max_requests c.args.buffer.now (ends_of (g.R.Source.told c.args.reader.now) (g.W.Sink.told c.args.writer.now)) (ran-start g.M.Machine.protocol g.M.Machine.storage c.args.machine.now held before keeps),
  );
  asks = asks-start _ _ _;
  room = omega arith;
  held = λ bound. bound;
  reads = omega arith;
  reader = NoneStops-refl _;
  writer = NoneStops-refl _;
}

-- a slice of no bytes
none_held : (xs : List ℕ) → (length xs == 0) ≡ true → xs ≡ []
none_held [] empty = refl
none_held (x ∷ xs) empty = absurd (grind (arith, nat_tests, empty))

-- ---- the stream is left

pub returns-in-Some-clause-did : goal.returns-in-Some-clause-did
returns-in-Some-clause-did g c clean before held keeps =
    let so_far = c.loop-left.invariant.progress clean before held keeps in
    let now = Progress-waited _ _ _ _ _ _ _ _ _ _ c.left_before.ensures.told so_far.2 in (
      so_far.0,
      so_far.1,
      Deed-ended _ c.args.max_requests c.loop-left.requests c.loop-left.left c.args.buffer.now c.loop-left.buffer _ _ now _ _ [] (g.W.Sink.told c.loop-left.writer) [] (Appends-nil _)
          refl (ends_left g.M.Machine.protocol c.in-Some.end c.is_empty-is_empty.result c.loop-left.requests c.loop-left.buffer _ _ _ c.in-Some.ensures.left.1
          (λ empty. sym c.content-held.ensures.bytes ∙ none_held _ (sym c.is_empty-is_empty.ensures ∙ empty)) (record { some = c.loop-left-test.true; closes = refl; kept_is = refl }))
          (λ answers taken. all_taken _ _ answers taken),
    )

pub returns-in-Some-clause-fault : goal.returns-in-Some-clause-fault
returns-in-Some-clause-fault g c =
    tells_left c.in-Some.end c.is_empty-is_empty.result _ _ c.in-Some.ensures.left.1 (none-waited (g.R.Source.told c.args.reader.now) _ _ c.left_before.ensures.told c.loop-left.invariant.reader) c.loop-left.invariant.writer

-- ---- a request is answered

pub returns-then-is_err-clause-did : goal.returns-then-is_err-clause-did
returns-then-is_err-clause-did g c clean before held keeps =
    let whole : BeginsWithRequest c.loop-left.buffer (plain c.in-Whole.request) c.in-Whole.length = subst (λ b. BeginsWithRequest b (plain c.in-Whole.request) c.in-Whole.length) c.content-held.ensures.bytes c.in-Whole.ensures in
    let so_far = c.loop-left.invariant.progress (c.serve_request.ensures.clean clean) before held keeps in
    let now = Progress-waited _ _ _ _ _ _ _ _ _ _ (c.serve_request.ensures.told ∙ c.left_before.ensures.told) so_far.2 in
    let step = c.serve_request.ensures.step clean so_far.0 so_far.1 so_far.2.ran.keeps in (
      step.3,
      step.2,
      Deed-broken _ c.args.max_requests c.loop-left.requests c.loop-left.left c.args.buffer.now c.loop-left.buffer _ _ now _ (plain c.in-Whole.request) c.in-Whole.length step.0 (g.W.Sink.told c.serve_request.new.writer) _ c.loop-left-test.true whole
          (ran-next g.M.Machine.protocol g.M.Machine.storage _ _ c.loop-left.machine c.serve_request.new.machine so_far.1 step.2 so_far.0 step.3 step.1 (plain c.in-Whole.request) step.0 step.4)
          (written_in_part c.serve_request.result _ _ step.0 (sym c.if-is_err.ensures.value) step.5) (inl refl),
    )

omega_length : (held : List ℕ) (len : ℕ) (rest : List ℕ) → rest ≡ drop len held → length rest ≡ length held - len
omega_length held len rest is = ap length is ∙ length-drop len held

pub loop-left-preserved-in-Whole : goal.loop-left-preserved-in-Whole
loop-left-preserved-in-Whole g c =
    let whole : BeginsWithRequest c.loop-left.buffer (plain c.in-Whole.request) c.in-Whole.length = subst (λ b. BeginsWithRequest b (plain c.in-Whole.request) c.in-Whole.length) c.content-held.ensures.bytes c.in-Whole.ensures in
    let len = c.in-Whole.length in
    let buffer = c.loop-left.buffer in
    let request = plain c.in-Whole.request in
    let shorter = omega_length buffer len c.consume.new.self c.consume.ensures in
    record {
      clean = λ clean. c.loop-left.invariant.clean (c.serve_request.ensures.clean clean);
      honest = λ honest. c.loop-left.invariant.honest (c.serve_request.ensures.honest honest);
      progress = λ clean before held keeps.
          let so_far = c.loop-left.invariant.progress (c.serve_request.ensures.clean clean) before held keeps in
          let now = Progress-waited _ _ _ _ _ _ _ _ _ _ (c.serve_request.ensures.told ∙ c.left_before.ensures.told) so_far.2 in
          let step = c.serve_request.ensures.step clean so_far.0 so_far.1 so_far.2.ran.keeps in (
            step.3,
            step.2,
            Progress-as _ _ _ _ _ _ _ _ _ _ (sym c.left_after-left.ensures.left) (sym c.consume.ensures)
                (Progress-next _ c.args.max_requests c.loop-left.requests c.loop-left.left c.args.buffer.now buffer _ _ now _ request len step.0 (g.W.Sink.told c.serve_request.new.writer) c.loop-left-test.true whole
                (ran-next g.M.Machine.protocol g.M.Machine.storage _ _ c.loop-left.machine c.serve_request.new.machine so_far.1 step.2 so_far.0 step.3 step.1 request step.0 step.4)
                (written_whole c.serve_request.result _ _ step.0 (sym c.if-is_err.ensures.value) step.5)),
          );
      asks = asks-next _ _ _ buffer _ _ (subst (AsksSoFar _ _ _ _ _) (sym (c.serve_request.ensures.told ∙ c.left_before.ensures.told)) c.loop-left.invariant.asks) request len _ _ c.loop-left-test.true whole (sym c.left_after-left.ensures.left) (sym c.consume.ensures);
      room = omega (arith, c.loop-left.invariant.room);
      held = λ bound. omega (arith, c.loop-left.invariant.held bound, shorter);
      reads = omega (arith, c.loop-left.invariant.reads, shorter, request-bound buffer request len whole, ap (λ t. t.counts.calls) (c.serve_request.ensures.told ∙ c.left_before.ensures.told));
      reader = none-waited (g.R.Source.told c.args.reader.now) _ _ (c.serve_request.ensures.told ∙ c.left_before.ensures.told) c.loop-left.invariant.reader;
      writer = NoneStops-trans c.loop-left.invariant.writer (wrote c.serve_request.result _ _ (sym c.if-is_err.ensures.value) c.serve_request.ensures.stops);
    }

-- ---- a fault is answered

pub returns-then-is_err-2-clause-did : goal.returns-then-is_err-2-clause-did
returns-then-is_err-2-clause-did g c clean before held keeps =
    let at_fault : IsFaulty c.loop-left.buffer c.in-Bad.fault = subst (λ b. IsFaulty b c.in-Bad.fault) c.content-held.ensures.bytes c.in-Bad.ensures in
    let so_far = c.loop-left.invariant.progress clean before held keeps in
    let now = Progress-waited _ _ _ _ _ _ _ _ _ _ c.left_before.ensures.told so_far.2 in
    let closing = c.serve_fault.ensures.answer in
    let broken = written_in_part c.serve_fault.result _ _ closing.0 (sym c.if-is_err-2.ensures.value) closing.2 in (
      so_far.0,
      so_far.1,
      Deed-ended _ c.args.max_requests c.loop-left.requests c.loop-left.left c.args.buffer.now c.loop-left.buffer _ _ now _ _ (closing.0 ∷ []) (g.W.Sink.told c.serve_fault.new.writer) broken.part broken.taken
          refl (inr (c.in-Bad.fault, record { ends = (c.loop-left-test.true, at_fault); closes = (closing.0, closing.1, refl) }))
          (λ answers taken. one_more_begun _ _ _ answers closing.0 taken broken),
    )

pub returns-in-Bad-clause-did : goal.returns-in-Bad-clause-did
returns-in-Bad-clause-did g c clean before held keeps =
    let at_fault : IsFaulty c.loop-left.buffer c.in-Bad.fault = subst (λ b. IsFaulty b c.in-Bad.fault) c.content-held.ensures.bytes c.in-Bad.ensures in
    let so_far = c.loop-left.invariant.progress clean before held keeps in
    let now = Progress-waited _ _ _ _ _ _ _ _ _ _ c.left_before.ensures.told so_far.2 in
    let closing = c.serve_fault.ensures.answer in
    let written = written_whole c.serve_fault.result _ _ closing.0 (sym c.if-is_err-2.ensures.value) closing.2 in (
      so_far.0,
      so_far.1,
      Deed-ended _ c.args.max_requests c.loop-left.requests c.loop-left.left c.args.buffer.now c.loop-left.buffer _ _ now _ _ (closing.0 ∷ []) (g.W.Sink.told c.serve_fault.new.writer) closing.0 written
          refl (faulty c.in-Bad.fault, record { ends = (c.loop-left-test.true, at_fault); closes = (closing.0, closing.1, refl) }, λ not_so. cc)
          (λ answers taken. one_more_taken _ _ _ answers closing.0 taken written),
    )

-- ---- the source is called

pub fill-requires : goal.fill-requires
fill-requires g c =
    let incomplete : IsIncomplete c.loop-left.buffer = subst IsIncomplete c.content-held.ensures.bytes c.in-More.ensures in
    incomplete-bound c.loop-left.buffer incomplete

-- a read that gave nothing
pub returns-in-Ok-eq0-clause-did : goal.returns-in-Ok-eq0-clause-did
returns-in-Ok-eq0-clause-did g c clean before held keeps =
    let incomplete : IsIncomplete c.loop-left.buffer = subst IsIncomplete c.content-held.ensures.bytes c.in-More.ensures in
    let reader = none-waited (g.R.Source.told c.args.reader.now) _ _ c.left_before.ensures.told c.loop-left.invariant.reader in
    let so_far = c.loop-left.invariant.progress clean before held keeps in
    let now = Progress-waited _ _ _ _ _ _ _ _ _ _ c.left_before.ensures.told so_far.2 in
    let bytes = c.in-Ok-eq0.ensures.bytes in
    let counts = c.in-Ok-eq0.ensures.counts in
    let grown : (g.R.Source.told c.args.reader.now).counts.empties ≤ (g.R.Source.told c.left_before.new.reader).counts.empties = omega (arith, reader.empties) in
    let last = Progress-more _ c.args.max_requests c.loop-left.requests c.loop-left.left c.args.buffer.now c.loop-left.buffer _ _ now (g.R.Source.told c.fill.new.source) [] c.loop-left.buffer c.loop-left-test.true incomplete reader
    (Consumes-none _ _ bytes.0 (bytes.1 ∙ c.in-Ok-eq0.field-0-test) bytes.3) (ap (λ k. k.calls) counts) (sym (append-nil c.loop-left.buffer)) in (
      so_far.0,
      so_far.1,
      Deed-ended _ c.args.max_requests c.loop-left.requests c.loop-left.left c.args.buffer.now c.loop-left.buffer _ _ last _ _ [] (g.W.Sink.told c.loop-left.writer) [] (Appends-nil _)
          refl (
            unfinished,
            record { ends = (c.loop-left-test.true, incomplete); closes = refl },
            λ _. Rose-after _ _ _ grown (Rose-empty _ _ c.in-Ok-eq0.field-0 c.in-Ok-eq0.field-0-test (ap (λ k. k.empties) counts)),
          )
          (λ answers taken. all_taken _ _ answers taken),
    )

pub returns-in-Err-clause-did : goal.returns-in-Err-clause-did
returns-in-Err-clause-did g c clean before held keeps =
    let incomplete : IsIncomplete c.loop-left.buffer = subst IsIncomplete c.content-held.ensures.bytes c.in-More.ensures in
    let reader = none-waited (g.R.Source.told c.args.reader.now) _ _ c.left_before.ensures.told c.loop-left.invariant.reader in
    let so_far = c.loop-left.invariant.progress clean before held keeps in
    let now = Progress-waited _ _ _ _ _ _ _ _ _ _ c.left_before.ensures.told so_far.2 in
    let last = Progress-more _ c.args.max_requests c.loop-left.requests c.loop-left.left c.args.buffer.now c.loop-left.buffer _ _ now (g.R.Source.told c.fill.new.source) [] c.loop-left.buffer c.loop-left-test.true incomplete reader
    (Consumes-from_Keeps _ _ c.in-Err.ensures.bytes.1) (ap (λ k. k.calls) c.in-Err.ensures.counts) (sym (append-nil c.loop-left.buffer)) in (
      so_far.0,
      so_far.1,
      Deed-ended _ c.args.max_requests c.loop-left.requests c.loop-left.left c.args.buffer.now c.loop-left.buffer _ _ last _ _ [] (g.W.Sink.told c.loop-left.writer) [] (Appends-nil _)
          refl (record { ends = (c.loop-left-test.true, incomplete); closes = refl }) (λ answers taken. all_taken _ _ answers taken),
    )

pub loop-left-preserved : goal.loop-left-preserved
loop-left-preserved g c =
    let incomplete : IsIncomplete c.loop-left.buffer = subst IsIncomplete c.content-held.ensures.bytes c.in-More.ensures in
    let reader = none-waited (g.R.Source.told c.args.reader.now) _ _ c.left_before.ensures.told c.loop-left.invariant.reader in
    let asks = subst (AsksSoFar _ _ _ _ _) (sym c.left_before.ensures.told) c.loop-left.invariant.asks in
    let bytes = c.in-Ok.ensures.bytes in
    let longer : length c.fill.new.self ≡ length c.loop-left.buffer + c.in-Ok.field-0 = omega (arith, ap length bytes.2, length-append c.loop-left.buffer bytes.0, bytes.1) in
    let some : 0 < c.in-Ok.field-0 = omega (arith, c.in-Ok.field-0-test.1) in
    let calls : (g.R.Source.told c.fill.new.source).counts.calls ≤ (g.R.Source.told c.left_before.new.reader).counts.calls + 1 = grind (arith, nat_tests, ap (λ k. k.calls) c.in-Ok.ensures.counts) in
    record {
      clean = c.loop-left.invariant.clean;
      honest = c.loop-left.invariant.honest;
      progress = λ clean before held keeps.
          let so_far = c.loop-left.invariant.progress clean before held keeps in
          let now = Progress-waited _ _ _ _ _ _ _ _ _ _ c.left_before.ensures.told so_far.2 in (
            so_far.0,
            so_far.1,
            Progress-more _ c.args.max_requests c.loop-left.requests c.loop-left.left c.args.buffer.now c.loop-left.buffer _ _ now (g.R.Source.told c.fill.new.source) bytes.0 c.fill.new.self c.loop-left-test.true incomplete reader
                bytes.3 (ap (λ k. k.calls) c.in-Ok.ensures.counts) bytes.2,
          );
      asks = asks-more _ _ _ c.loop-left.buffer _ _ asks (g.R.Source.told c.fill.new.source) bytes.0 c.fill.new.self c.loop-left-test.true incomplete reader bytes.3 (ap (λ k. k.calls) c.in-Ok.ensures.counts) bytes.2;
      room = c.loop-left.invariant.room;
      held = λ _. c.in-Ok.ensures.bound;
      reads = omega (arith, c.loop-left.invariant.reads, longer, some, calls, ap (λ t. t.counts.calls) c.left_before.ensures.told);
      reader = NoneStops-trans reader (record {
        failures = grind (arith, nat_tests, ap (λ k. k.failures) c.in-Ok.ensures.counts);
        empties = grind (arith, nat_tests, ap (λ k. k.empties) c.in-Ok.ensures.counts);
      });
      writer = c.loop-left.invariant.writer;
    }

pub returns-in-Ok-eq0-clause-asks : goal.returns-in-Ok-eq0-clause-asks
returns-in-Ok-eq0-clause-asks g c =
    let incomplete : IsIncomplete c.loop-left.buffer = subst IsIncomplete c.content-held.ensures.bytes c.in-More.ensures in
    let reader = none-waited (g.R.Source.told c.args.reader.now) _ _ c.left_before.ensures.told c.loop-left.invariant.reader in
    let asks = subst (AsksSoFar _ _ _ _ _) (sym c.left_before.ensures.told) c.loop-left.invariant.asks in
    let bytes = c.in-Ok-eq0.ensures.bytes in
    only_asks _ _ _ _ _ _ (asks-more _ _ _ c.loop-left.buffer _ _ asks (g.R.Source.told c.fill.new.source) bytes.0 _ c.loop-left-test.true incomplete reader bytes.3 (ap (λ k. k.calls) c.in-Ok-eq0.ensures.counts) refl)

pub returns-in-Err-clause-asks : goal.returns-in-Err-clause-asks
returns-in-Err-clause-asks g c =
    let incomplete : IsIncomplete c.loop-left.buffer = subst IsIncomplete c.content-held.ensures.bytes c.in-More.ensures in
    let reader = none-waited (g.R.Source.told c.args.reader.now) _ _ c.left_before.ensures.told c.loop-left.invariant.reader in
    let asks = subst (AsksSoFar _ _ _ _ _) (sym c.left_before.ensures.told) c.loop-left.invariant.asks in
    only_asks _ _ _ _ _ _ (asks-more _ _ _ c.loop-left.buffer _ _ asks (g.R.Source.told c.fill.new.source) [] _ c.loop-left-test.true incomplete reader (Consumes-from_Keeps _ _ c.in-Err.ensures.bytes.1) (ap (λ k. k.calls) c.in-Err.ensures.counts) refl)

-- ---- the last request was answered

pub returns-clause-did : goal.returns-clause-did
returns-clause-did g c clean before held keeps =
    let so_far = c.loop-left.invariant.progress clean before held keeps in
    let none : c.loop-left.left ≡ 0 = omega (arith, c.loop-left-test.false) in (
      so_far.0,
      so_far.1,
      Deed-ended _ c.args.max_requests c.loop-left.requests c.loop-left.left c.args.buffer.now c.loop-left.buffer _ _ so_far.2 _ _ [] (g.W.Sink.told c.loop-left.writer) [] (Appends-nil _)
          refl (closed, record { ends = none; closes = refl }, λ not_so. cc) (λ answers taken. all_taken _ _ answers taken),
    )

-- ---- which calls failed or moved no byte

pub returns-then-is_err-clause-fault : goal.returns-then-is_err-clause-fault
returns-then-is_err-clause-fault g c =
    let reader = none-waited (g.R.Source.told c.args.reader.now) _ _ (c.serve_request.ensures.told ∙ c.left_before.ensures.told) c.loop-left.invariant.reader in
    (reader, then-stops c.loop-left.invariant.writer (wrote-in-part c.serve_request.result _ _ (sym c.if-is_err.ensures.value) c.serve_request.ensures.stops))

pub returns-then-is_err-2-clause-fault : goal.returns-then-is_err-2-clause-fault
returns-then-is_err-2-clause-fault g c =
    let reader = none-waited (g.R.Source.told c.args.reader.now) _ _ c.left_before.ensures.told c.loop-left.invariant.reader in
    (reader, then-stops c.loop-left.invariant.writer (wrote-in-part c.serve_fault.result _ _ (sym c.if-is_err-2.ensures.value) c.serve_fault.ensures.stops))

pub returns-in-Bad-clause-fault : goal.returns-in-Bad-clause-fault
returns-in-Bad-clause-fault g c =
    let reader = none-waited (g.R.Source.told c.args.reader.now) _ _ c.left_before.ensures.told c.loop-left.invariant.reader in
    (inl reader, NoneStops-trans c.loop-left.invariant.writer (wrote c.serve_fault.result _ _ (sym c.if-is_err-2.ensures.value) c.serve_fault.ensures.stops))

pub returns-in-Ok-eq0-clause-fault : goal.returns-in-Ok-eq0-clause-fault
returns-in-Ok-eq0-clause-fault g c =
    let reader = none-waited (g.R.Source.told c.args.reader.now) _ _ c.left_before.ensures.told c.loop-left.invariant.reader in (
      inr (then-is-empty reader (record {
        failures = grind (arith, nat_tests, ap (λ k. k.failures) c.in-Ok-eq0.ensures.counts);
        empties = grind (arith, nat_tests, c.in-Ok-eq0.field-0-test, ap (λ k. k.empties) c.in-Ok-eq0.ensures.counts);
      })),
      c.loop-left.invariant.writer,
    )

pub returns-in-Err-clause-fault : goal.returns-in-Err-clause-fault
returns-in-Err-clause-fault g c =
    let reader = none-waited (g.R.Source.told c.args.reader.now) _ _ c.left_before.ensures.told c.loop-left.invariant.reader in (
      then-fails reader (record {
        failures = grind (arith, nat_tests, ap (λ k. k.failures) c.in-Err.ensures.counts);
        empties = grind (arith, nat_tests, ap (λ k. k.empties) c.in-Err.ensures.counts);
      }),
      c.loop-left.invariant.writer,
    )

pub returns-clause-fault : goal.returns-clause-fault
returns-clause-fault g c = (inl c.loop-left.invariant.reader, c.loop-left.invariant.writer)
