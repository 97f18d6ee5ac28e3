-- Two parts of a stream, with nobody between, are one.
use Rattle.std.proofs.Common.{◌≡◌, ℕ, zero, suc, ◌+◌, ◌-◌, List, [], ◌∷◌, ◌++◌, length, take, refl, sym, ap, subst, ◌∙◌, arith, append_assoc}
use Rattle.std.specs.Prelude.{Option, Result, Ok, Err}
use Rattle.std.specs.{List.concat, Io.KnownBytes.Appends}
use Rattle.std.proofs.Math.Seq.{take-append-add}
use Rattle.std.proofs.KnownBytes.{Consumes-trans, Appends-trans}
use Rattle.std.proofs.lemmas.List.{append-nil, length-append, take-append-le}
use Rattle.office_http_framing.specs.{Asks.Asks, Asks.OwesNoAnswer, Ends.NoneStops, Ends.Told, Front.PlainRequest, Laws.JoinsParts, Laws.RunsJoin, Laws.after_requests, Protocol.Protocol, Stream.unfinished, Stream.AreRequests, Stream.BeginsWith}
use Rattle.office_http_framing.specs.Serve.{BreaksOff, Deed, DidPart, Ends, EndsPartBy, IsLeft, Runs, SinkTook, Tail, TellsPart, as_served, told_requests}
use Rattle.office_http_framing.specs.declared.{engine.Part.Part, engine.PartEnd.PartEnd, engine.ServeFault.ServeFault, engine.Served.Served}
use Rattle.office_http_framing.specs.declared.engine.PartEnd.TheVariants as part
use Rattle.office_http_framing.specs.declared.engine.ServeFault.TheVariants as stop
use Rattle.office_http_framing.proofs.AskLemmas.{asks-weaker}
use Rattle.office_http_framing.proofs.EndLemmas.{NoneStops-trans, Rose-after}
use Rattle.office_http_framing.proofs.StreamLemmas.{BeginsWith-more, BeginsWith-join, BeginsWith-left}

concat-append : (xs ys : List (List ℕ)) → concat (xs ++ ys) ≡ concat xs ++ concat ys
concat-append [] ys = refl
concat-append (x ∷ xs) ys = ap (λ t. x ++ t) (concat-append xs ys) ∙ sym (append_assoc x (concat xs) (concat ys))

-- what a sink took, whole or up to some place
took : (outcome : Result Served ServeFault) (old new : Option (List ℕ)) (texts : List (List ℕ)) → SinkTook outcome old new texts → (text : List ℕ) × Appends old new text
took (Ok served) old new texts taken = (concat texts, taken)
took (Err (stop.Read n)) old new texts taken = (concat texts, taken)
took (Err (stop.Write n)) old new texts taken = (concat taken.whole ++ taken.part, taken.taken)
took (Err stop.NoMemory) old new texts taken = (concat texts, taken)

-- the sink took the first texts, and then the others
module _ (old middle new : Option (List ℕ)) (first texts : List (List ℕ)) (before : Appends old middle (concat first)) where
  all_after : Appends middle new (concat texts) → Appends old new (concat (first ++ texts))
  all_after taken = subst (Appends old new) (sym (concat-append first texts)) (Appends-trans old middle new (concat first) (concat texts) before taken)

  breaks_after : BreaksOff middle new texts → BreaksOff old new (first ++ texts)
  breaks_after broken = record {
    whole = first ++ broken.whole;
    part = broken.part;
    unwritten = broken.unwritten;
    texts_are = ap (λ t. first ++ t) broken.texts_are ∙ sym (append_assoc first broken.whole ((broken.part ++ broken.unwritten) ∷ []));
    taken = subst (Appends old new) (sym (append_assoc (concat first) (concat broken.whole) broken.part) ∙ ap (λ t. t ++ broken.part) (sym (concat-append first broken.whole)))
        (Appends-trans old middle new (concat first) (concat broken.whole ++ broken.part) before broken.taken);
  }

  took_after : (n : ℕ) (result : Result Part ServeFault) → SinkTook (as_served result) middle new texts → SinkTook (as_served (after_requests n result)) old new (first ++ texts)
  took_after n (Ok it) taken = all_after taken
  took_after n (Err (stop.Read m)) taken = all_after taken
  took_after n (Err (stop.Write m)) taken = breaks_after taken
  took_after n (Err stop.NoMemory) taken = all_after taken

-- calls, and those that followed: what is due at each is due in the whole
asks-join : (P Q R : List ℕ → Type 0) (first middle : Told) (calls : ℕ) (given : List ℕ) → Asks P first calls given middle → NoneStops first.counts middle.counts
    → ((held : List ℕ) → P held → R held) → ((held : List ℕ) → Q held → R (given ++ held))
    → (more : ℕ) (later : List ℕ) (source : Told) → Asks Q middle more later source → (all : ℕ) × Asks R first all (given ++ later) source
asks-join P Q R first middle calls given asks none first_so then_so zero later source end = (
  calls,
  subst (λ s. Asks R first calls (given ++ later) s) (sym end.1)
      (subst (λ g. Asks R first calls g middle) (sym (ap (λ g. given ++ g) end.0 ∙ append-nil given)) (asks-weaker P R first_so first calls given middle asks)),
)
asks-join P Q R first middle calls given asks none first_so then_so (suc more) later source end =
    let so_far = asks-join P Q R first middle calls given asks none first_so then_so more end.1 end.0 end.3 in (
      suc so_far.0,
      (
        end.0,
        given ++ end.1,
        end.2,
        so_far.1,
        then_so end.1 end.4,
        NoneStops-trans none end.5,
        end.6,
        ap (λ g. given ++ g) end.7 ∙ sym (append_assoc given end.1 end.2),
      ),
    )

-- how the second part ended is how both ended
ends_after : {State : Type 0} (protocol : Protocol State) (n : ℕ) (result : Result Part ServeFault) (kept : List ℕ) (tail : Tail) (start middle last : Ends)
    → NoneStops start.source.counts middle.source.counts
    → EndsPartBy protocol result kept tail middle last → EndsPartBy protocol (after_requests n result) kept tail start last
ends_after protocol n (Ok it) kept tail start middle last none ends = by_end it.end ends
  where
    by_end : (end : PartEnd) → EndsPartBy protocol (Ok (record { requests = it.requests; end = end })) kept tail middle last → EndsPartBy protocol (Ok (record { requests = n + it.requests; end = end })) kept tail start last
    by_end part.Ended ends = (ends.0, ends.1, λ is. Rose-after start.source.counts.empties middle.source.counts.empties last.source.counts.empties (omega (arith, none.empties)) (ends.2 is))
    by_end part.GaveWay ends = ends
    by_end part.Paused ends = ends
ends_after protocol n (Err (stop.Read m)) kept tail start middle last none ends = ends
ends_after protocol n (Err (stop.Write m)) kept tail start middle last none ends = ends
ends_after protocol n (Err stop.NoMemory) kept tail start middle last none ends = absurd ends

counted_after : {State : Type 0} (protocol : Protocol State) (n m : ℕ) (result : Result Part ServeFault) (kept : List ℕ) (tail : Tail) (middle last : Ends) → EndsPartBy protocol result kept tail middle last
    → told_requests (as_served result) ≡ m → told_requests (as_served (after_requests n result)) ≡ n + m
counted_after protocol n m (Ok it) kept tail middle last ends counted = ap (λ k. n + k) counted
counted_after protocol n m (Err (stop.Read k)) kept tail middle last ends counted = ap (λ k. n + k) counted
counted_after protocol n m (Err (stop.Write k)) kept tail middle last ends counted = ap (λ k. n + k) counted
counted_after protocol n m (Err stop.NoMemory) kept tail middle last ends counted = absurd ends

module _ {State : Type 0} (protocol : Protocol State) (first second whole : Runs) (joins : RunsJoin first second whole) (limit n : ℕ) (come held kept : List ℕ) (start middle last : Ends) (result : Result Part ServeFault)
    (one : Deed first limit come start middle (Ok (record { requests = n })) (λ tail. IsLeft held tail)) (none : NoneStops start.source.counts middle.source.counts)
    (two : DidPart protocol second (limit - n) held kept middle last result) where
  -- the requests of the second part are those of what the first one left
  begins_there : (given : List ℕ) (requests : List PlainRequest) (rest : List ℕ) (left : ℕ) → BeginsWith (limit - n) (held ++ given) requests rest left
      → BeginsWith limit (come ++ (one.given ++ given)) (one.requests ++ requests) rest left
  begins_there given requests rest left begins =
      let fewer : one.tail.left + length one.requests ≡ limit = BeginsWith-left limit (come ++ one.given) one.requests one.tail.rest one.tail.left one.begins one.ends.some in
      let count : n ≡ length one.requests = one.counted in
      let same : limit - n ≡ one.tail.left = omega (arith, fewer, count) in
      BeginsWith-join limit (come ++ (one.given ++ given)) one.requests (one.tail.rest ++ given) one.tail.left requests rest left
      (BeginsWith-more limit come one.given given one.requests one.tail.rest one.tail.left one.begins)
      (subst (λ h. BeginsWith one.tail.left (h ++ given) requests rest left) one.ends.kept_is (subst (λ l. BeginsWith l (held ++ given) requests rest left) same begins))

  answers_taken : Appends start.sink.bytes middle.sink.bytes (concat one.answers)
  answers_taken = subst (λ texts. Appends start.sink.bytes middle.sink.bytes (concat texts)) (ap (λ closing. one.answers ++ closing) one.ends.closes ∙ append-nil one.answers) one.writes

  later_text : (text : List ℕ) × Appends middle.sink.bytes last.sink.bytes text
  later_text = took (as_served result) middle.sink.bytes last.sink.bytes (two.answers ++ two.tail.closing) two.writes

  -- what a call of the source was due to is due in the whole
  owes_first : (bytes : List ℕ) → OwesNoAnswer limit one.requests one.answers start.sink.bytes middle.sink.bytes bytes
      → OwesNoAnswer limit (one.requests ++ two.requests) (one.answers ++ two.answers) start.sink.bytes last.sink.bytes bytes
  owes_first bytes is = record {
    count = is.count;
    at = is.at;
    later = is.later ++ later_text.0;
    in_range = omega (arith, is.in_range, length-append one.requests two.requests);
    awaited = subst (λ (xs : List PlainRequest). AreRequests limit bytes xs unfinished) (sym (take-append-le is.count one.requests two.requests is.in_range)) is.awaited;
    taken = subst (λ (xs : List (List ℕ)). Appends start.sink.bytes is.at (concat xs)) (sym (take-append-le is.count one.answers two.answers (omega (arith, is.in_range, one.as_many)))) is.taken;
    goes_on = Appends-trans is.at middle.sink.bytes last.sink.bytes is.later later_text.0 is.goes_on later_text.1;
  }

  owes_then : (given : List ℕ) → OwesNoAnswer (limit - n) two.requests two.answers middle.sink.bytes last.sink.bytes (held ++ given)
      → OwesNoAnswer limit (one.requests ++ two.requests) (one.answers ++ two.answers) start.sink.bytes last.sink.bytes (come ++ (one.given ++ given))
  owes_then given is = record {
    count = length one.requests + is.count;
    at = is.at;
    later = is.later;
    in_range = omega (arith, is.in_range, length-append one.requests two.requests);
    awaited = subst (λ (xs : List PlainRequest). AreRequests limit (come ++ (one.given ++ given)) xs unfinished) (sym (take-append-add one.requests two.requests is.count)) (record {
      rest = is.awaited.rest;
      left = is.awaited.left;
      begins = begins_there given (take is.count two.requests) is.awaited.rest is.awaited.left is.awaited.begins;
      ends = is.awaited.ends;
    });
    taken = subst (λ (xs : List (List ℕ)). Appends start.sink.bytes is.at (concat xs)) (sym (ap (λ k. take (k + is.count) (one.answers ++ two.answers)) (sym one.as_many) ∙ take-append-add one.answers two.answers is.count))
        (all_after start.sink.bytes middle.sink.bytes is.at one.answers (take is.count two.answers) answers_taken is.taken);
    goes_on = is.goes_on;
  }

  join : DidPart protocol whole limit come kept start last (after_requests n result)
  join =
      let asks = asks-join _ _ (λ piece. OwesNoAnswer limit (one.requests ++ two.requests) (one.answers ++ two.answers) start.sink.bytes last.sink.bytes (come ++ piece)) start.source middle.source one.calls one.given one.asks none
      (λ piece is. owes_first (come ++ piece) is) owes_then two.calls two.given last.source two.asks in
      record {
        given = one.given ++ two.given;
        requests = one.requests ++ two.requests;
        answers = one.answers ++ two.answers;
        tail = two.tail;
        reads = Consumes-trans start.source.bytes middle.source.bytes last.source.bytes one.given two.given one.reads two.reads;
        begins = begins_there two.given two.requests two.tail.rest two.tail.left two.begins;
        ran = joins one.requests two.requests one.answers two.answers one.ran two.ran;
        as_many = omega (arith, one.as_many, two.as_many, length-append one.answers two.answers, length-append one.requests two.requests);
        counted = counted_after protocol n (length two.requests) result kept two.tail middle last two.ends two.counted ∙ ap (λ k. k + length two.requests) one.counted ∙ sym (length-append one.requests two.requests);
        ends = ends_after protocol n result kept two.tail start middle last none two.ends;
        writes = subst (SinkTook (as_served (after_requests n result)) start.sink.bytes last.sink.bytes) (sym (append_assoc one.answers two.answers two.tail.closing))
            (took_after start.sink.bytes middle.sink.bytes last.sink.bytes one.answers (two.answers ++ two.tail.closing) answers_taken n result two.writes);
        calls = asks.0;
        asks = asks.1;
      }

-- the law of the cut
pub joins_parts : {State : Type 0} (protocol : Protocol State) → JoinsParts protocol
joins_parts protocol first second whole joins limit n come held kept start middle last result paused is one tells two =
    let it = subst (λ (p : Result Part ServeFault). DidPart protocol first limit come held start middle p) is one in
    let none = subst (λ (p : Result Part ServeFault). TellsPart start middle p) is tells in
    join protocol first second whole joins limit n come held kept start middle last result it none.0 two
