-- How far a stream has been served, and what each step adds.
use Rattle.std.proofs.Common.{◌≡◌, ℕ, suc, ◌+◌, ◌*◌, ◌<◌, ◌≤◌, List, [], ◌∷◌, ◌++◌, length, drop, refl, sym, ap, subst, ◌∙◌, arith, append_assoc}
use Rattle.std.specs.Prelude.{Bool, Option, Some, None, Result, Ok, Err, IfOk, MatchResult, true, false}
use Rattle.std.specs.{Result.is_err, List.concat, Io.KnownBytes.Appends, Io.KnownBytes.Consumes, Io.KnownBytes.Keeps}
use Rattle.std.proofs.KnownBytes.{Consumes-nil, Consumes-trans, Appends-nil, Appends-trans}
use Rattle.std.proofs.lemmas.List.{append-nil, length-append, take-append-le, take_all}
use Rattle.office_http_framing.specs.{declared.engine.Part.Part, declared.engine.PartEnd.PartEnd, declared.engine.Served.Served, declared.engine.ServeFault.ServeFault, Ends.AppendsPart, Ends.NoneStops, Ends.Told, Ends.raised_count, Front.PlainRequest, Front.BeginsWithRequest, Front.IsIncomplete, Protocol.Protocol, Stream.left_after, Stream.unfinished, Stream.AreRequests, Stream.BeginsWith}
use Rattle.office_http_framing.specs.{Asks.Asks, Asks.OnlyAsksAfter, Asks.OwesNoAnswer, Limits.longest_request}
use Rattle.office_http_framing.specs.Serve.{BreaksOff, CallsEnds, Deed, Did, DidPart, Ends, EndsBy, EndsPart, EndsPartBy, IsLeft, MayBeLeft, Runs, SinkTook, Tail, TellsEnd, TellsFault, TellsPart, as_served, ends_of, told_requests}
use Rattle.office_http_framing.specs.declared.engine.PartEnd.TheVariants as part
use Rattle.office_http_framing.specs.declared.engine.ServeFault.TheVariants as stop
use Rattle.office_http_framing.proofs.AskLemmas.{asks-weaker}
use Rattle.office_http_framing.proofs.StreamLemmas.{BeginsWith-more, BeginsWith-next}

-- Some bytes had come before, and the source gave more: together they begin with so many requests and then `held`; the machine
-- ran over them; the sink took their answers, each before the next call of the source; and so many more requests may come.
pub record Progress (runs : Runs) (limit count left : ℕ) (come held : List ℕ) (start now : Ends) : Type 0 where
  pub given : List ℕ
  pub requests : List PlainRequest
  pub answers : List (List ℕ)
  pub reads : Consumes start.source.bytes now.source.bytes given
  pub begins : BeginsWith limit (come ++ given) requests held left
  pub ran : runs requests answers
  pub count_is : count ≡ length requests
  pub as_many : length answers ≡ length requests
  pub writes : Appends start.sink.bytes now.sink.bytes (concat answers)
  pub calls : ℕ
  pub asks : Asks (λ piece. OwesNoAnswer limit requests answers start.sink.bytes now.sink.bytes (come ++ piece)) start.source calls given now.source

concat-push : (xs : List (List ℕ)) (x : List ℕ) → concat (xs ++ x ∷ []) ≡ concat xs ++ x
concat-push [] x = append-nil x
concat-push (y ∷ ys) x = ap (λ t. y ++ t) (concat-push ys x) ∙ sym (append_assoc y (concat ys) x)

-- a run goes on by one request and its answer
abbrev pub GoesOn : (runs runs' : Runs) → PlainRequest → List ℕ → Type 0
GoesOn runs runs' request answer =
    (requests : List PlainRequest) (answers : List (List ℕ)) → runs requests answers → runs' (requests ++ request ∷ []) (answers ++ answer ∷ [])

-- nothing was read yet
pub Progress-start : (runs : Runs) (limit : ℕ) (come : List ℕ) (ends : Ends) → runs [] [] → Progress runs limit 0 limit come come ends ends
Progress-start runs limit come ends ran = record {
  given = [];
  requests = [];
  answers = [];
  reads = Consumes-nil ends.source.bytes;
  begins = (append-nil come, refl);
  ran = ran;
  count_is = refl;
  as_many = refl;
  writes = Appends-nil ends.sink.bytes;
  calls = 0;
  asks = (refl, refl);
}

-- what was answered at a call of the source stays so when the sink takes more
owes-none-later : (limit : ℕ) (requests : List PlainRequest) (answers : List (List ℕ)) (old new new' : Option (List ℕ)) (text : List ℕ) → Appends new new' text
    → (held : List ℕ) → OwesNoAnswer limit requests answers old new held → OwesNoAnswer limit requests answers old new' held
owes-none-later limit requests answers old new new' text more held is = record {
  count = is.count;
  at = is.at;
  later = is.later ++ text;
  in_range = is.in_range;
  awaited = is.awaited;
  taken = is.taken;
  goes_on = Appends-trans is.at new new' is.later text is.goes_on more;
}

-- and when one request more is answered
owes-none-next : (limit : ℕ) (requests : List PlainRequest) (answers : List (List ℕ)) (request : PlainRequest) (answer : List ℕ) (old new : Option (List ℕ)) → length answers ≡ length requests
    → (held : List ℕ) → OwesNoAnswer limit requests answers old new held → OwesNoAnswer limit (requests ++ request ∷ []) (answers ++ answer ∷ []) old new held
owes-none-next limit requests answers request answer old new as_many held is = record {
  count = is.count;
  at = is.at;
  later = is.later;
  in_range = omega (arith, is.in_range, length-append requests (request ∷ []));
  awaited = subst (λ (xs : List PlainRequest). AreRequests limit held xs unfinished) (sym (take-append-le is.count requests (request ∷ []) is.in_range)) is.awaited;
  taken = subst (λ (xs : List (List ℕ)). Appends old is.at (concat xs)) (sym (take-append-le is.count answers (answer ∷ []) (omega (arith, is.in_range, as_many)))) is.taken;
  goes_on = is.goes_on;
}

-- all requests are answered now
owes-none-now : (limit left : ℕ) (requests : List PlainRequest) (answers : List (List ℕ)) (old new : Option (List ℕ)) (given held : List ℕ) → length answers ≡ length requests
    → BeginsWith limit given requests held left → 0 < left → IsIncomplete held → Appends old new (concat answers) → OwesNoAnswer limit requests answers old new given
owes-none-now limit left requests answers old new given held as_many begins some incomplete taken = record {
  count = length requests;
  at = new;
  later = [];
  in_range = omega arith;
  awaited = subst (λ (xs : List PlainRequest). AreRequests limit given xs unfinished) (sym (take_all (length requests) requests (omega arith)))
      (record { rest = held; left = left; begins = begins; ends = (some, incomplete) });
  taken = subst (λ (xs : List (List ℕ)). Appends old new (concat xs)) (sym (take_all (length requests) answers (omega (arith, as_many)))) taken;
  goes_on = Appends-nil new;
}

module _ (runs : Runs) (limit count left : ℕ) (come held : List ℕ) (start now : Ends) (so_far : Progress runs limit count left come held start now) where
  -- the source was called while a request was awaited, and gave these bytes
  pub Progress-more : (source' : Told) (piece held' : List ℕ) → 0 < left → IsIncomplete held → NoneStops start.source.counts now.source.counts
      → Consumes now.source.bytes source'.bytes piece → source'.counts.calls ≡ raised_count now.source.counts.calls
      → held' ≡ held ++ piece → Progress runs limit count left come held' start (ends_of source' now.sink)
  Progress-more source' piece held' some incomplete none_stops reads counts same_held =
      subst (λ h. Progress runs limit count left come h start (ends_of source' now.sink)) (sym same_held)
      (record {
        given = so_far.given ++ piece;
        requests = so_far.requests;
        answers = so_far.answers;
        reads = Consumes-trans start.source.bytes now.source.bytes source'.bytes so_far.given piece so_far.reads reads;
        begins = BeginsWith-more limit come so_far.given piece so_far.requests held left so_far.begins;
        ran = so_far.ran;
        count_is = so_far.count_is;
        as_many = so_far.as_many;
        writes = so_far.writes;
        calls = suc so_far.calls;
        asks = (
          now.source,
          so_far.given,
          piece,
          so_far.asks,
          owes-none-now limit left so_far.requests so_far.answers start.sink.bytes now.sink.bytes (come ++ so_far.given) held so_far.as_many so_far.begins some incomplete so_far.writes,
          none_stops,
          record { reads = reads; calls = counts },
          refl,
        );
      })

  next_count : (request : PlainRequest) → count + 1 ≡ length (so_far.requests ++ request ∷ [])
  next_count request = omega (arith, so_far.count_is, length-append so_far.requests (request ∷ []))

  as_many-next : (request : PlainRequest) (answer : List ℕ) → length (so_far.answers ++ answer ∷ []) ≡ length (so_far.requests ++ request ∷ [])
  as_many-next request answer = omega (arith, so_far.as_many, length-append so_far.requests (request ∷ []), length-append so_far.answers (answer ∷ []))

  -- the calls so far, after the sink took more of the answer to one request more
  asks-answered : (request : PlainRequest) (answer text : List ℕ) (sink' : Option (List ℕ)) → Appends now.sink.bytes sink' text
      → Asks (λ piece. OwesNoAnswer limit (so_far.requests ++ request ∷ []) (so_far.answers ++ answer ∷ []) start.sink.bytes sink' (come ++ piece)) start.source so_far.calls so_far.given now.source
  asks-answered request answer text sink' written =
      asks-weaker
      (λ piece. OwesNoAnswer limit so_far.requests so_far.answers start.sink.bytes now.sink.bytes (come ++ piece))
      (λ piece. OwesNoAnswer limit (so_far.requests ++ request ∷ []) (so_far.answers ++ answer ∷ []) start.sink.bytes sink' (come ++ piece))
      (λ piece is. owes-none-next limit so_far.requests so_far.answers request answer start.sink.bytes sink' so_far.as_many (come ++ piece)
      (owes-none-later limit so_far.requests so_far.answers start.sink.bytes now.sink.bytes sink' text written (come ++ piece) is))
      start.source so_far.calls so_far.given now.source so_far.asks

  -- a request was answered, and its answer written
  pub Progress-next : (runs' : Runs) (request : PlainRequest) (len : ℕ) (answer : List ℕ) (sink' : Told)
      → 0 < left → BeginsWithRequest held request len → GoesOn runs runs' request answer → Appends now.sink.bytes sink'.bytes answer
      → Progress runs' limit (count + 1) (left_after left request) come (drop len held) start (ends_of now.source sink')
  Progress-next runs' request len answer sink' some whole goes_on written = record {
    given = so_far.given;
    requests = so_far.requests ++ request ∷ [];
    answers = so_far.answers ++ answer ∷ [];
    reads = so_far.reads;
    begins = BeginsWith-next limit (come ++ so_far.given) so_far.requests held left request len so_far.begins some whole;
    ran = goes_on so_far.requests so_far.answers so_far.ran;
    count_is = next_count request;
    as_many = as_many-next request answer;
    writes = subst (Appends start.sink.bytes sink'.bytes) (sym (concat-push so_far.answers answer)) (Appends-trans start.sink.bytes now.sink.bytes sink'.bytes (concat so_far.answers) answer so_far.writes written);
    calls = so_far.calls;
    asks = asks-answered request answer answer sink'.bytes written;
  }

-- what a write that was made, or that broke off, did
pub written_whole : {T E : Type 0} (r : Result T E) (old new : Option (List ℕ)) (bytes : List ℕ) → is_err r ≡ false
    → MatchResult r (λ _. Appends old new bytes) (λ _. AppendsPart old new bytes) → Appends old new bytes
written_whole (Ok x) old new bytes whole clause = clause
written_whole (Err e) old new bytes whole clause = cc

pub written_in_part : {T E : Type 0} (r : Result T E) (old new : Option (List ℕ)) (bytes : List ℕ) → is_err r ≡ true
    → MatchResult r (λ _. Appends old new bytes) (λ _. AppendsPart old new bytes) → AppendsPart old new bytes
written_in_part (Ok x) old new bytes broken clause = cc
written_in_part (Err e) old new bytes broken clause = clause

-- ---- how a stream ends

-- the texts were all taken: the answers, and nothing or one text more
pub all_taken : (old new : Option (List ℕ)) (answers : List (List ℕ)) → Appends old new (concat answers) → Appends old new (concat (answers ++ []))
all_taken old new answers taken = subst (λ texts. Appends old new (concat texts)) (sym (append-nil answers)) taken

pub one_more_taken : (old middle new : Option (List ℕ)) (answers : List (List ℕ)) (answer : List ℕ) → Appends old middle (concat answers) → Appends middle new answer
    → Appends old new (concat (answers ++ answer ∷ []))
one_more_taken old middle new answers answer taken written =
    subst (Appends old new) (sym (concat-push answers answer)) (Appends-trans old middle new (concat answers) answer taken written)

-- the last text was taken up to some place
pub one_more_begun : (old middle new : Option (List ℕ)) (answers : List (List ℕ)) (answer : List ℕ) → Appends old middle (concat answers) → AppendsPart middle new answer
    → BreaksOff old new (answers ++ answer ∷ [])
one_more_begun old middle new answers answer taken broken = record {
  whole = answers;
  part = broken.part;
  unwritten = broken.rest;
  texts_are = ap (λ a. answers ++ a ∷ []) broken.front;
  taken = Appends-trans old middle new (concat answers) broken.part taken broken.taken;
}

module _ (runs : Runs) (limit count left : ℕ) (come held : List ℕ) (start now : Ends) (so_far : Progress runs limit count left come held start now) where
  -- no request follows, and the sink took this text at last
  pub Deed-ended : (outcome : Result Served ServeFault) (EndsWith : Tail → Type 0) (closing : List (List ℕ)) (sink' : Told) (text : List ℕ) → Appends now.sink.bytes sink'.bytes text
      → told_requests outcome ≡ count → EndsWith (record { rest = held; left = left; closing = closing })
      → ((answers : List (List ℕ)) → Appends start.sink.bytes now.sink.bytes (concat answers) → SinkTook outcome start.sink.bytes sink'.bytes (answers ++ closing))
      → Deed runs limit come start (ends_of now.source sink') outcome EndsWith
  Deed-ended outcome EndsWith closing sink' text written counted ends writes = record {
    given = so_far.given;
    requests = so_far.requests;
    answers = so_far.answers;
    tail = record { rest = held; left = left; closing = closing };
    reads = so_far.reads;
    begins = so_far.begins;
    ran = so_far.ran;
    as_many = so_far.as_many;
    counted = counted ∙ so_far.count_is;
    ends = ends;
    writes = writes so_far.answers so_far.writes;
    calls = so_far.calls;
    asks = asks-weaker
        (λ piece. OwesNoAnswer limit so_far.requests so_far.answers start.sink.bytes now.sink.bytes (come ++ piece))
        (λ piece. OwesNoAnswer limit so_far.requests so_far.answers start.sink.bytes sink'.bytes (come ++ piece))
        (λ piece. owes-none-later limit so_far.requests so_far.answers start.sink.bytes now.sink.bytes sink'.bytes text written (come ++ piece))
        start.source so_far.calls so_far.given now.source so_far.asks;
  }

  -- a request was answered, and its answer written up to some place
  pub Deed-broken : (runs' : Runs) (request : PlainRequest) (len : ℕ) (answer : List ℕ) (sink' : Told) (EndsWith : Tail → Type 0) → 0 < left → BeginsWithRequest held request len → GoesOn runs runs' request answer
      → AppendsPart now.sink.bytes sink'.bytes answer → EndsWith (record { rest = drop len held; left = left_after left request; closing = [] })
      → Deed runs' limit come start (ends_of now.source sink') (Err (stop.Write (count + 1))) EndsWith
  Deed-broken runs' request len answer sink' EndsWith some whole goes_on broken ends = record {
    given = so_far.given;
    requests = so_far.requests ++ request ∷ [];
    answers = so_far.answers ++ answer ∷ [];
    tail = record { rest = drop len held; left = left_after left request; closing = [] };
    reads = so_far.reads;
    begins = BeginsWith-next limit (come ++ so_far.given) so_far.requests held left request len so_far.begins some whole;
    ran = goes_on so_far.requests so_far.answers so_far.ran;
    as_many = as_many-next runs limit count left come held start now so_far request answer;
    counted = next_count runs limit count left come held start now so_far request;
    ends = ends;
    writes = subst (BreaksOff start.sink.bytes sink'.bytes) (sym (append-nil (so_far.answers ++ answer ∷ [])))
        (one_more_begun start.sink.bytes now.sink.bytes sink'.bytes so_far.answers answer so_far.writes broken);
    calls = so_far.calls;
    asks = asks-answered runs limit count left come held start now so_far request answer broken.part sink'.bytes broken.taken;
  }

-- how a stream ended that was left
pub ends_left : {State : Type 0} (protocol : Protocol State) (end : PartEnd) (is_empty : Bool) (count : ℕ) (kept : List ℕ) (tail : Tail) (start now : Ends)
    → MayBeLeft end is_empty → (is_empty ≡ true → kept ≡ []) → IsLeft kept tail → EndsPart end protocol count kept tail start now
ends_left protocol part.Ended is_empty count kept tail start now may none is_left = absurd may
ends_left protocol part.GaveWay is_empty count kept tail start now may none is_left = (is_left, none may)
ends_left protocol part.Paused is_empty count kept tail start now may none is_left = is_left

-- and that no call of it failed or moved no byte
pub tells_left : (end : PartEnd) (is_empty : Bool) (start now : Ends) → MayBeLeft end is_empty
    → NoneStops start.source.counts now.source.counts → NoneStops start.sink.counts now.sink.counts → TellsEnd end start now
tells_left part.Ended is_empty start now may source sink = absurd may
tells_left part.GaveWay is_empty start now may source sink = (source, sink)
tells_left part.Paused is_empty start now may source sink = (source, sink)

-- nothing was begun
pub Did-nothing : {State : Type 0} (protocol : Protocol State) (runs : Runs) (limit : ℕ) (ends : Ends) → runs [] [] → Did protocol runs limit ends ends (Err stop.NoMemory)
Did-nothing protocol runs limit ends ran = record {
  given = [];
  requests = [];
  answers = [];
  tail = record { rest = []; left = limit; closing = [] };
  reads = Consumes-nil ends.source.bytes;
  begins = (refl, refl);
  ran = ran;
  as_many = refl;
  counted = refl;
  ends = (refl, refl);
  writes = Appends-nil ends.sink.bytes;
  calls = 0;
  asks = (refl, refl);
}

-- a piece of no bytes
pub Consumes-none : (a b : Option (List ℕ)) (piece : List ℕ) → length piece ≡ 0 → Consumes a b piece → Consumes a b []
Consumes-none a b [] none consumes = consumes
Consumes-none a b (x ∷ xs) none consumes = absurd (omega arith)

pub Consumes-from_Keeps : (a b : Option (List ℕ)) → Keeps a b → Consumes a b []
Consumes-from_Keeps None b keeps = tt
Consumes-from_Keeps (Some xs) None keeps = absurd keeps
Consumes-from_Keeps (Some xs) (Some ys) keeps = sym keeps

-- a source that waited tells the same
pub Progress-waited : (runs : Runs) (limit count left : ℕ) (come held : List ℕ) (start : Ends) (source source' sink : Told) → source' ≡ source
    → Progress runs limit count left come held start (ends_of source sink) → Progress runs limit count left come held start (ends_of source' sink)
Progress-waited runs limit count left come held start source source' sink same so_far =
    subst (λ s. Progress runs limit count left come held start (ends_of s sink)) (sym same) so_far

pub none-waited : (first source source' : Told) → source' ≡ source → NoneStops first.counts source.counts → NoneStops first.counts source'.counts
none-waited first source source' same none = subst (λ (s : Told). NoneStops first.counts s.counts) (sym same) none

-- the same, as the code holds it
pub Progress-as : (runs : Runs) (limit count left : ℕ) (come held : List ℕ) (start now : Ends) (left' : ℕ) (held' : List ℕ)
    → left ≡ left' → held ≡ held' → Progress runs limit count left come held start now → Progress runs limit count left' come held' start now
Progress-as runs limit count left come held start now left' held' same_left same_held so_far =
    subst (λ h. Progress runs limit count left' come h start now) same_held
    (subst (λ l. Progress runs limit count l come held start now) same_left so_far)

-- where less is said of the requests and their answers, and of the end
pub Deed-weaker : (runs runs' : Runs) (limit : ℕ) (come : List ℕ) (start end : Ends) (outcome : Result Served ServeFault) (EndsWith EndsSo : Tail → Type 0)
    → ((requests : List PlainRequest) (answers : List (List ℕ)) → runs requests answers → runs' requests answers)
    → ((tail : Tail) → EndsWith tail → EndsSo tail)
    → Deed runs limit come start end outcome EndsWith → Deed runs' limit come start end outcome EndsSo
Deed-weaker runs runs' limit come start end outcome EndsWith EndsSo weaker ends did = record {
  given = did.given;
  requests = did.requests;
  answers = did.answers;
  tail = did.tail;
  reads = did.reads;
  begins = did.begins;
  ran = weaker did.requests did.answers did.ran;
  as_many = did.as_many;
  counted = did.counted;
  ends = ends did.tail did.ends;
  writes = did.writes;
  calls = did.calls;
  asks = did.asks;
}

-- where less is said of the requests and their answers
pub Did-weaker : {State : Type 0} (protocol : Protocol State) (runs runs' : Runs) (limit : ℕ) (start end : Ends) (result : Result Served ServeFault)
    → ((requests : List PlainRequest) (answers : List (List ℕ)) → runs requests answers → runs' requests answers)
    → Did protocol runs limit start end result → Did protocol runs' limit start end result
Did-weaker protocol runs runs' limit start end result weaker did =
    Deed-weaker runs runs' limit [] start end result (λ tail. EndsBy protocol result tail start end) (λ tail. EndsBy protocol result tail start end) weaker (λ tail ends. ends) did

pub DidPart-weaker : {State : Type 0} (protocol : Protocol State) (runs runs' : Runs) (limit : ℕ) (come kept : List ℕ) (start end : Ends) (result : Result Part ServeFault)
    → ((requests : List PlainRequest) (answers : List (List ℕ)) → runs requests answers → runs' requests answers)
    → DidPart protocol runs limit come kept start end result → DidPart protocol runs' limit come kept start end result
DidPart-weaker protocol runs runs' limit come kept start end result weaker did =
    Deed-weaker runs runs' limit come start end (as_served result) (λ tail. EndsPartBy protocol result kept tail start end) (λ tail. EndsPartBy protocol result kept tail start end)
    weaker (λ tail ends. ends) did

-- ---- a stream that is one part

-- the outcome of a part that is the last of its stream
abbrev pub IsLast : Result Part ServeFault → Type 0
IsLast result = IfOk result (λ it. it.end ≡ part.Ended)

ends_whole : {State : Type 0} (protocol : Protocol State) (result : Result Part ServeFault) (kept : List ℕ) (start end : Ends) → IsLast result
    → (tail : Tail) → EndsPartBy protocol result kept tail start end → EndsBy protocol (as_served result) tail start end
ends_whole protocol (Ok it) kept start end last tail ends = subst (λ e. EndsPart e protocol it.requests kept tail start end) last ends
ends_whole protocol (Err (stop.Read requests)) kept start end last tail ends = ends
ends_whole protocol (Err (stop.Write requests)) kept start end last tail ends = ends
ends_whole protocol (Err stop.NoMemory) kept start end last tail ends = absurd ends

pub Did-whole : {State : Type 0} (protocol : Protocol State) (runs : Runs) (limit : ℕ) (come kept : List ℕ) (start end : Ends) (result : Result Part ServeFault)
    → come ≡ [] → IsLast result → DidPart protocol runs limit come kept start end result → Did protocol runs limit start end (as_served result)
Did-whole protocol runs limit come kept start end result none last did =
    Deed-weaker runs runs limit [] start end (as_served result) (λ tail. EndsPartBy protocol result kept tail start end) (λ tail. EndsBy protocol (as_served result) tail start end)
    (λ requests answers ran. ran) (ends_whole protocol result kept start end last)
    (subst (λ c. Deed runs limit c start end (as_served result) (λ tail. EndsPartBy protocol result kept tail start end)) none did)

pub tells_whole : (result : Result Part ServeFault) (start end : Ends) → IsLast result → TellsPart start end result → TellsFault start end (as_served result)
tells_whole (Ok it) start end last tells = subst (λ e. TellsEnd e start end) last tells
tells_whole (Err (stop.Read requests)) start end last tells = tells
tells_whole (Err (stop.Write requests)) start end last tells = tells
tells_whole (Err stop.NoMemory) start end last tells = absurd tells

-- the buffer of a part is not refused
pub has_buffer : (why : ServeFault) (start end : Ends) → TellsPart start end (Err why) → why ≡ stop.NoMemory → ⊥
has_buffer why start end tells none = subst (λ w. TellsPart start end (Err w)) none tells

-- no call was made
pub calls_none : (limit : ℕ) (ends : Ends) → CallsEnds limit ends ends (Err stop.NoMemory)
calls_none limit ends = record {
  fault = tt;
  untouched = λ _. refl;
  asks = (0, [], (refl, refl));
  reads = omega arith;
}

-- a part that was served from the first byte of its stream to the end called the ends as for a stream
pub calls_whole : (limit : ℕ) (result : Result Part ServeFault) (come kept : List ℕ) (start end : Ends) → come ≡ [] → IsLast result → TellsPart start end result
    → OnlyAsksAfter limit come start.source end.source
    → end.source.counts.calls + length come ≤ start.source.counts.calls + longest_request * limit + length kept + 1
    → (length come ≤ longest_request → length kept ≤ longest_request) → CallsEnds limit start end (as_served result)
calls_whole limit result come kept start end none last tells asks reads bound =
    let empty = ap length none in
    record {
      fault = tells_whole result start end last tells;
      untouched = λ refused. absurd (was_begun result start end tells refused);
      asks = subst (λ bytes. OnlyAsksAfter limit bytes start.source end.source) none asks;
      reads = omega (arith, empty, bound (omega (arith, empty)), reads);
    }
  where
    was_begun : (result : Result Part ServeFault) (start end : Ends) → TellsPart start end result → as_served result ≡ Err stop.NoMemory → ⊥
    was_begun (Ok it) start end tells refused = cc
    was_begun (Err why) start end tells refused = has_buffer why start end tells cc
