-- How the parts of connections that were served follow one another.
use Rattle.std.proofs.Common.{◌≡◌, ◌∙◌, ℕ, zero, suc, ◌+◌, ◌≤◌, Bool, true, false, List, [], ◌∷◌, ◌++◌, length, Option, Some, None, refl, sym, ap, subst, arith, append_assoc}
use Rattle.std.proofs.lemmas.List.{append-nil, length-append}
use Rattle.std.specs.Prelude.{◌-◌, ◌*◌, Result, if◌then◌else◌}
use Rattle.office_http.specs.Listening.{ListenerMoves, Connected, ConnectionState, Exchanges, GivesOne, GrewBy, ListensBy, Listening, NoneGoesOn, RunsBetween, ServesConnection, ServesEach, StartEach, StartsWith, connection_between, given_for, given_one, has_paused, kept_after, kept_of, more_accepted, one_accepted, ran_by, returned_after, returned_one}
use Rattle.office_http.specs.declared.listening.ListenCounts.{ListenCounts}
use Rattle.office_http_framing.proofs.ServeLemmas.{DidPart-weaker}
use Rattle.office_http_framing.specs.{Asks.OnlyAsksAfter, Front.PlainRequest, Limits.longest_request, Protocol.Protocol, Serve.DidPart, Serve.Ends, Serve.TellsPart, Serve.as_served, Serve.told_requests, Stops.KeepsState, Stops.Ran, Stops.Storage, Stops.moment_of, declared.engine.Part.Part, declared.engine.ServeFault.ServeFault}

-- ---- what a listener gave and got back

adds-on : (a b c : Option (List Ends)) (xs ys : List Ends) → GrewBy a b xs → GrewBy b c ys → GrewBy a c (xs ++ ys)
adds-on None b c xs ys first next = tt
adds-on (Some us) None c xs ys first next = absurd first
adds-on (Some us) (Some vs) None xs ys first next = absurd next
adds-on (Some us) (Some vs) (Some ws) xs ys first next = next ∙ ap (λ zs. zs ++ ys) first ∙ append_assoc us xs ys

still : (a : Option (List Ends)) → GrewBy a a []
still None = tt
still (Some xs) = sym (append-nil xs)

changes-trans : (a b c : Listening) (first second : ListenCounts) (gave more back again : List Ends) (kept last : Option ConnectionState)
    → ListenerMoves a b first gave back kept → ListenerMoves b c second more again last → ListenerMoves a c second (gave ++ more) (back ++ again) last
changes-trans a b c first second gave more back again kept last x y = record {
  counted = y.counted;
  gave = adds-on a.given b.given c.given gave more x.gave y.gave;
  got_back = adds-on a.returned b.returned c.returned back again x.got_back y.got_back;
  keeps = y.keeps;
}

changes-as : (a b : Listening) (counts counts' : ListenCounts) (gave gave' back back' : List Ends) (kept kept' : Option ConnectionState)
    → counts ≡ counts' → gave ≡ gave' → back ≡ back' → kept ≡ kept' → ListenerMoves a b counts gave back kept → ListenerMoves a b counts' gave' back' kept'
changes-as a b counts counts' gave gave' back back' kept kept' same_counts same_gave same_back same_kept x = record {
  counted = x.counted ∙ same_counts;
  gave = subst (GrewBy a.given b.given) same_gave x.gave;
  got_back = subst (GrewBy a.returned b.returned) same_back x.got_back;
  keeps = x.keeps ∙ same_kept;
}

-- ---- the parts, one after another

kept-append : (kept : Option ConnectionState) (xs ys : List Connected) → kept_after kept (xs ++ ys) ≡ kept_after (kept_after kept xs) ys
kept-append kept [] ys = refl
kept-append kept (x ∷ xs) ys = kept-append (kept_of x) xs ys

given-append : (kept : Option ConnectionState) (xs ys : List Connected) → given_for kept (xs ++ ys) ≡ given_for kept xs ++ given_for (kept_after kept xs) ys
given-append kept [] ys = refl
given-append kept (x ∷ xs) ys =
    ap (λ ends. given_one kept x.start ++ ends) (given-append (kept_of x) xs ys) ∙ sym (append_assoc (given_one kept x.start) (given_for (kept_of x) xs) (given_for (kept_after (kept_of x) xs) ys))

returned-append : (xs ys : List Connected) → returned_after (xs ++ ys) ≡ returned_after xs ++ returned_after ys
returned-append [] ys = refl
returned-append (x ∷ xs) ys = ap (λ ends. returned_one x ++ ends) (returned-append xs ys) ∙ sym (append_assoc (returned_one x) (returned_after xs) (returned_after ys))

start-append : (kept : Option ConnectionState) (xs ys : List Connected) → StartEach kept xs → StartEach (kept_after kept xs) ys → StartEach kept (xs ++ ys)
start-append kept [] ys first next = next
start-append kept (x ∷ xs) ys first next = (first.0, start-append (kept_of x) xs ys first.1 next)

accepted-more : (m n : ℕ) (c : ListenCounts) → more_accepted n (more_accepted m c) ≡ more_accepted (m + n) c
accepted-more m zero c =
    let same : m ≡ m + zero = omega arith in
    ap (λ k. more_accepted k c) same
accepted-more m (suc n) c =
    let next : suc (m + n) ≡ m + suc n = omega arith in
    ap one_accepted (accepted-more m n c) ∙ ap (λ k. more_accepted k c) next

-- nothing was given yet
pub exchanges-start : (told : Listening) → Exchanges told told []
exchanges-start told = record {
  start = tt;
  changes = record { counted = refl; gave = still told.given; got_back = still told.returned; keeps = refl };
}

-- a call gave no connection
pub exchanges-none : (old told new : Listening) (parts : List Connected) → Exchanges old told parts → ListenerMoves told new told.counts [] [] told.kept → Exchanges old new parts
exchanges-none old told new parts so_far none = record {
  start = so_far.start;
  changes = changes-as old new _ _ _ _ _ _ _ _ so_far.changes.counted (append-nil (given_for old.kept parts)) (append-nil (returned_after parts)) so_far.changes.keeps
      (changes-trans old told new _ _ _ [] _ [] _ _ so_far.changes none);
}

-- a connection was given, served, and kept or taken back
one-part : (kept : Option ConnectionState) (told middle new : Listening) (goes_on : Bool) (start end : ConnectionState) → GivesOne kept start told middle
    → ListenerMoves middle new middle.counts [] (returned_one (connection_between goes_on start end)) (kept_of (connection_between goes_on start end))
    → StartsWith kept start
    × ListenerMoves told new (more_accepted (length (given_for kept (connection_between goes_on start end ∷ []))) told.counts)
    (given_for kept (connection_between goes_on start end ∷ [])) (returned_after (connection_between goes_on start end ∷ [])) (kept_of (connection_between goes_on start end))
one-part None told middle new goes_on start end given back = (
  given.0,
  changes-as told new _ _ _ _ _ _ _ _ given.1.counted refl (sym (append-nil (returned_one (connection_between goes_on start end)))) refl
      (changes-trans told middle new _ _ _ [] [] _ _ _ given.1 back),
)
one-part (Some kept) told middle new goes_on start end given back = (
  given.0,
  changes-as told new _ _ _ _ _ _ _ _ given.1.counted refl (sym (append-nil (returned_one (connection_between goes_on start end)))) refl
      (changes-trans told middle new _ _ [] [] [] _ _ _ given.1 back),
)

pub exchanges-one : (told middle new : Listening) (goes_on : Bool) (start end : ConnectionState) → GivesOne told.kept start told middle
    → ListenerMoves middle new middle.counts [] (returned_one (connection_between goes_on start end)) (kept_of (connection_between goes_on start end))
    → Exchanges told new (connection_between goes_on start end ∷ [])
exchanges-one told middle new goes_on start end given back =
    let one = one-part told.kept told middle new goes_on start end given back in
    record { start = (one.0, tt); changes = one.1 }

-- a connection that is taken back is not kept
taken-back : (kept : Option ConnectionState) (start : ConnectionState) (told middle new : Listening) (counts : ListenCounts) (back : List Ends) → GivesOne kept start told middle
    → ListenerMoves middle new counts [] back middle.kept → ListenerMoves middle new counts [] back None
taken-back None start told middle new counts back given changes = changes-as middle new _ _ _ _ _ _ _ _ refl refl refl given.1.keeps changes
taken-back (Some kept) start told middle new counts back given changes = changes-as middle new _ _ _ _ _ _ _ _ refl refl refl given.1.keeps changes

-- a part goes on, and is kept
pub exchanges-kept : (told middle new : Listening) (goes_on : Bool) (start end : ConnectionState) → goes_on ≡ true → GivesOne told.kept start told middle
    → ListenerMoves middle new middle.counts [] [] (Some end) → Exchanges told new (connection_between goes_on start end ∷ [])
exchanges-kept told middle new goes_on start end is given changes =
    subst (λ (it : Bool). Exchanges told new (connection_between it start end ∷ [])) (sym is) (exchanges-one told middle new true start end given changes)

-- a part is the last one, and is taken back
pub exchanges-back : (told middle new : Listening) (goes_on : Bool) (start end : ConnectionState) → goes_on ≡ false → GivesOne told.kept start told middle
    → ListenerMoves middle new middle.counts [] (end.ends ∷ []) middle.kept → Exchanges told new (connection_between goes_on start end ∷ [])
exchanges-back told middle new goes_on start end is given changes =
    subst (λ (it : Bool). Exchanges told new (connection_between it start end ∷ [])) (sym is)
    (exchanges-one told middle new false start end given (taken-back told.kept start told middle new _ _ given changes))

-- a connection was given, and taken back as it was
pub exchanges-untouched : (told middle new : Listening) (start end : ConnectionState) → end ≡ start → GivesOne told.kept start told middle
    → ListenerMoves middle new middle.counts [] (end.ends ∷ []) middle.kept → Exchanges told new (connection_between false start start ∷ [])
exchanges-untouched told middle new start end same given changes =
    exchanges-back told middle new false start start refl given (subst (λ (state : ConnectionState). ListenerMoves middle new middle.counts [] (state.ends ∷ []) middle.kept) same changes)

-- and then others
pub exchanges-trans : (a b c : Listening) (xs ys : List Connected) → Exchanges a b xs → Exchanges b c ys → Exchanges a c (xs ++ ys)
exchanges-trans a b c xs ys x y =
    let from : StartEach (kept_after a.kept xs) ys
    × ListenerMoves b c (more_accepted (length (given_for (kept_after a.kept xs) ys)) b.counts) (given_for (kept_after a.kept xs) ys) (returned_after ys) (kept_after (kept_after a.kept xs) ys) =
    subst (λ kept. StartEach kept ys × ListenerMoves b c (more_accepted (length (given_for kept ys)) b.counts) (given_for kept ys) (returned_after ys) (kept_after kept ys)) x.changes.keeps (y.start, y.changes) in
    let counts : more_accepted (length (given_for (kept_after a.kept xs) ys)) b.counts ≡ more_accepted (length (given_for a.kept (xs ++ ys))) a.counts =
    ap (more_accepted (length (given_for (kept_after a.kept xs) ys))) x.changes.counted
    ∙ accepted-more (length (given_for a.kept xs)) (length (given_for (kept_after a.kept xs) ys)) a.counts
    ∙ ap (λ k. more_accepted k a.counts) (sym (length-append (given_for a.kept xs) (given_for (kept_after a.kept xs) ys)) ∙ ap length (sym (given-append a.kept xs ys))) in
    record {
      start = start-append a.kept xs ys x.start from.0;
      changes = changes-as a c _ _ _ _ _ _ _ _ counts (sym (given-append a.kept xs ys)) (sym (returned-append xs ys)) (sym (kept-append a.kept xs ys))
          (changes-trans a b c _ _ _ _ _ _ _ _ x.changes from.1);
    }

pub none-append : (xs : List Connected) (x : Connected) → NoneGoesOn xs → x.goes_on ≡ false → NoneGoesOn (xs ++ x ∷ [])
none-append [] x none last = (last, tt)
none-append (y ∷ ys) x none last = (none.0, none-append ys x none.1 last)

-- how many connections were given back after one part more
pub one_more_back : (xs : List Connected) (goes_on : Bool) (start end : ConnectionState) → goes_on ≡ false
    → length (returned_after (xs ++ connection_between goes_on start end ∷ [])) ≡ length (returned_after xs) + 1
one_more_back xs goes_on start end is =
    subst (λ (it : Bool). length (returned_after (xs ++ connection_between it start end ∷ [])) ≡ length (returned_after xs) + 1) (sym is)
    (ap length (returned-append xs (connection_between false start end ∷ [])) ∙ length-append (returned_after xs) (end.ends ∷ []))

pub no_more_back : (xs : List Connected) (goes_on : Bool) (start end : ConnectionState) → goes_on ≡ true
    → length (returned_after (xs ++ connection_between goes_on start end ∷ [])) ≡ length (returned_after xs)
no_more_back xs goes_on start end is =
    subst (λ (it : Bool). length (returned_after (xs ++ connection_between it start end ∷ [])) ≡ length (returned_after xs)) (sym is)
    (ap length (returned-append xs (connection_between true start end ∷ []) ∙ append-nil (returned_after xs)))

-- where no part goes on, each is the one of a connection
pub as_many_back : (xs : List Connected) → NoneGoesOn xs → length (returned_after xs) ≡ length xs
as_many_back [] none = refl
as_many_back (x ∷ xs) none =
    let back : returned_one x ≡ x.end.ends ∷ [] = ap (λ (goes_on : Bool). if goes_on then [] else x.end.ends ∷ []) none.0 in
    omega (arith, as_many_back xs none.1, ap (λ ends. length (ends ++ returned_after xs)) back)

-- ---- what was done for them

-- a call of `serve_buffered` over the buffer of a connection serves a part of it
pub one_connection : {Machine State Stored : Type 0} (protocol : Protocol State) (runs : RunsBetween Machine State Stored) (first : Machine) (held : Stored) (before : State) (last : Machine) (kept : Stored) (after : State)
    (start end : ConnectionState) (goes_on : Bool) (come : List ℕ) (outcome : Result Part ServeFault) → come ≡ start.held
    → DidPart protocol (runs first held before last kept after) start.left come end.held start.ends end.ends outcome → TellsPart start.ends end.ends outcome
    → OnlyAsksAfter start.left come start.ends.source end.ends.source
    → end.ends.source.counts.calls + length come ≤ start.ends.source.counts.calls + longest_request * start.left + length end.held + 1
    → goes_on ≡ has_paused outcome → end.left ≡ start.left - told_requests (as_served outcome)
    → ServesConnection protocol runs first held before last kept after (connection_between goes_on start end)
one_connection protocol runs first held before last kept after start end goes_on come outcome same did fault asks reads paused left = record {
  outcome = outcome;
  did = subst (λ (bytes : List ℕ). DidPart protocol (runs first held before last kept after) start.left bytes end.held start.ends end.ends outcome) same did;
  fault = fault;
  asks = record {
    asks = subst (λ (bytes : List ℕ). OnlyAsksAfter start.left bytes start.ends.source end.ends.source) same asks;
    reads = subst (λ (bytes : List ℕ). end.ends.source.counts.calls + length bytes ≤ start.ends.source.counts.calls + longest_request * start.left + length end.held + 1) same reads;
  };
  goes_on = paused;
  left = left;
}

module _ {Machine State Stored : Type 0} (protocol : Protocol State) (storage : Storage Machine State Stored) where
  -- nothing was served yet
  pub listens-start : (runs : RunsBetween Machine State Stored) (first : Machine) (held : Stored) (before : State) → KeepsState storage first held before
      → ListensBy protocol storage runs first held before first []
  listens-start runs first held before keeps = record { after = before; kept = held; keeps = keeps; each = (refl, refl, refl) }

  module _ (mid : Machine) (tables : Stored) (middle : State) (last : Machine) (kept : Stored) (after : State) (it : Connected)
      (one : ServesConnection protocol (ran_by protocol storage) mid tables middle last kept after it) where
    each-next : (first : Machine) (held : Stored) (before : State) (served : List Connected) → ServesEach protocol (ran_by protocol storage) first held before served mid tables middle
        → ServesEach protocol (ran_by protocol storage) first held before (served ++ it ∷ []) last kept after
    each-next first held before [] none =
        subst (λ machine. ServesEach protocol (ran_by protocol storage) machine held before (it ∷ []) last kept after) none.0
        (subst (λ stored. ServesEach protocol (ran_by protocol storage) mid stored before (it ∷ []) last kept after) none.1
        (subst (λ state. ServesEach protocol (ran_by protocol storage) mid tables state (it ∷ []) last kept after) none.2
        (last, kept, after, one, (refl, refl, refl))))
    each-next first held before (next ∷ served) some =
        (some.0, some.1, some.2, some.3, each-next some.0 some.1 some.2 served some.4)

  -- one part more
  pub listens-next : (first : Machine) (held : Stored) (before : State) (mid last : Machine) (kept : Stored) (after : State) (served : List Connected) (it : Connected)
      → (so_far : ListensBy protocol storage (ran_by protocol storage) first held before mid served)
      → ServesConnection protocol (ran_by protocol storage) mid so_far.kept so_far.after last kept after it
      → ListensBy protocol storage (ran_by protocol storage) first held before last (served ++ it ∷ [])
  listens-next first held before mid last kept after served it so_far one = record {
    after = after;
    kept = kept;
    keeps = one.did.ran.keeps;
    each = each-next mid so_far.kept so_far.after last kept after it one first held before served so_far.each;
  }

  -- what the runs of the machine mean
  abbrev pub Means : RunsBetween Machine State Stored → Type 0
  Means runs =
      (first : Machine) (held : Stored) (before : State) (last : Machine) (kept : Stored) (after : State) → KeepsState storage first held before
      → (requests : List PlainRequest) (answers : List (List ℕ)) → Ran protocol storage (storage.may_leave first) (moment_of storage first held before) last kept after requests answers
      → runs first held before last kept after requests answers

  module _ (runs : RunsBetween Machine State Stored) (means : Means runs) where
    pub connection-as : (first : Machine) (held : Stored) (before : State) (last : Machine) (kept : Stored) (after : State) (it : Connected) → KeepsState storage first held before
        → ServesConnection protocol (ran_by protocol storage) first held before last kept after it → ServesConnection protocol runs first held before last kept after it
    connection-as first held before last kept after it keeps one = record {
      outcome = one.outcome;
      did = DidPart-weaker protocol _ _ _ _ _ _ _ one.outcome (means first held before last kept after keeps) one.did;
      fault = one.fault;
      asks = one.asks;
      goes_on = one.goes_on;
      left = one.left;
    }

    each-as : (served : List Connected) (first : Machine) (held : Stored) (before : State) (last : Machine) (kept : Stored) (after : State) → KeepsState storage first held before
        → ServesEach protocol (ran_by protocol storage) first held before served last kept after → ServesEach protocol runs first held before served last kept after
    each-as [] first held before last kept after keeps each = each
    each-as (it ∷ served) first held before last kept after keeps each = (
      each.0,
      each.1,
      each.2,
      connection-as first held before each.0 each.1 each.2 it keeps each.3,
      each-as served each.0 each.1 each.2 last kept after each.3.did.ran.keeps each.4,
    )

    pub listens-as : (first : Machine) (held : Stored) (before : State) (last : Machine) (served : List Connected) → KeepsState storage first held before
        → ListensBy protocol storage (ran_by protocol storage) first held before last served → ListensBy protocol storage runs first held before last served
    listens-as first held before last served keeps it = record {
      after = it.after;
      kept = it.kept;
      keeps = it.keeps;
      each = each-as served first held before last it.kept it.after keeps it.each;
    }
