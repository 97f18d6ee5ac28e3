-- From what was decided by reads to what a command is answered.
use Rattle.std.proofs.Common.{◌≡◌, ◌≢◌, [], Result, Ok, Err, IsOkAnd, refl, inl, inr, arith}
use Rattle.std.specs.Prelude.{MatchResult}
use Rattle.office_desk_timing.specs.Decisions.{refusal_of}
use Rattle.office_desk.proofs.{Looks.looks_any, Looks.looks_open, Looks.looks_weaker, Undamaged.damage_refuted}
use Rattle.office_desk.specs.{Answers.AnswersAny, Asks.OnlyLooks, Asks.ReadsOffice, Damage.MeetsDamage, Named.IsNamedFor, Running.IsAnswerTo, Deciding.AddsNothing, Deciding.Decides}
use Rattle.office_machine.specs.declared.{command.Command.Command, command.Command.TheVariants.Import, reply.Reply.Reply, reply.Reply.TheVariants.Imported, reply.Reply.TheVariants.Refused}
use Rattle.office_tables_decisions.specs.{Reads.OnlyReads, declared.decided.Decided.Decided}
use Rattle.office_tables_shelf.specs.{Content.Content, declared.shelf.Shelf.Ghosts, declared.shelf.ShelfFault.ShelfFault, declared.shelf.ShelfFault.TheVariants.Damaged}
use Rattle.office_machine.specs.declared.refusal.Refusal.TheVariants as refusal

-- Unavailable is an answer that leaves the office
pub unavailable_answers : (tables : Content) (command : Command) → AnswersAny tables command (Refused refusal.Unavailable) tables
unavailable_answers tables command office stands = record { next = office; step = inl (refl, refl); stand = stands }

-- and so a reply to any query
pub unavailable_read : {S : Type 0} {g : Ghosts S} {old new : S} {query : Command} {reply : Reply} → ReadsOffice g old new query reply → ReadsOffice g old new query (Refused refusal.Unavailable)
unavailable_read {query = query} it =
    looks_weaker it (λ tables is. record { step = unavailable_answers tables query; named = λ why told. inl cc; damaged = λ told. absurd cc })

-- a reply for which no row is written
unwritten : (command : Command) (decided : Decided) (said : Reply) → decided.reply ≡ said → decided.changes.items ≡ [] → (tables : Content) → AnswersAny tables command said tables
    → IsNamedFor command said → (said ≡ Refused refusal.Damaged → MeetsDamage tables command) → IsAnswerTo tables command decided
unwritten command decided said is none tables answers named damaged = record {
  step = rw (is, none) answers;
  writes = λ table. rw none (omega arith);
  news = rw none tt;
  refused = λ _. none;
  query = λ _. none;
  named = rw is named;
  damaged = rw is damaged;
}

-- what was decided, or the refusal of a fault
abbrev pub IsTold : Result Decided ShelfFault → Decided → Type 0
IsTold read given = MatchResult read (λ decided. given ≡ decided) (λ fault. (given.reply ≡ Refused (refusal_of fault)) × (given.changes.items ≡ []))

-- a command is answered so on a shelf that was only read
pub decided_look : {S : Type 0} (g : Ghosts S) (command : Command) (read : Result Decided ShelfFault) (given : Decided) (old new : S) → OnlyReads g (command ≢ Import []) read old new → IsTold read given
    → Decides (g.is_honest new) (g.content old) command read → (command ≡ Import [] → IsOkAnd read AddsNothing) → OnlyLooks g old new (λ tables. IsAnswerTo tables command given)
decided_look g (Import []) (Ok decided) given old new reads is decides nothing =
    let it = nothing refl in
    looks_any reads.kept reads.clean_before (λ tables. unwritten (Import []) given (Imported 0 0) (rw is it.0) (rw is it.1) tables
    (λ office stands. record { next = office; step = inr refl; stand = stands }) (λ why said. absurd cc) (λ said. absurd cc))
decided_look g command (Ok decided) given old new reads is decides nothing = looks_open reads.kept reads.clean_before (λ clean. reads.read (λ e. cc) clean tt) (λ honest. rw is (record {
  step = decides.step honest;
  writes = decides.writes honest;
  news = decides.news honest;
  refused = decides.refused;
  query = decides.query;
  named = λ why told. inr (inr (decides.named why told));
  damaged = λ told. absurd (decides.damaged told);
}))
decided_look g command (Err Damaged) given old new reads is decides nothing =
    looks_open reads.kept reads.clean_before (λ clean. reads.read nothing clean refl) (λ honest.
    let meets = decides refl honest in
    unwritten command given (Refused refusal.Damaged) is.0 is.1 (g.content old)
    (λ office stands. absurd (damage_refuted (g.content old) office stands command meets)) (λ why said. inr (inl cc)) (λ said. meets))
decided_look g command (Err _) given old new reads is decides nothing = looks_any reads.kept reads.clean_before
    (λ tables. unwritten command given (Refused refusal.Unavailable) is.0 is.1 tables (unavailable_answers tables command) (λ why said. inl cc) (λ said. absurd cc))
