-- Decisions that write nothing.
use Rattle.std.proofs.Common.{◌≡◌, ◌≢◌, ◌≤◌, ℕ, List, [], Result, Ok, Err, ap, inr, sym, subst, subst₂, ◌∙◌, arith}
use Rattle.std.specs.Prelude.{IsErrAnd}
use Rattle.office_tables_shelf.specs.{Change.AddNew, Change.changed_by, Content.Content, Counts.writes_in, declared.rows.RowChange.RowChange, declared.rows.Table.Table, declared.shelf.ShelfFault.ShelfFault, declared.shelf.ShelfFault.TheVariants.Damaged}
use Rattle.office_tables_decisions.specs.{RecordBounds.IsOneOf, Answers.Answers, Answers.AnswersAny, Changes.IsQueryCommand, Changes.IsRefused, Changes.most_writes, Damage.MeetsDamage, Deciding.Decides, Deciding.IsDecision, Named.RefusesBy, Named.number_of, Named.numbers_of, declared.decided.Decided.Decided, StandFor.StandForSound}
use Rattle.office_machine.specs.{Office.Office, Step.answered, declared.command.Command.Command, declared.refusal.Refusal.Refusal, declared.reply.Reply.Reply, declared.reply.Reply.TheVariants.Refused}
use Rattle.office_machine.specs.declared.refusal.Refusal.TheVariants as refusal

-- a refusal whose number is one of them
pub refuses_so : (numbers : List ℕ) (told : Refusal) → IsOneOf numbers (number_of told) → RefusesBy numbers (Refused told)
refuses_so numbers told among why e = subst (λ w. IsOneOf numbers (number_of w)) (let same : Refused told ≡ Refused why = e in let here : told ≡ why = cc in here) among

-- a refusal, or what a query shows: a decision without a row to write
pub told_decides : (is_honest : Type 0) (tables : Content) (command : Command) (said : Reply) (decided : Decided) → decided.reply ≡ said → said ≢ Refused refusal.Damaged → RefusesBy (numbers_of command) said → decided.changes.items ≡ []
    → (is_honest → (office : Office) → StandForSound tables office → answered office command ≡ (said, office))
    → IsDecision is_honest tables command decided
told_decides is_honest tables command said decided is never named none answers = record {
  step = λ honest office stands. record {
    next = office;
    step = inr (answers honest office stands ∙ (λ k. (sym is k, office)));
    stand = subst (λ list. StandForSound (changed_by tables list) office) (sym none) stands;
  };
  writes = λ honest table. subst (λ (list : List RowChange). writes_in table list ≤ most_writes tables command table) (sym none) (omega arith);
  news = λ honest. subst (AddNew tables) (sym none) tt;
  refused = λ _. none;
  query = λ _. none;
  named = λ why e. named why (sym is ∙ e);
  damaged = λ e. never (sym is ∙ e);
}

-- of an intersection that is not there
pub unknown_decides : (is_honest : Type 0) (tables : Content) (command : Command) (decided : Decided) → decided.reply ≡ Refused refusal.UnknownIntersection → IsOneOf (numbers_of command) 10 → decided.changes.items ≡ []
    → (is_honest → (office : Office) → StandForSound tables office → answered office command ≡ (Refused refusal.UnknownIntersection, office))
    → IsDecision is_honest tables command decided
unknown_decides is_honest tables command decided is known none answers =
    told_decides is_honest tables command (Refused refusal.UnknownIntersection) decided is (λ e. cc) (refuses_so (numbers_of command) refusal.UnknownIntersection known) none answers

-- a command that is accepted: its reply is no refusal, and these are its rows
pub accepted_decides : (is_honest : Type 0) (tables : Content) (command : Command) (said : Reply) (rows : List RowChange) (decided : Decided)
    → decided.reply ≡ said → decided.changes.items ≡ rows → ¬ IsRefused said → ¬ IsQueryCommand command
    → (is_honest → AnswersAny tables command said (changed_by tables rows))
    → (is_honest → (table : Table) → writes_in table rows ≤ most_writes tables command table) → (is_honest → AddNew tables rows)
    → IsDecision is_honest tables command decided
accepted_decides is_honest tables command said rows decided is same accepted asks answers few news = record {
  step = λ honest. subst₂ (λ (reply : Reply) (list : List RowChange). AnswersAny tables command reply (changed_by tables list)) (sym is) (sym same) (answers honest);
  writes = λ honest. subst (λ (list : List RowChange). (table : Table) → writes_in table list ≤ most_writes tables command table) (sym same) (few honest);
  news = λ honest. subst (AddNew tables) (sym same) (news honest);
  refused = λ refused. absurd (accepted (subst IsRefused is refused));
  query = λ query. absurd (asks query);
  named = λ why e. absurd (accepted (subst IsRefused (sym e ∙ is) tt));
  damaged = λ e. absurd (accepted (subst IsRefused (sym e ∙ is) tt));
}

-- a fault that is handed on, and reports damage only where the command meets it
pub handed_decides : (is_honest : Type 0) (tables : Content) (command : Command) (fault : ShelfFault) (result : Result Decided ShelfFault)
    → IsErrAnd result (λ e. e ≡ fault) → (fault ≡ Damaged → is_honest → MeetsDamage tables command) → Decides is_honest tables command result
handed_decides is_honest tables command fault (Ok decided) is damage = absurd is
handed_decides is_honest tables command fault (Err other) is damage = λ damaged. damage (sym is ∙ damaged)
