-- Over a run the register takes the records that were accepted, and no others: so its orders are open as they say, and its stock is theirs.
use Rattle.std.proofs.Common.{◌≡◌, inl, inr, ℕ, List, [], ◌∷◌, ◌++◌, Option, Some, None, refl, ap, sym, subst, append-nil}
use Rattle.std.specs.FinMap.{get}
use Rattle.cabinet_core.specs.{Cabinet.Line, Orders.open_at, Register.Register, Runs.AreAccepted, Step.line_at, Step.with_record, declared.command.RecordCommand.RecordCommand}
use Rattle.cabinet_core.proofs.RecordLaws.{open_law, stock_law}
use Rattle.office_machine.specs.RegisterRuns.{accepted_of, records_accepted, new_by, new_among, RegisterRuns, ShowsAccepted, ShowAccepted}
use Rattle.office_machine.specs.Step.{Step, Run, answered, shown}
use Rattle.office_machine.specs.{Office.Office, Office.Intersection, Office.IsSound, declared.command.Command.Command, declared.refusal.Refusal.Refusal, declared.refusal.Refusal.TheVariants.Unavailable, declared.reply.Reply.Reply, declared.reply.Reply.TheVariants.OpenOrders, declared.reply.Reply.TheVariants.Refused}
use Rattle.office_desk.proofs.Walks.{HoldsOfEach, HoldsOfRecords, records_so, step_so}
use Rattle.office_desk.proofs.ShownRegister.{IsTidy, accepted_more, accepted_tidy, open_shown, sound_tidy, stock_shown}
use Rattle.office_machine.specs.declared.command.Command.TheVariants as command

-- ---- one step

-- records that were accepted after a command were so after what it makes of those before it
abbrev After : Office → Command → Reply → Office → Type 0
After office command reply next = (rest : List RecordCommand) (last : Register)
    → AreAccepted next.register rest last
    → AreAccepted office.register (accepted_of office command reply ++ rest) last

-- and after an import, of what it brings in
abbrev Takes : Office → List RecordCommand → Office → Type 0
Takes office records next = (rest : List RecordCommand) (last : Register)
    → AreAccepted next.register rest last
    → AreAccepted office.register (new_among office.register records ++ rest) last

each_taken : HoldsOfRecords Takes
each_taken = record {
  none = λ office rest last run. run;
  new = λ office c cs next there line taken rest last run.
      by_line office c cs rest last line (line, taken rest last run);
  old = λ office c cs next there line taken rest last run.
      by_line office c cs rest last line (taken rest last run);
}
  where
    by_line : (office : Office) (c : RecordCommand) (cs rest : List RecordCommand) (last : Register)
        {line : Line} → line_at office.register c ≡ line → AreAccepted office.register (new_by line
        (c ∷ new_among (with_record office.register c) cs) (new_among office.register cs) ++ rest) last
        → AreAccepted office.register (new_among office.register (c ∷ cs) ++ rest) last
    by_line office c cs rest last line run = subst (λ (l : Line). AreAccepted office.register (new_by l
        (c ∷ new_among (with_record office.register c) cs) (new_among office.register cs) ++ rest) last)
        (sym line) run

each_after : (office : Office) → HoldsOfEach office (After office)
each_after office = record {
  stays = λ asked said unmoved none rest last run.
      subst (λ (cs : List RecordCommand). AreAccepted office.register (cs ++ rest) last) (sym none) run;
  adds = λ id interval name absent rest last run. run;
  moves = λ id clerk ask i next there took rest last run. run;
  records = λ c line rest last run. (line, run);
  imports = λ records done made. records_so Takes each_taken records 1 0 0 office done made;
}

step_after : (office next : Office) (command : Command) (reply : Reply) → Step office command reply next → After office command reply next
step_after office next command reply = step_so office (After office) (each_after office) command reply next

-- ---- runs

-- the records that a run accepts are those that make its last register
pub runs_accepted : (commands : List Command) (replies : List Reply) (first last : Office) (run : Run first commands replies last) → AreAccepted first.register (records_accepted first commands replies last run) last.register
runs_accepted [] [] first last run = ap (λ (o : Office). o.register) run
runs_accepted (command ∷ commands) (reply ∷ replies) first last run =
    step_after first run.0 command reply run.1 (records_accepted run.0 commands replies last run.2) last.register (runs_accepted commands replies run.0 last run.2)
runs_accepted _ _ first last run = absurd run

-- ---- replies

-- a refusal shows nothing of the register
refused_shows : (first : Office) (so_far : List RecordCommand) (command : Command) (why : Refusal) → ShowsAccepted first so_far command (Refused why)
refused_shows first so_far (command.OpenOrders id) why = tt
refused_shows first so_far _ why = tt

module _ (first now next : Office) (so_far : List RecordCommand) (run : AreAccepted first.register so_far now.register) (tidy : IsTidy first.register) (still : IsTidy now.register) where
  orders_show : (id : ℕ) (reply : Reply) (there : Option Intersection) → ◌≡◌ {A = Reply × Office} (shown there (λ i. OpenOrders (open_at now.register id)), now) (reply, next) → ShowsAccepted first so_far (command.OpenOrders id) reply
  orders_show id reply None is = subst (λ (p : Reply × Office). ShowsAccepted first so_far (command.OpenOrders id) p.0) is tt
  orders_show id reply (Some i) is =
      subst (λ (p : Reply × Office). ShowsAccepted first so_far (command.OpenOrders id) p.0) is (λ n. open_shown first.register now.register so_far run still id n)

  answer_shows : (command : Command) (reply : Reply) → answered now command ≡ (reply, next) → ShowsAccepted first so_far command reply
  answer_shows (command.OpenOrders id) reply is = orders_show id reply (get now.intersections id) is
  answer_shows command.Stock reply is =
      subst (λ (p : Reply × Office). ShowsAccepted first so_far command.Stock p.0) is (λ code. stock_shown first.register now.register so_far run tidy still code)
  answer_shows _ reply is = tt

  step_shows : (command : Command) (reply : Reply) → Step now command reply next → ShowsAccepted first so_far command reply
  step_shows command reply (inl left) = subst (ShowsAccepted first so_far command) (sym left.0) (refused_shows first so_far command Unavailable)
  step_shows command reply (inr is) = answer_shows command reply is

-- after records that were accepted from the first office on
replies_show : (commands : List Command) (replies : List Reply) (first now last : Office) (so_far : List RecordCommand) (run : Run now commands replies last)
    → AreAccepted first.register so_far now.register → IsTidy first.register → ShowAccepted first so_far now commands replies last run
replies_show [] [] first now last so_far run taken tidy = tt
replies_show (command ∷ commands) (reply ∷ replies) first now last so_far run taken tidy =
    let one = step_after now run.0 command reply run.1 [] run.0.register refl in
    let brought : AreAccepted now.register (accepted_of now command reply) run.0.register =
    subst (λ (cs : List RecordCommand). AreAccepted now.register cs run.0.register) (append-nil (accepted_of now command reply)) one in (
      step_shows first now run.0 so_far taken tidy (accepted_tidy so_far first.register now.register taken tidy) command reply run.1,
      replies_show commands replies first run.0 last (so_far ++ accepted_of now command reply) run.2
          (accepted_more so_far (accepted_of now command reply) first.register now.register run.0.register taken brought) tidy,
    )
replies_show _ _ first now last so_far run taken tidy = tt

-- over a run of a sound office
pub runs_register : (commands : List Command) (replies : List Reply) (first last : Office) (run : Run first commands replies last) → IsSound first → IsSound last → RegisterRuns first commands replies last run
runs_register commands replies first last run first_sound last_sound =
    let taken = runs_accepted commands replies first last run in
    record {
      orders = λ id n. open_law id n (records_accepted first commands replies last run) first.register last.register taken;
      stock = λ code. stock_law code (records_accepted first commands replies last run) first.register last.register taken first_sound.register last_sound.register;
      shown = replies_show commands replies first first last [] run refl (sound_tidy first.register first_sound.register);
    }
