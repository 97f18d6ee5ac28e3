use Rattle.std.proofs.Common.{◌≡◌, ◌≤◌, take, length, vec_len, vec_capacity}
use Rattle.office_desk.proofs.Runs.{ReachesAny}
use Rattle.office_desk.specs.Running.{MakesTables}
use Rattle.office_desk.proofs.office.Office.run_all.Given as goal

abbrev pub invariant-loop-command : goal.invariant-loop-command
invariant-loop-command g l =
    record {
      makes : MakesTables g.S.Shelf l.fn.self l.self (ReachesAny (take l.command-index l.commands) l.replies.items);
      clean : g.S.Shelf.is_clean l.self → g.S.Shelf.is_clean l.fn.self;
      honest : g.S.Shelf.is_honest l.self → g.S.Shelf.is_honest l.fn.self;
      count : vec_len l.replies ≡ l.command-index;
      room : length l.commands ≤ vec_capacity l.replies;
    }
