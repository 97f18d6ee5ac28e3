use Rattle.std.proofs.Common.{◌≡◌, ◌-◌, ◌<◌, ◌≤◌, length, take, IsTrue}
use Rattle.std.specs.Io.KnownBytes.{Appends}
use Rattle.office_http_framing.specs.Ends.{Grows}
use Rattle.signal_office_file.specs.Copying.{StaysAsRead}
use Rattle.signal_office_file.proofs.copying.copy_blocks.Given as goal

-- the bytes before the place were written, and the counts of the sink grew
abbrev pub invariant-loop-at : goal.invariant-loop-at
invariant-loop-at g l =
    let seen = g.D.Disk.seen l.fn.file in
    record {
      within : l.at ≤ l.len;
      some : 0 < length l.block;
      whole : IsTrue (g.D.Disk.is_clean l.file) → l.len ≡ length seen;
      copied : IsTrue (g.D.Disk.is_clean l.file) → Appends (g.W.Sink.told l.fn.out).bytes (g.W.Sink.told l.out).bytes (take l.at seen);
      counts : Grows (g.W.Sink.told l.fn.out).counts (g.W.Sink.told l.out).counts;
      read : StaysAsRead g.D.Disk l.fn.file l.file;
    }

abbrev pub decreases-loop-at : goal.decreases-loop-at
decreases-loop-at g l = l.len - l.at
