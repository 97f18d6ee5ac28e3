use Rattle.std.proofs.Common.{◌<◌, length, subst, sym}
use Rattle.std.specs.{Bool.IsTrue, Result.OnOk}
use Rattle.sqlite_disk.specs.Disk.{Holds}
use Rattle.signal_office_file.proofs.noting.NotingDisk.read_at.Goals as goal

pub returns-clause-read : goal.returns-clause-read
returns-clause-read g c =
    subst (λ r. OnOk r (IsTrue (g.D.Disk.is_clean c.read_at-answer.new.self) → 0 < length c.args.buf.now
    → Holds (g.D.Disk.seen c.args.self.now.inner) c.args.at c.read_at-answer.new.buf))
    (sym c.say_refusal.ensures) c.read_at-answer.ensures.read
