use Rattle.std.proofs.Common.{◌≡◌, ◌+◌, length, List, ◌++◌, ℕ, take, drop, sym, subst, ap, ◌∙◌, arith, rules, length-append, length-drop}
use Rattle.std.proofs.lemmas.List.{places}
use Rattle.std.specs.Io.KnownBytes.{Appends}
use Rattle.std.proofs.KnownBytes.{Appends-trans}
use Rattle.office_http_framing.proofs.EndLemmas.{Grows-trans}
use Rattle.signal_office_file.proofs.HeldLemmas.{breaks_before, held_more}
use Rattle.signal_office_file.proofs.copying.copy_blocks.Goals as goal

pub loop-at-preserved : goal.loop-at-preserved
loop-at-preserved g c =
    let inv = c.loop-at.invariant in
    let step = c.in-Ok.ensures in
    let read = step.read in
    let seen = g.D.Disk.seen c.args.file.now in
    let told = g.W.Sink.told in
    let at = c.loop-at.at in
    let block = c.copy_block.new.block in
    let size : length block ≡ c.min-size.result = search (rules, places) in
    record {
      within = omega (arith, c.min-size.ensures);
      some = omega (arith, length-append block (drop c.min-size.result c.loop-at.block), length-drop c.min-size.result c.loop-at.block, c.min-size.ensures);
      whole = λ clean. inv.whole (read.clean clean);
      copied = λ clean.
          let held = subst (λ (file : List ℕ). take (at + length block) file ≡ take at file ++ block) inv.read.seen (held_more (g.D.Disk.seen c.loop-at.file) block at (step.held clean)) in
          subst (Appends (told c.args.out.now).bytes (told c.copy_block.new.out).bytes)
          (sym held ∙ ap (λ n. take (at + n) seen) size)
          (Appends-trans _ _ _ (take at seen) block (inv.copied (read.clean clean)) step.copied);
      counts = Grows-trans inv.counts step.counts;
      read = record {
        seen = read.seen ∙ inv.read.seen;
        usable = read.usable;
        clean = λ clean. inv.read.clean (read.clean clean);
        crash = λ left may. inv.read.crash left (read.crash left may);
      };
    }

pub returns-in-Err-clause-fault : goal.returns-in-Err-clause-fault
returns-in-Err-clause-fault g c = breaks_before (g.W.Sink.told c.args.out.now) (g.W.Sink.told c.loop-at.out) (g.W.Sink.told c.copy_block.new.out) c.loop-at.invariant.counts c.in-Err.fault c.in-Err.ensures.fault
