use Rattle.std.proofs.Common.{List, map}
use Rattle.std.specs.Borrow.{Bor}
use Rattle.clap.specs.Walk.{Text}
use Rattle.signal_office_line.specs.CommandLine.{usage_as}
use Rattle.signal_office_line.proofs.FoundLemmas.{found_named}
use Rattle.signal_office_line.proofs.job.job_of.Goals as goal

-- the texts of words
abbrev texts : List (Bor Text) → List Text
texts = map (λ (word : Bor Text). word.now)

pub returns : goal.returns
returns c =
    found_named (texts c.args.words.now) (usage_as c.in-Some.usage, texts c.in-Some.words.now) c.matches_of.result c.judged.result
    c.in-Some.ensures c.matches_of.ensures c.judged.ensures
