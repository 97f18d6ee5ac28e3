-- What is found in words, by the command that they name.
use Rattle.std.proofs.Common.{◌≡◌, true, List, Option, Some, None, Result, Ok, Err, sym, subst}
use Rattle.clap.specs.{Simple.is_simple, Walk.Text, declared.error.Error.Error, declared.parser.matches.ArgMatches.ArgMatches}
use Rattle.signal_office_line.specs.CommandLine.{Words, app, named_in}
use Rattle.signal_office_line.specs.Refusals.{IsAnswer, IsFound, IsFoundInWords, IsJudged}
use Rattle.signal_office_line.specs.declared.job.Job.{Job}
use Rattle.signal_office_line.specs.declared.job.JobFault.{JobFault}
use Rattle.signal_office_line.proofs.CommandLemmas.{named_simple}

-- what `clap` answers to the words of a command is judged
pub found_named : (words : List Text) (named : Words × List Text) (answer : Result ArgMatches Error) (result : Result Job JobFault)
    → Some named ≡ named_in words
    → (is_simple (app named.0) ≡ true → IsAnswer (app named.0) named.1 answer)
    → IsJudged named.0.0 answer result
    → IsFoundInWords words result
found_named words named answer result e answers judged =
    subst (λ (n : Option (Words × List Text)). IsFound n result) e
    (answer, answers (named_simple words named (sym e)), judged)

-- words that name no command state no job
pub none_found : (words : List Text) (told : JobFault) → None ≡ named_in words → IsFoundInWords words (Err told)
none_found words told e = subst (λ (n : Option (Words × List Text)). IsFound n (Err told)) e tt
