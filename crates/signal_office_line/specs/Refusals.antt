-- What is found in the words of a command line: a job, or why they state none.
use Rattle.std.specs.Prelude.{◌≡◌, ◌≢◌, ◌⊎◌, ⊤, true, List, Option, Some, None, Result, Ok, Err, IfOk, IfErr}
use Rattle.std.specs.declared.alloc.AllocError.{AllocError}
use Rattle.clap.specs.Faults.{fault_of, is_simple_and_free}
use Rattle.clap.specs.Kinds.{FailsBy}
use Rattle.clap.specs.Matches.{found_of}
use Rattle.clap.specs.Simple.{App, matches_of}
use Rattle.clap.specs.Takes.{takes}
use Rattle.clap.specs.Values.{kind_of}
use Rattle.clap.specs.Walk.{Text, rows_of}
use Rattle.clap.specs.declared.error.Error.{Error}
use Rattle.clap.specs.declared.error.kind.ErrorKind.TheVariants as kind
use Rattle.clap.specs.declared.parser.matches.ArgMatches.{ArgMatches}
use Rattle.signal_office_line.specs.declared.job.Job.{Job}
use Rattle.signal_office_line.specs.declared.job.Job.TheVariants as job
use Rattle.signal_office_line.specs.declared.job.JobFault.{JobFault}
use Rattle.signal_office_line.specs.declared.job.JobFault.TheVariants as fault
use Rattle.signal_office_line.specs.declared.job.NoJob.TheVariants.{Unstated, Bad}
use Rattle.signal_office_line.specs.CommandLine.{Words, app, named_in}
use Rattle.signal_office_line.specs.Job.{job_at}
use Rattle.signal_office_line.specs.Values.{Stated}

-- what `clap` answers to the words of a command: the values that it finds in them, or an error. Words that it takes fail only for want of
-- memory; where no argument of the command is tied to another, `fault_of` lists the kinds of refusal, none where it takes the words.
pub record IsAnswer (app : App) (words : List Text) (answer : Result ArgMatches Error) : Type 0 where
  pub found : IfOk answer (λ matches. rows_of (found_of matches) ≡ matches_of app words)
  pub kinds : is_simple_and_free app ≡ true → FailsBy (fault_of app words) answer
  pub passes : IfErr answer (λ error. takes app words ≡ true → kind_of error ≡ kind.OutOfMemory)

-- an error of `clap` is reported as the refusal or help that it is, but OutOfMemory as NoMemory
abbrev pub IsToldAs : Error → JobFault → Type 0
IsToldAs error told =
    ((kind_of error ≡ kind.OutOfMemory) × (told ≡ fault.NoMemory))
    ⊎ ((kind_of error ≢ kind.OutOfMemory) × (told ≡ fault.Refused error))

-- the refusal that `clap` was asked to make is reported, or NoMemory where memory for it was refused
abbrev pub IsFaultOf : Result Error AllocError → JobFault → Type 0
IsFaultOf (Ok error) told = IsToldAs error told
IsFaultOf (Err no_memory) told = told ≡ fault.NoMemory

-- what is found is the job that a command and its values state; for a bad word, the job that reports it; for values that state nothing, their refusal, or
-- NoMemory
abbrev pub IsJobFound : Stated Job → Result Job JobFault → Type 0
IsJobFound (Ok stated) (Ok found) = found ≡ stated
IsJobFound (Err (Bad bad)) (Ok found) = found ≡ job.ReportBadWord bad
IsJobFound (Err Unstated) (Err (fault.Refused error)) = kind_of error ≡ kind.ValueValidation
IsJobFound (Err Unstated) (Err fault.NoMemory) = ⊤
IsJobFound _ _ = ⊥

-- what is found by the answer of `clap` to the words of a command: what the values that it found state, or its error
abbrev pub IsJudged : Text → Result ArgMatches Error → Result Job JobFault → Type 0
IsJudged name (Ok matches) result = IsJobFound (job_at name (rows_of (found_of matches))) result
IsJudged name (Err error) (Err told) = IsToldAs error told
IsJudged name (Err error) (Ok found) = ⊥

-- what is found in the words of a command, or in words that name none: these state no job
abbrev pub IsFound : Option (Words × List Text) → Result Job JobFault → Type 0
IsFound (Some named) result = (answer : Result ArgMatches Error) × IsAnswer (app named.0) named.1 answer × IsJudged named.0.0 answer result
IsFound None (Err told) = ⊤
IsFound None (Ok found) = ⊥

-- WHAT IS FOUND IN WORDS: the first after the program's name names a command, and `clap` finds the values of its arguments in the others. The job is the one
-- that this command and these values state. There is none where `clap` refuses the words, or where they name no command.
abbrev pub IsFoundInWords : List Text → Result Job JobFault → Type 0
IsFoundInWords words result = IsFound (named_in words) result
