-- A text that is a command over the office's tables is compiled as this command, is plain, and is no query of the listing.
use Rattle.std.proofs.Common.{◌≡◌, ℕ, List, [], false, if◌then◌else◌, Option, None, Some, Result, Ok, Err, refl, sym, ap, subst, ◌∙◌}
use Rattle.sqlite_schema.specs.declared.command.Returning.{Returning}
use Rattle.sqlite_resolve.specs.{Compile.compiled, declared.compiled.Compiled.Compiled, declared.error.CompileError.CompileError}
use Rattle.sqlite.specs.{Command.Command, Given.IsPlain, Listing.understood, Listing.reads_listing, Listing.misses_table, Listing.if_select, Listing.listing_schema}
use Rattle.office_tables_statements.specs.Calls.{Means, bare, bare_command, command_of}
use Rattle.office_tables_statements.specs.Schema.{office_schema}

bare_is : (k : Command) (returning : Option Returning) (formats : List (List ℕ)) (command : Command)
    → bare k returning formats ≡ Some command → (returning ≡ None) × (formats ≡ []) × (k ≡ command)
bare_is k None [] command is = (refl, refl, cc)
bare_is k _ _ command is = absurd cc

module _ (sql : List ℕ) (command : Command) (means : Means sql command) where
  compiled_as : (c : Compiled) × (compiled office_schema sql ≡ Ok c) × (c.returning ≡ None) × (c.formats ≡ []) × (c.command ≡ command)
  compiled_as = go (compiled office_schema sql) refl means
    where
      go : (r : Result Compiled CompileError) → compiled office_schema sql ≡ r → bare_command r ≡ Some command
          → (c : Compiled) × (compiled office_schema sql ≡ Ok c) × (c.returning ≡ None) × (c.formats ≡ []) × (c.command ≡ command)
      go (Ok c) is means = let plain = bare_is c.command c.returning c.formats command means in (c, is, plain.0, plain.1, plain.2)
      go (Err e) is means = absurd cc

  understood_as : understood office_schema sql ≡ Ok compiled_as.0
  unfolding understood
  understood_as =
      ap (λ (r : Result Compiled CompileError). if misses_table r then if_select (compiled listing_schema sql) else r) compiled_as.1

  pub is_command : command_of (understood office_schema sql) ≡ command
  is_command = ap command_of understood_as ∙ compiled_as.4

  pub is_plain : IsPlain (understood office_schema sql)
  is_plain = subst IsPlain (sym understood_as) (compiled_as.2, compiled_as.3)

  pub is_unlisted : reads_listing office_schema sql ≡ false
  is_unlisted = ap misses_table compiled_as.1
