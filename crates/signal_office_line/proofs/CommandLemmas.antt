-- How what a parse reads of a command grows with its arguments, and which command words name.
use Rattle.std.proofs.Common.{◌≡◌, ℕ, ◌+◌, ◌<◌, ◌≤◌, Bool, true, false, not, ◌&&◌, ◌||◌, List, [], ◌∷◌, ◌++◌, map, take, drop, get_or, length, Option, Some, None, Result, refl, sym, ap, ap₂, subst, ◌∙◌, arith}
use Rattle.std.specs.Prelude.{find, option_map, IfOk, IfErr}
use Rattle.std.specs.List.{list_all, slice_index_or}
use Rattle.std.specs.Str.{bytes_eq}
use Rattle.std.specs.Borrow.{Bor}
use Rattle.std.proofs.lemmas.Bool.{ne_eqb}
use Rattle.std.proofs.lemmas.List.{map_more}
use Rattle.std.proofs.lemmas.Result.{IfOk-weaker}
use Rattle.clap.proofs.WalkLemmas.{both}
use Rattle.clap.specs.{declared.builder.command.Command.Command, declared.builder.arg.Arg.Arg, Walk.Rule, Walk.Text, Walk.is_empty, Walk.rule_of, Simple.App, Simple.app_of, Simple.is_simple, Simple.with_rule, Simple.HasMatchesOf, Built.AddsArg, Takes.takes, Values.kind_of}
use Rattle.clap.specs.{Faults.fault_of, Faults.is_simple_and_free, Kinds.FailsBy, declared.error.Error.Error, declared.parser.matches.ArgMatches.ArgMatches}
use Rattle.clap.specs.Adds.{AddsConflicts, AddsRequirements, AddsRequiredUnless}
use Rattle.clap.specs.declared.builder.arg.ArgPredicate.{ArgPredicate}
use Rattle.clap.specs.declared.error.kind.ErrorKind.TheVariants as kind
use Rattle.signal_office_line.specs.CommandLine.{ParsesAs, Words, app, commands, named_in, tie}
use Rattle.signal_office_line.specs.Refusals.{IsAnswer}

neither : (x y z : Bool) → x ≡ (y || z) → y ≡ false → z ≡ false → x ≡ false
neither x y z e f g = rw (f, g) at e

-- one argument more
pub ParsesAs-arg : (old new : Command) (a : Arg) (name : Text) (rules : List Rule) (rule : Rule) → ParsesAs old (app (name, rules)) → rule_of a ≡ rule → a.global ≡ false
    → AddsArg old a new
    → ParsesAs new (app (name, rules ++ rule ∷ []))
ParsesAs-arg old new a name rules rule r rule_is local adds = record {
  app_is = adds.shape local ∙ ap₂ with_rule r.app_is rule_is;
  local = neither _ _ _ adds.globals r.local local;
}

-- the next of some arguments
pub ParsesAs-more : {T : Type 0} (of : T → Rule) (c : Command) (name : Text) (them : List T) (i : ℕ) (none : T)
    → i < length them
    → ParsesAs c (app (name, map of (take i them) ++ of (get_or them i none) ∷ []))
    → ParsesAs c (app (name, map of (take (i + 1) them)))
ParsesAs-more of c name them i none low reads =
    subst (λ rules. ParsesAs c (app (name, rules))) (sym (map_more of them i none low)) reads

-- ---- arguments that are tied to others

grown : {X : Type 0} (xs : List X) (x : X) → is_empty (xs ++ x ∷ []) ≡ false
grown [] x = refl
grown (y ∷ ys) x = ne_eqb _ _ (λ e. absurd (omega arith))

no_more : {X : Type 0} (now old : List X) (x : X) → now ≡ old ++ x ∷ [] → is_empty now ≡ false
no_more now old x e = ap is_empty e ∙ grown old x

and_none : (a b : Bool) → b ≡ false → (a && b) ≡ false
and_none true b e = e
and_none false b e = refl

none_and : (a b : Bool) → a ≡ false → (a && b) ≡ false
none_and a b e = rw e refl

pub tied_by_conflict : (old new : Arg) (other : Bor Text) → AddsConflicts old new (other ∷ []) → rule_of new ≡ tie (rule_of old)
tied_by_conflict old new other adds =
    ap rule_of adds.0
    ∙ ap (λ free. record (rule_of old) { is_free = free }) (and_none _ _ (none_and _ _ (no_more _ _ _ adds.1)))

pub tied_by_need : (old new : Arg) (other : ArgPredicate × Bor Text) → AddsRequirements old new (other ∷ []) → rule_of new ≡ tie (rule_of old)
tied_by_need old new other adds =
    ap rule_of adds.0
    ∙ ap (λ free. record (rule_of old) { is_free = free })
    (and_none _ _ (and_none _ _ (none_and _ _ (no_more _ _ _ adds.1))))

pub tied_by_lack : (old new : Arg) (other : Bor Text) → AddsRequiredUnless old new (other ∷ []) → rule_of new ≡ tie (rule_of old)
tied_by_lack old new other adds =
    ap rule_of adds.0
    ∙ ap (λ free. record (rule_of old) { is_free = free })
    (and_none (not old.exclusive) _ (and_none (is_empty old.conflicts.items) _ (and_none (is_empty old.needs.items) _
    (and_none (is_empty old.r_ifs.items) _ (and_none (is_empty old.r_ifs_all.items) _
    (none_and _ (is_empty old.r_unless_all.items) (no_more _ _ _ adds.1)))))))

-- ---- the command that words name

found_passes : {X : Type 0} (p q : X → Bool) (xs : List X) (x : X) → list_all p xs ≡ true → find q xs ≡ Some x → p x ≡ true
found_passes p q [] x all found = cc
found_passes p q (y ∷ ys) x all found = go (q y) refl (found_passes p q ys x (both (p y) _ all).1)
  where
    go : (here : Bool) → q y ≡ here → (find q ys ≡ Some x → p x ≡ true) → p x ≡ true
    go true e next =
        let same : Some y ≡ Some x = rw e at found in
        let passes = (both (p y) _ all).0 in
        cc
    go false e next = next (rw e at found)

all_simple : list_all (λ (command : Words). is_simple (app command)) commands ≡ true
all_simple = refl

-- a command that is named is a simple one
pub named_simple : (words : List Text) (named : Words × List Text) → named_in words ≡ Some named → is_simple (app named.0) ≡ true
named_simple [] named e = cc
named_simple (program ∷ []) named e = cc
named_simple (program ∷ name ∷ rest) named e = go (find (λ (command : Words). bytes_eq command.0 name) commands) refl e
  where
    go : (found : Option Words) → find (λ (command : Words). bytes_eq command.0 name) commands ≡ found
        → option_map (λ (command : Words). (command, name ∷ rest)) found ≡ Some named
        → is_simple (app named.0) ≡ true
    go None at none = cc
    go (Some command) at some =
        let passes = found_passes (λ (command : Words). is_simple (app command)) (λ (command : Words). bytes_eq command.0 name) commands command all_simple at in
        let same : (command, name ∷ rest) ≡ named = cc in
        subst (λ (n : Words × List Text). is_simple (app n.0) ≡ true) same passes

-- a command that is found among them, with words
abbrev pub named_with : List Text → Option Words → Option (Words × List Text)
named_with words = option_map (λ command. (command, words))

abbrev texts : List (Bor Text) → List Text
texts = map (λ (word : Bor Text). word.now)

-- words without a second name no command
pub none_named : (words : List (Bor Text)) → length words ≤ 1 → None ≡ named_in (texts words)
none_named [] short = refl
none_named (program ∷ []) short = refl
none_named (program ∷ name ∷ rest) short = absurd (omega arith)

-- the second word names a command, with the words from it on
pub second_named : (words : List (Bor Text)) (name : Bor Text) → 1 < length words → name ≡ slice_index_or words 1 name
    → named_in (texts words) ≡ named_with (texts (drop 1 words)) (find (λ (command : Words). bytes_eq command.0 name.now) commands)
second_named [] name long e = absurd (omega arith)
second_named (program ∷ []) name long e = absurd (omega arith)
second_named (program ∷ own ∷ rest) name long e =
    let same : name ≡ own = e in
    ap (λ (n : Bor Text). named_with (texts (own ∷ rest)) (find (λ (command : Words). bytes_eq command.0 n.now) commands)) (sym same)

-- ---- what `clap` answers

-- the answer of a command that parses as an app is one of this app
pub answered : (command : Command) (app : App) (words : List Text) (answer : Result ArgMatches Error) → ParsesAs command app
    → IfOk answer (HasMatchesOf (app_of command) words)
    → IfErr answer (λ error. takes (app_of command) words ≡ true → kind_of error ≡ kind.OutOfMemory)
    → (is_simple_and_free (app_of command) ≡ true → FailsBy (fault_of (app_of command) words) answer)
    → is_simple app ≡ true
    → IsAnswer app words answer
answered command app words answer reads has passes kinds simple = record {
  found = IfOk-weaker answer _ _ (λ matches h. (h simple).0) (subst (λ (a : App). IfOk answer (HasMatchesOf a words)) reads.app_is has);
  kinds = subst (λ (a : App). is_simple_and_free a ≡ true → FailsBy (fault_of a words) answer) reads.app_is kinds;
  passes = subst (λ (a : App). IfErr answer (λ error. takes a words ≡ true → kind_of error ≡ kind.OutOfMemory)) reads.app_is passes;
}
