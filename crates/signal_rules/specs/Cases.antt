-- A rule as a table of the reasons that break it, each with whether it is true, in the order in which they are reported.
use Rattle.std.specs.Prelude.{Bool, true, if◌then◌else◌, List, [], ◌∷◌, Contains, Option, Some, None, is_none}

-- reasons in the order in which they are reported, each with whether it is true
abbrev pub Cases : Type 0 → Type 0
Cases A = List (Bool × A)

-- the reason that is reported: the first that is true
abbrev pub first_true : {A : Type 0} → Cases A → Option A
first_true [] = None
first_true (c ∷ cs) = if c.0 then Some c.1 else first_true cs

-- the reasons that are true, in their order
abbrev pub all_true : {A : Type 0} → Cases A → List A
all_true [] = []
all_true (c ∷ cs) = if c.0 then c.1 ∷ all_true cs else all_true cs

-- the true reasons after the first true one
abbrev pub further : {A : Type 0} → Cases A → List A
further [] = []
further (c ∷ cs) = if c.0 then all_true cs else further cs

-- a rule holds where no reason is true
abbrev pub holds : {A : Type 0} → Cases A → Bool
holds cs = is_none (first_true cs)

-- a reason is true
abbrev pub IsTrueIn : {A : Type 0} → Cases A → A → Type 0
IsTrueIn cs why = Contains cs (true, why)
