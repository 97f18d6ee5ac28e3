-- A text that has no RETURNING over one schema has none over any other, so a query of the office commits nothing.
use Rattle.std.proofs.Common.{◌≡◌, ◌==◌, true≢false, Bool, false, is_none, ℕ, inl, inr, List, [], length, true, Option, Some, None, Result, Ok, Err, refl, sym, ap, subst, ◌∙◌}
use Rattle.std.proofs.lemmas.Bool.{cases_Bool}
use Rattle.sqlite_ast.specs.declared.{Shown.Shown, Statement.Statement}
use Rattle.sqlite_syntax.specs.declared.statement.Parsed.{Parsed}
use Rattle.sqlite_schema.specs.declared.{command.Command.Command, command.Returning.Returning, schema.Schema.Schema}
use Rattle.sqlite_resolve.specs.{declared.compiled.Compiled.Compiled, Body.table_at, Given.returned, Lowering.Checked, Lowering.and_then, Scope.Name}
use Rattle.sqlite_resolve.specs.Compile.{target, source_of, compiled, first, planned, meaning, command, returning, shows, with_command}
use Rattle.sqlite.specs.Given.{IsPlain, Returns}
use Rattle.sqlite.specs.Listing.{understood, reads_listing, if_select, is_select, listing_schema}
use Rattle.sqlite_ast.specs.declared.Statement.TheVariants as written

-- what a statement shows of the rows that it writes
abbrev shown_by : Statement → List Shown
shown_by (written.Insert how name columns rows clauses shown) = shown
shown_by (written.Update name sets test shown) = shown
shown_by (written.Delete name test shown) = shown
shown_by _ = []

always : {A B : Type 0} (Q : B → Type 0) (r : Checked A) (f : A → Checked B) → ((a : A) (b : B) → f a ≡ Ok b → Q b) → (b : B) → and_then r f ≡ Ok b → Q b
always Q (Ok a) f each b is = each a b is
always Q (Err e) f each b is = absurd cc

abbrev shows_nothing : Checked (Option Returning) → Bool
shows_nothing (Ok r) = is_none r
shows_nothing (Err e) = false

shows_some : (schema : Schema) (base : ℕ) (name : Name) (shown : List Shown) (r : Option Returning) → shows schema base name shown ≡ Ok r → is_none r ≡ (length shown == 0)
unfolding shows
shows_some schema base name shown r is = elim (cases_Bool (length shown == 0)) [
  | inl none ↦ sym (ap shows_nothing (rw none at is)) ∙ sym none
  | inr some ↦
      let Q = λ (o : Option Returning). is_none o ≡ false in
      always Q (target schema name) _ (λ at. always Q (table_at schema at) _ (λ table. always Q (returned schema table base shown) _ (λ x. always Q (source_of schema (length x.0) x.1) _ (λ s o is. sym (ap shows_nothing is))))) r (rw some at is) ∙ sym some
]

shown_is : (schema : Schema) (base : ℕ) (it : Statement) (r : Option Returning) → returning schema base it ≡ Ok r → is_none r ≡ (length (shown_by it) == 0)
unfolding returning
shown_is schema base (written.Insert how name columns rows clauses shown) r is = shows_some schema base name shown r is
shown_is schema base (written.Update name sets test shown) r is = shows_some schema base name shown r is
shown_is schema base (written.Delete name test shown) r is = shows_some schema base name shown r is
shown_is schema base _ r is = sym (ap shows_nothing is)

abbrev returning_in : Checked Compiled → Checked (Option Returning)
returning_in (Ok c) = Ok c.returning
returning_in (Err e) = Err e

returned_by : (p : Parsed) (formats : List Name) (r : Checked (Option Returning)) (k : Checked Command) (c : Compiled)
    → and_then (and_then (and_then r (λ shown. and_then k (λ k. Ok (k, shown)))) (λ found. Ok (formats, found))) (λ plan. Ok (with_command p plan)) ≡ Ok c → r ≡ Ok c.returning
returned_by p formats (Ok shown) (Ok k) c is = ap returning_in is
returned_by p formats (Ok shown) (Err e) c is = absurd cc
returned_by p formats (Err e) k c is = absurd cc

-- what the statement of a text shows, by what was compiled of it over some schema
compiled_shows : (schema : Schema) (sql : List ℕ) (c : Compiled) → compiled schema sql ≡ Ok c
    → (p : Parsed) × (base : ℕ) × (first sql ≡ Ok p) × (returning schema base p.statement ≡ Ok c.returning)
unfolding compiled planned meaning
compiled_shows schema sql c = go (first sql) refl
  where
    go : (r : Checked Parsed) → first sql ≡ r → and_then r (λ p. and_then (planned schema p) (λ plan. Ok (with_command p plan))) ≡ Ok c
        → (p : Parsed) × (base : ℕ) × (first sql ≡ Ok p) × (returning schema base p.statement ≡ Ok c.returning)
    go (Ok p) parsed is = (p, _, parsed, returned_by p _ _ _ c is)
    go (Err e) parsed is = absurd cc

none_is : {X : Type 0} (o : Option X) → is_none o ≡ true → o ≡ None
none_is None h = refl
none_is (Some x) h = absurd (true≢false (sym h))

compiled_none : (one other : Schema) (sql : List ℕ) (c d : Compiled) → compiled one sql ≡ Ok c → c.returning ≡ None → compiled other sql ≡ Ok d → d.returning ≡ None
compiled_none one other sql c d is none also =
    let first = compiled_shows one sql c is in
    let second = compiled_shows other sql d also in
    let same : second.0 ≡ first.0 = cc in
    none_is d.returning (shown_is other second.1 second.0.statement _ second.3 ∙ ap (λ p. length (shown_by p.statement) == 0) same
    ∙ sym (shown_is one first.1 first.0.statement _ first.3) ∙ ap is_none none)

listed_as : (r : Result Compiled _) (c : Compiled) → if_select r ≡ Ok c → r ≡ Ok c
listed_as (Ok d) c is = elim (cases_Bool (is_select d.command)) [
  | inl selects ↦ rw selects at is
  | inr other ↦ absurd (let refused = rw other at is in cc)
]
listed_as (Err e) c is = absurd cc

-- what is understood was compiled over some schema
understood_as : (schema : Schema) (sql : List ℕ) (c : Compiled) → understood schema sql ≡ Ok c → (s : Schema) × (compiled s sql ≡ Ok c)
unfolding understood
understood_as schema sql c is = elim (cases_Bool (reads_listing schema sql)) [
  | inl listing ↦ (listing_schema, listed_as _ c (rw listing at is))
  | inr plain ↦ (schema, rw plain at is)
]

pub never_returns : (one other : Schema) (sql : List ℕ) → IsPlain (understood one sql) → ¬ Returns (understood other sql)
never_returns one other sql = go (understood one sql) (understood other sql) refl refl
  where
    go : (r s : Result Compiled _) → understood one sql ≡ r → understood other sql ≡ s → IsPlain r → ¬ Returns s
    go (Ok c) (Ok d) is also plain some =
        let a = understood_as one sql c is in
        let b = understood_as other sql d also in
        let none = compiled_none a.0 b.0 sql c d a.1 plain.0 b.1 in
        absurd (let it = rw none at some in cc)
    go (Ok c) (Err e) is also plain some = some
    go (Err e) s is also plain some = plain
