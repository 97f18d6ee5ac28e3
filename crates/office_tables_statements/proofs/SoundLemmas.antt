-- The keys of the rows of a database are numbers and texts: STRICT and NOT NULL say so.
use Rattle.std.proofs.Common.{◌≡◌, ℕ, zero, suc, ◌+◌, Bool, true, false, not, ◌&&◌, ◌||◌, List, [], ◌∷◌, drop, slice_get, Option, None, Some, refl, sym, subst, subst₂, true≢false, arith}
use Rattle.std.proofs.lemmas.Bool.{and_parts, and_from}
use Rattle.std.specs.List.{list_all}
use Rattle.sqlite.specs.{declared.types.Value.Value, Kind.Kind, Ops.is_null, Schema.Schema, Order.Row, Order.column, Table.Table, Tree.Trees, declared.types.Value.TheVariants.Null, declared.types.Value.TheVariants.Int, declared.types.Value.TheVariants.Text}
use Rattle.sqlite_schema.specs.declared.schema.{Column.Column, Constraint.TheVariants.Datatype, Constraint.TheVariants.NotNull}
use Rattle.sqlite_schema.specs.Rules.{suits, is_of, are_typed, are_present, Obeys}
use Rattle.sqlite_rules.specs.Lists.{Has}
use Rattle.sqlite_rules.proofs.RuleLemmas.{keeps_at}
use Rattle.office_tables_statements.specs.{Layout.Layout, Stored.is_sound, Stored.are_sound}
use Rattle.office_tables_statements.proofs.StoredLemmas.{HaveKeys}
use Rattle.sqlite.specs.Kind.TheVariants as kind

abbrev is_sound_kind : Kind → Bool
is_sound_kind kind.Integer = true
is_sound_kind kind.Text = true
is_sound_kind _ = false

abbrev is_key_column : Option Column → Bool
is_key_column None = false
is_key_column (Some c) = c.is_strict && (c.not_null && is_sound_kind c.kind)

-- the table keeps numbers or texts there, and no NULL
abbrev pub has_key_at : Table → ℕ → Bool
has_key_at table zero = false
has_key_at table (suc at) = is_key_column (slice_get table.columns at)

sound_value : (k : Kind) (v : Value) → is_sound_kind k ≡ true → is_of k v ≡ true → not (is_null v) ≡ true → is_sound v ≡ true
sound_value k (Int n) h is some = refl
sound_value k (Text t) h is some = refl
sound_value k Null h is some = absurd (true≢false (sym some))
sound_value kind.Integer _ h is some = absurd (true≢false (sym is))
sound_value kind.Text _ h is some = absurd (true≢false (sym is))
sound_value _ _ h is some = absurd (true≢false (sym h))

-- what the rules say of the column at a place
typed_at : (columns : List Column) (from at : ℕ) (vs : Row) (c : Column) → slice_get columns at ≡ Some c → are_typed None from columns vs ≡ true → not (is_null (column vs at)) ≡ true → suits c (column vs at) ≡ true
typed_at [] from at vs c there typed some = absurd cc
typed_at (d ∷ ds) from at [] c there typed some = absurd (true≢false (sym some))
typed_at (d ∷ ds) from zero (v ∷ vs) c there typed some = let same : d ≡ c = cc in subst (λ (x : Column). suits x v ≡ true) same (and_parts (suits d v) _ typed).0
typed_at (d ∷ ds) from (suc at) (v ∷ vs) c there typed some = typed_at ds (from + 1) at vs c there (and_parts _ _ typed).1 some

present_at : (columns : List Column) (from at : ℕ) (row : Row) (c : Column) (place : ℕ) → place ≡ from + at + 1 → slice_get columns at ≡ Some c → are_present None from columns row ≡ true
    → (not c.not_null || not (is_null (column row place))) ≡ true
present_at [] from at row c place is there present = absurd cc
present_at (d ∷ ds) from zero row c place is there present =
    let same : d ≡ c = cc in
    let here : from + 1 ≡ place = omega (arith, is) in
    subst₂ (λ (x : Column) (p : ℕ). (not x.not_null || not (is_null (column row p))) ≡ true) same here (and_parts _ _ present).0
present_at (d ∷ ds) from (suc at) row c place is there present = present_at ds (from + 1) at row c place (omega (arith, is)) there (and_parts _ _ present).1

after_rowid : (row : Row) (at : ℕ) → column (drop 1 row) at ≡ column row (suc at)
after_rowid [] at = refl
after_rowid (v ∷ vs) at = refl

-- a table with a PRIMARY KEY of its own
module _ (schema : Schema) (trees : Trees) (obeys : Obeys schema trees) (table : Table) (listed : Has schema.tables table) (keyless : table.key ≡ None) where
  sound_at : (row : Row) → Has (trees table.tree) row → (place : ℕ) → has_key_at table place ≡ true → is_sound (column row place) ≡ true
  sound_at row there zero ok = absurd (true≢false (sym ok))
  sound_at row there (suc at) ok = go (slice_get table.columns at) refl ok
    where
      go : (found : Option Column) → slice_get table.columns at ≡ found → is_key_column found ≡ true → is_sound (column row (suc at)) ≡ true
      go None is h = absurd (true≢false (sym h))
      go (Some c) is h =
          let column_is = and_parts c.is_strict (c.not_null && is_sound_kind c.kind) h in
          let needs = and_parts c.not_null (is_sound_kind c.kind) column_is.1 in
          let typed = subst (λ key. are_typed key 0 table.columns (drop 1 row) ≡ true) keyless (and_parts _ _ (keeps_at Datatype schema trees table row (obeys.rules Datatype) listed there)).0 in
          let present = subst (λ key. are_present key 0 table.columns row ≡ true) keyless (keeps_at NotNull schema trees table row (obeys.rules NotNull) listed there) in
          let some = rw needs.0 at (present_at table.columns 0 at row c (suc at) (omega arith) is present) in
          let same = after_rowid row at in
          let suited = subst (λ v. suits c v ≡ true) same (typed_at table.columns 0 at (drop 1 row) c is typed (subst (λ v. not (is_null v) ≡ true) (sym same) some)) in
          sound_value c.kind (column row (suc at)) needs.1 (rw column_is.0 at suited) some

  pub sound_keys : (t : Layout) → list_all (has_key_at table) t.keys ≡ true → HaveKeys t (trees table.tree)
  sound_keys t ok row there = go t.keys ok
    where
      go : (places : List ℕ) → list_all (has_key_at table) places ≡ true → are_sound places row ≡ true
      go [] h = refl
      go (p ∷ ps) h = let parts = and_parts _ _ h in and_from _ _ (sound_at row there p parts.0) (go ps parts.1)
