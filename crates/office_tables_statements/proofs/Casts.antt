-- Numbers and texts stay as they are in columns of their kinds.
use Rattle.std.proofs.Common.{Bool, false, cond, ℤ, ◌≡◌, true, List, [], ◌∷◌, refl, sym, true≢false}
use Rattle.std.proofs.lemmas.Bool.{and_parts}
use Rattle.sqlite.specs.{declared.types.Value.Value, declared.types.Value.TheVariants.Null, declared.types.Value.TheVariants.Int, Ops.unary, Cast.cast, Cast.cast_all, Kind.Kind}
use Rattle.sqlite_schema.specs.declared.schema.Column.{Column}
use Rattle.office_tables_shelf.specs.Cells.{Cell, null, number, text}
use Rattle.office_tables_statements.specs.Tables.{value_of, values_of, suits_kind, suit}
use Rattle.sqlite.specs.Kind.TheVariants as kind

either : (b : Bool) (x : Value) → cond b x x ≡ x
either true x = refl
either false x = refl

pub cast_int : (n : ℤ) → cast kind.Integer (Int n) ≡ Int n
unfolding unary
cast_int n = either _ (Int n)

pub cast_null : cast kind.Integer Null ≡ Null
unfolding unary
cast_null = either _ Null

pub cast_one : (k : Kind) (x : Cell) → suits_kind k x ≡ true → cast k (value_of x) ≡ value_of x
cast_one kind.Integer null h = cast_null
cast_one kind.Integer (number n) h = cast_int n
cast_one kind.Text null h = refl
cast_one kind.Text (text t) h = refl
cast_one _ x h = absurd (true≢false (sym h))

pub cast_suited : (cs : List Column) (cells : List Cell) → suit cs cells ≡ true → cast_all cs (values_of cells) ≡ values_of cells
cast_suited [] cells h = refl
cast_suited (c ∷ cs) [] h = refl
cast_suited (c ∷ cs) (x ∷ xs) h =
    let parts = and_parts _ _ h in
    let one = cast_one c.kind x parts.0 in
    let more = cast_suited cs xs parts.1 in
    λ i. one i ∷ more i
