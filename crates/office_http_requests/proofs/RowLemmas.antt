-- A walk that takes the value of each element of a list in turn.
use Rattle.std.proofs.Common.{◌≡◌, ℕ, ◌+◌, ◌<◌, List, [], ◌∷◌, ◌++◌, length, drop, get_or, suc, Option, Some, None, option_map, option_and_then, add-one, drop-cons, append_assoc, map, ap, sym, ◌∙◌, refl}
use Rattle.serde_json.specs.{Data.Data, Find.get, Find.as_array, Find.as_str, View.view, View.items_of, View.items_view}
use Rattle.serde_json.specs.declared.value.Value.{Value}
use Rattle.std.proofs.{Math.Seq.drop-length, lemmas.List.get_or-map, lemmas.List.length-map, lemmas.List.append-nil}
use Rattle.office_http_requests.specs.{Fields.field_name, declared.field.Field.TheVariants.Rows as FieldRows}
use Rattle.office_http_requests.specs.Rows.{list_of, list_in, each, texts_in, rows_in}

-- what is done, before what the rest gives
abbrev pub onto : {B : Type 0} → List B → Option (List B) → Option (List B)
onto done rest = option_map (λ ys. done ++ ys) rest

onto-cons : {B : Type 0} (done : List B) (y : B) (rest : Option (List B)) → onto (done ++ y ∷ []) rest ≡ onto done (option_map (λ ys. y ∷ ys) rest)
onto-cons done y None = refl
onto-cons done y (Some ys) = rw append_assoc

pub each-next : {A B : Type 0} (f : A → Option B) (xs : List A) (i : ℕ) (d : A) (y : B) (done : List B) → i < length xs → f (get_or xs i d) ≡ Some y → onto (done ++ y ∷ []) (each f (drop (i + 1) xs)) ≡ onto done (each f (drop i xs))
each-next f xs i d y done within value = rw (add-one, drop-cons xs i d, value) (onto-cons done y (each f (drop (suc i) xs)))

pub each-stop : {A B : Type 0} (f : A → Option B) (xs : List A) (i : ℕ) (d : A) (done : List B) → i < length xs → f (get_or xs i d) ≡ None → onto done (each f (drop i xs)) ≡ None
each-stop f xs i d done within value = rw (drop-cons xs i d, value)

pub onto-nil : {B : Type 0} (rest : Option (List B)) → onto [] rest ≡ rest
onto-nil None = refl
onto-nil (Some ys) = refl

list_of-items_of : (ds : List Data) → list_of (items_of ds) ≡ ds
list_of-items_of [] = refl
list_of-items_of (d ∷ ds) = ap (λ es. d ∷ es) (list_of-items_of ds)

-- the items of an array that was read
pub list_in-array : (d : Data) (values : List Value) → as_array d ≡ Some (items_view values) → list_in d ≡ Some (map view values)
list_in-array d values h = rw (h, list_of-items_of (map view values))

pub texts_in-array : (d : Data) (values : List Value) → as_array d ≡ Some (items_view values) → texts_in d ≡ each as_str (map view values)
unfolding texts_in
texts_in-array d values h = rw (list_in-array d values h)

pub texts_in-other : (d : Data) → as_array d ≡ None → texts_in d ≡ None
unfolding texts_in
texts_in-other d h = rw h

view-at : (values : List Value) (i : ℕ) (value : Value) → i < length values → value ≡ get_or values i value → get_or (map view values) i (view value) ≡ view value
view-at values i value within is = get_or-map view values i value (view value) within ∙ ap view (sym is)

-- the walk goes on past a value
pub walk-next : {B : Type 0} (f : Data → Option B) (values : List Value) (i : ℕ) (value : Value) (y : B) (done : List B) → i < length values → value ≡ get_or values i value → f (view value) ≡ Some y → onto (done ++ y ∷ []) (each f (drop (i + 1) (map view values))) ≡ onto done (each f (drop i (map view values)))
walk-next f values i value y done within is gives =
    each-next f (map view values) i (view value) y done (rw length-map within) (ap f (view-at values i value within is) ∙ gives)

-- the walk stops at a value
pub walk-stop : {B : Type 0} (f : Data → Option B) (values : List Value) (i : ℕ) (value : Value) (done : List B) → i < length values → value ≡ get_or values i value → f (view value) ≡ None → onto done (each f (drop i (map view values))) ≡ None
walk-stop f values i value done within is gives =
    each-stop f (map view values) i (view value) done (rw length-map within) (ap f (view-at values i value within is) ∙ gives)

-- the walk ends
pub walk-end : {B : Type 0} (f : Data → Option B) (values : List Value) (done : List B) → onto done (each f (drop (length values) (map view values))) ≡ Some done
walk-end f values done =
    let nothing : drop (length values) (map view values) ≡ [] = rw (← length-map values view) (drop-length (map view values)) in
    rw (nothing, append-nil)

-- the rows of an array under their key
pub rows_in-array : (body : Data) (values : List Value) → option_and_then as_array (get (field_name FieldRows) body) ≡ Some (items_view values) → rows_in body ≡ each texts_in (map view values)
unfolding rows_in
rows_in-array body values h = by_found (get (field_name FieldRows) body) h
  where
    by_found : (found : Option Data) → option_and_then as_array found ≡ Some (items_view values) → option_and_then (each texts_in) (option_and_then list_in found) ≡ each texts_in (map view values)
    by_found None e = cc
    by_found (Some d) e = rw (list_in-array d values e)

pub rows_in-other : (body : Data) → option_and_then as_array (get (field_name FieldRows) body) ≡ None → rows_in body ≡ None
unfolding rows_in
rows_in-other body h = by_found (get (field_name FieldRows) body) h
  where
    by_found : (found : Option Data) → option_and_then as_array found ≡ None → option_and_then (each texts_in) (option_and_then list_in found) ≡ None
    by_found None e = refl
    by_found (Some d) e = rw e
