-- Intersections that were found, and what is known of them.
use Rattle.std.proofs.Common.{◌≡◌, ℕ, true, List, [], Some, nat_cmp, sym, subst, ◌∙◌}
use Rattle.std.proofs.lemmas.{List.Elements.All-nil, Map.Lookups.CmpEqualImpliesEq, Map.Lookups.exact_unsigned, Map.Views.All-insert_key, Map.Views.Contains-from_any, Map.Views.tells_apart}
use Rattle.std.specs.{BTreeSet.BTreeSet, BTreeSet.insert_key, List.All, List.Contains, List.list_any, Ordering.eq_by_cmp}
use Rattle.office_tables_shelf.specs.Content.{Content}
use Rattle.office_tables_shelf.proofs.TreeLemmas.{ranged_cmp, then_last}
use Rattle.office_desk.specs.Recording.{AreFound, TellsIntersection}

ranged_exact : CmpEqualImpliesEq ranged_cmp
ranged_exact a b same = exact_unsigned a b (sym (then_last (nat_cmp a b)) ∙ same)

-- a number that a set has is one of its keys
pub has_number : (found : BTreeSet ℕ) (id : ℕ)
    → list_any (eq_by_cmp ranged_cmp id) found.keys ≡ true → Contains found.keys id
has_number found id has = Contains-from_any (tells_apart ranged_exact) id found.keys has

pub none_found : (tables : Content) (found : BTreeSet ℕ) → found.keys ≡ []
    → AreFound tables found
none_found tables found none =
    subst (λ (ids : List ℕ). All (λ id. TellsIntersection tables (Some id) true) ids) (sym none)
    (All-nil (λ id. TellsIntersection tables (Some id) true))

pub one_found : (tables : Content) (found more : BTreeSet ℕ) (id : ℕ)
    → more.keys ≡ insert_key ranged_cmp found.keys id → AreFound tables found
    → TellsIntersection tables (Some id) true → AreFound tables more
one_found tables found more id keys all one =
    subst (λ (ids : List ℕ). All (λ id. TellsIntersection tables (Some id) true) ids) (sym keys)
    (All-insert_key ranged_cmp id (λ id. TellsIntersection tables (Some id) true) found.keys all one)
