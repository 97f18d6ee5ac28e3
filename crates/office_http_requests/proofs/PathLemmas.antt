-- Where the first of something stands in a list.
use Rattle.std.proofs.Common.{◌≡◌, ℕ, ◌+◌, ◌-◌, ◌≤◌, ◌<◌, List, [], ◌∷◌, length, Bool, true, false, not, cond, suc, unwrap_or, position, arith}
use Rattle.std.specs.List.{position_or_len, after_first}
use Rattle.std.proofs.lemmas.Bool.Decides.{nat_tests}
use Rattle.office_http_requests.specs.Paths.{is_slash, segment}

pub position_or_len-bound : {X : Type 0} (p : X → Bool) (xs : List X) → position_or_len p xs ≤ length xs
position_or_len-bound p [] = omega arith
position_or_len-bound p (x ∷ xs) = let below = position_or_len-bound p xs in by_test (p x) below
  where
    by_test : {n m : ℕ} (b : Bool) → n ≤ m → cond (not b) (1 + n) 0 ≤ suc m
    by_test true h = omega arith
    by_test false h = omega arith

pub unwrap_or-position : {X : Type 0} (p : X → Bool) (xs : List X) → unwrap_or (position p xs) (length xs) ≡ position_or_len p xs
unwrap_or-position p xs = let bound = position_or_len-bound p xs in grind (arith, nat_tests)

-- one slash less to go
pub segment-next : (n i : ℕ) (rest : List ℕ) → i < n → segment (n - (i + 1)) (after_first is_slash rest) ≡ segment (n - i) rest
segment-next n i rest h =
    let count : n - i ≡ suc (n - (i + 1)) = omega arith in
    rw count
