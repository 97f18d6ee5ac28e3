-- What an edit writes: for its first change, and then for the others.
use Rattle.std.proofs.Common.{◌≡◌, ◌||◌, Bool, true, false, not, cond, List, [], ◌∷◌, ◌++◌, Option, refl, ap, sym, ◌∙◌, arith}
use Rattle.std.proofs.lemmas.{Bool.not-true, List.append_assoc, Map.Views.tells_apart}
use Rattle.std.specs.{BTreeMap.is_at, BTreeSet.BTreeSet, BTreeSet.IsUnchanged, BTreeSet.contains, List.list_any, Cmp.eq_by_cmp_equiv, FinMap.get, Ordering.eq_by_cmp, Ordering.is_eq}
use Rattle.signal_records.specs.{ChangedRows.changed_key, ChangedRows.left_by, Key.key_cmp, KeyOrder.key_exact, KeyOrder.key_total, TimingSet.Rows, declared.key.Key.Key, declared.record.Row.Row, declared.record.Change.Change}
use Rattle.draft_core.specs.declared.timing.{TimingChange.TimingChange, TimingChange.TheVariants.DraftGone}
use Rattle.draft_core.specs.DraftRows.{Said, RowsByKey, silent, said_by, said_at, later_of, row_at}
use Rattle.draft_core.specs.Drafting.{DraftsChanges, Redrafts, SaysCommitted, drafted_as, is_said}

-- ---- keys

-- whether the key is the change's
abbrev here : Change → Key → Bool
here change key = eq_by_cmp key_cmp key (changed_key change)

-- what is made of the change's own key is made of each key that is the same
own : {X : Type 0} (f : Key → X) (change : Change) (key : Key) → here change key ≡ true
    → f key ≡ f (changed_key change)
own f change key hit = ap f (tells_apart key_exact key (changed_key change) hit)

-- a set of keys in which the change's is there now, or is not
abbrev pub IsSetAt : Bool → Change → BTreeSet Key → BTreeSet Key → Type 0
IsSetAt there change keys now = (key : Key) → contains key_cmp now key
    ≡ cond (is_eq (key_cmp (changed_key change) key)) there (contains key_cmp keys key)

set_at : (there : Bool) (change : Change) (keys now : BTreeSet Key) → IsSetAt there change keys now
    → (key : Key) → contains key_cmp now key ≡ cond (here change key) there (contains key_cmp keys key)
set_at there change keys now updates key = updates key
    ∙ ap (λ b. cond b there (contains key_cmp keys key)) ((eq_by_cmp_equiv key_total).symm (changed_key change) key)

-- the keys of the first change and of the others
pub named_first : (keys now : BTreeSet Key) (change : Change) (changes : List Change)
    → IsSetAt true change keys now → (key : Key)
    → (is_said (row_at changes key) || contains key_cmp now key)
    ≡ (is_said (row_at (change ∷ changes) key) || contains key_cmp keys key)
named_first keys now change changes updates key =
    let at = set_at true change keys now updates key in grind arith

said_then : (b has : Bool) (change : Change) (said : Said) → has ≡ is_said said
    → (cond b true has ≡ is_said (later_of (cond b (said_by change) silent) said))
    × (cond b false has ≡ is_said (cond b silent said))
said_then b has change said same = (grind arith, grind arith)

-- ---- one key

module _ (b : Bool) (c : Option Row) (before later after : Said) (change : Change) where
  kept : (b ≡ true → c ≡ left_by change → ⊥)
      → Redrafts c (later_of (cond b (said_by change) silent) before) later after
      → Redrafts c before (later_of later (cond b (said_by change) silent)) after
  kept differs rest = record { makes = grind arith; only = grind arith }

  gone : (b ≡ true → c ≡ left_by change) → Redrafts c (cond b silent before) later after
      → Redrafts c before (later_of later (cond b (said_by change) silent)) after
  gone says rest = record { makes = grind arith; only = grind arith }

  passed : (b ≡ true → c ≡ left_by change) → (b ≡ true → before ≡ silent) → Redrafts c before later after
      → Redrafts c before (later_of later (cond b (said_by change) silent)) after
  passed says none rest = record { makes = grind arith; only = grind arith }

-- ---- the first change, and then the others

pub nothing_drafted : (committed : Rows) (before : RowsByKey) → DraftsChanges committed before [] []
nothing_drafted committed before = record {
  makes = λ key. record { makes = refl; only = λ only. only };
  news = λ key. tt;
  within = λ all. all;
  stays = λ key row. refl;
  no_timing = refl;
  few = omega arith;
}

module _ (committed : Rows) (now : RowsByKey) (change : Change) (changes : List Change)
    (rest : List TimingChange) where
  first_kept : (SaysCommitted committed change → ⊥) → (is_new : Bool)
      → (is_new ≡ true → now (changed_key change) ≡ silent)
      → DraftsChanges committed (λ key. later_of (said_at change key) (now key)) changes rest
      → DraftsChanges committed now (change ∷ changes) (drafted_as is_new change ∷ rest)
  first_kept differs true free d = record {
    makes = λ key. kept (here change key) _ _ _ _ change
        (λ hit same. differs (sym (own (get committed) change key hit) ∙ same)) (d.makes key);
    news = λ key. (λ mine. ap now mine ∙ free refl, d.news key);
    within = λ all. (all.0, d.within all.1);
    stays = d.stays;
    no_timing = omega (arith, d.no_timing);
    few = omega (arith, d.few);
  }
  first_kept differs false free d = record {
    makes = λ key. kept (here change key) _ _ _ _ change
        (λ hit same. differs (sym (own (get committed) change key hit) ∙ same)) (d.makes key);
    news = λ key. (tt, d.news key);
    within = λ all. (all.0, d.within all.1);
    stays = d.stays;
    no_timing = omega (arith, d.no_timing);
    few = omega (arith, d.few);
  }

  first_gone : SaysCommitted committed change
      → DraftsChanges committed (λ key. cond (here change key) silent (now key)) changes rest
      → DraftsChanges committed now (change ∷ changes) (DraftGone (changed_key change) ∷ rest)
  first_gone says d = record {
    makes = λ key. gone (here change key) _ _ _ _ change
        (λ hit. own (get committed) change key hit ∙ says) (d.makes key);
    news = λ key. (tt, d.news key);
    within = λ all. d.within all.1;
    stays = d.stays;
    no_timing = omega (arith, d.no_timing);
    few = omega (arith, d.few);
  }

  first_passed : SaysCommitted committed change → now (changed_key change) ≡ silent
      → DraftsChanges committed now changes rest → DraftsChanges committed now (change ∷ changes) rest
  first_passed says none d = record {
    makes = λ key. passed (here change key) _ _ _ _ change
        (λ hit. own (get committed) change key hit ∙ says) (λ hit. own now change key hit ∙ none) (d.makes key);
    news = d.news;
    within = λ all. d.within all.1;
    stays = d.stays;
    no_timing = d.no_timing;
    few = omega (arith, d.few);
  }

-- ---- a turn

-- what was written for some changes goes on to what all write, by what the draft rows say by then; and the keys of which
-- they say something
pub record DraftsOn (committed : Rows) (before : RowsByKey) (all left : List Change)
    (keys : BTreeSet Key) (written : List TimingChange) : Type 0 where
  pub now : RowsByKey
  pub named : (key : Key) → contains key_cmp keys key ≡ is_said (now key)
  pub goes : (rest : List TimingChange) → DraftsChanges committed now left rest
      → DraftsChanges committed before all (written ++ rest)

module _ (committed : Rows) (before : RowsByKey) (all left : List Change) (change : Change)
    (keys new : BTreeSet Key) (written : List TimingChange)
    (so_far : DraftsOn committed before all (change ∷ left) keys written) where
  free : contains key_cmp keys (changed_key change) ≡ false → so_far.now (changed_key change) ≡ silent
  free none = let named = so_far.named (changed_key change) in grind arith

  one_goes : (one : TimingChange) (rest : List TimingChange)
      → DraftsChanges committed so_far.now (change ∷ left) (one ∷ rest)
      → DraftsChanges committed before all ((written ++ one ∷ []) ++ rest)
  one_goes one rest d = rw append_assoc (so_far.goes (one ∷ rest) d)

  pub turn_kept : (SaysCommitted committed change → ⊥) → (is_new : Bool)
      → is_new ≡ not (contains key_cmp keys (changed_key change)) → IsSetAt true change keys new
      → DraftsOn committed before all left new (written ++ drafted_as is_new change ∷ [])
  turn_kept differs is_new tells updates = record {
    now = λ key. later_of (said_at change key) (so_far.now key);
    named = λ key. set_at true change keys new updates key
        ∙ (said_then _ _ change (so_far.now key) (so_far.named key)).0;
    goes = λ rest d. one_goes (drafted_as is_new change) rest (first_kept committed so_far.now change left rest
        differs is_new (λ as_new. free (not-true _ (sym tells ∙ as_new))) d);
  }

  pub turn_gone : SaysCommitted committed change → IsSetAt false change keys new
      → DraftsOn committed before all left new (written ++ DraftGone (changed_key change) ∷ [])
  turn_gone says updates = record {
    now = λ key. cond (here change key) silent (so_far.now key);
    named = λ key. set_at false change keys new updates key
        ∙ (said_then _ _ change (so_far.now key) (so_far.named key)).1;
    goes = λ rest d. one_goes (DraftGone (changed_key change)) rest
        (first_gone committed so_far.now change left rest says d);
  }

  pub turn_passed : SaysCommitted committed change
      → contains key_cmp keys (changed_key change) ≡ false → IsUnchanged keys new
      → DraftsOn committed before all left new written
  turn_passed says none same = record {
    now = so_far.now;
    named = λ key. ap (list_any (is_at (key_cmp key))) same ∙ so_far.named key;
    goes = λ rest d. so_far.goes rest (first_passed committed so_far.now change left rest says (free none) d);
  }
