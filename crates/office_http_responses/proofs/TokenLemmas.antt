-- The tokens of lists and objects.
use Rattle.std.proofs.Common.{◌≡◌, ℕ, List, [], ◌∷◌, ◌++◌, map, flat_map, Ok, refl, sym, ap, ◌∙◌, append_assoc}
use Rattle.json.specs.{Token.Token, Token.begin_array, Token.end_array, Token.begin_object, Token.end_object, Token.key, Tree.items_tokens, Tree.members_tokens, Written.Written, Written.Writes, Print.print}
use Rattle.serde_json.specs.{Data.Data, View.items_of, Written.items_outline, Written.members_outline, Written.compact_text}
use Rattle.serde_json.proofs.Texts.{print-outline}
use Rattle.office_http_responses.specs.{Json.keys, Json.array_of, Json.members, Writing.Added, Writing.member_tokens, Writing.tokens_of}

-- the tokens of an array's items, and the closing bracket
pub items_tokens_are : (ds : List Data) → items_tokens (items_outline (items_of ds)) ≡ flat_map tokens_of ds ++ end_array ∷ []
items_tokens_are [] = refl
items_tokens_are (d ∷ ds) = ap (λ ts. tokens_of d ++ ts) (items_tokens_are ds) ∙ sym (append_assoc (tokens_of d) (flat_map tokens_of ds) (end_array ∷ []))

pub list_tokens : {A : Type 0} (tree : A → Data) (xs : List A) → tokens_of (array_of tree xs) ≡ begin_array ∷ (flat_map tokens_of (map tree xs) ++ end_array ∷ [])
list_tokens tree xs = ap (λ ts. begin_array ∷ ts) (items_tokens_are (map tree xs))

pub members_tokens_are : (es : List (List ℕ × Data)) → members_tokens (members_outline (members es)) ≡ flat_map member_tokens es ++ end_object ∷ []
members_tokens_are [] = refl
members_tokens_are (e ∷ es) = ap (λ ts. member_tokens e ++ ts) (members_tokens_are es) ∙ sym (append_assoc (member_tokens e) (flat_map member_tokens es) (end_object ∷ []))

pub keys_tokens : (es : List (List ℕ × Data)) → tokens_of (keys es) ≡ begin_object ∷ (flat_map member_tokens es ++ end_object ∷ [])
keys_tokens es = ap (λ ts. begin_object ∷ ts) (members_tokens_are es)

-- an object of members and one more
members_and_one : (es : List (List ℕ × Data)) (name : List ℕ) (tree : Data) → members_tokens (members_outline (members (es ++ (name, tree) ∷ []))) ≡ flat_map member_tokens es ++ (key name ∷ (tokens_of tree ++ end_object ∷ []))
members_and_one [] name tree = refl
members_and_one (e ∷ es) name tree =
    ap (λ ts. member_tokens e ++ ts) (members_and_one es name tree) ∙ sym (append_assoc (member_tokens e) (flat_map member_tokens es) (key name ∷ (tokens_of tree ++ end_object ∷ [])))

pub keys_and_one : (es : List (List ℕ × Data)) (name : List ℕ) (tree : Data) → tokens_of (keys (es ++ (name, tree) ∷ [])) ≡ begin_object ∷ (flat_map member_tokens es ++ (key name ∷ (tokens_of tree ++ end_object ∷ [])))
keys_and_one es name tree = ap (λ ts. begin_object ∷ ts) (members_and_one es name tree)

-- ---- what calls wrote one after another

-- one token
pub one : {E : Type 0} {u : Unit {0}} {old new : Written} {t : Token} → Writes {E = E} (Ok u) old new t → Added old new (t ∷ [])
one wrote = record { before = wrote.room.0; tokens = wrote.ok }

-- some, and then others
infixr 5 ◌then◌
pub ◌then◌ : {a b c : Written} {xs ys : List Token} → Added a b xs → Added b c ys → Added a c (xs ++ ys)
◌then◌ {a} {b} {c} {xs} {ys} p q = record { before = q.before ∙ p.before; tokens = q.tokens ∙ ap (λ ts. ts ++ ys) p.tokens ∙ append_assoc a.tokens xs ys }

-- the same tokens
pub same_tokens : {a b : Written} {xs ys : List Token} → xs ≡ ys → Added a b xs → Added a b ys
same_tokens {a} {b} {xs} {ys} e p = record { before = p.before; tokens = p.tokens ∙ ap (λ ts. a.tokens ++ ts) e }

-- what a new writer was given, printed
pub printed : {old new : Written} (tree : Data) {bytes : List ℕ} → old.before ≡ [] → old.tokens ≡ [] → Added old new (tokens_of tree) → bytes ≡ new.before ++ print new.tokens → bytes ≡ compact_text tree
printed {old} {new} tree {bytes} nothing none added is =
    is ∙ (λ i. (added.before ∙ nothing) i ++ print ((added.tokens ∙ ap (λ ts. ts ++ tokens_of tree) none) i)) ∙ print-outline tree
