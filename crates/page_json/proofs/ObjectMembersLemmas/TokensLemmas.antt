-- What is written token by token is the text of a value.
use Rattle.std.proofs.Common.{◌≡◌, ℕ, ◌+◌, ◌<◌, ◌≤◌, ℤ, pos, negsuc, List, [], ◌∷◌, ◌++◌, length, drop, get_or, map, Ok, refl, sym, ap, ◌∙◌, append_assoc}
use Rattle.std.proofs.lemmas.List.{drop_all, drop_more}
use Rattle.std.specs.Fmt.{signed_decimal}
use Rattle.json.specs.Token.{Token}
use Rattle.json.specs.Print.{print}
use Rattle.json.specs.Tree.{items_tokens, members_tokens}
use Rattle.json.specs.Written.{Writes, Written}
use Rattle.serde_json.specs.Data.{Data, Members, no_members, member, number}
use Rattle.serde_json.specs.Find.{of_integer}
use Rattle.serde_json.specs.View.{items_of}
use Rattle.serde_json.specs.Written.{compact_text, items_outline, members_outline, number_text}
use Rattle.serde_json.proofs.Texts.{print-outline}
use Rattle.page_json.specs.ObjectMembers.Tokens.{Appends, member_tokens, tokens_of}

pub one : {E : Type 0} {u : Unit {0}} {old new : Written} {t : Token} → Writes {E = E} (Ok u) old new t → Appends old new (t ∷ [])
one h = record { before = h.room.0; tokens = h.ok }

infixr 10 ◌>>◌
pub ◌>>◌ : {a b c : Written} {xs ys : List Token} → Appends a b xs → Appends b c ys → Appends a c (xs ++ ys)
◌>>◌ {a} {b} {c} {xs} {ys} first next = record {
  before = next.before ∙ first.before;
  tokens = next.tokens ∙ ap (λ (ts : List Token). ts ++ ys) first.tokens ∙ append_assoc a.tokens xs ys;
}

pub behind_nothing : (old new : Written) (ts : List Token) → old.before ≡ [] → Appends old new ts → new.before ++ print new.tokens ≡ print new.tokens
behind_nothing old new ts none h = ap (λ (s : List ℕ). s ++ print new.tokens) (h.before ∙ none)

-- the text of a value whose tokens alone were written
pub text_is : (old new : Written) (d : Data) → old.before ≡ [] → old.tokens ≡ [] → Appends old new (tokens_of d) → new.before ++ print new.tokens ≡ compact_text d
text_is old new d none empty h =
    behind_nothing old new (tokens_of d) none h ∙ ap print (h.tokens ∙ ap (λ (ts : List Token). ts ++ tokens_of d) empty) ∙ print-outline d

-- the tokens of items, and of the bracket that closes their list
abbrev pub items_left : {X : Type 0} → (X → Data) → List X → List Token
items_left tree_of xs = items_tokens (items_outline (items_of (map tree_of xs)))

-- up to this place the items are written, and with those that are left the list is whole
pub record AreWrittenTo {X : Type 0} (tree_of : X → Data) (old now : Written) (xs : List X) (place : ℕ) : Type 0 where
  pub before : now.before ≡ old.before
  pub tokens : now.tokens ++ items_left tree_of (drop place xs) ≡ old.tokens ++ items_left tree_of xs

pub one_more_written : {X : Type 0} (tree_of : X → Data) (old now next : Written) (xs : List X) (place : ℕ) (x : X) → place < length xs → x ≡ get_or xs place x → AreWrittenTo tree_of old now xs place
    → Appends now next (tokens_of (tree_of x)) → AreWrittenTo tree_of old next xs (place + 1)
one_more_written {X} tree_of old now next xs place x inside is so h =
    let rest = items_left tree_of (drop (place + 1) xs) in
    let left = drop_more xs place x inside ∙ ap (λ (y : X). y ∷ drop (place + 1) xs) (sym is) in
    record {
      before = h.before ∙ so.before;
      tokens = ap (λ (ts : List Token). ts ++ rest) h.tokens ∙ append_assoc now.tokens (tokens_of (tree_of x)) rest
          ∙ ap (λ (ys : List X). now.tokens ++ items_left tree_of ys) (sym left) ∙ so.tokens;
    }

pub all_written : {X : Type 0} (tree_of : X → Data) (old now new : Written) (xs : List X) (place : ℕ) → length xs ≤ place → AreWrittenTo tree_of old now xs place
    → Appends now new (Token.end_array ∷ []) → Appends old new (items_left tree_of xs)
all_written {X} tree_of old now new xs place past so h = record {
  before = h.before ∙ so.before;
  tokens = h.tokens ∙ ap (λ (ys : List X). now.tokens ++ items_left tree_of ys) (sym (drop_all place xs past)) ∙ so.tokens;
}

pub closed : (ms : Members) → members_tokens (members_outline ms) ≡ member_tokens ms ++ Token.end_object ∷ []
closed no_members = refl
closed (member name d ms) =
    ap (λ (ts : List Token). Token.key name ∷ (tokens_of d ++ ts)) (closed ms) ∙ ap (λ (ts : List Token). Token.key name ∷ ts) (sym (append_assoc (tokens_of d) (member_tokens ms) _))

-- a member whose value is this text, however it was made
pub says : {old new : Written} {key text : List ℕ} (same : List ℕ) → text ≡ same → Appends old new (Token.key key ∷ Token.string text ∷ []) → Appends old new (Token.key key ∷ Token.string same ∷ [])
says {old} {new} {key} {text} same e h = record { before = h.before; tokens = h.tokens ∙ ap (λ (s : List ℕ). old.tokens ++ (Token.key key ∷ Token.string s ∷ [])) e }

-- a member whose value is this number, however it was passed
pub counts : {old new : Written} {key : List ℕ} {n : ℤ} (same : ℤ) → n ≡ same → Appends old new (member_tokens (member key (number (of_integer n)) no_members)) → Appends old new (member_tokens (member key (number (of_integer same)) no_members))
counts {old} {new} {key} same e h = record { before = h.before; tokens = h.tokens ∙ ap (λ (z : ℤ). old.tokens ++ member_tokens (member key (number (of_integer z)) no_members)) e }

delay_text : (z : ℤ) → signed_decimal z ≡ number_text (of_integer z)
delay_text (pos n) = refl
delay_text (negsuc n) = refl

pub number_member : (old new : Written) (key : List ℕ) (n : ℤ) → Appends old new (Token.key key ∷ Token.number (signed_decimal n) ∷ []) → Appends old new (member_tokens (member key (number (of_integer n)) no_members))
number_member old new key n h =
    record { before = h.before; tokens = h.tokens ∙ ap (λ (s : List ℕ). old.tokens ++ (Token.key key ∷ Token.number s ∷ [])) (delay_text n) }
