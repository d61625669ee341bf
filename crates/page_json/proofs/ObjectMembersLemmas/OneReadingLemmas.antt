-- A reading has at most one result.
use Rattle.std.proofs.Common.{◌≡◌, ℕ, List, [], ◌∷◌, Option, Some, None, Result, Ok, Err, sym, ap, subst, ◌∙◌}
use Rattle.serde_json.specs.Data.{Data, Items, no_items, item}
use Rattle.serde_json.specs.Find.{as_str}
use Rattle.serde_json.specs.Read.{read}
use Rattle.page_json.specs.ObjectMembers.Members.{formed, said_at, said_if, said_in, text_of}
use Rattle.page_json.specs.ObjectMembers.JsonReading.{json_in}
use Rattle.page_json.specs.ObjectMembers.Reading.{Reading, Meets, after, each_in, exactly, gives, what_is_said, ◌>>=◌}
use Rattle.page_json.specs.declared.object_members.fault.PageFault.{PageFault}

-- two results of the reading are one
pub record HasOne {X : Type 0} (reading : Reading X) : Type 0 where
  pub same : (a b : Result X PageFault) → reading a → reading b → a ≡ b

-- what a call returned, where its reading gives this
pub meets_one : {X : Type 0} (reading : Reading X) (x : X) (result : Result X PageFault) → HasOne reading → reading (Ok x) → Meets reading result → Meets (gives x) result
meets_one reading x (Ok y) one says h = one.same (Ok y) (Ok x) h says
meets_one reading x (Err fault) one says h = λ other. one.same (Err fault) (Ok x) (h other) says

pub one_exactly : {X : Type 0} (answer : Result X PageFault) → HasOne (exactly answer)
one_exactly answer = record { same = λ a b h k. h ∙ sym k }

one_after : {A B : Type 0} (first : Result A PageFault) (next : A → Reading B) → ((x : A) → HasOne (next x)) → HasOne (after first next)
one_after (Ok x) next one = one x
one_after (Err fault) next one = one_exactly (Err fault)

pub one_then : {A B : Type 0} (first : Reading A) (next : A → Reading B) → HasOne first → ((x : A) → HasOne (next x)) → HasOne (first >>= next)
one_then {A} {B} first next one each = record {
  same = λ a b (r, h, k) (s, m, n).
      (one_after r next each).same a b k (subst (λ (v : Result A PageFault). after v next b) (one.same s r m h) n);
}

one_said : {X : Type 0} (Says : List ℕ → X → Type 0) (key text : List ℕ) → HasOne (what_is_said Says key text)
one_said {X} Says key text = record { same = go } where
  go : (a b : Result X PageFault) → what_is_said Says key text a → what_is_said Says key text b → a ≡ b
  go (Ok x) (Ok y) h k = ap Ok (k.1 x h.0)
  go (Ok x) (Err g) h k = absurd (k.1 x h.0)
  go (Err f) (Ok y) h k = absurd (h.1 y k.0)
  go (Err f) (Err g) h k = ap Err (h.0 ∙ sym k.0)

pub one_said_at : {X : Type 0} (Says : List ℕ → X → Type 0) (key : List ℕ) (tree : Data) → HasOne (said_at Says key tree)
one_said_at Says key tree = one_after (text_of key tree) (what_is_said Says key) (one_said Says key)

pub one_said_if : {X : Type 0} (Says : List ℕ → X → Type 0) (key : List ℕ) (d : Option Data) → HasOne (said_if Says key d)
one_said_if Says key None = one_exactly (Ok None)
one_said_if Says key (Some d) =
    one_then (said_in Says key d) _ (one_after (formed key (as_str d)) (what_is_said Says key) (one_said Says key)) (λ x. one_exactly (Ok (Some x)))

pub one_each : {X : Type 0} (inner : Data → Reading X) → ((d : Data) → HasOne (inner d)) → (items : Items) → HasOne (each_in inner items)
unfolding each_in
one_each inner one no_items = one_exactly (Ok [])
one_each inner one (item d ds) = one_then (inner d) _ (one d) (λ x. one_then (each_in inner ds) _ (one_each inner one ds) (λ xs. one_exactly (Ok (x ∷ xs))))

same_tree : (o : Option Data) (x y : Data) → o ≡ Some x → o ≡ Some y → x ≡ y
same_tree o x y e f = cc

no_tree : (o : Option Data) (x : Data) → o ≡ Some x → o ≡ None → ⊥
no_tree o x e f = cc

pub one_json : (bytes : List ℕ) → HasOne (json_in bytes)
one_json bytes = record { same = go } where
  go : (a b : Result Data PageFault) → json_in bytes a → json_in bytes b → a ≡ b
  go (Ok x) (Ok y) h k = ap Ok (same_tree (read bytes) x y h.1 k.1)
  go (Ok x) (Err g) h k = absurd (no_tree (read bytes) x h.1 (k.1 h.0))
  go (Err f) (Ok y) h k = absurd (no_tree (read bytes) y k.1 (h.1 k.0))
  go (Err f) (Err g) h k = ap Err (h.0 ∙ sym k.0)
