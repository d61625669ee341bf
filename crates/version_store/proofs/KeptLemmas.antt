-- What is in force after messages is what a walk from the last entity to the first one finds.
use Rattle.std.proofs.Common.{◌≡◌, inr, ℕ, ◌+◌, ◌-◌, ◌<◌, ◌≤◌, arith, drop, get_or, length, List, [], ◌∷◌, ◌++◌, map, filter, reverse, Bool, true, false, cond, Option, Some, None, inl, refl, sym, ap, ap₂, ◌∙◌, subst}
use Rattle.std.specs.Prelude.{if◌then◌else◌, not, ◌&&◌, ◌||◌, is_some}
use Rattle.std.specs.List.{Contains}
use Rattle.std.specs.Cmp.Lexicographic.{slice_cmp, texts_ties}
use Rattle.std.specs.Ordering.{is_eq, nat_cmp}
use Rattle.std.proofs.lemmas.List.{drop_more, append-nil, append_assoc, map-append, reverse-append}
use Rattle.std.proofs.lemmas.List.Elements.{Contains-append_right, Contains-push_cases, filter-append}
use Rattle.std.proofs.lemmas.Slice.Eq.{bytes_eq-Decides}
use Rattle.lc_model.specs.Change.{is_same_id}
use Rattle.lc_model.specs.Versions.History.{put, with_news}
use Rattle.lc_model.specs.Versions.News.{EntitySaid, TripSaid}
use Rattle.version_store.specs.Kept.{entity_said, is_replaced, kept_of, survivors, then_all, then_entities, then_marked}
use Rattle.version_store.specs.declared.kept.Marked.{Marked}

-- one entity more at the end
pub then_all-push : (kept : List EntitySaid) (marks : List Marked) (marked : Marked) → then_all kept (marks ++ marked ∷ []) ≡ then_marked (then_all kept marks) marked
then_all-push kept [] marked = refl
then_all-push kept (first ∷ rest) marked = then_all-push (then_marked kept first) rest marked

with_one : (e : EntitySaid) (rest : List EntitySaid) (news : Option TripSaid) → (if is_some news then e ∷ with_news rest else with_news rest) ≡ (if is_some news then e ∷ [] else []) ++ with_news rest
with_one e rest None = refl
with_one e rest (Some news) = refl

-- one entity more before the others
pub entities_more : (replaces : Bool) (kept : List EntitySaid) (e : EntitySaid) (rest : List EntitySaid) →
    then_entities replaces (if replaces then put kept e else kept ++ with_news (e ∷ [])) rest ≡ then_entities replaces kept (e ∷ rest)
entities_more true kept e rest = refl
entities_more false kept e rest = append_assoc kept (with_news (e ∷ [])) (with_news rest) ∙ ap (λ v. kept ++ v) (sym (with_one e rest e.news))

pub entities_none : (replaces : Bool) (kept : List EntitySaid) → then_entities replaces kept [] ≡ kept
entities_none true kept = refl
entities_none false kept = append-nil kept

one_test : {X : Type 0} (p q r : X → Bool) (x : X) (xs : List X) → filter p (filter q xs) ≡ filter r xs → (b c d : Bool) → q x ≡ b → p x ≡ c → r x ≡ d → r x ≡ (q x && p x)
    → filter p (cond b (x ∷ filter q xs) (filter q xs)) ≡ cond d (x ∷ filter r xs) (filter r xs)
one_test p q r x xs rest true true d e f g h = let is : d ≡ true = sym g ∙ h ∙ ap₂ (λ s t. s && t) e f in rw (f, is) (ap (λ v. x ∷ v) rest)
one_test p q r x xs rest true false d e f g h = let is : d ≡ false = sym g ∙ h ∙ ap₂ (λ s t. s && t) e f in rw (f, is) rest
one_test p q r x xs rest false c d e f g h = let is : d ≡ false = sym g ∙ h ∙ ap (λ s. s && p x) e in rw is rest

filter_twice : {X : Type 0} (p q r : X → Bool) → ((x : X) → r x ≡ (q x && p x)) → (xs : List X) → filter p (filter q xs) ≡ filter r xs
filter_twice p q r both [] = refl
filter_twice p q r both (x ∷ xs) = one_test p q r x xs (filter_twice p q r both xs) (q x) (p x) (r x) refl refl refl (both x)

-- entities whose ids no later one takes out
abbrev Stays : List Marked → EntitySaid → Bool
Stays later e = not (is_replaced e.id later)

-- one entity after others
one_kept : (later : List Marked) (e : EntitySaid) (some replaced : Bool) → is_replaced e.id later ≡ replaced →
    filter (Stays later) (if some then e ∷ [] else []) ≡ (if replaced then [] else (if some then e ∷ [] else []))
one_kept later e false true f = refl
one_kept later e false false f = refl
one_kept later e true true f = rw f refl
one_kept later e true false f = rw f refl

not_either : (a b : Bool) → not (a || b) ≡ (not a && not b)
not_either true b = refl
not_either false b = refl

kept_then : (b : Bool) (kept : List EntitySaid) (e : EntitySaid) (later : List Marked) →
    filter (Stays later) (if b then put kept e else kept ++ with_news (e ∷ []))
    ≡ filter (λ (x : EntitySaid). not ((b && is_same_id x.id e.id) || is_replaced x.id later)) kept ++ kept_of (is_replaced e.id later) e
kept_then true kept e later =
    let others = filter (λ (x : EntitySaid). not (is_same_id x.id e.id)) kept in
    filter-append (Stays later) others (with_news (e ∷ []))
    ∙ ap₂ (λ a b. a ++ b)
    (filter_twice (Stays later) (λ (x : EntitySaid). not (is_same_id x.id e.id)) (λ (x : EntitySaid). not (is_same_id x.id e.id || is_replaced x.id later)) (λ x. not_either (is_same_id x.id e.id) (is_replaced x.id later)) kept)
    (one_kept later e (is_some e.news) (is_replaced e.id later) refl)
kept_then false kept e later =
    filter-append (Stays later) kept (with_news (e ∷ []))
    ∙ ap (λ b. filter (Stays later) kept ++ b) (one_kept later e (is_some e.news) (is_replaced e.id later) refl)

all_behind : (kept : List EntitySaid) (marks : List Marked) → then_all kept marks ≡ filter (Stays marks) kept ++ survivors marks
all_behind kept [] = sym (all_stay kept) ∙ sym (append-nil _) where
  all_stay : (kept : List EntitySaid) → filter (Stays []) kept ≡ kept
  all_stay [] = refl
  all_stay (e ∷ rest) = ap (λ v. e ∷ v) (all_stay rest)
all_behind kept (marked ∷ later) =
    let e = entity_said marked in
    all_behind (then_marked kept marked) later
    ∙ ap (λ v. v ++ survivors later) (kept_then marked.replaces kept e later)
    ∙ append_assoc (filter (Stays (marked ∷ later)) kept) (kept_of (is_replaced e.id later) e) (survivors later)

-- what is in force are the entities that no later one takes out
pub survivors_are_kept : (marks : List Marked) → survivors marks ≡ then_all [] marks
survivors_are_kept marks = sym (all_behind [] marks)

one_with_news : (e : EntitySaid) (some replaced : Bool) → is_some e.news ≡ some → with_news (if replaced then [] else (if some then e ∷ [] else [])) ≡ (if replaced then [] else (if some then e ∷ [] else []))
one_with_news e some true f = refl
one_with_news e false false f = refl
one_with_news e true false f = rw f refl

-- each of them has news
pub survivors_have_news : (marks : List Marked) → with_news (survivors marks) ≡ survivors marks
survivors_have_news [] = refl
survivors_have_news (marked ∷ later) =
    let e = entity_said marked in
    filter-append (λ (e : EntitySaid). is_some e.news) (kept_of (is_replaced e.id later) e) (survivors later)
    ∙ ap₂ (λ a b. a ++ b) (one_with_news e (is_some e.news) (is_replaced e.id later) refl) (survivors_have_news later)

reverse_one : (e : EntitySaid) (some replaced : Bool) → reverse (if replaced then [] else (if some then e ∷ [] else [])) ≡ (if replaced then [] else (if some then e ∷ [] else []))
reverse_one e some true = refl
reverse_one e false false = refl
reverse_one e true false = refl

-- one entity more, from the last one on
pub survivors_more : (kept more : List EntitySaid) (replaced : Bool) (e : EntitySaid) (later : List EntitySaid) → more ≡ kept ++ kept_of replaced e → reverse kept ≡ later → reverse more ≡ kept_of replaced e ++ later
survivors_more kept more replaced e later is f =
    ap reverse is ∙ reverse-append kept (kept_of replaced e) ∙ ap₂ (λ a b. a ++ b) (reverse_one e (is_some e.news) replaced) f

decided : (x y : List ℕ) (a b : Bool) → is_same_id x y ≡ a → is_same_id y x ≡ b → a ≡ b
decided x y true b e f = sym ((bytes_eq-Decides y x).1 (sym ((bytes_eq-Decides x y).0 e))) ∙ f
decided x y false true e f = sym e ∙ (bytes_eq-Decides x y).1 (sym ((bytes_eq-Decides y x).0 f))
decided x y false false e f = refl

pub same_id_back : (x y : List ℕ) → is_same_id x y ≡ is_same_id y x
same_id_back x y = decided x y (is_same_id x y) (is_same_id y x) refl refl

-- one entity of a message more
pub marks_more : (replaces : Bool) (f : EntitySaid → EntitySaid) (entities : List EntitySaid) (i : ℕ) (entity : EntitySaid) (old new : List Marked) (marked : Marked) (whole : List EntitySaid) → i < length entities → entity ≡ get_or entities i entity
    → new ≡ old ++ marked ∷ [] → marked.replaces ≡ replaces → entity_said marked ≡ f entity
    → then_entities replaces (then_all [] old) (map f (drop i entities)) ≡ whole → then_entities replaces (then_all [] new) (map f (drop (i + 1) entities)) ≡ whole
marks_more replaces f entities i entity old new marked whole inside is pushed same said e =
    let rest = map f (drop (i + 1) entities) in
    ap (λ v. then_entities replaces (then_all [] v) rest) pushed
    ∙ ap (λ v. then_entities replaces v rest) (then_all-push [] old marked)
    ∙ ap₂ (λ b (x : EntitySaid). then_entities replaces (if b then put (then_all [] old) x else then_all [] old ++ with_news (x ∷ [])) rest) same said
    ∙ entities_more replaces (then_all [] old) (f entity) rest
    ∙ ap (λ (x : EntitySaid). then_entities replaces (then_all [] old) (map f (x ∷ drop (i + 1) entities))) is
    ∙ ap (λ v. then_entities replaces (then_all [] old) (map f v)) (sym (drop_more entities i entity inside))
    ∙ e

pub map_reverse : {X Y : Type 0} (f : X → Y) (xs : List X) → map f (reverse xs) ≡ reverse (map f xs)
map_reverse f [] = refl
map_reverse f (x ∷ xs) =
    ap (map f) (reverse-append (x ∷ []) xs) ∙ map-append f (reverse xs) (x ∷ [])
    ∙ ap (λ v. v ++ f x ∷ []) (map_reverse f xs) ∙ sym (reverse-append (f x ∷ []) (map f xs))

-- a test that is true, or else another one
pub or_else : (b t : Bool) → cond b true t ≡ (b || t)
or_else true t = refl
or_else false t = refl

-- an id put among those of later entities
pub put_among : (replaces : Bool) (key id entity : List ℕ) (t : Bool) → replaces ≡ true → key ≡ entity → cond (is_eq (slice_cmp nat_cmp key id)) true t ≡ ((replaces && is_same_id id entity) || t)
put_among replaces key id entity t e f =
    or_else (is_eq (slice_cmp nat_cmp key id)) t
    ∙ ap (λ b. b || t) (sym (texts_ties key id) ∙ same_id_back key id ∙ ap (is_same_id id) f)
    ∙ ap (λ b. (b && is_same_id id entity) || t) (sym e)

-- one entity more, from the last one on
pub dropped_one : (marks : List Marked) (place : ℕ) (marked : Marked) → 0 < place → place ≤ length marks → marked ≡ get_or marks (place - 1) marked → drop (place - 1) marks ≡ marked ∷ drop place marks
dropped_one marks place marked some inside is =
    let next : place - 1 + 1 ≡ place = omega (arith, some) in
    drop_more marks (place - 1) marked (omega (arith, some, inside)) ∙ ap₂ (λ (m : Marked) (n : ℕ). m ∷ drop n marks) (sym is) next

pub reversed_in : {X : Type 0} (xs : List X) (y : X) → Contains (reverse xs) y → Contains xs y
reversed_in [] y there = there
reversed_in (x ∷ xs) y there = elim (Contains-push_cases (reverse xs) x y (subst (λ v. Contains v y) (reverse-append (x ∷ []) xs) there)) [
  | inl behind ↦ Contains-append_right (x ∷ []) xs y (reversed_in xs y behind)
  | inr is ↦ (0, omega arith, is)
]
