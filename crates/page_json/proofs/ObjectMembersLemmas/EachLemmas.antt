-- A list is read one item after the other.
use Rattle.std.proofs.Common.{◌≡◌, ℕ, suc, ◌+◌, ◌<◌, ◌≤◌, List, [], ◌∷◌, ◌++◌, length, drop, get_or, Result, Ok, Err, refl, sym, ap, subst, ◌∙◌, add-one, append_assoc, append-nil, drop-cons}
use Rattle.std.proofs.lemmas.List.{drop_all}
use Rattle.std.specs.declared.alloc.Global.{Global}
use Rattle.serde_json.specs.Data.{Data, Items, item}
use Rattle.json.specs.declared.value.Value.{Value}
use Rattle.page_json.specs.ObjectMembers.Reading.{Reading, each_in}
use Rattle.page_json.specs.ObjectMembers.View.{items_view, view}
use Rattle.page_json.specs.declared.object_members.fault.PageFault.{PageFault}

-- more items after those that are read
abbrev pub with_front : {X : Type 0} → List X → Result (List X) PageFault → Result (List X) PageFault
with_front done (Ok rest) = Ok (done ++ rest)
with_front done (Err fault) = Err fault

-- up to this place these items are read: what is read of the rest goes after them
abbrev pub AreReadTo : {X : Type 0} → (Data → Reading X) → List (Value Global) → ℕ → List X → Type 0
AreReadTo {X} inner values place done =
    (rest : Result (List X) PageFault) → each_in inner (items_view (drop place values)) rest → each_in inner (items_view values) (with_front done rest)

none_before : {X : Type 0} (r : Result (List X) PageFault) → r ≡ with_front [] r
none_before (Ok rest) = refl
none_before (Err fault) = refl

pub nothing_read : {X : Type 0} (inner : Data → Reading X) (values : List (Value Global)) → AreReadTo inner values 0 []
nothing_read inner values rest h = subst (each_in inner (items_view values)) (none_before rest) h

more_before : {X : Type 0} (done : List X) (x : X) (r : Result (List X) PageFault) → with_front done (with_front (x ∷ []) r) ≡ with_front (done ++ x ∷ []) r
more_before done x (Ok rest) = ap Ok (sym (append_assoc done (x ∷ []) rest))
more_before done x (Err fault) = refl

begins_with : {X : Type 0} (inner : Data → Reading X) (first : Data) (rest : Items) (x : X) (r : Result (List X) PageFault) → inner first (Ok x) → each_in inner rest r → each_in inner (item first rest) (with_front (x ∷ []) r)
unfolding each_in
begins_with inner first rest x (Ok xs) h k = (Ok x, h, (Ok xs, k, refl))
begins_with inner first rest x (Err fault) h k = (Ok x, h, (Err fault, k, refl))

fails_at : {X : Type 0} (inner : Data → Reading X) (first : Data) (rest : Items) (fault : PageFault) → inner first (Err fault) → each_in inner (item first rest) (Err fault)
unfolding each_in
fails_at inner first rest fault h = (Err fault, h, refl)

-- the items of a list that was found, seen as a slice
pub items_seen : (answer : Result Items PageFault) (seen list : List (Value Global)) → seen ≡ list → answer ≡ Ok (items_view list) → Ok (items_view seen) ≡ answer
items_seen answer seen list same is =
    let items_of : List (Value Global) → Result Items PageFault = λ values. Ok (items_view values) in
    ap items_of same ∙ sym is

-- what is left begins with this value
left_is : (values : List (Value Global)) (place : ℕ) (v : Value Global) → place < length values → v ≡ get_or values place v → drop place values ≡ v ∷ drop (suc place) values
left_is values place v inside is = drop-cons values place v inside ∙ ap (λ (w : Value Global). w ∷ drop (suc place) values) (sym is)

pub one_more_read : {X : Type 0} (inner : Data → Reading X) (values : List (Value Global)) (place : ℕ) (v : Value Global) (x : X) (done : List X) → place < length values → v ≡ get_or values place v
    → AreReadTo inner values place done → inner (view v) (Ok x) → AreReadTo inner values (place + 1) (done ++ x ∷ [])
one_more_read {X} inner values place v x done inside is so h rest k =
    let after = subst (λ (n : ℕ). each_in inner (items_view (drop n values)) rest) (add-one place) k in
    let from = subst (λ (l : List (Value Global)). each_in inner (items_view l) (with_front (x ∷ []) rest)) (sym (left_is values place v inside is)) (begins_with inner (view v) (items_view (drop (suc place) values)) x rest h after) in
    subst (each_in inner (items_view values)) (more_before done x rest) (so (with_front (x ∷ []) rest) from)

pub fault_read : {X : Type 0} (inner : Data → Reading X) (values : List (Value Global)) (place : ℕ) (v : Value Global) (fault : PageFault) (done : List X) → place < length values → v ≡ get_or values place v
    → AreReadTo inner values place done → inner (view v) (Err fault) → each_in inner (items_view values) (Err fault)
fault_read {X} inner values place v fault done inside is so h =
    so (Err fault) (subst (λ (l : List (Value Global)). each_in inner (items_view l) (Err fault)) (sym (left_is values place v inside is)) (fails_at inner (view v) (items_view (drop (suc place) values)) fault h))

no_rest : (values : List (Value Global)) (place : ℕ) → length values ≤ place → drop place values ≡ []
no_rest values place past = drop_all place values past

nothing_left : {X : Type 0} (inner : Data → Reading X) → each_in inner (items_view []) (Ok [])
unfolding each_in
nothing_left inner = refl

pub all_read : {X : Type 0} (inner : Data → Reading X) (values : List (Value Global)) (place : ℕ) (done : List X) → length values ≤ place → AreReadTo inner values place done → each_in inner (items_view values) (Ok done)
all_read {X} inner values place done past so =
    subst (λ (l : List X). each_in inner (items_view values) (Ok l)) (append-nil done)
    (so (Ok []) (subst (λ (l : List (Value Global)). each_in inner (items_view l) (Ok [])) (sym (no_rest values place past)) (nothing_left inner)))
