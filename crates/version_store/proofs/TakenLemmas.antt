-- The ids of a message, and the entities in force that it takes out.
use Rattle.std.proofs.Common.{◌≡◌, ◌⊎◌, ◌∙◌, inl, inr, ℕ, ◌+◌, ◌<◌, List, [], ◌∷◌, ◌++◌, length, get_or, map, take, filter, Bool, true, false, cond, Some, None, refl, sym, ap, subst}
use Rattle.std.specs.Prelude.{◌||◌}
use Rattle.std.specs.Borrow.{Bor}
use Rattle.std.specs.BTreeMap.{BTreeMap}
use Rattle.std.specs.BTreeSet.{BTreeSet}
use Rattle.std.specs.Cmp.Lexicographic.{slice_cmp}
use Rattle.std.specs.List.{Contains, filter_map, list_any}
use Rattle.std.specs.Map.{lookup}
use Rattle.std.specs.Ordering.{is_eq, nat_cmp}
use Rattle.std.proofs.lemmas.List.{take_more}
use Rattle.std.proofs.lemmas.List.Elements.{Contains-append_left, Contains-append_right}
use Rattle.std.proofs.lemmas.List.Folds.{list_any-append}
use Rattle.lc_model.specs.Change.{is_same_id}
use Rattle.lc_model.proofs.ListLemmas.{Contains-filter, Contains-nil}
use Rattle.lc_model.specs.Versions.News.{EntitySaid}
use Rattle.version_store.specs.IndexLaws.Kept.{has_id}
use Rattle.version_store.specs.Filed.{AreOut, HasBy, PutsText, is_by, list_or, listed, spots_at, text_by}
use Rattle.version_store.specs.Spots.{said_in}
use Rattle.version_store.specs.declared.filed.By.{By}
use Rattle.version_store.specs.declared.filed.By.TheVariants.{Id}
use Rattle.version_store.specs.declared.spots.Spot.{Spot}
use Rattle.version_store.specs.declared.store.Admission.{Admission}
use Rattle.version_store.proofs.FiledLemmas.{same_from_tied, same_id_from_same, tied}
use Rattle.version_store.proofs.FurtherLemmas.{by_bool}
use Rattle.version_store.proofs.SpotsLemmas.{found_all}

-- ---- ids

pub no_ids : (ids : BTreeSet (Bor (List ℕ))) → ids.keys ≡ [] → AreOut ids (λ id. has_id id [])
no_ids ids none id = ap (list_any (λ (k : Bor (List ℕ)). is_eq (slice_cmp nat_cmp id k.now))) none

or_turned : (a b : Bool) → (a || b) ≡ (b || (a || false))
or_turned true true = refl
or_turned true false = refl
or_turned false true = refl
or_turned false false = refl

-- one id more
pub ids_more : (entities : List EntitySaid) (i : ℕ) (e : EntitySaid) (old new : BTreeSet (Bor (List ℕ))) → i < length entities → e ≡ get_or entities i e → PutsText e.id old new → AreOut old (λ id. has_id id (take i entities))
    → AreOut new (λ id. has_id id (take (i + 1) entities))
ids_more entities i e old new inside is puts so id =
    puts id ∙ ap (λ b. is_same_id id e.id || b) (so id) ∙ or_turned (is_same_id id e.id) (has_id id (take i entities))
    ∙ sym (list_any-append (λ (x : EntitySaid). is_same_id id x.id) (take i entities) (e ∷ []))
    ∙ ap (has_id id) (sym (take_more entities i e inside ∙ ap (λ x. take i entities ++ x ∷ []) (sym is)))

-- ---- entities of ids

-- of the entities that go out each is at an id that is left, or is gone
abbrev pub AreGoneSoFar : (List ℕ → Bool) → List EntitySaid → List (Bor (List ℕ)) → List EntitySaid → Type 0
AreGoneSoFar out entities left gone =
    (e : EntitySaid) → Contains entities e → out e.id ≡ true → (list_any (λ (k : Bor (List ℕ)). is_eq (slice_cmp nat_cmp e.id k.now)) left ≡ true) ⊎ Contains gone e

pub none_gone : (out : List ℕ → Bool) (entities : List EntitySaid) (ids : BTreeSet (Bor (List ℕ))) (left : List (Bor (List ℕ))) (gone : List EntitySaid) → AreOut ids out → left ≡ ids.keys → AreGoneSoFar out entities left gone
none_gone out entities ids left gone are all e there goes = inl (ap (list_any (λ (k : Bor (List ℕ)). is_eq (slice_cmp nat_cmp e.id k.now))) all ∙ are e.id ∙ goes)

-- those of one id more
pub more_gone : (out : List ℕ → Bool) (entities : List EntitySaid) (left rest : List (Bor (List ℕ))) (id : Bor (List ℕ)) (old new : List EntitySaid) → left ≡ id ∷ rest → new ≡ old ++ filter (is_by Id id.now) entities
    → AreGoneSoFar out entities left old → AreGoneSoFar out entities rest new
more_gone out entities left rest id old new first pushed so e there goes = elim (so e there goes) [
  | inr had ↦ inr (subst (λ v. Contains v e) (sym pushed) (Contains-append_left old (filter (is_by Id id.now) entities) e had))
  | inl still ↦
      let at : List (Bor (List ℕ)) → Bool = list_any (λ (k : Bor (List ℕ)). is_eq (slice_cmp nat_cmp e.id k.now)) in
      let among : (tied e.id id.now || at rest) ≡ true = sym (ap at first) ∙ still in
      by_bool ((at rest ≡ true) ⊎ Contains new e) (tied e.id id.now)
      (λ tie.
      let passes : is_by Id id.now e ≡ true = same_id_from_same id.now e.id (sym (same_from_tied e.id id.now tie)) in
      inr (subst (λ v. Contains v e) (sym pushed) (Contains-append_right old (filter (is_by Id id.now) entities) e (Contains-filter (is_by Id id.now) entities e there passes))))
      (λ apart. inl (sym (ap (λ b. b || at rest) apart) ∙ among))
]

pub all_gone : (out : List ℕ → Bool) (entities : List EntitySaid) (left : List (Bor (List ℕ))) (gone : List EntitySaid) → left ≡ [] → AreGoneSoFar out entities left gone
    → (e : EntitySaid) → Contains entities e → out e.id ≡ true → Contains gone e
all_gone out entities left gone none so e there goes = elim (so e there goes) [
  | inr is ↦ is
  | inl still ↦ absurd (let f : false ≡ true = sym (ap (list_any (λ (k : Bor (List ℕ)). is_eq (slice_cmp nat_cmp e.id k.now))) none) ∙ still in cc)
]

-- ---- all entities

-- the entities of each text are gone, or its list is among those that are left
abbrev pub AllGoSoFar : By → List EntitySaid → BTreeMap (List ℕ) (List Spot) → List (List ℕ × List Spot) → List EntitySaid → Type 0
AllGoSoFar by entities filed left gone =
    (text : List ℕ) → (lookup (tied text) left ≡ listed filed text) ⊎ ((e : EntitySaid) → Contains (filter (is_by by text) entities) e → Contains gone e)

pub none_go : (by : By) (entities : List EntitySaid) (filed : BTreeMap (List ℕ) (List Spot)) (left : List (List ℕ × List Spot)) (gone : List EntitySaid) → left ≡ filed.entries → AllGoSoFar by entities filed left gone
none_go by entities filed left gone all text = inl (ap (lookup (tied text)) all)

-- those of one list more
pub more_go : (by : By) (admitted : List Admission) (entities : List EntitySaid) (filed : BTreeMap (List ℕ) (List Spot)) (left rest : List (List ℕ × List Spot)) (label : List ℕ) (spots : List Spot) (old new : List EntitySaid)
    → HasBy by admitted (spots_at filed) entities → left ≡ (label, spots) ∷ rest → new ≡ old ++ filter_map (said_in admitted) spots → AllGoSoFar by entities filed left old → AllGoSoFar by entities filed rest new
more_go by admitted entities filed left rest label spots old new has first pushed so text = elim (so text) [
  | inr had ↦ inr (λ e there. subst (λ v. Contains v e) (sym pushed) (Contains-append_left old (filter_map (said_in admitted) spots) e (had e there)))
  | inl still ↦
      let among : cond (tied text label) (Some spots) (lookup (tied text) rest) ≡ listed filed text = sym (ap (lookup (tied text)) first) ∙ still in
      by_bool ((lookup (tied text) rest ≡ listed filed text) ⊎ ((e : EntitySaid) → Contains (filter (is_by by text) entities) e → Contains new e)) (tied text label)
      (λ tie.
      let here : Some spots ≡ listed filed text = sym (ap (λ b. cond b (Some spots) (lookup (tied text) rest)) tie) ∙ among in
      let said : map (said_in admitted) spots ≡ map Some (filter (is_by by text) entities) = ap (λ o. map (said_in admitted) (list_or [] o)) here ∙ has text in
      let all : new ≡ old ++ filter (is_by by text) entities = pushed ∙ ap (λ v. old ++ v) (found_all (said_in admitted) spots (filter (is_by by text) entities) said) in
      inr (λ e there. subst (λ v. Contains v e) (sym all) (Contains-append_right old (filter (is_by by text) entities) e there)))
      (λ apart. inl (sym (ap (λ b. cond b (Some spots) (lookup (tied text) rest)) apart) ∙ among))
]

none_said : (list : List EntitySaid) → [] ≡ map Some list → list ≡ []
none_said [] e = refl
none_said (x ∷ list) e = absurd (cc)

pub all_go : (by : By) (admitted : List Admission) (entities : List EntitySaid) (filed : BTreeMap (List ℕ) (List Spot)) (left : List (List ℕ × List Spot)) (gone : List EntitySaid) → HasBy by admitted (spots_at filed) entities → left ≡ []
    → AllGoSoFar by entities filed left gone → (e : EntitySaid) → Contains entities e → Contains gone e
all_go by admitted entities filed left gone has none so e there =
    let text = text_by by e in
    let here : Contains (filter (is_by by text) entities) e = Contains-filter (is_by by text) entities e there (same_id_from_same text text refl) in
    elim (so text) [
      | inr are ↦ are e here
      | inl still ↦
          let lacks : listed filed text ≡ None = sym still ∙ ap (lookup (tied text)) none in
          let empty : filter (is_by by text) entities ≡ [] = none_said (filter (is_by by text) entities) (sym (ap (λ o. map (said_in admitted) (list_or [] o)) lacks) ∙ has text) in
          absurd (Contains-nil e (subst (λ v. Contains v e) empty here))
    ]
