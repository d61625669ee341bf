-- The trips of keys, and the news of these trips.
use Rattle.std.proofs.Common.{◌≡◌, ◌⊎◌, ◌∙◌, inl, inr, ℕ, List, [], ◌∷◌, ◌++◌, Bool, true, false, cond, filter, sym, ap, subst}
use Rattle.std.specs.Prelude.{◌||◌}
use Rattle.std.specs.Borrow.{Bor}
use Rattle.std.specs.BTreeSet.{BTreeSet, contains}
use Rattle.std.specs.Cmp.Lexicographic.{slice_cmp, texts_ties}
use Rattle.std.specs.List.{Contains, list_any}
use Rattle.std.specs.Ordering.{is_eq, nat_cmp}
use Rattle.std.proofs.lemmas.Bool.{false_from_ne_true, or_right}
use Rattle.std.proofs.lemmas.List.{append-nil}
use Rattle.std.proofs.lemmas.List.Elements.{filter-append}
use Rattle.lc_model.specs.Change.{is_same_id}
use Rattle.lc_model.specs.declared.key.RunKey.{RunKey}
use Rattle.lc_model.proofs.ListLemmas.{Contains-cases, Contains-nil, IsKept-filter}
use Rattle.lc_model.specs.Versions.Added.{has_key}
use Rattle.lc_model.specs.Versions.Naming.{names_run}
use Rattle.lc_model.specs.Versions.News.{EntitySaid, TripSaid}
use Rattle.version_store.specs.IndexLaws.Kept.{news_in}
use Rattle.version_store.proofs.IndexLawsLemmas.TouchedLemmas.{touch_few}
use Rattle.version_store.specs.Changes.{AreNearAt}
use Rattle.version_store.specs.Differing.{AreAlikeAt}
use Rattle.version_store.specs.Filed.{PutsText, has_text, is_by, trip_in}
use Rattle.version_store.specs.Trips.{AreOfTrips, HasTripsOf}
use Rattle.version_store.specs.declared.filed.By.TheVariants.{Trip}
use Rattle.version_store.proofs.DifferingLemmas.{alike_itself, none_pass, taken_out}
use Rattle.version_store.proofs.FiledLemmas.{same_from_same_id, same_id_from_same, tied, tied_from_same, same_from_tied}
use Rattle.version_store.proofs.FurtherLemmas.{by_bool}
use Rattle.version_store.proofs.KeptLemmas.{or_else, same_id_back}

abbrev a_text : List ℕ → Bor (List ℕ)
a_text text = record { ref_ptr = (0, 0); now = text }

-- a text more
pub text_put : (id : Bor (List ℕ)) (text : List ℕ) (old new : BTreeSet (Bor (List ℕ))) → id.now ≡ text
    → ((other : Bor (List ℕ)) → contains (λ x y. slice_cmp nat_cmp x.now y.now) new other ≡ cond (is_eq (slice_cmp nat_cmp id.now other.now)) true (contains (λ x y. slice_cmp nat_cmp x.now y.now) old other)) → PutsText text old new
text_put id text old new named puts other =
    puts (a_text other) ∙ or_else (tied id.now other) (has_text old other)
    ∙ ap (λ b. b || has_text old other) (sym (texts_ties id.now other) ∙ same_id_back id.now other ∙ ap (is_same_id other) named)

put_had : (text other : List ℕ) (old new : BTreeSet (Bor (List ℕ))) → PutsText text old new → has_text old other ≡ true → has_text new other ≡ true
put_had text other old new puts had = puts other ∙ or_right (is_same_id other text) (has_text old other) had

put_itself : (text other : List ℕ) (old new : BTreeSet (Bor (List ℕ))) → PutsText text old new → other ≡ text → has_text new other ≡ true
put_itself text other old new puts same = puts other ∙ ap (λ b. b || has_text old other) (same_id_from_same other text same)

-- before the first key
pub no_trips : (keys left : List RunKey) (trips : BTreeSet (Bor (List ℕ))) → left ≡ keys → (key : RunKey) → Contains keys key → Contains left key ⊎ has_text trips key.trip ≡ true
no_trips keys left trips all key there = inl (subst (λ (v : List RunKey). Contains v key) (sym all) there)

-- one key more
pub trips_more : (keys left rest : List RunKey) (key : RunKey) (old new : BTreeSet (Bor (List ℕ))) → left ≡ key ∷ rest → PutsText key.trip old new → ((k : RunKey) → Contains keys k → Contains left k ⊎ has_text old k.trip ≡ true)
    → (k : RunKey) → Contains keys k → Contains rest k ⊎ has_text new k.trip ≡ true
trips_more keys left rest key old new first puts so k there = elim (so k there) [
  | inr had ↦ inr (put_had key.trip k.trip old new puts had)
  | inl still ↦ elim (Contains-cases key rest k (subst (λ (v : List RunKey). Contains v k) first still)) [
    | inr behind ↦ inl behind
    | inl same ↦ inr (put_itself key.trip k.trip old new puts (ap (λ (r : RunKey). r.trip) (sym same)))
  ]
]

pub all_trips : (keys left : List RunKey) (trips : BTreeSet (Bor (List ℕ))) → left ≡ [] → ((k : RunKey) → Contains keys k → Contains left k ⊎ has_text trips k.trip ≡ true) → HasTripsOf keys trips
all_trips keys left trips none so key there = elim (so key there) [ inr has ↦ has | inl still ↦ absurd (Contains-nil key (subst (λ (v : List RunKey). Contains v key) none still)) ]

-- at the keys themselves the news of their trips are all news
pub near_at : (keys : BTreeSet RunKey) (trips : BTreeSet (Bor (List ℕ))) (near list : List TripSaid) → HasTripsOf keys.keys trips → AreOfTrips trips near list → AreNearAt keys near list
near_at keys trips near list of are = λ key there. are key (of key there)

pub near_itself : (keys : BTreeSet RunKey) (list : List TripSaid) → AreNearAt keys list list
near_itself keys list = λ key there. alike_itself key list

-- ---- the news of one trip after the other

-- news that pass a test are of this trip
abbrev IsOfTrip : (TripSaid → Bool) → List ℕ → Type 0
IsOfTrip p trip = (n : TripSaid) → p n ≡ true → trip ≡ n.trip

of_its_trip : (p : TripSaid → Bool) (trip : List ℕ) (entities : List EntitySaid) → IsOfTrip p trip → filter p (news_in (filter (is_by Trip trip) entities)) ≡ filter p (news_in entities)
of_its_trip p trip entities of =
    sym (taken_out p (is_by Trip trip) entities
    (λ e there gone n is. false_from_ne_true (p n) (λ passes.
    let same : is_same_id trip (trip_in e.news) ≡ true = same_id_from_same trip (trip_in e.news) (of n passes ∙ sym (ap trip_in is)) in
    let f : false ≡ true = sym gone ∙ same in cc)))

of_other_trip : (p : TripSaid → Bool) (trip other : List ℕ) (entities : List EntitySaid) → IsOfTrip p trip → tied other trip ≡ false → filter p (news_in (filter (is_by Trip other) entities)) ≡ []
of_other_trip p trip other entities of apart =
    none_pass p (filter (is_by Trip other) entities)
    (λ e there n is. false_from_ne_true (p n) (λ passes.
    let passed = (IsKept-filter (is_by Trip other) entities e there).passes in
    let same : other ≡ trip = same_from_same_id other (trip_in e.news) passed ∙ ap trip_in is ∙ sym (of n passes) in
    let f : false ≡ true = sym apart ∙ tied_from_same other trip same in cc))

-- of the trips of the set those that are left have no news yet, and the others have all of theirs
pub record IsSoFar (trips left : BTreeSet (Bor (List ℕ))) (near list : List TripSaid) : Type 0 where
  pub none_yet : (key : RunKey) → has_text left key.trip ≡ true → AreAlikeAt key near []
  pub all : (key : RunKey) → has_text left key.trip ≡ false → has_text trips key.trip ≡ true → AreAlikeAt key near list

pub none_so_far : (trips : BTreeSet (Bor (List ℕ))) (near list : List TripSaid) → near ≡ [] → IsSoFar trips trips near list
none_so_far trips near list none = record {
  none_yet = λ key has. record { named = ap (filter (names_run key)) none; of_key = ap (filter (has_key key)) none };
  all = λ key lacks has. let f : false ≡ true = sym lacks ∙ has in absurd (cc);
}

at_trip : (p : TripSaid → Bool) (trip : List ℕ) (entities : List EntitySaid) (old new : List TripSaid) → IsOfTrip p trip → new ≡ old ++ news_in (filter (is_by Trip trip) entities) → filter p old ≡ [] → filter p new ≡ filter p (news_in entities)
at_trip p trip entities old new of pushed none =
    ap (filter p) pushed ∙ filter-append p old (news_in (filter (is_by Trip trip) entities)) ∙ ap (λ v. v ++ filter p (news_in (filter (is_by Trip trip) entities))) none ∙ of_its_trip p trip entities of

at_other : (p : TripSaid → Bool) (trip other : List ℕ) (entities : List EntitySaid) (old new : List TripSaid) → IsOfTrip p trip → tied other trip ≡ false → new ≡ old ++ news_in (filter (is_by Trip other) entities) → filter p new ≡ filter p old
at_other p trip other entities old new of apart pushed =
    ap (filter p) pushed ∙ filter-append p old (news_in (filter (is_by Trip other) entities)) ∙ ap (λ v. filter p old ++ v) (of_other_trip p trip other entities of apart) ∙ append-nil (filter p old)

named_of : (key : RunKey) → IsOfTrip (names_run key) key.trip
named_of key n e = (touch_few key n (ap (λ b. b || has_key key n) e)).trip

key_of : (key : RunKey) → IsOfTrip (has_key key) key.trip
key_of key n e = (touch_few key n (or_right (names_run key n) (has_key key n) e)).trip

-- one trip more
pub trip_so_far : (trips left rest : BTreeSet (Bor (List ℕ))) (id : Bor (List ℕ)) (entities : List EntitySaid) (old new : List TripSaid)
    → ((other : Bor (List ℕ)) → contains (λ x y. slice_cmp nat_cmp x.now y.now) rest other ≡ cond (is_eq (slice_cmp nat_cmp id.now other.now)) false (contains (λ x y. slice_cmp nat_cmp x.now y.now) left other))
    → contains (λ x y. slice_cmp nat_cmp x.now y.now) left id ≡ true → new ≡ old ++ news_in (filter (is_by Trip id.now) entities) → IsSoFar trips left old (news_in entities) → IsSoFar trips rest new (news_in entities)
trip_so_far trips left rest id entities old new out was pushed so = record { none_yet = none_yet; all = all } where
  is_out : (t : List ℕ) → has_text rest t ≡ cond (tied id.now t) false (has_text left t)
  is_out t = out (a_text t)

  beside : (key : RunKey) (list : List TripSaid) → tied id.now key.trip ≡ false → AreAlikeAt key old list → AreAlikeAt key new list
  beside key list apart alike = record {
    named = at_other (names_run key) key.trip id.now entities old new (named_of key) apart pushed ∙ alike.named;
    of_key = at_other (has_key key) key.trip id.now entities old new (key_of key) apart pushed ∙ alike.of_key;
  }

  at_id : (key : RunKey) → id.now ≡ key.trip → AreAlikeAt key new (news_in entities)
  at_id key same =
      let none = so.none_yet key (ap (has_text left) (sym same) ∙ was) in
      let here : new ≡ old ++ news_in (filter (is_by Trip key.trip) entities) = pushed ∙ ap (λ t. old ++ news_in (filter (is_by Trip t) entities)) same in
      record {
        named = at_trip (names_run key) key.trip entities old new (named_of key) here none.named;
        of_key = at_trip (has_key key) key.trip entities old new (key_of key) here none.of_key;
      }

  none_yet : (key : RunKey) → has_text rest key.trip ≡ true → AreAlikeAt key new []
  none_yet key has = by_bool (AreAlikeAt key new []) (tied id.now key.trip)
      (λ tie. let f : false ≡ true = sym (is_out key.trip ∙ ap (λ b. cond b false (has_text left key.trip)) tie) ∙ has in absurd (cc))
      (λ apart. beside key [] apart (so.none_yet key (sym (is_out key.trip ∙ ap (λ b. cond b false (has_text left key.trip)) apart) ∙ has)))

  all : (key : RunKey) → has_text rest key.trip ≡ false → has_text trips key.trip ≡ true → AreAlikeAt key new (news_in entities)
  all key lacks has = by_bool (AreAlikeAt key new (news_in entities)) (tied id.now key.trip)
      (λ tie. at_id key (same_from_tied id.now key.trip tie))
      (λ apart. beside key (news_in entities) apart (so.all key (sym (is_out key.trip ∙ ap (λ b. cond b false (has_text left key.trip)) apart) ∙ lacks) has))

-- after the last trip
pub all_so_far : (trips left : BTreeSet (Bor (List ℕ))) (near list : List TripSaid) → left.keys ≡ [] → IsSoFar trips left near list → AreOfTrips trips near list
all_so_far trips left near list none so = λ key has. so.all key (lacks left.keys none key.trip) has where
  lacks : (keys : List (Bor (List ℕ))) → keys ≡ [] → (t : List ℕ) → list_any (λ (k : Bor (List ℕ)). is_eq (slice_cmp nat_cmp t k.now)) keys ≡ false
  lacks keys e t = ap (list_any (λ (k : Bor (List ℕ)). is_eq (slice_cmp nat_cmp t k.now))) e
