-- The cuts that are cached for versions: where a moment is among them, and that they stay after a message.
use Rattle.std.proofs.Common.{Vec, Global, Result, Ok, Err, ◌≡◌, ◌∙◌, ◌⊎◌, inl, inr, ℕ, List, [], ◌∷◌, length, true, Option, Some, None, Contains, refl, sym, ap, subst}
use Rattle.std.specs.Prelude.{IfOk, IfSome, OnErr, nat_eq, option_map}
use Rattle.std.specs.Map.{lookup}
use Rattle.std.proofs.lemmas.Bool.{eqb-true}
use Rattle.std.proofs.lemmas.List.{append-nil}
use Rattle.lru.specs.LruCache.{LruCache, promoted, put_entries}
use Rattle.lru.proofs.CallerLemmas.{Contains-lookup, Contains-promoted, Contains-put_entries}
use Rattle.lc_model.proofs.ListLemmas.{Contains-nil}
use Rattle.lc_model.specs.Versions.Cuts.{AreCuts, NeverFalls}
use Rattle.lc_model.specs.Versions.History.{Entry, IsRising, moments_of}
use Rattle.lc_model.specs.Versions.Pages.{departures_of}
use Rattle.version_store.specs.Admission.{Admits}
use Rattle.version_store.specs.Rows.{AreDepartures}
use Rattle.version_store.specs.Store.{Stored, entry_of, versions_of}
use Rattle.version_store.specs.declared.admission.Admitted.{Admitted}
use Rattle.version_store.specs.declared.admission.AdmitFault.{AdmitFault}
use Rattle.lc_world.specs.Sides.Side.{IsLater, Side}
use Rattle.lc_world.specs.Sides.Side as sides
use Rattle.lc_world.proofs.SidesLemmas.LaterLemmas.{timetable_stays}
use Rattle.lc_world.proofs.SidesLemmas.VersionLemmas.{still_found}
use Rattle.publisher.specs.Held.{Held, side_of}
use Rattle.publisher.specs.Cuts.{AllRise, HasCuts, KeepsCuts}
use Rattle.publisher.specs.Place.{AreRising, place_of}
use Rattle.publisher.specs.PlaceOf.{IsPlaceOf}
use Rattle.publisher.specs.declared.place.Place.{Place}
use Rattle.publisher.proofs.PageLemmas.{timetable_of}
use Rattle.lc_world.proofs.SidesLemmas.PageLemmas.{never_falls}
use Rattle.publisher.proofs.VersionsLemmas.{contained_is_there}

-- where a moment is among the cuts of a version
pub place_among : (side : Side) → ((departures : List ℕ) → NeverFalls departures → AreCuts departures (side.cuts_of departures))
    → (version departs : ℕ) (cuts : List ℕ) (place : Place) → HasCuts side version cuts → place ≡ place_of cuts departs → IsPlaceOf side version departs place
place_among side lawful version departs cuts place has is = record {
  list = has.list;
  timetable = has.timetable;
  lawful = lawful (departures_of has.list) (never_falls has.list has.timetable.are_connections.in_order);
  is = is ∙ ap (λ (cs : List ℕ). place_of cs departs) has.is;
}

-- the cuts that are made of the store's departures are those of the version
pub has_cuts : {G : Type 0} (cuts_of : G → List ℕ → List ℕ) (held : Held G) → held.store.stops ≡ held.doc.stops → (version : ℕ) (departures cuts : List ℕ) → Contains (versions_of held.store) version
    → AreDepartures held.store version departures → cuts ≡ cuts_of held.cutting departures → HasCuts (side_of cuts_of held) version cuts
has_cuts cuts_of held same_stops version departures cuts there are are_cuts = record {
  of_side = contained_is_there (sides.versions_of (side_of cuts_of held)) version there;
  list = are.all;
  timetable = timetable_of cuts_of held same_stops version are.all are.of_version;
  is = are_cuts ∙ ap (cuts_of held.cutting) are.one_each;
}

-- they strictly increase
pub rising_cuts : (side : Side) → ((departures : List ℕ) → NeverFalls departures → AreCuts departures (side.cuts_of departures))
    → (version : ℕ) (cuts : List ℕ) → HasCuts side version cuts → AreRising cuts
rising_cuts side lawful version cuts has =
    subst AreRising (sym has.is) (lawful (departures_of has.list) (never_falls has.list has.timetable.are_connections.in_order)).rising

-- and so do those of each version that is cached
pub all_rise : (side : Side) → ((departures : List ℕ) → NeverFalls departures → AreCuts departures (side.cuts_of departures))
    → (cached : List (ℕ × Vec ℕ Global)) → KeepsCuts side cached → AllRise cached
all_rise side lawful cached keeps = λ version cuts within. rising_cuts side lawful version cuts.items (keeps version cuts within)

-- where a moment is among the cuts that are cached for a version
module _ (side : Side) (lawful : (departures : List ℕ) → NeverFalls departures → AreCuts departures (side.cuts_of departures))
    (version departs : ℕ) (cached : List (ℕ × Vec ℕ Global)) (keeps : KeepsCuts side cached) where
  abbrev place_in : Option (Vec ℕ Global) → Option Place
  place_in found = option_map (λ (cuts : Vec ℕ Global). place_of cuts.items departs) found

  place_if : (found : Option (Vec ℕ Global)) → lookup (nat_eq version) cached ≡ found → IfSome (place_in found) (IsPlaceOf side version departs)
  place_if None is = tt
  place_if (Some cuts) is =
      let (other, within, equal) = Contains-lookup (nat_eq version) cached cuts is in
      let same : version ≡ other = eqb-true version other equal in
      let has : HasCuts side version cuts.items = subst (λ (v : ℕ). HasCuts side v cuts.items) (sym same) (keeps other cuts within) in
      place_among side lawful version departs cuts.items (place_of cuts.items departs) has refl

  pub cached_place : IfSome (place_in (lookup (nat_eq version) cached)) (IsPlaceOf side version departs)
  cached_place = place_if (lookup (nat_eq version) cached) refl

-- at first nothing is cached
pub keeps_none : (side : Side) (cached : List (ℕ × Vec ℕ Global)) → cached ≡ [] → KeepsCuts side cached
keeps_none side cached empty version cuts within = absurd (Contains-nil (version, cuts) (subst (λ (es : List (ℕ × Vec ℕ Global)). Contains es (version, cuts)) empty within))

-- a use changes the order alone
pub keeps_used : (side : Side) (old : List (ℕ × Vec ℕ Global)) (used : ℕ) → KeepsCuts side old → KeepsCuts side (promoted (nat_eq used) old)
keeps_used side old used keeps version cuts within = keeps version cuts (Contains-promoted (nat_eq used) old (version, cuts) within)

-- the cuts of a version more
pub keeps_more : (side : Side) (old : LruCache ℕ (Vec ℕ Global)) (version : ℕ) (cuts : Vec ℕ Global) → KeepsCuts side old.entries → HasCuts side version cuts.items
    → KeepsCuts side (put_entries nat_eq old version cuts)
keeps_more side old version cuts keeps has other found within = elim (Contains-put_entries nat_eq old version cuts (other, found) within) [
  | inl was ↦ keeps other found was
  | inr put ↦ subst (λ (v : ℕ). HasCuts side v found.items) (key put.1) (subst (λ (c : Vec ℕ Global). HasCuts side version c.items) (sym put.0) has)
]
  where
    key : (other ≡ version) ⊎ ((was : Vec ℕ Global) × Contains old.entries (other, was) × (nat_eq version other ≡ true)) → version ≡ other
    key (inl same) = sym same
    key (inr (was, there, equal)) = eqb-true version other equal

-- the cuts of a version stay at a later side
cuts_stay : (before after : Side) (version : ℕ) (cuts : List ℕ) → IsLater before after → IsRising after.base_moment (moments_of after.history) → HasCuts before version cuts → HasCuts after version cuts
cuts_stay before after version cuts later rising has =
    subst (λ (side : Side). IsRising side.base_moment (moments_of side.history) → HasCuts side version cuts) (sym later.is)
    (λ rises. record {
      of_side = still_found before.base_moment before.history later.more version has.of_side;
      list = has.list;
      timetable = timetable_stays before later.more version has.list rises has.of_side has.timetable;
      is = has.is;
    }) rising

module _ {G : Type 0} (cuts_of : G → List ℕ → List ℕ) (held : Held G) (store : Stored) (bytes : List ℕ) where
  -- a message or its refusal leaves a later side
  later_after : (outcome : Result Admitted AdmitFault) → IfOk outcome (Admits held.store store bytes) → OnErr outcome (store ≡ held.store)
      → IsLater (side_of cuts_of held) (side_of cuts_of (record held { store = store }))
  later_after (Ok admitted) is same = record { more = entry_of is.update (length bytes) ∷ []; is = ap (λ (s : Stored). side_of cuts_of (record held { store = s })) is.appended }
  later_after (Err fault) is same = record { more = []; is = ap (λ (s : Stored). side_of cuts_of (record held { store = s })) same ∙ ap (λ (history : List Entry). record (side_of cuts_of held) { history = history }) (sym (append-nil held.store.history)) }

  -- the cuts stay after a message or its refusal
  pub keeps_after : (outcome : Result Admitted AdmitFault) (cached : List (ℕ × Vec ℕ Global)) → IfOk outcome (Admits held.store store bytes) → OnErr outcome (store ≡ held.store)
      → IsRising store.base (moments_of store.history) → KeepsCuts (side_of cuts_of held) cached → KeepsCuts (side_of cuts_of (record held { store = store })) cached
  keeps_after outcome cached is same rising keeps version cuts within =
      cuts_stay (side_of cuts_of held) (side_of cuts_of (record held { store = store })) version cuts.items (later_after outcome is same) rising (keeps version cuts within)

  -- the stops and the runs stay after a message or its refusal
  pub same_stops : (outcome : Result Admitted AdmitFault) → IfOk outcome (Admits held.store store bytes) → OnErr outcome (store ≡ held.store) → store.stops ≡ held.store.stops
  same_stops (Ok admitted) is same = ap (λ (s : Stored). s.stops) is.appended
  same_stops (Err fault) is same = ap (λ (s : Stored). s.stops) same

  pub same_runs : (outcome : Result Admitted AdmitFault) → IfOk outcome (Admits held.store store bytes) → OnErr outcome (store ≡ held.store) → store.runs ≡ held.store.runs
  same_runs (Ok admitted) is same = ap (λ (s : Stored). s.runs) is.appended
  same_runs (Err fault) is same = ap (λ (s : Stored). s.runs) same
