-- To whatever stop there is a change, it is among the partners: so the changes to the partners are all changes from a stop.
use Rattle.std.proofs.Common.{◌≡◌, ℕ, ◌<◌, ◌⊎◌, inl, inr, List, [], ◌∷◌, ◌++◌, Option, Some, None, length, get_or, map, Bool, true, false, ◌||◌, sym, ap, ◌∙◌, subst, refl}
use Rattle.std.specs.Prelude.{option_map}
use Rattle.std.specs.List.{All, Any, Contains, cons_option, filter_map, slice_get}
use Rattle.std.specs.List.Sorted.{IsSorted, IsStrictlyIncreasing}
use Rattle.std.specs.Option.{option_and_then, option_map_or, option_or, option_to_list}
use Rattle.std.specs.Ordering.{on, ordering_then}
use Rattle.std.specs.declared.cmp.Ordering.{Ordering}
use Rattle.std.specs.declared.cmp.Ordering.TheVariants.{Less, Equal}
use Rattle.std.proofs.lemmas.List.{get_or_default}
use Rattle.std.proofs.lemmas.List.Elements.{All-contains, All-contains_itself, Contains-append_left, Contains-append_right}
use Rattle.std.proofs.lemmas.List.Kept.{AllPairs-from_increasing}
use Rattle.std.proofs.lemmas.Option.{slice_get_cases, slice_get_read}
use Rattle.std.proofs.lemmas.Slice.Eq.{bytes_eq-Decides}
use Rattle.lc_model.specs.Change.{InChangeOrder, change_cmp, is_same_id}
use Rattle.lc_model.specs.Stop.{InStopOrder}
use Rattle.lc_model.specs.Text.{id_cmp}
use Rattle.lc_model.specs.Totals.{change_cmp_total}
use Rattle.lc_model.specs.declared.change.Change.{Change}
use Rattle.lc_model.specs.declared.stop.Stop.{Stop}
use Rattle.lc_model.proofs.OrdersLemmas.{strict_lists_are_one}
use Rattle.lc_model.proofs.SearchLemmas.{same_id}
use Rattle.gtfs_tables.specs.declared.calendars.transfer.Transfer.{Transfer}
use Rattle.change_table.specs.ChangeRule.{are_together, given_seconds, is_same_station, said_seconds, usual_seconds}
use Rattle.change_table.specs.Pairs.{changes_to, timed_change}
use Rattle.change_table.specs.Partners.{Gains, IsOf, named_ids, stops_at}
use Rattle.change_table.specs.Rows.{AreSortedRows, row_cmp, row_for, row_to, rows_from, seconds_by, target, recorded}
use Rattle.change_table.specs.declared.rows.Row.{Row}
use Rattle.lc_model.proofs.ListLemmas.{AllPairs-map, AllPairs-weaker, All-from_contains, ComesFrom-map, Contains-here, Contains-map, Contains-nil}
use Rattle.change_table.proofs.ListLemmas.{AllPairs-filter_map, Contains-filter_map, IsKept-find, IsMade-filter_map}
use Rattle.change_table.proofs.PartnerLemmas.{any}
use Rattle.change_table.proofs.RowLemmas.{IsSorted-rows_from, row, seconds_are_given}

-- one of the ids is the stop's own or its parent's
pub record IsNamed (ids : List (List ℕ)) (to : Stop) : Type 0 where
  pub id : List ℕ
  pub stands : Contains ids id
  pub names : (to.id ≡ id) ⊎ (to.parent ≡ Some id)

named_left : (xs ys : List (List ℕ)) (to : Stop) → IsNamed xs to → IsNamed (xs ++ ys) to
named_left xs ys to n = record { id = n.id; stands = Contains-append_left xs ys n.id n.stands; names = n.names }

named_right : (xs ys : List (List ℕ)) (to : Stop) → IsNamed ys to → IsNamed (xs ++ ys) to
named_right xs ys to n = record { id = n.id; stands = Contains-append_right xs ys n.id n.stands; names = n.names }

-- where a row to a stop is found, it goes there
record GoesTo (rows : List Row) (to : Option (List ℕ)) : Type 0 where
  pub id : List ℕ
  pub is : to ≡ Some id
  pub stands : Contains (map target rows) id

goes_to : (rows : List Row) (to : Option (List ℕ)) (t : Transfer) → row_to rows to ≡ Some t → GoesTo rows to
goes_to rows None t e = absurd (cc)
goes_to rows (Some id) t e =
    let found = IsKept-find (λ (t : Transfer). is_same_id t.to id) (recorded rows) t e in
    let goes : t.to ≡ id = (bytes_eq-Decides t.to id).0 found.passes in
    let of = ComesFrom-map row rows t found.stands in
    record { id = id; is = refl; stands = subst (λ v. Contains (map target rows) v) (ap (λ (t : Transfer). t.to) of.is ∙ goes) (Contains-map target rows of.from of.stands) }

row_names : (rows : List Row) (to : Stop) (t : Transfer) → row_for rows to ≡ Some t → IsNamed (map target rows) to
row_names rows to t e = go (row_to rows (Some to.id)) refl e where
  go : (o : Option Transfer) → row_to rows (Some to.id) ≡ o → option_or o (row_to rows to.parent) ≡ Some t → IsNamed (map target rows) to
  go (Some u) is f = let goes = goes_to rows (Some to.id) u is in record { id = goes.id; stands = goes.stands; names = inl (let g : Some to.id ≡ Some goes.id = goes.is in cc) }
  go None is f = let goes = goes_to rows to.parent t f in record { id = goes.id; stands = goes.stands; names = inr goes.is }

one_of : {X : Type 0} (a b : Option X) (x : X) → option_or a b ≡ Some x → (a ≡ Some x) ⊎ (b ≡ Some x)
one_of None b x e = inr e
one_of (Some y) b x e = inl e

record IsStation (a b : Option (List ℕ)) : Type 0 where
  pub id : List ℕ
  pub first : a ≡ Some id
  pub second : b ≡ Some id

same_station : (a b : Option (List ℕ)) → is_same_station a b ≡ true → IsStation a b
same_station None b e = absurd (let f : false ≡ true = e in cc)
same_station (Some p) None e = absurd (let f : false ≡ true = e in cc)
same_station (Some p) (Some q) e = record { id = p; first = refl; second = ap Some (sym ((bytes_eq-Decides p q).0 e)) }

either : (a b : Bool) → (a || b) ≡ true → (a ≡ true) ⊎ (b ≡ true)
either true b e = inl refl
either false b e = inr e

of_station : (parent : Option (List ℕ)) (id : List ℕ) → parent ≡ Some id → Contains (option_to_list parent) id
of_station parent id e = subst (λ o. Contains (option_to_list o) id) (sym e) (Contains-here id [])

together_named : (from to : Stop) → are_together from to ≡ true → IsNamed ((from.id ∷ []) ++ option_to_list from.parent) to
together_named from to e = elim (either (is_same_id from.id to.id) (is_same_station from.parent to.parent) e) [
  | inl same ↦ record { id = from.id; stands = Contains-here from.id (option_to_list from.parent); names = inl (sym ((bytes_eq-Decides from.id to.id).0 same)) }
  | inr station ↦
      let s = same_station from.parent to.parent station in
      record { id = s.id; stands = Contains-append_right (from.id ∷ []) (option_to_list from.parent) s.id (of_station from.parent s.id s.first); names = inr s.second }
]

decided : (ids : List (List ℕ)) (to : Stop) (default n : ℕ) (o : Option Transfer) (together : Bool) → option_map_or (said_seconds default) o (usual_seconds default together) ≡ Some n
    → ((t : Transfer) → o ≡ Some t → IsNamed ids to) → (together ≡ true → IsNamed ids to) → IsNamed ids to
decided ids to default n (Some t) together e by_row usual = by_row t refl
decided ids to default n None true e by_row usual = usual refl
decided ids to default n None false e by_row usual = absurd (cc)

-- a stop to which there is a change is named
pub seconds_name : (own of_parent : List Row) (default : ℕ) (from to : Stop) (n : ℕ) → seconds_by own of_parent default from to ≡ Some n → IsNamed (named_ids from own of_parent) to
unfolding seconds_by
seconds_name own of_parent default from to n e =
    let here : List (List ℕ) = (from.id ∷ []) ++ option_to_list from.parent in
    let there : List (List ℕ) = map target own ++ map target of_parent in
    decided (here ++ there) to default n (option_or (row_for own to) (row_for of_parent to)) (are_together from to) e
    (λ t decides. elim (one_of (row_for own to) (row_for of_parent to) t decides) [
      | inl f ↦ named_right here there to (named_left (map target own) (map target of_parent) to (row_names own to t f))
      | inr f ↦ named_right here there to (named_right (map target own) (map target of_parent) to (row_names of_parent to t f))
    ])
    (λ together. named_left here there to (together_named from to together))

-- a stop that is named is at a place that is named
place_named : (stops : List Stop) (place : ℕ) (to : Stop) (ids : List (List ℕ)) → slice_get stops place ≡ Some to → IsNamed ids to → Any (IsOf stops place) ids
place_named stops place to ids at named = any (IsOf stops place) ids named.id named.stands (elim named.names [
  | inl e ↦ inl (ap (option_map (λ (s : Stop). s.id)) at ∙ ap Some e)
  | inr e ↦ inr (ap (option_and_then (λ (s : Stop). s.parent)) at ∙ e)
])

is_within : (stops : List Stop) (place : ℕ) (id : List ℕ) → IsOf stops place id → place < length stops
is_within stops place id of = elim (slice_get_cases stops place).1 [
  | inl (x, inside, at, is) ↦ inside
  | inr (past, none) ↦ elim of [
    | inl e ↦ absurd (let f : None ≡ Some id = sym (ap (option_map (λ (s : Stop). s.id)) none) ∙ e in cc)
    | inr e ↦ absurd (let f : None ≡ Some id = sym (ap (option_and_then (λ (s : Stop). s.parent)) none) ∙ e in cc)
  ]
]

-- each place that is named is one of a stop
pub named_within : (stops : List Stop) (ids : List (List ℕ)) (places : List ℕ) → Gains stops ids [] places → All (λ place. place < length stops) places
named_within stops ids places gains = All-from_contains (λ place. place < length stops) places (λ place h. elim ((gains place).0 h) [
  | inl k ↦ absurd (Contains-nil place k)
  | inr (k, id, inside, at, of) ↦ is_within stops place id of
])

-- a change that was made for a stop
pub record IsTimed (seconds : Stop → Option ℕ) (from to : Stop) (c : Change) : Type 0 where
  pub given : ℕ
  pub is_given : seconds to ≡ Some given
  pub is : timed_change from.id to.id given ≡ c

pub is_timed : (seconds : Stop → Option ℕ) (from to : Stop) (c : Change) → option_map (timed_change from.id to.id) (seconds to) ≡ Some c → IsTimed seconds from to c
is_timed seconds from to c e = go (seconds to) refl e where
  go : (o : Option ℕ) → seconds to ≡ o → option_map (timed_change from.id to.id) o ≡ Some c → IsTimed seconds from to c
  go None is f = absurd (cc)
  go (Some n) is f = record { given = n; is_given = is; is = cc }

second_less : (o p : Ordering) → o ≡ Equal → p ≡ Less → ordering_then o p ≡ Less
second_less o p e f = rw (e, f) refl

-- changes from one stop to stops in order are in order
pub InChangeOrder-changes_to : (seconds : Stop → Option ℕ) (from : Stop) (xs : List Stop) → InStopOrder xs → InChangeOrder (changes_to seconds from xs)
InChangeOrder-changes_to seconds from xs strict =
    AllPairs-filter_map (λ (c d : Change). change_cmp c d ≡ Less) (λ (x y : Stop). id_cmp x.id y.id ≡ Less) (λ (to : Stop). option_map (timed_change from.id to.id) (seconds to)) xs
    (λ x z c d less made_x made_z.
    let cx = is_timed seconds from x c made_x in
    let dz = is_timed seconds from z d made_z in
    let start : c.from ≡ d.from = sym (ap (λ (c : Change). c.from) cx.is) ∙ ap (λ (c : Change). c.from) dz.is in
    let left : x.id ≡ c.to = ap (λ (c : Change). c.to) cx.is in
    let right : z.id ≡ d.to = ap (λ (c : Change). c.to) dz.is in
    second_less (id_cmp c.from d.from) (id_cmp c.to d.to) (same_id c.from d.from start)
    (subst (λ v. id_cmp c.to v ≡ Less) right (subst (λ v. id_cmp v z.id ≡ Less) left less)))
    strict

InStopOrder-stops_at : (stops : List Stop) (other : Stop) (places : List ℕ) → InStopOrder stops → All (λ place. place < length stops) places → IsStrictlyIncreasing places → InStopOrder (stops_at stops other places)
InStopOrder-stops_at stops other places strict within rising =
    AllPairs-map (λ (x y : Stop). id_cmp x.id y.id ≡ Less) (λ place. get_or stops place other) places
    (AllPairs-weaker (λ i j. i < j) (λ i j. id_cmp (get_or stops i other).id (get_or stops j other).id ≡ Less) places
    (λ i j hi hj low. strict i j other low (All-contains (λ place. place < length stops) places j within hj))
    (AllPairs-from_increasing places rising))

-- the changes to the places that are named are all changes from the stop
pub partners_suffice : (stops : List Stop) (from : Stop) (seconds : Stop → Option ℕ) (ids : List (List ℕ)) (places : List ℕ) → InStopOrder stops → Gains stops ids [] places → IsStrictlyIncreasing places
    → ((to : Stop) (n : ℕ) → seconds to ≡ Some n → IsNamed ids to) → changes_to seconds from (stops_at stops from places) ≡ changes_to seconds from stops
partners_suffice stops from seconds ids places strict gains rising named =
    let make : Stop → Option Change = λ to. option_map (timed_change from.id to.id) (seconds to) in
    let within : All (λ place. place < length stops) places = named_within stops ids places gains in
    strict_lists_are_one change_cmp change_cmp_total (changes_to seconds from (stops_at stops from places)) (changes_to seconds from stops)
    (InChangeOrder-changes_to seconds from (stops_at stops from places) (InStopOrder-stops_at stops from places strict within rising))
    (InChangeOrder-changes_to seconds from stops strict)
    (λ c h.
    let made = IsMade-filter_map make (stops_at stops from places) c h in
    let at = ComesFrom-map (λ place. get_or stops place from) places made.from made.stands in
    let inside : at.from < length stops = All-contains (λ place. place < length stops) places at.from within at.stands in
    Contains-filter_map make stops made.from c (subst (λ v. Contains stops v) at.is (All-contains_itself stops at.from from inside)) made.is)
    (λ c h.
    let made = IsMade-filter_map make stops c h in
    let timed = is_timed seconds from made.from c made.is in
    let place : ℕ = made.stands.0 in
    let inside : place < length stops = made.stands.1 in
    let is : get_or stops place made.from ≡ made.from = made.stands.2 in
    let one = place_named stops place made.from ids (slice_get_read stops (length stops) place made.from refl inside (sym is)) (named made.from timed.given timed.is_given) in
    let there : Contains places place = (gains place).1 (inr one) in
    let same : get_or stops place from ≡ made.from = get_or_default stops place from made.from inside ∙ is in
    Contains-filter_map make (stops_at stops from places) made.from c
    (subst (λ v. Contains (stops_at stops from places) v) same (Contains-map (λ place. get_or stops place from) places place there)) made.is)

filter_map_same : {X Y : Type 0} (f g : X → Option Y) (xs : List X) → ((x : X) → f x ≡ g x) → filter_map f xs ≡ filter_map g xs
filter_map_same f g [] same = refl
filter_map_same f g (x ∷ xs) same = ap (λ o. cons_option o (filter_map f xs)) (same x) ∙ ap (λ v. cons_option (g x) v) (filter_map_same f g xs same)

-- What is made for a stop with its rows: all changes from it, as the file says.
pub made_here : (transfers : List Transfer) (rows : List Row) (stops : List Stop) (default : ℕ) (stop : Stop) (places : List ℕ) → AreSortedRows transfers rows → InStopOrder stops
    → Gains stops (named_ids stop (rows_from rows (Some stop.id)) (rows_from rows stop.parent)) [] places → IsStrictlyIncreasing places
    → changes_to (seconds_by (rows_from rows (Some stop.id)) (rows_from rows stop.parent) default stop) stop (stops_at stops stop places) ≡ changes_to (given_seconds transfers default stop) stop stops
made_here transfers rows stops default stop places are strict gains rising =
    partners_suffice stops stop (seconds_by (rows_from rows (Some stop.id)) (rows_from rows stop.parent) default stop) _ places strict gains rising
    (λ to n e. seconds_name (rows_from rows (Some stop.id)) (rows_from rows stop.parent) default stop to n e)
    ∙ filter_map_same (λ (to : Stop). option_map (timed_change stop.id to.id) (seconds_by (rows_from rows (Some stop.id)) (rows_from rows stop.parent) default stop to)) (λ (to : Stop). option_map (timed_change stop.id to.id) (given_seconds transfers default stop to)) stops
    (λ to. ap (option_map (timed_change stop.id to.id)) (seconds_are_given transfers rows are default stop to))

-- the rows of an origin are sorted by the stops that they reach
pub origin_sorted : (rows own : List Row) (from : Option (List ℕ)) → IsSorted row_cmp rows → own ≡ rows_from rows from → IsSorted (on target id_cmp) own
origin_sorted rows own from sorted is =
    subst (IsSorted (on target id_cmp)) (sym is) (IsSorted-rows_from rows from sorted)

-- what is made for an origin: all changes from its stop
pub made_there : (transfers : List Transfer) (rows slice own of_parent : List Row) (stops : List Stop) (default : ℕ) (stop origin : Stop) (places listed : List ℕ) → AreSortedRows transfers rows → InStopOrder stops
    → slice ≡ rows → own ≡ rows_from slice (Some stop.id) → of_parent ≡ rows_from slice stop.parent → origin ≡ stop → listed ≡ places
    → Gains stops (named_ids origin own of_parent) [] places → IsStrictlyIncreasing places
    → changes_to (seconds_by own of_parent default origin) origin (stops_at stops origin listed) ≡ changes_to (given_seconds transfers default stop) stop stops
made_there transfers rows slice own of_parent stops default stop origin places listed are strict same own_is of_is origin_is listed_is gains rising =
    let own' : List Row = rows_from rows (Some stop.id) in
    let of' : List Row = rows_from rows stop.parent in
    let e : own ≡ own' = own_is ∙ ap (λ v. rows_from v (Some stop.id)) same in
    let f : of_parent ≡ of' = of_is ∙ ap (λ v. rows_from v stop.parent) same in
    let gains' : Gains stops (named_ids stop own' of') [] places =
    subst (λ v. Gains stops (named_ids v own' of') [] places) origin_is (subst (λ v. Gains stops (named_ids origin v of') [] places) e (subst (λ v. Gains stops (named_ids origin own v) [] places) f gains)) in
    ap (λ v. changes_to (seconds_by v of_parent default origin) origin (stops_at stops origin listed)) e
    ∙ ap (λ v. changes_to (seconds_by own' v default origin) origin (stops_at stops origin listed)) f
    ∙ ap (λ v. changes_to (seconds_by own' of' default v) v (stops_at stops v listed)) origin_is
    ∙ ap (λ v. changes_to (seconds_by own' of' default stop) stop (stops_at stops stop v)) listed_is
    ∙ made_here transfers rows stops default stop places are strict gains' rising
