-- Changes that are added, one after the other.
use Rattle.std.proofs.Common.{◌≡◌, ℕ, ◌+◌, ◌<◌, ◌≤◌, max, List, [], ◌∷◌, ◌++◌, Option, Some, None, Result, Ok, Err, length, get_or, take, drop, sym, ap, ◌∙◌, subst, refl, arith}
use Rattle.std.proofs.Props.{props}
use Rattle.std.proofs.Math.Nat.{le-max_left, max_comm}
use Rattle.std.specs.Prelude.{option_map}
use Rattle.std.specs.List.{cons_option, flat_map}
use Rattle.std.specs.Option.{option_to_list}
use Rattle.std.specs.Result.{IfErr, IsErrAnd}
use Rattle.std.proofs.lemmas.List.{append-nil, append_assoc, get_or_default, length-append, map-append, take-append-drop, take_more}
use Rattle.std.proofs.lemmas.List.Concat.{flat_map-append}
use Rattle.std.proofs.lemmas.List.Elements.{filter_map-append}
use Rattle.lc_model.specs.declared.change.Change.{Change}
use Rattle.lc_model.specs.declared.stop.Stop.{Stop}
use Rattle.change_table.specs.ChangeTable.{HasCause}
use Rattle.change_table.specs.Pairs.{changes_among, changes_to, timed_change}
use Rattle.change_table.specs.Partners.{stops_at}
use Rattle.change_table.specs.declared.fault.ChangeFault.{ChangeFault}
use Rattle.change_table.specs.declared.fault.ChangeFault.TheVariants.{TooManyChanges, NoMemory}

abbrev change : List ℕ → List ℕ → (seconds : ℕ) → 1 ≤ seconds → Change
change from to seconds takes = record { from = from; to = to; seconds = seconds; takes_time = takes }

takes_prop : (seconds : ℕ) → IsProp (1 ≤ seconds)
takes_prop seconds = hlevel props

same_seconds : (from to : List ℕ) (m n : ℕ) (p : 1 ≤ m) (q : 1 ≤ n) → m ≡ n → change from to m p ≡ change from to n q
same_seconds from to m n p q e =
    subst (λ (v : ℕ). (q : 1 ≤ v) → change from to m p ≡ change from to v q) e (λ q. ap (change from to m) (takes_prop m p q)) q

-- a change is its ends and its seconds
pub change_is : (c : Change) (from to : List ℕ) (n : ℕ) → c.from ≡ from → c.to ≡ to → c.seconds ≡ max 1 n → c ≡ timed_change from to n
change_is c from to n e f g =
    same_seconds c.from c.to c.seconds (max 1 n) c.takes_time (le-max_left 1 n) g
    ∙ ap (λ (v : List ℕ). timed_change v c.to n) e ∙ ap (λ (v : List ℕ). timed_change from v n) f

-- a fault has its cause also where there are more changes
pub HasCause-more : (fault : ChangeFault) (m n : ℕ) → m ≤ n → HasCause fault m → HasCause fault n
HasCause-more (TooManyChanges count) m n le (is, more) = (is, omega arith)
HasCause-more NoMemory m n le cause = tt

-- a fault that is handed on
pub cause_kept : {T : Type 0} (r : Result T ChangeFault) (fault : ChangeFault) (m n : ℕ) → IsErrAnd r (λ y. y ≡ fault) → m ≤ n → HasCause fault m → IfErr r (λ f. HasCause f n)
cause_kept (Ok x) fault m n handed le cause = tt
cause_kept (Err y) fault m n handed le cause = subst (λ f. HasCause f n) (sym handed) (HasCause-more fault m n le cause)

one_option : {X : Type 0} (o : Option X) → cons_option o [] ≡ option_to_list o
one_option None = refl
one_option (Some x) = refl

-- a change that was pushed is the one that is to be added
pub pushed_is : (items old : List Change) (c : Change) (from to : List ℕ) (n : ℕ) (seconds : Option ℕ) → items ≡ old ++ c ∷ [] → c.from ≡ from → c.to ≡ to → c.seconds ≡ max n 1 → seconds ≡ Some n
    → items ≡ old ++ option_to_list (option_map (timed_change from to) seconds)
pushed_is items old c from to n seconds pushed e f g given =
    pushed ∙ ap (λ v. old ++ v ∷ []) (change_is c from to n e f (g ∙ max_comm n 1))
    ∙ ap (λ o. old ++ option_to_list (option_map (timed_change from to) o)) (sym given)

changes_to-append : (seconds : Stop → Option ℕ) (from : Stop) (xs ys : List Stop) → changes_to seconds from (xs ++ ys) ≡ changes_to seconds from xs ++ changes_to seconds from ys
changes_to-append seconds from xs ys = filter_map-append (λ (to : Stop). option_map (timed_change from.id to.id) (seconds to)) xs ys

stops_at-append : (stops : List Stop) (other : Stop) (xs ys : List ℕ) → stops_at stops other (xs ++ ys) ≡ stops_at stops other xs ++ stops_at stops other ys
stops_at-append stops other xs ys = map-append (λ place. get_or stops place other) xs ys

changes_at-append : (seconds : Stop → Option ℕ) (from : Stop) (stops : List Stop) (xs ys : List ℕ)
    → changes_to seconds from (stops_at stops from (xs ++ ys)) ≡ changes_to seconds from (stops_at stops from xs) ++ changes_to seconds from (stops_at stops from ys)
changes_at-append seconds from stops xs ys =
    ap (changes_to seconds from) (stops_at-append stops from xs ys) ∙ changes_to-append seconds from (stops_at stops from xs) (stops_at stops from ys)

-- the changes to the stops of one more place
pub changes_more : (seconds : Stop → Option ℕ) (from : Stop) (stops : List Stop) (places : List ℕ) (i place : ℕ) (old now new : List Change) (to : Stop) (given : Option ℕ) → i < length places → place ≡ get_or places i 0 → to ≡ get_or stops place to → place < length stops
    → given ≡ seconds to → now ≡ old ++ changes_to seconds from (stops_at stops from (take i places)) → new ≡ now ++ option_to_list (option_map (timed_change from.id to.id) given)
    → new ≡ old ++ changes_to seconds from (stops_at stops from (take (i + 1) places))
changes_more seconds from stops places i place old now new to given inside is at within given_is so_far one =
    let front : List Change = changes_to seconds from (stops_at stops from (take i places)) in
    let last : get_or stops place from ≡ to = get_or_default stops place from to within ∙ sym at in
    let made : changes_to seconds from (stops_at stops from (place ∷ [])) ≡ option_to_list (option_map (timed_change from.id to.id) given) =
    ap (λ v. changes_to seconds from (v ∷ [])) last ∙ one_option (option_map (timed_change from.id to.id) (seconds to)) ∙ ap (λ o. option_to_list (option_map (timed_change from.id to.id) o)) (sym given_is) in
    let whole : changes_to seconds from (stops_at stops from (take (i + 1) places)) ≡ front ++ option_to_list (option_map (timed_change from.id to.id) given) =
    ap (λ v. changes_to seconds from (stops_at stops from v)) (take_more places i 0 inside ∙ ap (λ v. take i places ++ v ∷ []) (sym is))
    ∙ changes_at-append seconds from stops (take i places) (place ∷ []) ∙ ap (λ v. front ++ v) made in
    one ∙ ap (λ v. v ++ option_to_list (option_map (timed_change from.id to.id) given)) so_far
    ∙ append_assoc old front (option_to_list (option_map (timed_change from.id to.id) given)) ∙ ap (λ v. old ++ v) (sym whole)

-- all are no fewer than those of a front of the places
pub front_is_less : (seconds : Stop → Option ℕ) (from : Stop) (stops : List Stop) (places : List ℕ) (i : ℕ) (old : List Change)
    → length (old ++ changes_to seconds from (stops_at stops from (take i places))) ≤ length (old ++ changes_to seconds from (stops_at stops from places))
front_is_less seconds from stops places i old =
    let front : List Change = changes_to seconds from (stops_at stops from (take i places)) in
    let back : List Change = changes_to seconds from (stops_at stops from (drop i places)) in
    let whole : changes_to seconds from (stops_at stops from places) ≡ front ++ back =
    ap (λ v. changes_to seconds from (stops_at stops from v)) (sym (take-append-drop i places)) ∙ changes_at-append seconds from stops (take i places) (drop i places) in
    rw (whole, length-append old (front ++ back), length-append front back, length-append old front) (omega arith)

-- the changes from one more stop
pub among_more : (seconds : Stop → Stop → Option ℕ) (stops tos : List Stop) (i : ℕ) (stop : Stop) (now new : List Change) → i < length stops → stop ≡ get_or stops i stop → now ≡ changes_among seconds (take i stops) tos
    → new ≡ now ++ changes_to (seconds stop) stop tos → new ≡ changes_among seconds (take (i + 1) stops) tos
among_more seconds stops tos i stop now new inside is so_far one =
    let f : Stop → List Change = λ from. changes_to (seconds from) from tos in
    one ∙ ap (λ v. v ++ f stop) so_far
    ∙ ap (λ v. flat_map f (take i stops) ++ v) (sym (append-nil (f stop)))
    ∙ sym (flat_map-append f (take i stops) (stop ∷ []))
    ∙ ap (λ v. flat_map f (take i stops ++ v ∷ [])) is
    ∙ ap (flat_map f) (sym (take_more stops i stop inside))

-- all are no fewer than those of a front of the stops
pub among_front_is_less : (seconds : Stop → Stop → Option ℕ) (stops tos : List Stop) (i : ℕ) → length (changes_among seconds (take i stops) tos) ≤ length (changes_among seconds stops tos)
among_front_is_less seconds stops tos i =
    let f : Stop → List Change = λ from. changes_to (seconds from) from tos in
    let whole : flat_map f stops ≡ flat_map f (take i stops) ++ flat_map f (drop i stops) = ap (flat_map f) (sym (take-append-drop i stops)) ∙ flat_map-append f (take i stops) (drop i stops) in
    rw (whole, length-append (flat_map f (take i stops)) (flat_map f (drop i stops))) (omega arith)
