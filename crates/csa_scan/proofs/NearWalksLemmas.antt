-- The nearest ends of a question say its walks.
use Rattle.std.proofs.Common.{◌≡◌, ℕ, ◌<◌, List, Option, Some, None, length, refl, sym, ◌∙◌, ap, subst, inl, inr, arith}
use Rattle.std.specs.List.{slice_get}
use Rattle.lc_model.specs.Question.{IsFrom, IsTo}
use Rattle.lc_model.specs.Stop.{HasStop}
use Rattle.lc_model.specs.Walk.{IsWalkAfter, IsWalkBefore, seconds_of}
use Rattle.lc_model.specs.declared.doc.StopsDoc.{StopsDoc}
use Rattle.lc_model.specs.declared.query.Query.{Query}
use Rattle.lc_model.specs.declared.walk.Walk.{Walk}
use Rattle.lc_model.proofs.WalksLemmas.{one_walk_after, one_walk_before}
use Rattle.csa_scan.specs.Near.{AreNear, IsFar, IsNear, IsWalkAt, MakesWalk, walk_of}
use Rattle.csa_scan.specs.Reach.{id_at}
use Rattle.csa_scan.specs.Stands.{IsAsked}
use Rattle.csa_scan.specs.declared.side.Side.TheVariants.{Before, After}
use Rattle.csa_scan.specs.declared.trace.Near.{Near}
use Rattle.csa_scan.proofs.ChangesLemmas.{HasStop-from_end, HasStop-from_place, change_takes_time, place_from_HasStop, place_from_change, place_to_change}
use Rattle.csa_scan.proofs.ListPlacesLemmas.{item_within}

-- a stop that has a place is one of the list
abbrev HasPlace : StopsDoc → List ℕ → Type 0
HasPlace doc stop = (place : ℕ) × (place < length doc.stops) × (id_at doc.stops place ≡ stop)

-- the stop of a walk has a place
pub place_of_start : (query : Query) (doc : StopsDoc) → IsAsked query doc → (stop : List ℕ) (walk : Option Walk) → IsWalkBefore query doc stop walk → HasPlace doc stop
place_of_start query doc asked stop None h = place_from_HasStop doc.stops stop (HasStop-from_end doc.stops query.from stop asked.from_known h)
place_of_start query doc asked stop (Some walk) h = place_to_change doc walk.from stop walk.seconds h.2.takes_so_long

pub place_of_end : (query : Query) (doc : StopsDoc) → IsAsked query doc → (stop : List ℕ) (walk : Option Walk) → IsWalkAfter query doc stop walk → HasPlace doc stop
place_of_end query doc asked stop None h = place_from_HasStop doc.stops stop (HasStop-from_end doc.stops query.to stop asked.to_known h)
place_of_end query doc asked stop (Some walk) h = place_from_change doc stop walk.to walk.seconds h.2.takes_so_long

-- who has a place is a stop
pub stop_of_place : (doc : StopsDoc) (stop : List ℕ) → HasPlace doc stop → HasStop doc.stops stop
stop_of_place doc stop p = let P : List ℕ → Type 0 = λ id. HasStop doc.stops id in subst P p.2 (HasStop-from_place doc.stops p.0 p.1)

-- the walk that the nearest end says
walk_before : (query : Query) (doc : StopsDoc) (stop : List ℕ) (n : Near) → IsNear Before doc.stops doc.changes query.from stop n →
    (walk : Option Walk) × IsWalkBefore query doc stop walk × (seconds_of walk ≡ n.seconds)
walk_before query doc stop n (inl here) = (None, here.0, sym here.1)
walk_before query doc stop n (inr far) = (Some (walk_of Before stop (id_at doc.stops n.place) n.seconds), (far.0, refl, far.1), refl)

walk_after : (query : Query) (doc : StopsDoc) (stop : List ℕ) (n : Near) → IsNear After doc.stops doc.changes query.to stop n →
    (walk : Option Walk) × IsWalkAfter query doc stop walk × (seconds_of walk ≡ n.seconds)
walk_after query doc stop n (inl here) = (None, here.0, sym here.1)
walk_after query doc stop n (inr far) = (Some (walk_of After stop (id_at doc.stops n.place) n.seconds), (far.0, refl, far.1), refl)

pub start_walk : (query : Query) (doc : StopsDoc) (starts : List (Option Near)) → AreNear Before doc.stops doc.changes query.from starts →
    (stop : ℕ) (id : List ℕ) → id_at doc.stops stop ≡ id → (n : Near) → slice_get starts stop ≡ Some (Some n) → (walk : Option Walk) × IsWalkBefore query doc id walk × (seconds_of walk ≡ n.seconds)
start_walk query doc starts h stop id at n e =
    let P : List ℕ → Type 0 = λ x. (walk : Option Walk) × IsWalkBefore query doc x walk × (seconds_of walk ≡ n.seconds) in
    subst P at (walk_before query doc (id_at doc.stops stop) n (h.is_near stop n e))

pub end_walk : (query : Query) (doc : StopsDoc) (ends : List (Option Near)) → AreNear After doc.stops doc.changes query.to ends →
    (stop : ℕ) (n : Near) → slice_get ends stop ≡ Some (Some n) → (walk : Option Walk) × IsWalkAfter query doc (id_at doc.stops stop) walk × (seconds_of walk ≡ n.seconds)
end_walk query doc ends h stop n e = walk_after query doc (id_at doc.stops stop) n (h.is_near stop n e)

-- where a walk is, there is a nearest end
no_walk_before : (query : Query) (doc : StopsDoc) (stop : List ℕ) → IsFar Before doc.stops doc.changes query.from stop → (walk : Option Walk) → IsWalkBefore query doc stop walk → ⊥
no_walk_before query doc stop far None h = far.no_end h
no_walk_before query doc stop far (Some walk) h = far.no_walk walk.from walk.seconds h.2.is_an_end h.2.takes_so_long

no_walk_after : (query : Query) (doc : StopsDoc) (stop : List ℕ) → IsFar After doc.stops doc.changes query.to stop → (walk : Option Walk) → IsWalkAfter query doc stop walk → ⊥
no_walk_after query doc stop far None h = far.no_end h
no_walk_after query doc stop far (Some walk) h = far.no_walk walk.to walk.seconds h.2.is_an_end h.2.takes_so_long

-- the nearest end at a place, as far away as the walk takes
abbrev pub IsFound : List (Option Near) → ℕ → Option Walk → Type 0
IsFound near stop walk = (n : Near) × (slice_get near stop ≡ Some (Some n)) × (n.seconds ≡ seconds_of walk)

start_item : (query : Query) (doc : StopsDoc) (starts : List (Option Near)) → AreNear Before doc.stops doc.changes query.from starts → (stop : ℕ) (id : List ℕ) → id_at doc.stops stop ≡ id →
    (walk : Option Walk) → IsWalkBefore query doc id walk → (o : Option Near) → slice_get starts stop ≡ Some o → IsFound starts stop walk
start_item query doc starts h stop id at walk w None e =
    let P : List ℕ → Type 0 = λ x. IsFar Before doc.stops doc.changes query.from x in
    absurd (no_walk_before query doc id (subst P at (h.is_far stop e)) walk w)
start_item query doc starts h stop id at walk w (Some n) e =
    let s = start_walk query doc starts h stop id at n e in
    (n, e, sym s.2 ∙ ap seconds_of (one_walk_before query doc id s.0 walk s.1 w))

pub start_found : (query : Query) (doc : StopsDoc) (starts : List (Option Near)) → AreNear Before doc.stops doc.changes query.from starts → (stop : ℕ) → stop < length doc.stops →
    (id : List ℕ) → id_at doc.stops stop ≡ id → (walk : Option Walk) → IsWalkBefore query doc id walk → IsFound starts stop walk
start_found query doc starts h stop l id at walk w =
    let x = item_within starts stop (let same = h.same_stops in omega arith) in
    start_item query doc starts h stop id at walk w x.0 x.1

end_item : (query : Query) (doc : StopsDoc) (ends : List (Option Near)) → AreNear After doc.stops doc.changes query.to ends → (stop : ℕ) (id : List ℕ) → id_at doc.stops stop ≡ id →
    (walk : Option Walk) → IsWalkAfter query doc id walk → (o : Option Near) → slice_get ends stop ≡ Some o → IsFound ends stop walk
end_item query doc ends h stop id at walk w None e =
    let P : List ℕ → Type 0 = λ x. IsFar After doc.stops doc.changes query.to x in
    absurd (no_walk_after query doc id (subst P at (h.is_far stop e)) walk w)
end_item query doc ends h stop id at walk w (Some n) e =
    let s = end_walk query doc ends h stop n e in
    let P : List ℕ → Type 0 = λ x. IsWalkAfter query doc x s.0 in
    (n, e, sym s.2 ∙ ap seconds_of (one_walk_after query doc id s.0 walk (subst P at s.1) w))

pub end_found : (query : Query) (doc : StopsDoc) (ends : List (Option Near)) → AreNear After doc.stops doc.changes query.to ends → (stop : ℕ) → stop < length doc.stops →
    (id : List ℕ) → id_at doc.stops stop ≡ id → (walk : Option Walk) → IsWalkAfter query doc id walk → IsFound ends stop walk
end_found query doc ends h stop l id at walk w =
    let x = item_within ends stop (let same = h.same_stops in omega arith) in
    end_item query doc ends h stop id at walk w x.0 x.1

-- a walk takes time
before_takes_time : (query : Query) (doc : StopsDoc) (stop : List ℕ) (n : Near) → n.seconds ≡ 0 → IsNear Before doc.stops doc.changes query.from stop n → IsFrom doc.stops query stop
before_takes_time query doc stop n zero (inl here) = here.0
before_takes_time query doc stop n zero (inr far) = absurd (let t = change_takes_time doc.changes (id_at doc.stops n.place) stop n.seconds far.1.takes_so_long in omega arith)

after_takes_time : (query : Query) (doc : StopsDoc) (stop : List ℕ) (n : Near) → n.seconds ≡ 0 → IsNear After doc.stops doc.changes query.to stop n → IsTo doc.stops query stop
after_takes_time query doc stop n zero (inl here) = here.0
after_takes_time query doc stop n zero (inr far) = absurd (let t = change_takes_time doc.changes stop (id_at doc.stops n.place) n.seconds far.1.takes_so_long in omega arith)

-- the walk that was made is the one of the question
before_is : (query : Query) (doc : StopsDoc) (stop : List ℕ) (n : Near) (walk : Option Walk) → MakesWalk Before stop (id_at doc.stops n.place) n.seconds walk →
    IsNear Before doc.stops doc.changes query.from stop n → IsWalkBefore query doc stop walk
before_is query doc stop n None zero near = before_takes_time query doc stop n zero near
before_is query doc stop n (Some walk) made (inl here) = absurd (let l = made.0 in let z = here.1 in omega arith)
before_is query doc stop n (Some walk) made (inr far) =
    let P : Walk → Type 0 = λ w. IsWalkBefore query doc stop (Some w) in
    subst P (sym made.1) (far.0, refl, far.1)

after_is : (query : Query) (doc : StopsDoc) (stop : List ℕ) (n : Near) (walk : Option Walk) → MakesWalk After stop (id_at doc.stops n.place) n.seconds walk →
    IsNear After doc.stops doc.changes query.to stop n → IsWalkAfter query doc stop walk
after_is query doc stop n None zero near = after_takes_time query doc stop n zero near
after_is query doc stop n (Some walk) made (inl here) = absurd (let l = made.0 in let z = here.1 in omega arith)
after_is query doc stop n (Some walk) made (inr far) =
    let P : Walk → Type 0 = λ w. IsWalkAfter query doc stop (Some w) in
    subst P (sym made.1) (far.0, refl, far.1)

-- where there is a walk, the one that was made is it
pub made_before : (query : Query) (doc : StopsDoc) → IsAsked query doc → (starts : List (Option Near)) → AreNear Before doc.stops doc.changes query.from starts →
    (stop : List ℕ) (walk made : Option Walk) → IsWalkBefore query doc stop walk → IsWalkAt Before doc.stops starts stop made → IsWalkBefore query doc stop made
made_before query doc asked starts h stop walk made w at =
    let p = place_of_start query doc asked stop walk w in
    let s = start_found query doc starts h p.0 p.1 stop p.2 walk w in
    let P : List ℕ → Type 0 = λ id. IsNear Before doc.stops doc.changes query.from id s.0 in
    before_is query doc stop s.0 made (at p.0 p.1 p.2 s.0 s.1) (subst P p.2 (h.is_near p.0 s.0 s.1))

pub made_after : (query : Query) (doc : StopsDoc) → IsAsked query doc → (ends : List (Option Near)) → AreNear After doc.stops doc.changes query.to ends →
    (stop : List ℕ) (walk made : Option Walk) → IsWalkAfter query doc stop walk → IsWalkAt After doc.stops ends stop made → IsWalkAfter query doc stop made
made_after query doc asked ends h stop walk made w at =
    let p = place_of_end query doc asked stop walk w in
    let s = end_found query doc ends h p.0 p.1 stop p.2 walk w in
    let P : List ℕ → Type 0 = λ id. IsNear After doc.stops doc.changes query.to id s.0 in
    after_is query doc stop s.0 made (at p.0 p.1 p.2 s.0 s.1) (subst P p.2 (h.is_near p.0 s.0 s.1))
