-- In departure order each connection departs no later than those after it.
use Rattle.std.proofs.Common.{◌≡◌, ℕ, ◌<◌, ◌≤◌, suc, zero, List, [], ◌∷◌, ◌++◌, Some, length, get_or, drop, sym, ◌∙◌, ap, subst, arith}
use Rattle.std.specs.Prelude.{nat_le}
use Rattle.std.specs.List.{slice_get}
use Rattle.std.specs.declared.cmp.Ordering.TheVariants.{Less}
use Rattle.std.proofs.Math.Seq.{drop-cons, drop-length}
use Rattle.std.proofs.lemmas.Option.{get_or_from_slice_get, slice_get-get_or, slice_get_within}
use Rattle.lc_model.specs.Connection.{InDepartureOrder, NoneArrivesEarly, departure_cmp}
use Rattle.lc_model.specs.Leg.{in_time}
use Rattle.lc_model.specs.Question.{latest_of}
use Rattle.lc_model.specs.declared.connection.Connection.{Connection}
use Rattle.lc_model.specs.declared.doc.StopsDoc.{StopsDoc}
use Rattle.lc_model.specs.declared.key.RunKey.{RunKey}
use Rattle.lc_model.specs.declared.query.Query.{Query}
use Rattle.lc_model.proofs.ConnectionLemmas.{departs_by}
use Rattle.csa_scan.specs.Numbers.{AreDistinct, AreNumbersOf}
use Rattle.csa_scan.proofs.ListPlacesLemmas.{slice_get-append, slice_get-filter}
use Rattle.back_scan.specs.Before.{IsBefore}
use Rattle.back_scan.specs.Kept.{Kept}
use Rattle.back_scan.specs.Stands.{Stands}

-- what is after the first places of a list is in the whole, so much later
after_drop : {X : Type 0} (n : ℕ) (xs ys : List X) → n ≤ length xs → (k : ℕ) (x : X) → slice_get (drop n xs ++ ys) k ≡ Some x → (j : ℕ) × (n ≤ j) × (slice_get (xs ++ ys) j ≡ Some x)
after_drop zero xs ys l k x e = (k, (omega arith), e)
after_drop (suc n) [] ys l k x e = absurd (omega arith)
after_drop (suc n) (z ∷ xs) ys l k x e = let r = after_drop n xs ys (omega arith) k x e in let m = r.1 in (suc r.0, (omega arith), r.2)

-- each item after one of a list in order departs no earlier
ahead_all : (whole : List Connection) → InDepartureOrder whole → (i j : ℕ) (c x : Connection) → i < j → slice_get whole i ≡ Some c → slice_get whole j ≡ Some x → c.dep ≤ x.dep
ahead_all whole h i j c x l at_c at_x =
    let m = slice_get_within whole j x at_x in
    let P : Connection → Type 0 = λ y. departure_cmp y (get_or whole j c) ≡ Less in
    let Q : Connection → Type 0 = λ y. departure_cmp c y ≡ Less in
    departs_by c x (subst Q (get_or_from_slice_get whole j x c at_x) (subst P (get_or_from_slice_get whole i c c at_c) (h i j c l m)))

-- the connection at a place is the one before those after it
pub before_at : (query : Query) (runs : List RunKey) (taken list : List Connection) (numbers : List ℕ) → AreDistinct runs → AreNumbersOf runs list numbers → InDepartureOrder (list ++ taken) → NoneArrivesEarly list →
    (i : ℕ) (c : Connection) → i < length list → c ≡ get_or list i c → (run : ℕ) → slice_get numbers i ≡ Some run → IsBefore runs (in_time query (drop (suc i) list ++ taken)) run c
before_at query runs taken list numbers distinct are in_order early i c l at run is =
    let e = slice_get-get_or list i c l ∙ ap Some (sym at) in
    let n = are.is_number i c e in
    let K : ℕ → Type 0 = λ k. slice_get runs k ≡ Some c.key in
    let same : n.0 ≡ run = let f = n.1 in cc in
    let F : Connection → Type 0 = λ x. x.dep ≤ x.arr in
    let at_c = slice_get-append list taken i c e in
    record {
      unique = distinct;
      is_run = subst K same n.2;
      ahead = λ place x f. let w = slice_get-filter (λ (y : Connection). nat_le y.arr (latest_of query)) (drop (suc i) list ++ taken) place x f in
          let j = after_drop (suc i) list taken (omega arith) w.0.0 x w.0.1 in
          let m = j.1 in
          ahead_all (list ++ taken) in_order i j.0 c x (omega arith) at_c j.2;
      forward = subst F (sym at) (early i c l);
    }

-- one connection more of the list
pub more_taken : (query : Query) (doc : StopsDoc) (runs : List RunKey) (kept : Kept) (taken list : List Connection) (i : ℕ) (c : Connection) → i < length list → c ≡ get_or list i c →
    Stands query doc runs kept (in_time query (c ∷ (drop (suc i) list ++ taken))) → Stands query doc runs kept (in_time query (drop i list ++ taken))
more_taken query doc runs kept taken list i c l at s =
    let P : List Connection → Type 0 = λ cs. Stands query doc runs kept (in_time query (cs ++ taken)) in
    let more = drop-cons list i c l ∙ ap (λ (x : Connection). x ∷ drop (suc i) list) (sym at) in
    subst P (sym more) s

-- nothing of the list yet
pub none_taken : (query : Query) (doc : StopsDoc) (runs : List RunKey) (kept : Kept) (taken list : List Connection) (n : ℕ) → n ≡ length list → Stands query doc runs kept (in_time query taken) →
    Stands query doc runs kept (in_time query (drop n list ++ taken))
none_taken query doc runs kept taken list n e s =
    let P : List Connection → Type 0 = λ cs. Stands query doc runs kept (in_time query (cs ++ taken)) in
    subst P (sym (ap (λ k. drop k list) e ∙ drop-length list)) s

-- all of the list
pub all_taken : (query : Query) (doc : StopsDoc) (runs : List RunKey) (kept : Kept) (taken list : List Connection) (i : ℕ) → i ≤ 0 → Stands query doc runs kept (in_time query (drop i list ++ taken)) →
    Stands query doc runs kept (in_time query (list ++ taken))
all_taken query doc runs kept taken list zero l s = s
all_taken query doc runs kept taken list (suc i) l s = absurd (omega arith)
