-- The connections of a list in departure order, one after the other.
use Rattle.std.proofs.Common.{◌≡◌, ℕ, ◌+◌, ◌<◌, ◌≤◌, suc, zero, List, [], ◌∷◌, ◌++◌, Some, length, get_or, take, refl, sym, ◌∙◌, ap, subst}
use Rattle.std.specs.Prelude.{nat_le}
use Rattle.std.specs.List.{slice_get}
use Rattle.std.specs.declared.cmp.Ordering.TheVariants.{Less}
use Rattle.std.proofs.lemmas.List.{take_more, take_all, append_assoc, append-nil}
use Rattle.std.proofs.lemmas.Option.{slice_get_within, slice_get-get_or, get_or_from_slice_get}
use Rattle.lc_model.specs.Connection.{InDepartureOrder, NoneArrivesEarly, departure_cmp}
use Rattle.lc_model.specs.Leg.{in_time}
use Rattle.lc_model.specs.Question.{latest_of}
use Rattle.lc_model.specs.declared.connection.Connection.{Connection}
use Rattle.lc_model.specs.declared.doc.StopsDoc.{StopsDoc}
use Rattle.lc_model.specs.declared.key.RunKey.{RunKey}
use Rattle.lc_model.specs.declared.query.Query.{Query}
use Rattle.csa_scan.specs.Kept.{Kept}
use Rattle.csa_scan.specs.Next.{IsNext}
use Rattle.csa_scan.specs.Numbers.{AreDistinct, AreNumbersOf}
use Rattle.csa_scan.specs.Stands.{Stands}
use Rattle.csa_scan.proofs.ListPlacesLemmas.{slice_get-append, slice_get-filter}
use Rattle.lc_model.proofs.ConnectionLemmas.{departs_by}

here : {X : Type 0} (list : List X) (c : X) (rest : List X) → slice_get (list ++ c ∷ rest) (length list) ≡ Some c
here [] c rest = refl
here (x ∷ list) c rest = here list c rest

-- each item before the last of a list in order departs by it
behind_all : (list : List Connection) (c : Connection) (rest : List Connection) → InDepartureOrder (list ++ c ∷ rest) → (place : ℕ) (x : Connection) → slice_get list place ≡ Some x → x.dep ≤ c.dep
behind_all list c rest h place x e =
    let l = slice_get_within list place x e in
    let whole = list ++ c ∷ rest in
    let at_x = slice_get-append list (c ∷ rest) place x e in
    let at_c = here list c rest in
    let m = slice_get_within whole (length list) c at_c in
    let P : Connection → Type 0 = λ y. departure_cmp y (get_or whole (length list) x) ≡ Less in
    let Q : Connection → Type 0 = λ y. departure_cmp x y ≡ Less in
    departs_by x c (subst Q (get_or_from_slice_get whole (length list) c x at_c) (subst P (get_or_from_slice_get whole place x x at_x) (h place (length list) x l m)))

-- a list in order, cut before one of its connections
cut : (taken list : List Connection) (i : ℕ) (c : Connection) → slice_get list i ≡ Some c → (rest : List Connection) × (taken ++ list ≡ (taken ++ take i list) ++ c ∷ rest)
cut taken [] i c e = absurd (cc)
cut taken (d ∷ list) zero c e = (list, ap (λ (x : Connection). taken ++ x ∷ list) (let f : d ≡ c = cc in f) ∙ ap (λ l. l ++ c ∷ list) (sym (append-nil taken)))
cut taken (d ∷ list) (suc i) c e =
    let r = cut (taken ++ d ∷ []) list i c e in
    (r.0, sym (append_assoc taken (d ∷ []) list) ∙ r.1 ∙ ap (λ l. l ++ c ∷ r.0) (append_assoc taken (d ∷ []) (take i list)))

-- the connection at a place is the next one after those before it
pub next_at : (query : Query) (runs : List RunKey) (taken list : List Connection) (numbers : List ℕ) → AreDistinct runs → AreNumbersOf runs list numbers → InDepartureOrder (taken ++ list) → NoneArrivesEarly list →
    (i : ℕ) (c : Connection) → i < length list → c ≡ get_or list i c → (run : ℕ) → slice_get numbers i ≡ Some run → IsNext runs (in_time query (taken ++ take i list)) run c
next_at query runs taken list numbers distinct are in_order early i c l at run is =
    let e = slice_get-get_or list i c l ∙ ap Some (sym at) in
    let n = are.is_number i c e in
    let r = cut taken list i c e in
    let P : List Connection → Type 0 = InDepartureOrder in
    let cut_order = subst P r.1 in_order in
    let K : ℕ → Type 0 = λ k. slice_get runs k ≡ Some c.key in
    let same : n.0 ≡ run = let f = n.1 in cc in
    let F : Connection → Type 0 = λ x. x.dep ≤ x.arr in
    record {
      unique = distinct;
      is_run = subst K same n.2;
      behind = λ place x f. let w = slice_get-filter (λ (y : Connection). nat_le y.arr (latest_of query)) (taken ++ take i list) place x f in
          behind_all (taken ++ take i list) c r.0 cut_order w.0.0 x w.0.1;
      forward = subst F (sym at) (early i c l);
    }

-- one connection more of the list
pub more_taken : (query : Query) (doc : StopsDoc) (runs : List RunKey) (kept : Kept) (taken list : List Connection) (i : ℕ) (c : Connection) → i < length list → c ≡ get_or list i c →
    Stands query doc runs kept (in_time query ((taken ++ take i list) ++ c ∷ [])) → Stands query doc runs kept (in_time query (taken ++ take (i + 1) list))
more_taken query doc runs kept taken list i c l at s =
    let P : List Connection → Type 0 = λ cs. Stands query doc runs kept (in_time query cs) in
    let more = append_assoc taken (take i list) (c ∷ []) ∙ ap (λ cs. taken ++ cs) (sym (take_more list i c l ∙ ap (λ (x : Connection). take i list ++ x ∷ []) (sym at))) in
    subst P more s

-- all of the list
pub all_taken : (query : Query) (doc : StopsDoc) (runs : List RunKey) (kept : Kept) (taken list : List Connection) (i : ℕ) → length list ≤ i → Stands query doc runs kept (in_time query (taken ++ take i list)) →
    Stands query doc runs kept (in_time query (taken ++ list))
all_taken query doc runs kept taken list i l s = let P : List Connection → Type 0 = λ cs. Stands query doc runs kept (in_time query (taken ++ cs)) in subst P (take_all i list l) s
