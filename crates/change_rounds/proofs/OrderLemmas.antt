-- The connections of a round, one after the other.
use Rattle.std.proofs.Common.{◌≡◌, ℕ, ◌+◌, ◌<◌, ◌≤◌, List, [], ◌∷◌, ◌++◌, Some, length, get_or, take, sym, ◌∙◌, ap, subst}
use Rattle.std.specs.List.{slice_get}
use Rattle.std.proofs.lemmas.List.{take_all, take_more}
use Rattle.std.proofs.lemmas.Option.{slice_get-get_or}
use Rattle.lc_model.specs.Leg.{in_time}
use Rattle.lc_model.specs.declared.connection.Connection.{Connection}
use Rattle.lc_model.specs.declared.doc.StopsDoc.{StopsDoc}
use Rattle.lc_model.specs.declared.key.RunKey.{RunKey}
use Rattle.lc_model.specs.declared.query.Query.{Query}
use Rattle.csa_scan.specs.Kept.{Kept}
use Rattle.csa_scan.specs.Numbers.{AreNumbersOf}
use Rattle.csa_scan.specs.declared.trace.Arrival.{Arrival}
use Rattle.change_rounds.specs.InRound.{StandsInRound}

-- the number at a place is that of the connection's run
pub run_at : (runs : List RunKey) (list : List Connection) (numbers : List ℕ) → AreNumbersOf runs list numbers → (i : ℕ) (c : Connection) → i < length list → c ≡ get_or list i c → (run : ℕ) → slice_get numbers i ≡ Some run →
    slice_get runs run ≡ Some c.key
run_at runs list numbers are i c l at run is =
    let n = are.is_number i c (slice_get-get_or list i c l ∙ ap Some (sym at)) in
    let K : ℕ → Type 0 = λ k. slice_get runs k ≡ Some c.key in
    let same : n.0 ≡ run = let f = n.1 in cc in
    subst K same n.2

-- one connection more of the list
pub more_taken : (query : Query) (doc : StopsDoc) (runs : List RunKey) (before : List Arrival) (kept : Kept) (list : List Connection) (i : ℕ) (c : Connection) → i < length list → c ≡ get_or list i c →
    StandsInRound query doc runs before kept (in_time query (take i list ++ c ∷ [])) → StandsInRound query doc runs before kept (in_time query (take (i + 1) list))
more_taken query doc runs before kept list i c l at s =
    let P : List Connection → Type 0 = λ cs. StandsInRound query doc runs before kept (in_time query cs) in
    subst P (sym (take_more list i c l ∙ ap (λ (x : Connection). take i list ++ x ∷ []) (sym at))) s

-- all of the list
pub all_taken : (query : Query) (doc : StopsDoc) (runs : List RunKey) (before : List Arrival) (kept : Kept) (list : List Connection) (i : ℕ) → length list ≤ i →
    StandsInRound query doc runs before kept (in_time query (take i list)) → StandsInRound query doc runs before kept (in_time query list)
all_taken query doc runs before kept list i l s = let P : List Connection → Type 0 = λ cs. StandsInRound query doc runs before kept (in_time query cs) in subst P (take_all i list l) s
