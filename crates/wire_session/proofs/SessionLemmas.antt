-- What a session stands for when it is made, when bytes were sent, and when a piece was heard.
use Rattle.std.proofs.Common.{◌≡◌, ◌≢◌, ℕ, true, List, [], ◌++◌, take, drop, sym, ap, subst, ◌∙◌, append_assoc, take-append-drop}
use Rattle.lc_world.specs.Sides.Side.{Side}
use Rattle.wire_session.specs.Stands.{Held, IsCutShort, IsOutput, IsWaiting, Stands, StandsIn, fresh}
use Rattle.wire_session.specs.declared.phase.Phase.{Phase}
use Rattle.wire_session.specs.declared.phase.Phase.TheVariants.{Open, Ended, Spent}
use Rattle.wire_session.proofs.StandLemmas.{at_start, dropped}

pub made_stands : (pending waiting : List ℕ) (most : ℕ) → pending ≡ [] → waiting ≡ [] → most ≡ 0 → (side : Side)
    → Stands (record { pending = pending; requests = 0; phase = Open; waiting = waiting; waits_for = most }) side [] [] side
unfolding Stands
made_stands pending waiting most none nothing zero side =
    subst (λ (n : ℕ). IsWaiting side [] pending 0 side waiting n) (sym zero)
    (subst (λ (w : List ℕ). IsWaiting side [] pending 0 side w 0) (sym nothing)
    (subst (λ (p : List ℕ). IsWaiting side [] p 0 side [] 0) (sym none) (at_start side)))

pub fresh_is : (pending waiting : List ℕ) (most : ℕ) → pending ≡ [] → waiting ≡ [] → most ≡ 0
    → record { pending = pending; requests = 0; phase = Open; waiting = waiting; waits_for = most } ≡ fresh
fresh_is pending waiting most none nothing zero = cc

-- ---- bytes that are sent

sent_in : (phase : Phase) (held : Held) (left : List ℕ) (start : Side) (fed text same : List ℕ) (side : Side) → text ≡ same
    → StandsIn phase held start fed text side → StandsIn phase (record held { pending = left }) start fed same side
sent_in Open held left start fed text same side e stands =
    subst (λ (x : List ℕ). IsWaiting start fed x held.requests side held.waiting held.waits_for) e stands
sent_in Ended held left start fed text same side e stands = subst (λ (x : List ℕ). IsOutput start fed x held.requests side true) e stands
sent_in Spent held left start fed text same side e stands = subst (λ (x : List ℕ). IsCutShort start fed x held.requests side) e stands

pub sent_stands : (held : Held) (count : ℕ) (left : List ℕ) → left ≡ drop count held.pending → (start : Side) (fed sent : List ℕ) (side : Side)
    → Stands held start fed sent side → Stands (record held { pending = left }) start fed (sent ++ take count held.pending) side
unfolding Stands
sent_stands held count left is start fed sent side stands =
    let front : List ℕ = take count held.pending in
    let same : sent ++ held.pending ≡ (sent ++ front) ++ left =
    ap (λ (x : List ℕ). sent ++ x) (sym (take-append-drop count held.pending) ∙ ap (λ (x : List ℕ). front ++ x) (sym is))
    ∙ sym (append_assoc sent front left) in
    sent_in held.phase held left start fed (sent ++ held.pending) ((sent ++ front) ++ left) side same stands

-- ---- pieces

pub waits_where_open : (held : Held) (start : Side) (fed sent : List ℕ) (side : Side) → held.phase ≡ Open → Stands held start fed sent side
    → IsWaiting start fed (sent ++ held.pending) held.requests side held.waiting held.waits_for
unfolding Stands
waits_where_open held start fed sent side is stands = subst (λ (p : Phase). StandsIn p held start fed (sent ++ held.pending) side) is stands

pub open_where_waits : (held : Held) (start : Side) (fed sent : List ℕ) (side : Side) → held.phase ≡ Open
    → IsWaiting start fed (sent ++ held.pending) held.requests side held.waiting held.waits_for → Stands held start fed sent side
unfolding Stands
open_where_waits held start fed sent side is waits = subst (λ (p : Phase). StandsIn p held start fed (sent ++ held.pending) side) (sym is) waits

pub ended_stands : (held : Held) (start : Side) (fed sent : List ℕ) (side : Side) → held.phase ≡ Ended
    → IsOutput start fed (sent ++ held.pending) held.requests side true → Stands held start fed sent side
unfolding Stands
ended_stands held start fed sent side is out = subst (λ (p : Phase). StandsIn p held start fed (sent ++ held.pending) side) (sym is) out

pub spent_stands : (held : Held) (start : Side) (fed sent : List ℕ) (side : Side) → held.phase ≡ Spent
    → IsCutShort start fed (sent ++ held.pending) held.requests side → Stands held start fed sent side
unfolding Stands
spent_stands held start fed sent side is cut = subst (λ (p : Phase). StandsIn p held start fed (sent ++ held.pending) side) (sym is) cut

ended_is_not_open : Ended ≢ Open
ended_is_not_open e = cc

spent_is_not_open : Spent ≢ Open
spent_is_not_open e = cc

drops : (held : Held) (phase : Phase) (start : Side) (fed sent : List ℕ) (side : Side) (piece : List ℕ) → held.phase ≡ phase → phase ≢ Open
    → Stands held start fed sent side → Stands held start (fed ++ piece) sent side
unfolding Stands
drops held phase start fed sent side piece is other stands =
    dropped held.phase held start fed (sent ++ held.pending) side piece (λ e. other (sym is ∙ e)) stands

pub ended_drops : (held : Held) (start : Side) (fed sent : List ℕ) (side : Side) (piece : List ℕ) → held.phase ≡ Ended
    → Stands held start fed sent side → Stands held start (fed ++ piece) sent side
ended_drops held start fed sent side piece is stands = drops held Ended start fed sent side piece is ended_is_not_open stands

pub spent_drops : (held : Held) (start : Side) (fed sent : List ℕ) (side : Side) (piece : List ℕ) → held.phase ≡ Spent
    → Stands held start fed sent side → Stands held start (fed ++ piece) sent side
spent_drops held start fed sent side piece is stands = drops held Spent start fed sent side piece is spent_is_not_open stands
