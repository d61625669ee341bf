-- What is said to bytes is one, and what is said to more bytes begins with it.
use Rattle.std.proofs.Common.{◌≡◌, ℕ, zero, suc, Bool, true, false, List, take, drop, sym, ap, subst, ◌∙◌}
use Rattle.http_text.specs.declared.request.Request.{Request}
use Rattle.http_text.specs.declared.taken.Taken.{Taken}
use Rattle.http_text.specs.declared.taken.Taken.TheVariants.{Whole, NotYet, Refused}
use Rattle.http_text.proofs.MessageLemmas.{one_request}
use Rattle.http_text.proofs.TakenLemmas.{one_answer}
use Rattle.lc_world.specs.Sides.Side.{Side}
use Rattle.lc_world.proofs.SidesLemmas.OneReplyLemmas.{one_next_side, one_reply}
use Rattle.wire_session.specs.SessionOut.{IsAnswered, IsSaidAfter, IsSaidBy, IsSaidFirst, Said, Says, with_reply}

-- ---- one answer to a request

one_closes : (side : Side) (bytes a b : List ℕ) (m n : Side) (x y : Bool) → IsAnswered side bytes a m x → IsAnswered side bytes b n y → x ≡ y
one_closes side bytes a b m n x y first second =
    first.closes_is ∙ ap (λ (r : Request). r.close) (one_request bytes first.request second.request first.request_is second.request_is) ∙ sym second.closes_is

-- what follows is said of one rest from one side
one_after : (Goes : Side → List ℕ → Said → Type 0) → ((side : Side) (bytes : List ℕ) (a b : Said) → Goes side bytes a → Goes side bytes b → a ≡ b)
    → (closes : Bool) (side : Side) (rest : List ℕ) (a b : Said) → IsSaidAfter Goes closes side rest a → IsSaidAfter Goes closes side rest b → a ≡ b
one_after Goes one true side rest a b first second = first ∙ sym second
one_after Goes one false side rest a b first second = one side rest a b first second

-- two answers to one request are one, and so what follows the second may be taken to follow the first
pub same_after : (Goes Others : Side → List ℕ → Said → Type 0) (side : Side) (count : ℕ) (bytes : List ℕ) (a b : Said) (first : IsSaidFirst Goes side count bytes a)
    (second : IsSaidFirst Others side count bytes b) → IsSaidAfter Others first.closes first.next (drop count bytes) second.after
same_after Goes Others side count bytes a b first second =
    let x = first.answered in
    let y = second.answered in
    let closes : second.closes ≡ first.closes = one_closes side (take count bytes) second.reply first.reply second.next first.next second.closes first.closes y x in
    let next : second.next ≡ first.next = one_next_side side (take count bytes) second.next first.next y.next_is x.next_is in
    subst (λ (c : Bool). IsSaidAfter Others c first.next (drop count bytes) second.after) closes
    (subst (λ (s : Side). IsSaidAfter Others second.closes s (drop count bytes) second.after) next second.after_is)

pub same_reply : (Goes Others : Side → List ℕ → Said → Type 0) (side : Side) (count : ℕ) (bytes : List ℕ) (a b : Said) (first : IsSaidFirst Goes side count bytes a)
    (second : IsSaidFirst Others side count bytes b) → first.reply ≡ second.reply
same_reply Goes Others side count bytes a b first second =
    one_reply side (take count bytes) first.reply second.reply first.answered.reply_is second.answered.reply_is

one_first : (Goes : Side → List ℕ → Said → Type 0) → ((side : Side) (bytes : List ℕ) (a b : Said) → Goes side bytes a → Goes side bytes b → a ≡ b)
    → (side : Side) (count : ℕ) (bytes : List ℕ) (a b : Said) → IsSaidFirst Goes side count bytes a → IsSaidFirst Goes side count bytes b → a ≡ b
one_first Goes one side count bytes a b first second =
    let after : first.after ≡ second.after =
    one_after Goes one first.closes first.next (drop count bytes) first.after second.after first.after_is (same_after Goes Goes side count bytes a b first second) in
    first.is ∙ ap (λ (reply : List ℕ). with_reply reply first.after) (same_reply Goes Goes side count bytes a b first second)
    ∙ ap (with_reply second.reply) after ∙ sym second.is

one_by : (Goes : Side → List ℕ → Said → Type 0) → ((side : Side) (bytes : List ℕ) (a b : Said) → Goes side bytes a → Goes side bytes b → a ≡ b)
    → (taken : Taken) (side : Side) (bytes : List ℕ) (a b : Said) → IsSaidBy Goes taken side bytes a → IsSaidBy Goes taken side bytes b → a ≡ b
one_by Goes one (Whole count) side bytes a b first second = one_first Goes one side count bytes a b first second
one_by Goes one NotYet side bytes a b first second = first ∙ sym second
one_by Goes one (Refused status) side bytes a b first second = first ∙ sym second

pub one_said : (most : ℕ) (side : Side) (bytes : List ℕ) (a b : Said) → Says most side bytes a → Says most side bytes b → a ≡ b
unfolding Says
one_said zero side bytes a b first second = first ∙ sym second
one_said (suc most) side bytes a b (taken, takes, first) (other, takes', second) =
    one_by (Says most) (one_said most) taken side bytes a b first
    (subst (λ (t : Taken). IsSaidBy (Says most) t side bytes b) (one_answer bytes other taken takes' takes) second)
