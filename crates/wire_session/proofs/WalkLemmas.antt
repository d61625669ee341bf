-- Requests after which a connection goes on: more bytes after them, one more of them, and what is said after them.
use Rattle.std.proofs.Common.{◌≡◌, ◌≢◌, ℕ, suc, ◌+◌, false, List, [], ◌∷◌, ◌++◌, length, drop, refl, sym, ap, subst, ◌∙◌, arith}
use Rattle.std.proofs.lemmas.List.{drop-append-le}
use Rattle.http_text.specs.declared.taken.Taken.TheVariants.{Whole, NotYet, Refused}
use Rattle.http_text.specs.Taken.{Takes}
use Rattle.http_text.proofs.StayLemmas.{same_bytes, stays}
use Rattle.http_text.proofs.TakenLemmas.{whole_is}
use Rattle.lc_world.specs.Sides.Side.{Side}
use Rattle.wire_session.specs.SessionOut.{IsAnswered, Said, Says, with_reply}
use Rattle.wire_session.specs.Walks.{GoesOn, Walks}

pub whole_is_some : (count : ℕ) → Whole count ≢ NotYet
whole_is_some count e = cc

pub refused_is_some : (status : ℕ) → Refused status ≢ NotYet
refused_is_some status e = cc

-- the rest after a whole request grows with the bytes
pub rest_grows : (bytes more : List ℕ) (count : ℕ) → Takes bytes (Whole count) → drop count (bytes ++ more) ≡ drop count bytes ++ more
rest_grows bytes more count whole = drop-append-le count bytes more (whole_is bytes count whole).0

goes_on_stays : (side : Side) (bytes reply : List ℕ) (next : Side) (rest more : List ℕ) → GoesOn side bytes reply next rest
    → GoesOn side (bytes ++ more) reply next (rest ++ more)
goes_on_stays side bytes reply next rest more goes = record {
  count = goes.count;
  whole = stays bytes more (Whole goes.count) goes.whole (whole_is_some goes.count);
  answered = subst (λ (x : List ℕ). IsAnswered side x reply next false) (sym (same_bytes bytes more goes.count goes.whole)) goes.answered;
  rest_is = ap (λ (x : List ℕ). x ++ more) goes.rest_is ∙ sym (rest_grows bytes more goes.count goes.whole);
}

-- more bytes after
pub walks_stay : (replies : List (List ℕ)) (side : Side) (bytes : List ℕ) (next : Side) (rest more : List ℕ) → Walks replies side bytes next rest
    → Walks replies side (bytes ++ more) next (rest ++ more)
walks_stay [] side bytes next rest more (same, all) = (same, ap (λ (x : List ℕ). x ++ more) all)
walks_stay (reply ∷ replies) side bytes next rest more (middle, behind, goes, walks) =
    (middle, behind ++ more, goes_on_stays side bytes reply middle behind more goes, walks_stay replies middle behind next rest more walks)

-- one after the other
pub walks_append : (first second : List (List ℕ)) (side : Side) (bytes : List ℕ) (middle : Side) (behind : List ℕ) (next : Side) (rest : List ℕ)
    → Walks first side bytes middle behind → Walks second middle behind next rest → Walks (first ++ second) side bytes next rest
walks_append [] second side bytes middle behind next rest (same, all) walks =
    subst (λ (s : Side). Walks second s bytes next rest) same (subst (λ (b : List ℕ). Walks second middle b next rest) all walks)
walks_append (reply ∷ first) second side bytes middle behind next rest (between, left, goes, walks) after =
    (between, left, goes, walks_append first second between left middle behind next rest walks after)

-- one step more
pub walks_more : (replies : List (List ℕ)) (start : Side) (fed : List ℕ) (side : Side) (bytes reply : List ℕ) (next : Side) (rest : List ℕ)
    → Walks replies start fed side bytes → GoesOn side bytes reply next rest → Walks (replies ++ reply ∷ []) start fed next rest
walks_more replies start fed side bytes reply next rest walks goes =
    walks_append replies (reply ∷ []) start fed side bytes next rest walks (next, rest, goes, (refl, refl))

-- these replies, and then what is said
abbrev pub with_replies : List (List ℕ) → Said → Said
with_replies replies said = record said { replies = replies ++ said.replies }

says_first : (more : ℕ) (side : Side) (bytes reply : List ℕ) (next : Side) (rest : List ℕ) (said : Said) → GoesOn side bytes reply next rest
    → Says more next rest said → Says (suc more) side bytes (with_reply reply said)
unfolding Says
says_first more side bytes reply next rest said goes says = (
  Whole goes.count,
  goes.whole,
  record {
    reply = reply;
    next = next;
    closes = false;
    answered = goes.answered;
    after = said;
    after_is = subst (λ (x : List ℕ). Says more next x said) goes.rest_is says;
    is = refl;
  },
)

-- what is said after a walk is said after its replies
pub walk_says : (replies : List (List ℕ)) (most more : ℕ) (side : Side) (bytes : List ℕ) (next : Side) (rest : List ℕ) (said : Said)
    → most ≡ length replies + more → Walks replies side bytes next rest → Says more next rest said → Says most side bytes (with_replies replies said)
walk_says [] most more side bytes next rest said e (same, all) says =
    let all_of : more ≡ most = omega (arith, e) in
    subst (λ (s : Side). Says most s bytes said) same
    (subst (λ (b : List ℕ). Says most next b said) all (subst (λ (n : ℕ). Says n next rest said) all_of says))
walk_says (reply ∷ replies) most more side bytes next rest said e (middle, behind, goes, walks) says =
    let all_of : suc (length replies + more) ≡ most = omega (arith, e) in
    subst (λ (n : ℕ). Says n side bytes (with_replies (reply ∷ replies) said)) all_of
    (says_first (length replies + more) side bytes reply middle behind (with_replies replies said) goes
    (walk_says replies (length replies + more) more middle behind next rest said refl walks says))
