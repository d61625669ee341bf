-- How what a session stands for goes on with each reply and each piece, and what it means.
use Rattle.std.proofs.Common.{◌≡◌, ◌≢◌, ℕ, suc, ◌+◌, ◌-◌, ◌*◌, ◌<◌, ◌≤◌, ◌⊎◌, inl, inr, true, false, List, [], ◌∷◌, ◌++◌, length, take, drop, refl, sym, ap, subst, ◌∙◌, arith, append_assoc, append-nil, length-append, length-drop}
use Rattle.std.specs.List.{concat}
use Rattle.http_text.specs.declared.taken.Taken.TheVariants.{Whole, NotYet, Refused}
use Rattle.http_text.specs.Taken.{Takes}
use Rattle.http_text.proofs.StayLemmas.{same_bytes, stays}
use Rattle.lc_world.specs.Sides.Reply.{IsNextSide}
use Rattle.lc_world.specs.Sides.Side.{Side}
use Rattle.wire_session.specs.SessionOut.{IsAnswered, Said, Says, refusal_text, silent, with_reply}
use Rattle.wire_session.specs.Phase.{is_ended}
use Rattle.wire_session.specs.Stands.{HasAnswered, Held, IsCutShort, IsLeftByFirst, IsOutput, IsWaiting, MeansIn, Means, Stands, StandsIn}
use Rattle.wire_session.specs.Walks.{GoesOn, Walks}
use Rattle.wire_session.specs.declared.phase.Phase.{Phase}
use Rattle.wire_session.specs.declared.phase.Phase.TheVariants.{Open, Ended, Spent}
use Rattle.wire_session.proofs.EndLemmas.{end_stays}
use Rattle.wire_session.proofs.FrontLemmas.{nothing_waits, open_is_short, whole_fits}
use Rattle.wire_session.proofs.WalkLemmas.{walk_says, walks_more, walks_stay, whole_is_some, with_replies}

-- ---- texts

concat_append : (first second : List (List ℕ)) → concat (first ++ second) ≡ concat first ++ concat second
concat_append [] second = refl
concat_append (text ∷ first) second = ap (λ (x : List ℕ). text ++ x) (concat_append first second) ∙ sym (append_assoc text (concat first) (concat second))

concat_one : (text : List ℕ) → concat (text ∷ []) ≡ text
concat_one text = append-nil text

-- ---- one reply more

pub answered_more : (start : Side) (fed text : List ℕ) (count : ℕ) (side : Side) (bytes reply : List ℕ) (next : Side) (long : ℕ)
    → HasAnswered start fed text count side bytes → Takes bytes (Whole long) → IsAnswered side (take long bytes) reply next false → count + 1 < 100
    → HasAnswered start fed (text ++ reply) (count + 1) next (drop long bytes)
answered_more start fed text count side bytes reply next long was whole answered fewer =
    let goes : GoesOn side bytes reply next (drop long bytes) = record { count = long; whole = whole; answered = answered; rest_is = refl } in
    let count_was = was.count_is in
    let more = length-append was.replies (reply ∷ []) in
    record {
      replies = was.replies ++ reply ∷ [];
      walks = walks_more was.replies start fed side bytes reply next (drop long bytes) was.walks goes;
      text_is =
          ap (λ (x : List ℕ). x ++ reply) was.text_is ∙ ap (λ (x : List ℕ). concat was.replies ++ x) (sym (concat_one reply))
          ∙ sym (concat_append was.replies (reply ∷ []));
      count_is = omega (arith, count_was, more);
      fewer = fewer;
    }

-- what is said after the replies so far
output_behind : (start : Side) (fed text : List ℕ) (count : ℕ) (side : Side) (bytes : List ℕ) (more : ℕ) (said : Said)
    → HasAnswered start fed text count side bytes → 100 ≡ count + more → Says more side bytes said
    → IsOutput start fed (text ++ concat said.replies) (count + length said.replies) said.side said.ended
output_behind start fed text count side bytes more said was all says =
    let count_was = was.count_is in
    let left : 100 ≡ length was.replies + more = omega (arith, count_was, all) in
    let long = length-append was.replies said.replies in
    record {
      said = with_replies was.replies said;
      says = walk_says was.replies 100 more start fed side bytes said left was.walks says;
      ended_is = refl;
      text_is = ap (λ (x : List ℕ). x ++ concat said.replies) was.text_is ∙ sym (concat_append was.replies said.replies);
      count_is = omega (arith, count_was, long);
      side_is = refl;
    }

-- the last reply
last_reply : (start : Side) (fed text : List ℕ) (count : ℕ) (side : Side) (bytes reply : List ℕ) (next : Side) (more : ℕ)
    → HasAnswered start fed text count side bytes → 100 ≡ count + more → Says more side bytes (with_reply reply (silent next true))
    → IsOutput start fed (text ++ reply) (count + 1) next true
last_reply start fed text count side bytes reply next more was all says =
    subst (λ (x : List ℕ). IsOutput start fed (text ++ x) (count + 1) next true) (concat_one reply)
    (output_behind start fed text count side bytes more (with_reply reply (silent next true)) was all says)

left_after : (count : ℕ) → count < 100 → 100 ≡ count + suc (99 - count)
left_after count fewer = omega (arith, fewer)

says_closing : (more : ℕ) (side : Side) (bytes reply : List ℕ) (next : Side) (long : ℕ) → Takes bytes (Whole long)
    → IsAnswered side (take long bytes) reply next true → Says (suc more) side bytes (with_reply reply (silent next true))
unfolding Says
says_closing more side bytes reply next long whole answered = (
  Whole long,
  whole,
  record { reply = reply; next = next; closes = true; answered = answered; after = silent next true; after_is = refl; is = refl },
)

says_last : (side : Side) (bytes reply : List ℕ) (next : Side) (long : ℕ) → Takes bytes (Whole long)
    → IsAnswered side (take long bytes) reply next false → Says 1 side bytes (with_reply reply (silent next true))
unfolding Says
says_last side bytes reply next long whole answered = (
  Whole long,
  whole,
  record { reply = reply; next = next; closes = false; answered = answered; after = silent next true; after_is = refl; is = refl },
)

says_refused : (more : ℕ) (side : Side) (bytes : List ℕ) (status : ℕ) → Takes bytes (Refused status)
    → Says (suc more) side bytes (with_reply (refusal_text status) (silent side true))
unfolding Says
says_refused more side bytes status refused = (Refused status, refused, refl)

says_nothing : (more : ℕ) (side : Side) (bytes : List ℕ) → Takes bytes NotYet → Says (suc more) side bytes (silent side false)
unfolding Says
says_nothing more side bytes waits = (NotYet, waits, refl)

-- a request that closes
pub closed : (start : Side) (fed text : List ℕ) (count : ℕ) (side : Side) (bytes reply : List ℕ) (next : Side) (long : ℕ)
    → HasAnswered start fed text count side bytes → Takes bytes (Whole long) → IsAnswered side (take long bytes) reply next true
    → IsOutput start fed (text ++ reply) (count + 1) next true
closed start fed text count side bytes reply next long was whole answered =
    last_reply start fed text count side bytes reply next (suc (99 - count)) was (left_after count was.fewer)
    (says_closing (99 - count) side bytes reply next long whole answered)

-- the hundredth reply
pub hundredth : (start : Side) (fed text : List ℕ) (count : ℕ) (side : Side) (bytes reply : List ℕ) (next : Side) (long : ℕ)
    → HasAnswered start fed text count side bytes → Takes bytes (Whole long) → IsAnswered side (take long bytes) reply next false → count + 1 ≡ 100
    → IsOutput start fed (text ++ reply) (count + 1) next true
hundredth start fed text count side bytes reply next long was whole answered full =
    last_reply start fed text count side bytes reply next 1 was (sym full) (says_last side bytes reply next long whole answered)

-- a refused head
pub refused : (start : Side) (fed text : List ℕ) (count : ℕ) (side : Side) (bytes : List ℕ) (status : ℕ)
    → HasAnswered start fed text count side bytes → Takes bytes (Refused status)
    → IsOutput start fed (text ++ refusal_text status) (count + 1) side true
refused start fed text count side bytes status was takes =
    last_reply start fed text count side bytes (refusal_text status) side (suc (99 - count)) was (left_after count was.fewer)
    (says_refused (99 - count) side bytes status takes)

-- ---- pieces

-- more bytes after those that were answered
pub answered_under : (start : Side) (fed text : List ℕ) (count : ℕ) (side : Side) (rest piece : List ℕ)
    → HasAnswered start fed text count side rest → HasAnswered start (fed ++ piece) text count side (rest ++ piece)
answered_under start fed text count side rest piece was = record {
  replies = was.replies;
  walks = walks_stay was.replies start fed side rest piece was.walks;
  text_is = was.text_is;
  count_is = was.count_is;
  fewer = was.fewer;
}

-- fewer bytes than it waits for
pub waits_on : (start : Side) (fed text : List ℕ) (count : ℕ) (side : Side) (rest : List ℕ) (most : ℕ) (piece : List ℕ)
    → IsWaiting start fed text count side rest most → length (rest ++ piece) < most
    → IsWaiting start (fed ++ piece) text count side (rest ++ piece) most
waits_on start fed text count side rest most piece was short = record {
  answered = answered_under start fed text count side rest piece was.answered;
  waits = was.waits_for piece short;
  waits_for =
      λ more less. let same = append_assoc rest piece more in
      subst (λ (x : List ℕ). Takes x NotYet) (sym same) (was.waits_for (piece ++ more) (subst (λ (x : List ℕ). length x < most) same less));
}

-- bytes after the end
pub output_under : (start : Side) (fed text : List ℕ) (count : ℕ) (side : Side) (piece : List ℕ)
    → IsOutput start fed text count side true → IsOutput start (fed ++ piece) text count side true
output_under start fed text count side piece was = record {
  said = was.said;
  says = end_stays 100 piece start fed was.said was.says was.ended_is;
  ended_is = was.ended_is;
  text_is = was.text_is;
  count_is = was.count_is;
  side_is = was.side_is;
}

left_under : (before side : Side) (rest piece : List ℕ) → (side ≡ before) ⊎ IsLeftByFirst before rest side
    → (side ≡ before) ⊎ IsLeftByFirst before (rest ++ piece) side
left_under before side rest piece (inl same) = inl same
left_under before side rest piece (inr (count, whole, next)) =
    inr (
      count,
      stays rest piece (Whole count) whole (whole_is_some count),
      subst (λ (x : List ℕ). IsNextSide before x side) (sym (same_bytes rest piece count whole)) next,
    )

-- bytes that come once memory has run out
pub cut_short_under : (start : Side) (fed text : List ℕ) (count : ℕ) (side : Side) (piece : List ℕ)
    → IsCutShort start fed text count side → IsCutShort start (fed ++ piece) text count side
cut_short_under start fed text count side piece was = record {
  before = was.before;
  rest = was.rest ++ piece;
  answered = answered_under start fed text count was.before was.rest piece was.answered;
  left = left_under was.before side was.rest piece was.left;
}

-- bytes that are dropped, since the session goes on no more
pub dropped : (phase : Phase) (held : Held) (start : Side) (fed text : List ℕ) (side : Side) (piece : List ℕ) → phase ≢ Open
    → StandsIn phase held start fed text side → StandsIn phase held start (fed ++ piece) text side
dropped Open held start fed text side piece other stands = absurd (other refl)
dropped Ended held start fed text side piece other stands = output_under start fed text held.requests side piece stands
dropped Spent held start fed text side piece other stands = cut_short_under start fed text held.requests side piece stands

-- ---- the start

pub at_start : (side : Side) → IsWaiting side [] [] 0 side [] 0
at_start side = record {
  answered = record { replies = []; walks = (refl, refl); text_is = refl; count_is = refl; fewer = omega arith };
  waits = nothing_waits;
  waits_for = λ more less. absurd (omega (arith, less));
}

-- ---- what it means

waiting_is_output : (start : Side) (fed text : List ℕ) (count : ℕ) (side : Side) (rest : List ℕ) (most : ℕ)
    → IsWaiting start fed text count side rest most → IsOutput start fed text count side false
waiting_is_output start fed text count side rest most was =
    let was_answered = was.answered in
    let same_count : count + 0 ≡ count = omega arith in
    subst (λ (n : ℕ). IsOutput start fed text n side false) same_count
    (subst (λ (x : List ℕ). IsOutput start fed x (count + 0) side false) (append-nil text)
    (output_behind start fed text count side rest (suc (99 - count)) (silent side false) was_answered (left_after count was_answered.fewer)
    (says_nothing (99 - count) side rest was.waits)))

means_in : (phase : Phase) (held : Held) (start : Side) (fed text : List ℕ) (side : Side) → StandsIn phase held start fed text side
    → MeansIn phase held start fed text side
means_in Open held start fed text side stands = waiting_is_output start fed text held.requests side held.waiting held.waits_for stands
means_in Ended held start fed text side stands = stands
means_in Spent held start fed text side stands = stands

pub stands_means : (held : Held) (start : Side) (fed sent : List ℕ) (side : Side) → Stands held start fed sent side → Means held start fed sent side
unfolding Stands
stands_means held start fed sent side stands = means_in held.phase held start fed (sent ++ held.pending) side stands

-- ---- how many bytes a session hears that goes on

walk_is_short : (replies : List (List ℕ)) (side : Side) (bytes : List ℕ) (next : Side) (rest : List ℕ) → Walks replies side bytes next rest
    → length bytes ≤ length replies * 16_793_600 + length rest
walk_is_short [] side bytes next rest (same, all) = let long : length rest ≡ length bytes = ap length all in omega (arith, long)
walk_is_short (reply ∷ replies) side bytes next rest (middle, behind, goes, walks) =
    let others = walk_is_short replies middle behind next rest walks in
    let first = whole_fits bytes goes.count goes.whole in
    let long : length behind ≡ length bytes - goes.count = ap length goes.rest_is ∙ length-drop goes.count bytes in
    omega (arith, others, first, long)

waiting_is_short : (start : Side) (fed text : List ℕ) (count : ℕ) (side : Side) (rest : List ℕ) (most : ℕ)
    → IsWaiting start fed text count side rest most → length fed < 1_679_360_000
waiting_is_short start fed text count side rest most was =
    let walked = walk_is_short was.answered.replies start fed side rest was.answered.walks in
    let count_is = was.answered.count_is in
    let fewer = was.answered.fewer in
    let short = open_is_short rest was.waits in
    omega (arith, walked, count_is, fewer, short)

short_in : (phase : Phase) (held : Held) (start : Side) (fed text : List ℕ) (side : Side) → is_ended phase ≡ false
    → StandsIn phase held start fed text side → length fed < 1_679_360_000
short_in Open held start fed text side is stands = waiting_is_short start fed text held.requests side held.waiting held.waits_for stands
short_in Ended held start fed text side is stands = absurd (cc)
short_in Spent held start fed text side is stands = absurd (cc)

pub open_is_bounded : (held : Held) (start : Side) (fed sent : List ℕ) (side : Side) → Stands held start fed sent side → is_ended held.phase ≡ false
    → length fed < 1_679_360_000
unfolding Stands
open_is_bounded held start fed sent side stands is = short_in held.phase held start fed (sent ++ held.pending) side is stands
