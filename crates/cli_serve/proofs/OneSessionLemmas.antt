-- What is said to bytes from sides that are one is one.
use Rattle.std.proofs.Common.{◌≡◌, ◌∙◌, ℕ, zero, suc, Bool, true, false, List, take, drop, ap, refl, subst, sym}
use Rattle.http_text.proofs.MessageLemmas.{one_request}
use Rattle.http_text.proofs.TakenLemmas.{one_answer}
use Rattle.http_text.specs.declared.request.Request.{Request}
use Rattle.http_text.specs.declared.taken.Taken.{Taken}
use Rattle.http_text.specs.declared.taken.Taken.TheVariants.{Whole, NotYet, Refused}
use Rattle.lc_time.specs.declared.zone.Zone.{Zone}
use Rattle.lc_world.proofs.SidesLemmas.LaterLemmas.{next_is_later}
use Rattle.lc_world.proofs.SidesLemmas.OneReplyLemmas.{one_next_side, one_reply}
use Rattle.lc_world.specs.Sides.Reply.{IsNextSide}
use Rattle.lc_world.specs.Sides.Side.{IsLater, Side, date_in}
use Rattle.wire_session.specs.SessionOut.{IsSaidAfter, IsSaidBy, IsSaidFirst, Said, Says, SessionOut, refusal_text, silent, with_reply}
use Rattle.cli_serve.specs.SameBytes.{OneSession}
use Rattle.cli_serve.proofs.ZoneLemmas.{answered_by, in_zone, one_in_zone}

-- what is said, with its side in this zone
abbrev said_in : Zone → Said → Said
said_in zone said = record said { side = in_zone said.side zone }

-- the first is the second with its side in the zone, which shows the same dates
record Alike (zone : Zone) (a b : Said) : Type 0 where
  is : a ≡ said_in zone b
  same : date_in zone ≡ date_in b.side.zone

-- what goes on from a side in the zone is alike to what goes on from the side
abbrev GoAlike : Zone → (Side → List ℕ → Said → Type 0) → Type 0
GoAlike zone Goes =
    (side : Side) (bytes : List ℕ) (a b : Said) → date_in zone ≡ date_in side.zone → Goes (in_zone side zone) bytes a → Goes side bytes b → Alike zone a b

silent_alike : (zone : Zone) (side : Side) (ended : Bool) (a b : Said) → date_in zone ≡ date_in side.zone → a ≡ silent (in_zone side zone) ended → b ≡ silent side ended → Alike zone a b
silent_alike zone side ended a b same first second = record {
  is = first ∙ ap (said_in zone) (sym second);
  same = same ∙ ap (λ (s : Said). date_in s.side.zone) (sym second);
}

reply_alike : (zone : Zone) (reply other : List ℕ) (x y a b : Said) → reply ≡ other → Alike zone x y → a ≡ with_reply reply x → b ≡ with_reply other y → Alike zone a b
reply_alike zone reply other x y a b same alike first second = record {
  is = first ∙ (ap (λ (r : List ℕ). with_reply r x) same ∙ (ap (with_reply other) alike.is ∙ ap (said_in zone) (sym second)));
  same = alike.same ∙ ap (λ (s : Said). date_in s.side.zone) (sym second);
}

after_alike : (zone : Zone) (Goes : Side → List ℕ → Said → Type 0) → GoAlike zone Goes → (closes : Bool) (side : Side) (rest : List ℕ) (a b : Said) → date_in zone ≡ date_in side.zone
    → IsSaidAfter Goes closes (in_zone side zone) rest a → IsSaidAfter Goes closes side rest b → Alike zone a b
after_alike zone Goes go true side rest a b same first second = silent_alike zone side true a b same first second
after_alike zone Goes go false side rest a b same first second = go side rest a b same first second

-- a request changes no zone
zone_left : (side : Side) (bytes : List ℕ) (next : Side) → IsNextSide side bytes next → next.zone ≡ side.zone
zone_left side bytes next is =
    let later : IsLater side next = next_is_later side bytes next is in
    ap (λ (s : Side). s.zone) later.is

first_alike : (zone : Zone) (Goes : Side → List ℕ → Said → Type 0) → GoAlike zone Goes → (side : Side) (count : ℕ) (bytes : List ℕ) (a b : Said) → date_in zone ≡ date_in side.zone
    → IsSaidFirst Goes (in_zone side zone) count bytes a → IsSaidFirst Goes side count bytes b → Alike zone a b
first_alike zone Goes go side count bytes a b same x y =
    let front : List ℕ = take count bytes in
    let rest : List ℕ = drop count bytes in
    let left = answered_by side zone same front x.reply x.next x.closes x.answered in
    let closes : x.closes ≡ y.closes =
    left.1.closes_is ∙ (ap (λ (r : Request). r.close) (one_request front left.1.request y.answered.request left.1.request_is y.answered.request_is) ∙ sym y.answered.closes_is) in
    let reply : x.reply ≡ y.reply = one_reply side front x.reply y.reply left.1.reply_is y.answered.reply_is in
    let next : left.0 ≡ y.next = one_next_side side front left.0 y.next left.1.next_is y.answered.next_is in
    let from : x.next ≡ in_zone y.next zone = left.2 ∙ ap (λ (s : Side). in_zone s zone) next in
    let still : date_in zone ≡ date_in y.next.zone = same ∙ ap date_in (sym (zone_left side front y.next y.answered.next_is)) in
    let first : IsSaidAfter Goes y.closes (in_zone y.next zone) rest x.after =
    subst (λ (c : Bool). IsSaidAfter Goes c (in_zone y.next zone) rest x.after) closes (subst (λ (s : Side). IsSaidAfter Goes x.closes s rest x.after) from x.after_is) in
    reply_alike zone x.reply y.reply x.after y.after a b reply (after_alike zone Goes go y.closes y.next rest x.after y.after still first y.after_is) x.is y.is

by_alike : (zone : Zone) (Goes : Side → List ℕ → Said → Type 0) → GoAlike zone Goes → (taken : Taken) (side : Side) (bytes : List ℕ) (a b : Said) → date_in zone ≡ date_in side.zone
    → IsSaidBy Goes taken (in_zone side zone) bytes a → IsSaidBy Goes taken side bytes b → Alike zone a b
by_alike zone Goes go (Whole count) side bytes a b same first second = first_alike zone Goes go side count bytes a b same first second
by_alike zone Goes go NotYet side bytes a b same first second = silent_alike zone side false a b same first second
by_alike zone Goes go (Refused status) side bytes a b same first second =
    reply_alike zone (refusal_text status) (refusal_text status) (silent (in_zone side zone) true) (silent side true) a b refl (record { is = refl; same = same }) first second

says_alike : (zone : Zone) (most : ℕ) (side : Side) (bytes : List ℕ) (a b : Said) → date_in zone ≡ date_in side.zone → Says most (in_zone side zone) bytes a → Says most side bytes b → Alike zone a b
unfolding Says
says_alike zone zero side bytes a b same first second = silent_alike zone side true a b same first second
says_alike zone (suc most) side bytes a b same (taken, takes, first) (other, takes', second) =
    by_alike zone (Says most) (says_alike zone most) taken side bytes a b same first
    (subst (λ (t : Taken). IsSaidBy (Says most) t side bytes b) (one_answer bytes other taken takes' takes) second)

pub one_session : OneSession
one_session a b bytes x y one says other =
    let same : date_in a.zone ≡ date_in b.zone = λ i moment. one.dates moment i in
    let alike : Alike a.zone x y = says_alike a.zone 100 b bytes x y same (subst (λ (s : Side). SessionOut s bytes x) one.is says) other in
    record {
      replies = ap (λ (s : Said). s.replies) alike.is;
      ended = ap (λ (s : Said). s.ended) alike.is;
      sides = one_in_zone a.zone x.side y.side (ap (λ (s : Said). s.side) alike.is) alike.same;
    }
