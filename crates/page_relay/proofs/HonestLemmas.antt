-- Relays over honest links stay honest, whatever becomes of an exchange.
use Rattle.std.proofs.Common.{◌≡◌, ℕ, List, [], Option, Some, Result, Ok, Err, refl, sym, subst}
use Rattle.std.specs.Option.{IfSome}
use Rattle.std.specs.Prelude.{IsErr, OnOk}
use Rattle.connection_uri.specs.Base.{BaseParts}
use Rattle.lc_model.proofs.ListLemmas.{All-from_contains, Contains-nil}
use Rattle.lc_world.specs.Link.{IsHonest, StaysHonest}
use Rattle.lc_world.specs.declared.link.LinkFail.{LinkFail}
use Rattle.lc_world.specs.Sides.Reply.{IsReply}
use Rattle.lc_world.specs.Sides.Side.{Side}
use Rattle.lc_world.proofs.SidesLemmas.LaterLemmas.{later_itself}
use Rattle.page_relay.specs.Exchanges.{KeepsReply}
use Rattle.page_relay.specs.Fits.{IsReplyOf, RelayFits, RelaysHonestly}
use Rattle.page_relay.specs.Kept.{Kept, reply_for, with_used}
use Rattle.page_relay.specs.declared.sent.SentRequest.{SentRequest}
use Rattle.page_relay.proofs.FitsLemmas.{fits_kept, fits_later, fits_used, found_replies}

-- an honest relay with this side
abbrev pub IsRelay : Type 0 → Option Side → List Kept → BaseParts → Side → Type 0
IsRelay below at kept base side = IsHonest at (RelaysHonestly below at kept) base side

-- what it keeps agrees with the side
fits_at : (base : BaseParts) (below : Type 0) (at : Option Side) (kept : List Kept) (side : Side) → IsRelay below at kept base side → RelayFits kept side
fits_at base below at kept side is = subst (λ (o : Option Side). IfSome o (RelayFits kept)) is.tells is.honest.fits

-- a relay is honest where the link below is and what it keeps agrees with the side
honest_by : (base : BaseParts) (below : Type 0) (at : Option Side) (kept : List Kept) (side : Side) → IsHonest at below base side → RelayFits kept side → IsRelay below at kept base side
honest_by base below at kept side is fits = record {
  tells = is.tells;
  stands = is.stands;
  honest = record { below_honest = is.honest; fits = subst (λ (o : Option Side). IfSome o (RelayFits kept)) (sym is.tells) fits };
}

-- the link below a relay is honest
pub below_is : (base : BaseParts) (below : Type 0) (at : Option Side) (kept : List Kept) (side : Side) → IsRelay below at kept base side → IsHonest at below base side
below_is base below at kept side is = record { tells = is.tells; stands = is.stands; honest = is.honest.below_honest }

-- a relay that keeps nothing is as honest as the link below
pub new_is : (base : BaseParts) (below : Type 0) (at : Option Side) (side : Side) → IsHonest at below base side → IsRelay below at [] base side
new_is base below at side is = honest_by base below at [] side is (All-from_contains (IsReplyOf side) [] (λ k none. absurd (Contains-nil k none)))

-- by a kept reply
pub by_memory : {T : Type 0} (base : BaseParts) (below quiet : Type 0) (at : Option Side) (kept : List Kept) (side : Side) (sent : SentRequest) (reply : List ℕ) (done : T)
    → reply_for sent kept ≡ Some reply → IsRelay below at kept base side
    → StaysHonest base side quiet at (RelaysHonestly below at (with_used sent kept)) quiet sent.request reply (Ok done)
by_memory base below quiet at kept side sent reply done found is =
    let fits = fits_at base below at kept side is in
    record {
      side = side;
      honest = honest_by base below at (with_used sent kept) side (below_is base below at kept side is) (fits_used kept side sent fits);
      later = later_itself side;
      replied = found_replies kept side sent reply fits found;
      same = λ _. refl;
      quiet = λ q. q;
    }

no_reply : {T : Type 0} (P : Type 0) (result : Result T LinkFail) → IsErr result → OnOk result P
no_reply P (Ok done) none = cc
no_reply P (Err fail) none = tt

-- by none, where the link below was not asked
pub not_asked : {T : Type 0} (said quiet : Type 0) (at : Option Side) (base : BaseParts) (side : Side) (request reply : List ℕ) (result : Result T LinkFail)
    → IsErr result → IsHonest at said base side → StaysHonest base side quiet at said quiet request reply result
not_asked said quiet at base side request reply result none is =
    record { side = side; honest = is; later = later_itself side; replied = no_reply (IsReply side request reply) result none; same = λ _. refl; quiet = λ q. q }

-- by none, where the link below was
pub by_failure : {S T : Type 0} (base : BaseParts) (below now_below was_quiet quiet : Type 0) (at now_at : Option Side) (kept : List Kept) (side : Side) (request given reply : List ℕ) (result : Result S LinkFail) (outcome : Result T LinkFail)
    → IsErr outcome → IsRelay below at kept base side → StaysHonest base side was_quiet now_at now_below quiet request given result
    → StaysHonest base side was_quiet now_at (RelaysHonestly now_below now_at kept) quiet request reply outcome
by_failure base below now_below was_quiet quiet at now_at kept side request given reply result outcome none is stays =
    let fits = fits_later kept side stays.side stays.honest.stands.valid stays.later (fits_at base below at kept side is) in
    record {
      side = stays.side;
      honest = honest_by base now_below now_at kept stays.side stays.honest fits;
      later = stays.later;
      replied = no_reply (IsReply stays.side request reply) outcome none;
      same = stays.same;
      quiet = stays.quiet;
    }

-- by the reply of the link below
pub by_reply : {T : Type 0} (made base : BaseParts) (below now_below was_quiet quiet : Type 0) (at now_at : Option Side) (entries : ℕ) (kept now : List Kept) (side : Side) (sent : SentRequest) (reply : List ℕ) (was done : T)
    → IsRelay below at kept base side → StaysHonest base side was_quiet now_at now_below quiet sent.request reply (Ok was) → KeepsReply made entries kept sent reply now
    → StaysHonest base side was_quiet now_at (RelaysHonestly now_below now_at now) quiet sent.request reply (Ok done)
by_reply made base below now_below was_quiet quiet at now_at entries kept now side sent reply was done is stays keeps =
    let fits = fits_later kept side stays.side stays.honest.stands.valid stays.later (fits_at base below at kept side is) in
    record {
      side = stays.side;
      honest = honest_by base now_below now_at now stays.side stays.honest (fits_kept made entries kept now stays.side sent reply fits stays.replied keeps);
      later = stays.later;
      replied = stays.replied;
      same = stays.same;
      quiet = stays.quiet;
    }

-- after an error nothing is in the reply
pub without_reply : {T : Type 0} (base : BaseParts) (side : Side) (was_quiet : Type 0) (at : Option Side) (said quiet : Type 0) (request reply other : List ℕ) (fail : LinkFail)
    → StaysHonest {T = T} base side was_quiet at said quiet request reply (Err fail) → StaysHonest {T = T} base side was_quiet at said quiet request other (Err fail)
without_reply base side was_quiet at said quiet request reply other fail stays = record { side = stays.side; honest = stays.honest; later = stays.later; replied = tt; same = stays.same; quiet = stays.quiet }
