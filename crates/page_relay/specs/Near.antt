-- Near values that the definitions of relays refuse.
use Rattle.std.specs.Prelude.{◌≡◌, ◌≢◌, ◌+◌, ◌-◌, ◌^◌, ◌<◌, ℕ, Bool, true, ◌++◌, ◌∷◌, [], List, length, Option, Some, codes}
use Rattle.std.specs.List.{Contains}
use Rattle.connection_uri.specs.Base.{BaseParts}
use Rattle.http_text.specs.Reply.{IsReply}
use Rattle.http_text.specs.declared.reply.Reply.{Reply}
use Rattle.lc_model.specs.declared.page.PageName.{PageName}
use Rattle.lc_world.specs.declared.entry.Entry.{Entry}
use Rattle.lc_world.specs.declared.entry.RecordedReply.TheVariants as recorded_replies
use Rattle.lc_world.specs.Sides.Reply.{HasReply}
use Rattle.lc_world.specs.Sides.Side.{Side}
use Rattle.lc_world.specs.declared.sides.response.Response.TheVariants.{Found}
use Rattle.page_relay.specs.Fits.{RelayFits}
use Rattle.page_relay.specs.HandedOn.{Follows}
use Rattle.page_relay.specs.Keeping.{IsKeepable, IsLastingReply, IsToKeep}
use Rattle.page_relay.specs.Kept.{Kept, reply_for}
use Rattle.page_relay.specs.Recorded.{IsRecorded}
use Rattle.page_relay.specs.Worked.{example, replied, stops}
use Rattle.page_relay.specs.declared.sent.SentRequest.{SentRequest}

-- what is kept disagrees with a side whose time gate's reply is among it
abbrev pub NoTimeGateFits : Type 0
NoTimeGateFits =
    (side : Side) (kept : List Kept) (sent : SentRequest) (reply : List ℕ) (name : PageName) (departs : ℕ)
    → Contains kept (sent, reply) → HasReply side sent.request (Found name departs) reply → RelayFits kept side → ⊥

-- no reply is kept to a request of the time gate
abbrev pub NoTimeGateIsKept : Type 0
NoTimeGateIsKept = (base : BaseParts) (bytes : List ℕ) (is : IsKeepable base bytes) → is.request.path ≡ base.path ++ codes "connections" → ⊥

-- no reply is kept that has another status than 200
abbrev pub NoOtherStatusIsKept : Type 0
NoOtherStatusIsKept = (bytes : List ℕ) (reply : Reply) → IsReply bytes reply → reply.status ≢ 200 → IsLastingReply bytes → ⊥

-- the reply that is found for a request came to it, with its query, and to no other
abbrev pub FoundIsItsOwn : Type 0
FoundIsItsOwn = (kept : List Kept) (sent : SentRequest) (reply : List ℕ) → reply_for sent kept ≡ Some reply → Contains kept (sent, reply)

-- for another request than the one whose reply alone is kept none is found
abbrev pub OthersAreNotFound : Type 0
OthersAreNotFound = (sent other : SentRequest) (held reply : List ℕ) → reply_for sent ((other, held) ∷ []) ≡ Some reply → sent ≡ other

-- no reply is kept where the link below has recorded nothing since
abbrev pub NoneIsKeptUnasked : Type 0
NoneIsKeptUnasked =
    (made : List Entry) (sent : SentRequest) (reply : List ℕ) (kept : List Kept) (own : List Entry) (relayed forwarded : ℕ) (exact : Bool)
    → IsRecorded (Some made) (Some made) ((sent, reply) ∷ kept) own relayed forwarded exact → ⊥

-- and none is given
abbrev pub NoneIsGivenUnasked : Type 0
NoneIsGivenUnasked =
    (made : List Entry) (kept : List Kept) (entry : Entry) (reply : List ℕ) (own : List Entry) (relayed forwarded : ℕ) (exact : Bool) → entry.reply ≡ recorded_replies.Reply reply
    → IsRecorded (Some made) (Some made) kept (entry ∷ own) relayed forwarded exact → ⊥

-- nothing is lost of what the link below had recorded
abbrev pub NothingIsLost : Type 0
NothingIsLost =
    (made : List Entry) (entry : Entry) (kept : List Kept) (own : List Entry) (relayed forwarded : ℕ) (exact : Bool) → IsRecorded (Some (entry ∷ made)) (Some made) kept own relayed forwarded exact → ⊥

-- an exact count is not one more than what the link below has recorded since
abbrev pub NotOneMore : Type 0
NotOneMore =
    (made handed_on : List Entry) (kept : List Kept) (own : List Entry) (relayed : ℕ) → length handed_on < 2 ^ 64 - 1
    → IsRecorded (Some made) (Some (made ++ handed_on)) kept own relayed (length handed_on + 1) true → ⊥

-- a request whose reply is kept is not handed on again
abbrev pub NotHandedOnAgain : Type 0
NotHandedOnAgain =
    (reply : List ℕ) (kept : List Kept) (made now : Option (List Entry)) → IsToKeep example stops.request reply
    → Follows example 1 made now (replied reply ∷ replied reply ∷ []) kept 2 → ⊥

-- how an exchange of a relay ended is not hidden
abbrev pub NoneIsHidden : Type 0
NoneIsHidden =
    (made now : Option (List Entry)) (kept : List Kept) (own : List Entry) (entry : Entry) (relayed forwarded : ℕ) (exact : Bool)
    → Contains own entry → entry.reply ≡ recorded_replies.Hidden → IsRecorded made now kept own relayed forwarded exact → ⊥

-- the link below has not recorded two exchanges in the other order, where their requests differ
abbrev pub NotInOtherOrder : Type 0
NotInOtherOrder =
    (base : BaseParts) (entries : ℕ) (made own more : List Entry) (first second : Entry) (kept : List Kept) (forwarded : ℕ) → first.request ≢ second.request
    → Follows base entries (Some made) (Some (made ++ second ∷ first ∷ more)) (first ∷ second ∷ own) kept forwarded → ⊥
