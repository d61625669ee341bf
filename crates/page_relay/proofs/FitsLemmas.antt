-- What a relay keeps agrees with the sides of its link.
use Rattle.std.proofs.Common.{◌≡◌, ℕ, List, Some, inl, inr, subst, sym}
use Rattle.std.proofs.lemmas.List.Elements.{All-contains, All-weaker}
use Rattle.connection_uri.specs.Base.{BaseParts}
use Rattle.lc_world.specs.Sides.Reply.{IsReply}
use Rattle.lc_world.specs.Sides.Side.{IsLater, IsValidSide, Side}
use Rattle.lc_world.proofs.SidesLemmas.LaterLemmas.{mementos_stay}
use Rattle.page_relay.specs.Exchanges.{KeepsReply}
use Rattle.page_relay.specs.Fits.{IsReplyOf, RelayFits}
use Rattle.page_relay.specs.Kept.{Kept, reply_for, with_used}
use Rattle.page_relay.specs.Laws.{FitsLater}
use Rattle.page_relay.specs.declared.sent.SentRequest.{SentRequest}
use Rattle.page_relay.proofs.DocumentLemmas.{only_documents}
use Rattle.page_relay.proofs.MemoryLemmas.{All-with_kept, All-with_used, found_is_own}

-- a kept reply is one of each later side
stays : (before after : Side) → IsValidSide after → IsLater before after → (kept : Kept) → IsReplyOf before kept → IsReplyOf after kept
stays before after valid later kept is = record {
  response = is.response;
  document = is.document;
  has = mementos_stay before after kept.0.request is.response kept.1 valid later is.document is.has;
}

pub fits_later : FitsLater
fits_later kept before after valid later fits = All-weaker (IsReplyOf before) (IsReplyOf after) (stays before after valid later) kept fits

-- a kept reply that is found is the side's reply
pub found_replies : (kept : List Kept) (side : Side) (sent : SentRequest) (reply : List ℕ) → RelayFits kept side → reply_for sent kept ≡ Some reply → IsReply side sent.request reply
found_replies kept side sent reply fits found =
    let is = All-contains (IsReplyOf side) kept (sent, reply) fits (found_is_own kept sent reply found) in (is.response, is.has)

pub fits_used : (kept : List Kept) (side : Side) (sent : SentRequest) → RelayFits kept side → RelayFits (with_used sent kept) side
fits_used kept side sent fits = All-with_used (IsReplyOf side) sent kept fits

-- one more reply of the side is kept, if it has to be
pub fits_kept : (base : BaseParts) (entries : ℕ) (kept now : List Kept) (side : Side) (sent : SentRequest) (reply : List ℕ) → RelayFits kept side → IsReply side sent.request reply
    → KeepsReply base entries kept sent reply now → RelayFits now side
fits_kept base entries kept now side sent reply fits (response, has) (inl (keep, is)) =
    let document = only_documents side base sent.request reply response keep has in
    subst (λ (k : List Kept). RelayFits k side) (sym is) (All-with_kept (IsReplyOf side) entries sent reply kept (record { response = response; document = document; has = has }) fits)
fits_kept base entries kept now side sent reply fits replied (inr (not, is)) = subst (λ (k : List Kept). RelayFits k side) (sym is) fits
