-- The reply and the next side of a request, by what it asks for.
use Rattle.std.proofs.Common.{Vec, Global, Result, Ok, Err, ◌≡◌, ℕ, List, drop, refl, ap, subst}
use Rattle.std.specs.Prelude.{IfOk, OnOk}
use Rattle.http_text.specs.Request.{IsWholeRequest}
use Rattle.http_text.specs.declared.request.Request.{Request}
use Rattle.publisher.specs.Updated.{IsUpdated}
use Rattle.publisher.specs.Writable.{IsSoundResponse}
use Rattle.lc_world.specs.Sides.Reply.{IsBehind, IsNextSide, IsReply, text_said}
use Rattle.lc_world.specs.Sides.Response.{IsResponseTo, asked_at}
use Rattle.lc_world.specs.Sides.Side.{Side}
use Rattle.lc_world.specs.declared.sides.asked.Asked.{Asked}
use Rattle.lc_world.specs.declared.sides.asked.Asked.TheVariants as kinds
use Rattle.lc_world.specs.declared.sides.response.Response.{Response}
use Rattle.lc_world.specs.declared.sides.response.Response.TheVariants.{Status}

module _ (side : Side) (bytes : List ℕ) (request : Request) (whole : IsWholeRequest bytes request) where
  -- the reply to a request that a message is admitted
  update_reply : (next : Side) (text : List ℕ) → kinds.Update ≡ asked_at side request → IsUpdated side request (drop request.body_from bytes) text next → IsReply side bytes text
  update_reply next text asked u = (
    Status u.status,
    record {
      request = request;
      whole = whole;
      said =
          subst (λ (a : Asked). IsResponseTo side request (drop request.body_from bytes) a (Status u.status)) asked
          (u.becomes.update, u.becomes.update_is, ap Status u.becomes.status_is);
      text_is = u.text_is;
    },
  )

  update_next : (next : Side) (text : List ℕ) → kinds.Update ≡ asked_at side request → IsUpdated side request (drop request.body_from bytes) text next → IsNextSide side bytes next
  update_next next text asked u = record {
    request = request;
    whole = whole;
    behind = subst (λ (a : Asked). IsBehind side request (drop request.body_from bytes) a next) asked (u.becomes.update, u.becomes.update_is, u.becomes.next_is);
  }

  pub update_reply_if : {E : Type 0} (next : Side) (reply : Result (Vec ℕ Global) E) → kinds.Update ≡ asked_at side request
      → IfOk reply (λ text. IsUpdated side request (drop request.body_from bytes) text.items next) → IfOk reply (λ text. IsReply side bytes text.items)
  update_reply_if next (Ok text) asked u = update_reply next text.items asked u
  update_reply_if next (Err e) asked u = tt

  pub update_next_if : {E : Type 0} (next : Side) (reply : Result (Vec ℕ Global) E) → kinds.Update ≡ asked_at side request
      → IfOk reply (λ text. IsUpdated side request (drop request.body_from bytes) text.items next) → OnOk reply (IsNextSide side bytes next)
  update_next_if next (Ok text) asked u = update_next next text.items asked u
  update_next_if next (Err e) asked u = tt

  -- the reply to any other request
  pub plain_reply_if : {E : Type 0} (asked : Asked) (response : Response) (reply : Result (Vec ℕ Global) E) → asked ≡ asked_at side request
      → ((body : List ℕ) → IsSoundResponse response → IsResponseTo side request body asked response)
      → OnOk reply (IsSoundResponse response)
      → IfOk reply (λ text. text.items ≡ text_said side request response) → IfOk reply (λ text. IsReply side bytes text.items)
  plain_reply_if asked response (Ok text) is said sound text_is = (
    response,
    record {
      request = request;
      whole = whole;
      said = subst (λ (a : Asked). IsResponseTo side request (drop request.body_from bytes) a response) is (said (drop request.body_from bytes) sound);
      text_is = text_is;
    },
  )
  plain_reply_if asked response (Err e) is said sound text_is = tt

  stays : (body : List ℕ) (asked : Asked) → (asked ≡ kinds.Update → ⊥) → IsBehind side request body asked side
  stays body kinds.Gate not = refl
  stays body kinds.Page not = refl
  stays body kinds.Stops not = refl
  stays body kinds.Update not = absurd (not refl)
  stays body (kinds.OtherMethod allow) not = refl
  stays body kinds.Nothing not = refl

  pub plain_next : (asked : Asked) → asked ≡ asked_at side request → (asked ≡ kinds.Update → ⊥) → IsNextSide side bytes side
  plain_next asked is not = record {
    request = request;
    whole = whole;
    behind = subst (λ (a : Asked). IsBehind side request (drop request.body_from bytes) a side) is (stays (drop request.body_from bytes) asked not);
  }

  pub plain_next_if : {E : Type 0} (asked : Asked) (reply : Result (Vec ℕ Global) E) → asked ≡ asked_at side request → (asked ≡ kinds.Update → ⊥) → OnOk reply (IsNextSide side bytes side)
  plain_next_if asked (Ok text) is not = plain_next asked is not
  plain_next_if asked (Err e) is not = tt
