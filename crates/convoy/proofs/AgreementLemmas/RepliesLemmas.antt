-- That a link with a publisher at its other end records what the publisher's side replied, turn after turn.
use Rattle.std.proofs.Common.{◌≡◌, ℕ, zero, suc, inl, inr, List, [], ◌∷◌, ◌++◌, length, Option, Some, None, refl, ap, sym, subst, ◌∙◌}
use Rattle.std.specs.Prelude.{◌⊎◌, OnOk}
use Rattle.std.specs.Option.{option_map}
use Rattle.std.proofs.lemmas.List.{append-nil, append_assoc}
use Rattle.std.proofs.lemmas.List.Elements.{All-append, All-cons, All-nil}
use Rattle.connection_uri.specs.Base.{BaseParts}
use Rattle.lc_world.specs.Link.{Exchanges, IsHonestWith, IsQuietWith, LinkSeen, Tells, TellsMore, recorded_of}
use Rattle.lc_world.specs.declared.entry.Entry.{Entry}
use Rattle.lc_world.specs.declared.entry.RecordedReply.{RecordedReply}
use Rattle.lc_world.specs.declared.entry.RecordedReply.TheVariants.{Hidden, Reply}
use Rattle.page_client.specs.Client.{shown}
use Rattle.page_client.specs.Shown.{Shown, want_of}
use Rattle.page_client.specs.declared.client.Client.{Client}
use Rattle.page_client.specs.declared.outcome.Outcome.{Outcome}
use Rattle.page_client.specs.declared.outcome.Outcome.TheVariants as outcomes
use Rattle.page_client.specs.declared.want.Want.{Want}
use Rattle.page_client.specs.Kept.{Kept}
use Rattle.lc_world.specs.Sides.Reply.{IsReply}
use Rattle.lc_world.specs.Sides.Side.{Side}
use Rattle.convoy.specs.Exchange.{Got, IsExchange, bytes_of, result_of}
use Rattle.convoy.specs.Finish.{IsStep, Rounds, Step, TurnsOf}
use Rattle.convoy.specs.State.{ConvoyState}
use Rattle.convoy.specs.Turn.{Asks, Turned}
use Rattle.convoy.specs.declared.turn.Turn.{Turn}
use Rattle.convoy.specs.declared.turn.Turn.TheVariants.{Cached, Exchanged, Finished}
use Rattle.convoy.specs.Agreement.Replies.{IsRepliedBy, TellsReplies, TellsSoMany}
use Rattle.convoy.specs.Agreement.Rounds.{round_asked, round_at}
use Rattle.convoy.proofs.AgreementLemmas.HonestLemmas.{is_get}

-- what is recorded of a reply is the reply
pub replied_by : (side : Side) (request : List ℕ) (got : Got) (recorded : RecordedReply) (reply : List ℕ) → OnOk (result_of got) (IsReply side request (bytes_of got)) → (recorded ≡ Hidden) ⊎ (recorded ≡ recorded_of got)
    → recorded ≡ Reply reply → IsReply side request reply
replied_by side request got recorded reply replied (inl hidden) is = absurd (cc)
replied_by side request None recorded reply replied (inr failed) is = absurd (cc)
replied_by side request (Some bytes) recorded reply replied (inr given) is = (let same : bytes ≡ reply = cc in subst (IsReply side request) same replied)

-- an exchange that ended is recorded
pub one_more : (before after : Option (List Entry)) (authority request : List ℕ) (got : Got) → Tells before after authority request (bytes_of got) (result_of got) → TellsMore before after authority request got
one_more before after authority request None tells = tells
one_more before after authority request (Some reply) tells = tells

-- what is recorded so far, and the link that is quiet still
pub record Replied (base : BaseParts) (side : Side) (before after : LinkSeen) : Type 0 where
  pub tells : TellsReplies side before.recorded after.recorded
  pub quiet : IsQuietWith after base side

pub recorded_no_more : (recorded : Option (List Entry)) → recorded ≡ option_map (λ (entries : List Entry). entries ++ []) recorded
recorded_no_more None = refl
recorded_no_more (Some entries) = ap Some (sym (append-nil entries))

pub recorded_then : (recorded : Option (List Entry)) (first second : List Entry) →
    option_map (λ (entries : List Entry). entries ++ second) (option_map (λ (entries : List Entry). entries ++ first) recorded) ≡ option_map (λ (entries : List Entry). entries ++ (first ++ second)) recorded
recorded_then None first second = refl
recorded_then (Some entries) first second = ap Some (append_assoc entries first second)

-- nothing was asked
replied_none : (base : BaseParts) (side : Side) (link : LinkSeen) → IsQuietWith link base side → Replied base side link link
replied_none base side link quiet = record { tells = record { entries = []; own = All-nil (IsRepliedBy side); is = recorded_no_more link.recorded }; quiet = quiet }

-- and then more
pub tells_replies_then : (side : Side) (a b c : Option (List Entry)) → TellsReplies side a b → TellsReplies side b c → TellsReplies side a c
tells_replies_then side a b c one two = record {
  entries = one.entries ++ two.entries;
  own = All-append (IsRepliedBy side) one.entries two.entries one.own two.own;
  is = two.is ∙ ap (option_map (λ (entries : List Entry). entries ++ two.entries)) one.is ∙ recorded_then a one.entries two.entries;
}

-- this many were recorded in a turn, and the link is quiet still
pub record RepliedInTurn (base : BaseParts) (side : Side) (count : ℕ) (before after : LinkSeen) : Type 0 where
  pub tells : TellsSoMany side count before.recorded after.recorded
  pub quiet : IsQuietWith after base side

in_no_turn : (base : BaseParts) (side : Side) (link : LinkSeen) → IsQuietWith link base side → RepliedInTurn base side 0 link link
in_no_turn base side link quiet = record {
  tells = record { replies = record { entries = []; own = All-nil (IsRepliedBy side); is = recorded_no_more link.recorded }; count_is = refl };
  quiet = quiet;
}

-- an exchange over a quiet link
pub exchange_replied : (base : BaseParts) (side : Side) (s : Shown) (before after : LinkSeen) (got : Got) → IsQuietWith before base side → IsExchange base s before after got → RepliedInTurn base side 1 before after
exchange_replied base side s before after got quiet ex =
    let x : Exchanges before after base side ex.request (bytes_of got) (result_of got) = ex.honest base side (is_get base _ _ ex.request ex.asks) quiet.as_honest in
    let same : x.side ≡ side = x.same quiet.quiet in
    let more : TellsMore before.recorded after.recorded base.authority ex.request got = one_more before.recorded after.recorded base.authority ex.request got ex.recorded in
    let entry : Entry = record { authority = base.authority; request = ex.request; reply = more.reply } in
    let own : IsRepliedBy side entry =
    subst (λ (at : Side). IsRepliedBy at entry) same (λ reply is. replied_by x.side ex.request got more.reply reply x.replied more.is_given is) in
    record {
      tells = record {
        replies = record { entries = entry ∷ []; own = All-cons (IsRepliedBy side) entry [] own (All-nil (IsRepliedBy side)); is = more.is };
        count_is = refl;
      };
      quiet = record {
        as_honest = subst (λ (at : Side). IsHonestWith after base at) same x.honest;
        quiet = x.quiet quiet.quiet;
      };
    }

asks_replied : (base : BaseParts) (side : Side) (old new : Client) (kept after_kept : Kept) (before after : LinkSeen) → IsQuietWith before base side → Asks base old new kept after_kept before after →
    RepliedInTurn base side 1 before after
asks_replied base side old new kept after_kept before after quiet (inl (asks, same)) = exchange_replied base side (shown old) before after asks.got quiet asks.exchange
asks_replied base side old new kept after_kept before after quiet (inr (inl (asks, same))) = exchange_replied base side (shown old) before after asks.got quiet asks.exchange
asks_replied base side old new kept after_kept before after quiet (inr (inr asks)) = exchange_replied base side (shown old) before after asks.got quiet asks.exchange

-- one want is asked for in an exchange
one_asked : (want : Want) (outcome : Option Outcome) → 1 ≡ length (round_asked want outcome).asked
one_asked want None = refl
one_asked want (Some (outcomes.Found journey)) = refl
one_asked want (Some outcomes.NoJourney) = refl
one_asked want (Some (outcomes.Refused fault)) = refl
one_asked want (Some (outcomes.LinkFault low high)) = refl
one_asked want (Some (outcomes.PeerWrong reply fault)) = refl

-- what was replied so far, while the base stays
pub record RepliedSoFar {X : Type 0} (seen : X → LinkSeen) (base : BaseParts) (side : Side) (new : ConvoyState) (before after : X) : Type 0 where
  pub replied : Replied base side (seen before) (seen after)
  pub base_is : new.base ≡ base

none_so_far : {X : Type 0} (seen : X → LinkSeen) (base : BaseParts) (side : Side) (old new : ConvoyState) (before after : X) → old.base ≡ base → IsQuietWith (seen before) base side → new ≡ old → after ≡ before →
    RepliedSoFar seen base side new before after
none_so_far {X} seen base side old new before after under quiet same still = record {
  replied = subst (λ (x : X). Replied base side (seen before) (seen x)) (sym still) (replied_none base side (seen before) quiet);
  base_is = ap (λ (c : ConvoyState). c.base) same ∙ under;
}

-- a turn over a quiet link
module _ {X : Type 0} (seen : X → LinkSeen) (base : BaseParts) (side : Side) (k : ℕ) where
  pub turn_replied : (turn : Turn) (old new : ConvoyState) (before after : X) → old.base ≡ base → IsQuietWith (seen before) base side → (step : IsStep seen k old new before after turn) →
      RepliedInTurn base side (length (round_at turn (shown step.turned.was.client) (shown step.turned.is.client)).asked) (seen before) (seen after)
  turn_replied Finished old new before after under quiet step =
      subst (λ (x : X). RepliedInTurn base side 0 (seen before) (seen x)) (sym (step.idle (λ e. cc))) (in_no_turn base side (seen before) quiet)
  turn_replied Cached old new before after under quiet step =
      subst (λ (x : X). RepliedInTurn base side 0 (seen before) (seen x)) (sym (step.idle (λ e. cc))) (in_no_turn base side (seen before) quiet)
  turn_replied Exchanged old new before after under quiet step =
      let s = step.turned in
      let t = subst (λ (b : BaseParts). Turned b s.was s.is old.kept new.kept (seen before) (seen after) Exchanged) under s.turned in
      subst (λ (n : ℕ). RepliedInTurn base side n (seen before) (seen after)) (one_asked (want_of (shown s.was.client).phase) (shown s.is.client).outcome)
      (asks_replied base side s.was.client s.is.client old.kept new.kept (seen before) (seen after) quiet t.asks)

  -- turns of a client, one after the other
  pub turns_replied : (steps : List (Step X)) (old new : ConvoyState) (before after : X) → old.base ≡ base → IsQuietWith (seen before) base side → TurnsOf seen k steps old new before after →
      RepliedSoFar seen base side new before after
  turns_replied [] old new before after under quiet (same, still) = none_so_far seen base side old new before after under quiet same still
  turns_replied (step ∷ earlier) old new before after under quiet (last, turns) =
      let first = turns_replied earlier old step.convoy before step.link under quiet turns in
      let second = turn_replied step.turn step.convoy new step.link after first.base_is first.replied.quiet last in
      record {
        replied = record {
          tells = tells_replies_then side (seen before).recorded (seen step.link).recorded (seen after).recorded first.replied.tells second.tells.replies;
          quiet = second.quiet;
        };
        base_is = last.turned.base ∙ first.base_is;
      }

-- and the rounds of the clients, up to client n
pub rounds_replied : {X : Type 0} (seen : X → LinkSeen) (base : BaseParts) (side : Side) (n : ℕ) (old new : ConvoyState) (before after : X) → old.base ≡ base → IsQuietWith (seen before) base side →
    Rounds seen n old new before after → RepliedSoFar seen base side new before after
rounds_replied seen base side zero old new before after under quiet (same, still) = none_so_far seen base side old new before after under quiet same still
rounds_replied seen base side (suc n) old new before after under quiet (convoy, link, rounds, ends) =
    let first = rounds_replied seen base side n old convoy before link under quiet rounds in
    let second = turns_replied seen base side (suc n) ends.steps convoy new link after first.base_is first.replied.quiet ends.turns in
    record {
      replied = record {
        tells = tells_replies_then side (seen before).recorded (seen link).recorded (seen after).recorded first.replied.tells second.replied.tells;
        quiet = second.replied.quiet;
      };
      base_is = second.base_is;
    }
