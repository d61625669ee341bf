-- Over a quiet link a client of the fewest rides ends rightly, as any client does, and with the fewest rides.
use Rattle.std.proofs.Common.{◌≡◌, ◌∙◌, ◌⊎◌, ℕ, inl, inr, List, [], ◌∷◌, ◌++◌, length, map, Option, Some, None, ap, refl, subst, sym}
use Rattle.std.specs.Prelude.{IsSome}
use Rattle.std.proofs.lemmas.List.Elements.{All-nil}
use Rattle.cli_ask.proofs.ClientLemmas.{at_end, same_end}
use Rattle.cli_ask.specs.Block.{IsPrintable}
use Rattle.cli_ask.specs.Client.{AsksFor, AsksOneMore, shown_of}
use Rattle.cli_ask.specs.FewestRides.Client.{EndsRightFewest, HasFewestRides, client_of}
use Rattle.connection_uri.specs.Base.{BaseParts}
use Rattle.convoy.specs.Exchange.{Got, IsExchange}
use Rattle.convoy.specs.ClientLaws.Answered.{AnswersAt}
use Rattle.convoy.specs.ClientLaws.Fits.{HasAnswered, HasEnded, HasFailed}
use Rattle.convoy.specs.ClientLaws.Steps.{BeginsInAgreement}
use Rattle.convoy.specs.ClientLaws.Wants.{AreWants}
use Rattle.convoy.proofs.AgreementLemmas.RepliesLemmas.{Replied, exchange_replied, recorded_no_more, tells_replies_then}
use Rattle.convoy.specs.Agreement.OneClient.{version_of}
use Rattle.convoy.specs.Agreement.Replies.{IsRepliedBy, TellsReplies}
use Rattle.convoy.specs.Agreement.Requests.{TellsAsked}
use Rattle.rounds_client.specs.Ends.Version.{FewestAt, FewestOfNeededAt}
use Rattle.convoy.specs.Replies.Ends.{EndsBy}
use Rattle.convoy.specs.Replies.Made.{Made}
use Rattle.rounds_client.proofs.EndsLemmas.CourseLemmas.{AskedJust, AskedOneMore, SoFar, none_so_far, so_far}
use Rattle.rounds_client.proofs.EndsLemmas.EndLemmas.{fewest_ends_right}
use Rattle.rounds_client.specs.Ends.Right.{EndsAt, IsNamed, IsNamedByGate, IsRight}
use Rattle.rounds_client.specs.Ends.Asked.{HasAskedFewest}
use Rattle.convoy.specs.ClientLaws.Stated.{version_at}
use Rattle.lc_model.specs.declared.answer.Answer.TheVariants as answers
use Rattle.lc_model.specs.declared.journey.Journey.{Journey}
use Rattle.lc_model.specs.declared.query.Query.{Query}
use Rattle.lc_world.specs.Link.{IsQuietWith, LinkSeen}
use Rattle.page_client.specs.Client.{shown}
use Rattle.page_client.specs.Shown.{IsRefusal, Shown}
use Rattle.page_client.specs.declared.client.Client.{Client}
use Rattle.page_client.specs.declared.fault.QueryFault.{QueryFault}
use Rattle.page_client.specs.declared.fault.QueryFault.TheVariants.{HorizonRange, SameStop, UnknownFrom, UnknownTo}
use Rattle.page_client.specs.declared.outcome.Outcome.{Outcome}
use Rattle.page_client.specs.declared.outcome.Outcome.TheVariants as outcomes
use Rattle.page_client.specs.declared.want.Want.{Want}
use Rattle.page_client.specs.declared.want.Want.TheVariants as wants
use Rattle.lc_world.specs.Sides.Side.{Side}
use Rattle.rounds_client.specs.Course.{AnswersFewest, LeadsTo, Point}
use Rattle.rounds_client.specs.End.{ArrivesAtAMoment, EndsSo}
use Rattle.rounds_client.specs.Given.{Gives, Was}
use Rattle.rounds_client.specs.declared.ending.FewestEnd.{FewestEnd}

-- a journey that arrives at a moment has a text
pub printable : (outcome : Outcome) → ArrivesAtAMoment outcome → IsPrintable outcome
printable (outcomes.Found journey) moment = moment
printable outcomes.NoJourney moment = tt
printable (outcomes.Refused fault) moment = tt
printable (outcomes.LinkFault before after) moment = tt
printable (outcomes.PeerWrong reply fault) moment = tt

-- ---- what is recorded are replies of the side

-- by an exchange over a quiet link
by_exchange : (base : BaseParts) (side : Side) (s : Shown) (before after : LinkSeen) (got : Got) → IsQuietWith before base side → IsExchange base s before after got → Replied base side before after
by_exchange base side s before after got quiet ex =
    let one = exchange_replied base side s before after got quiet ex in
    record { tells = one.tells.replies; quiet = one.quiet }

gives_replied : (base : BaseParts) (side : Side) (old new : Client) (before after : LinkSeen) (given now : Was) → IsQuietWith before base side → Gives base old new before after given now → Replied base side before after
gives_replied base side old new before after given now quiet (inl (gate, same)) = by_exchange base side (shown old) before after gate.got quiet gate.exchange
gives_replied base side old new before after given now quiet (inr (inl stops)) = by_exchange base side (shown old) before after stops.got quiet stops.exchange
gives_replied base side old new before after given now quiet (inr (inr page)) = by_exchange base side (shown old) before after page.got quiet page.exchange

-- exchange after exchange
all_replied : {X : Type 0} (seen : X → LinkSeen) (base : BaseParts) (side : Side) (points : List (Point X)) (start end : Point X) → IsQuietWith (seen start.link) base side → LeadsTo seen base points start end
    → Replied base side (seen start.link) (seen end.link)
all_replied {X} seen base side [] start end quiet is =
    subst (λ (p : Point X). Replied base side (seen start.link) (seen p.link)) (sym is)
    (record { tells = record { entries = []; own = All-nil (IsRepliedBy side); is = recorded_no_more (seen start.link).recorded }; quiet = quiet })
all_replied {X} seen base side (last ∷ earlier) start end quiet (gives, leads) =
    let first = all_replied seen base side earlier start last quiet leads in
    let second = gives_replied base side last.client end.client (seen last.link) (seen end.link) last.given end.given first.quiet gives in
    record { tells = tells_replies_then side (seen start.link).recorded (seen last.link).recorded (seen end.link).recorded first.tells second.tells; quiet = second.quiet }

-- ---- the wants of a client that failed at the time gate

not_at_once : (query : Query) (fault : QueryFault) → IsRefusal query None → IsRefusal query (Some fault) → ⊥
not_at_once query HorizonRange accepted refused = refused accepted.0
not_at_once query SameStop accepted refused = accepted.1 refused.1
not_at_once query UnknownFrom accepted refused = refused
not_at_once query UnknownTo accepted refused = refused

begins_at_gate : (side : Side) (version : ℕ) (query : Query) (all : List Want) → IsRefusal query None → AreWants side version query all → (rest : List Want) × (all ≡ wants.Gate ∷ rest)
begins_at_gate side version query all accepted (inl at_once) = absurd (not_at_once query at_once.fault accepted at_once.is_refusal)
begins_at_gate side version query all accepted (inr (inl by_stops)) = (wants.Stops ∷ [], by_stops.are)
begins_at_gate side version query all accepted (inr (inr answered)) = (wants.Stops ∷ map wants.Page answered.names, answered.are)

-- ---- over a quiet link

module _ {X : Type 0} (seen : X → LinkSeen) (base : BaseParts) (side : Side) (query : Query) (before after : X) (quiet : IsQuietWith (seen before) base side) (end : FewestEnd) (right : IsRight seen base query side before after end) where
  abbrev own_shown : Shown
  own_shown = shown_of query (client_of end)

  -- a version that was named is the one that the question means
  named : (number : ℕ) → end.version ≡ Some number → number ≡ version_at side query.known
  named number is =
      let by_gate : IsNamedByGate seen base query side right.left before after number = subst (λ (v : Option ℕ). IsNamed seen base query side right.left before after v) is right.named in
      by_gate.is ∙ ap (λ (s : Side). version_at s query.known) (by_gate.first.same quiet.quiet)

  -- a journey that was found has the fewest rides
  fewest_at : (journey : Journey) → end.outcome ≡ outcomes.Found journey → FewestAt side (version_at side query.known) query (Some journey)
  fewest_at journey is =
      let has = subst (λ (o : Outcome). EndsAt right.left query end.version right.asked (seen before).faults (seen after).faults o) is right.ends in
      subst (λ (v : ℕ). FewestAt side v query (Some journey)) (named has.number has.at_version)
      (subst (λ (s : Side). FewestAt s has.number query (Some journey)) (right.honest.same quiet.quiet) has.is_fewest)

  some_named : (given : List Want) (number : ℕ) → end.version ≡ Some number → (given ≡ [] → ⊥) → end.version ≡ version_of side query given
  some_named [] number is some = absurd (some refl)
  some_named (want ∷ more) number is some = is ∙ ap Some (named number is)

  not_nothing : (given : List Want) (first : Want) (rest : List Want) → given ≡ first ∷ rest → given ≡ [] → ⊥
  not_nothing given first rest is none = let e : [] ≡ first ∷ rest = sym none ∙ is in cc

  -- the version of what was received
  failed_version : (given : List Want) (version : Option ℕ) → end.version ≡ version → HasFailed side own_shown given version → end.version ≡ version_of side query given
  failed_version given None is (accepted, none) = is ∙ sym (ap (version_of side query) none)
  failed_version given (Some number) is cut = some_named given number is cut.past_gate

  version_is : (given : List Want) (made : List Made) (outcome : Outcome) → EndsBy base query (seen before).faults (seen after).faults end.version made outcome → HasEnded side own_shown given (Some outcome)
      → end.version ≡ version_of side query given
  version_is given made (outcomes.Found journey) ends x = some_named given x.version x.at_version (not_nothing given wants.Gate (wants.Stops ∷ map wants.Page x.names) x.given)
  version_is given made outcomes.NoJourney ends x = some_named given x.version x.at_version (not_nothing given wants.Gate (wants.Stops ∷ map wants.Page x.names) x.given)
  version_is given made (outcomes.Refused HorizonRange) ends x = ends.no_version ∙ sym (ap (version_of side query) x.given)
  version_is given made (outcomes.Refused SameStop) ends x = ends.no_version ∙ sym (ap (version_of side query) x.given)
  version_is given made (outcomes.Refused UnknownFrom) ends x = some_named given ends.read.came.first.version ends.read.came.at_version (not_nothing given wants.Gate (wants.Stops ∷ []) x.given)
  version_is given made (outcomes.Refused UnknownTo) ends x = some_named given ends.read.came.first.version ends.read.came.at_version (not_nothing given wants.Gate (wants.Stops ∷ []) x.given)
  version_is given made (outcomes.LinkFault low high) ends x = failed_version given end.version refl x
  version_is given made (outcomes.PeerWrong reply fault) ends x = absurd x

  -- a best journey of the fewest rides is an answer as any other
  answered_so : (given : List Want) (journey fewest : Journey) → end.outcome ≡ outcomes.Found fewest → HasAnswered side own_shown given (answers.Journey journey) → HasAnswered side own_shown given (answers.Journey fewest)
  answered_so given journey fewest is x =
      let at = fewest_at fewest is in
      let own : x.version ≡ version_at side query.known = named x.version x.at_version in
      record {
        accepted = x.accepted;
        ends = x.ends;
        version = x.version;
        at_version = x.at_version;
        of_side = x.of_side;
        answers =
            subst (λ (v : ℕ). AnswersAt side v query (answers.Journey fewest)) (sym own) (record { live = at.live; are_live = at.are_live; is_answer = at.is_fewest.is_best });
        names = x.names;
        are_needed = x.are_needed;
        given = x.given;
      }

  ended_in_place : (given : List Want) (was : Was) (own : Outcome) → AnswersFewest query was own end.outcome → HasEnded side own_shown given (Some own) → HasEnded side own_shown given (Some end.outcome)
  ended_in_place given was (outcomes.Found journey) (doc, fewest, has, is, chain) x =
      subst (λ (o : Outcome). HasEnded side own_shown given (Some o)) (sym is) (answered_so given journey fewest is x)
  ended_in_place given was outcomes.NoJourney is x = subst (λ (o : Outcome). HasEnded side own_shown given (Some o)) (sym is) x
  ended_in_place given was (outcomes.Refused fault) is x = subst (λ (o : Outcome). HasEnded side own_shown given (Some o)) (sym is) x
  ended_in_place given was (outcomes.LinkFault low high) is x = subst (λ (o : Outcome). HasEnded side own_shown given (Some o)) (sym is) x
  ended_in_place given was (outcomes.PeerWrong reply fault) is x = absurd x

  asks_in_place : (given asked : List Want) (was : Was) (own : Outcome) → AnswersFewest query was own end.outcome → AsksFor side query given asked own → AsksFor side query given asked end.outcome
  asks_in_place given asked was (outcomes.Found journey) (doc, fewest, has, is, chain) x = subst (AsksFor side query given asked) (sym is) x
  asks_in_place given asked was outcomes.NoJourney is x = subst (AsksFor side query given asked) (sym is) x
  asks_in_place given asked was (outcomes.Refused fault) is x = subst (AsksFor side query given asked) (sym is) x
  asks_in_place given asked was (outcomes.LinkFault low high) is x = subst (AsksFor side query given asked) (sym is) x
  asks_in_place given asked was (outcomes.PeerWrong reply fault) is x = subst (AsksFor side query given asked) (sym is) x

  -- what a client that failed asked for in vain is the next of its wants
  module _ (left : Side) (same : left ≡ side) (s : Shown) (question : s.query ≡ query) (version : s.version ≡ end.version) (given asked : List Want) (more : AskedOneMore left s given asked) where
    next_at : (v : Option ℕ) → end.version ≡ v → HasFailed side own_shown given v → (all : List Want) → AreWants side (version_at side query.known) query all
        → (rest : List Want) × (all ≡ given ++ more.want ∷ rest)
    next_at None is (accepted, none) all are =
        let begins = begins_at_gate side (version_at side query.known) query all accepted are in
        (begins.0, begins.1 ∙ ap (λ (w : Want). w ∷ begins.0) (sym (more.gate none)) ∙ ap (λ (l : List Want). l ++ more.want ∷ begins.0) (sym none))
    next_at (Some number) is cut all are =
        more.next number all (version ∙ is)
        (subst (λ (x : Side). AreWants x number s.query all) (sym same)
        (subst (λ (q : Query). AreWants side number q all) (sym question) (subst (λ (n : ℕ). AreWants side n query all) (sym (named number is)) are)))

    one_more_asked : HasFailed side own_shown given end.version → AsksOneMore side query given asked
    one_more_asked failed = record { want = more.want; is_next = record { gate = more.gate; next = next_at end.version refl failed }; are = more.are }

  asks_for : (left : Side) → left ≡ side → (s : Shown) → s.query ≡ query → s.version ≡ end.version → (given asked : List Want) (own : Outcome) → s.outcome ≡ Some own → HasEnded side own_shown given (Some own)
      → AskedJust s given asked ⊎ AskedOneMore left s given asked → AsksFor side query given asked own
  asks_for left same s question version given asked (outcomes.Found journey) is ended (inl just) = just.are
  asks_for left same s question version given asked (outcomes.Found journey) is ended (inr more) = let e = sym is ∙ more.by_fault.is in absurd (cc)
  asks_for left same s question version given asked outcomes.NoJourney is ended (inl just) = just.are
  asks_for left same s question version given asked outcomes.NoJourney is ended (inr more) = let e = sym is ∙ more.by_fault.is in absurd (cc)
  asks_for left same s question version given asked (outcomes.Refused fault) is ended (inl just) = just.are
  asks_for left same s question version given asked (outcomes.Refused fault) is ended (inr more) = let e = sym is ∙ more.by_fault.is in absurd (cc)
  asks_for left same s question version given asked (outcomes.LinkFault low high) is ended (inl just) = absurd (just.no_fault (record { low = low; high = high; is = is }))
  asks_for left same s question version given asked (outcomes.LinkFault low high) is ended (inr more) = one_more_asked left same s question version given asked more ended
  asks_for left same s question version given asked (outcomes.PeerWrong reply fault) is ended exact = absurd ended

pub ends_fewest : BeginsInAgreement → FewestOfNeededAt → {X : Type 0} (seen : X → LinkSeen) (base : BaseParts) (side : Side) (query : Query) (before after : X) (end : FewestEnd) → IsQuietWith (seen before) base side
    → EndsSo seen base query before after end → HasAskedFewest base query (seen before) (seen after) end.version end.exchanges end.outcome
    → EndsRightFewest side base query (seen before).recorded (seen after).recorded (client_of end)
ends_fewest begins law {X} seen base side query before after end quiet e asked =
    let right : IsRight seen base query side before after end = fewest_ends_right begins law seen side base query before after end quiet.as_honest e in
    let start : Point X = record { client = e.start; given = record { doc = None; pages = [] }; link = before } in
    let s : SoFar seen base query side before e.last (length e.points) =
    so_far seen base query side before e.points start e.last (none_so_far begins seen base query side before e.start quiet.as_honest e.begins) e.leads in
    let same : s.left ≡ side = s.honest.same quiet.quiet in
    let t : Shown = shown_of query (client_of end) in
    let some : IsSome (shown e.last.client).outcome = subst (λ (o : Option Outcome). IsSome o) (sym e.ended) refl in
    let at : HasEnded s.left (shown e.last.client) s.wanted (Some e.outcome) =
    subst (HasEnded s.left (shown e.last.client) s.wanted) e.ended (at_end s.left e.last.client s.wanted e.last.client.phase some s.fits.fits) in
    let own : HasEnded side t s.wanted (Some e.outcome) =
    subst (λ (x : Side). HasEnded x t s.wanted (Some e.outcome)) same (same_end s.left (shown e.last.client) t s.wanted s.query_is (sym e.version) e.outcome at) in
    let ended = ended_in_place seen base side query before after quiet end right s.wanted e.last.given e.outcome e.answer own in
    let asks = asks_for seen base side query before after quiet end right s.left same (shown e.last.client) s.query_is (sym e.version) s.wanted s.asked e.outcome e.ended own s.exact in
    let replied = all_replied seen base side e.points start e.last quiet e.leads in
    record {
      right = record {
        given = s.wanted;
        ended = ended;
        version_is = version_is seen base side query before after quiet end right s.wanted asked.asked.made end.outcome asked.asked.ends ended;
        asked = s.asked;
        asks = asks_in_place seen base side query before after quiet end right s.wanted s.asked e.last.given e.outcome e.answer asks;
        exchanges = e.exchanges ∙ s.count;
        tells = subst (λ (x : X). TellsAsked (seen before).recorded (seen x).recorded base query s.asked) e.link s.recorded;
        replied = subst (λ (x : X). TellsReplies side (seen before).recorded (seen x).recorded) e.link replied.tells;
      };
      fewest = has_fewest_rides end.outcome (fewest_at seen base side query before after quiet end right);
    } where
      has_fewest_rides : (outcome : Outcome) → ((journey : Journey) → outcome ≡ outcomes.Found journey → FewestAt side (version_at side query.known) query (Some journey)) → HasFewestRides side query outcome
      has_fewest_rides (outcomes.Found journey) at = at journey refl
      has_fewest_rides outcomes.NoJourney at = tt
      has_fewest_rides (outcomes.Refused fault) at = tt
      has_fewest_rides (outcomes.LinkFault low high) at = tt
      has_fewest_rides (outcomes.PeerWrong reply fault) at = tt
