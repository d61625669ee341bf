-- How a client ended, from what is promised of the convoy in which it was alone.
use Rattle.std.proofs.Common.{◌≡◌, ◌∙◌, ◌+◌, ◌-◌, ◌<◌, ◌≤◌, ◌⊎◌, ℕ, inl, inr, List, [], ◌∷◌, Option, Some, None, arith, subst, sym}
use Rattle.std.specs.List.{slice_get}
use Rattle.std.specs.Option.{IfSome, IsSome}
use Rattle.convoy.specs.ClientLaws.Answered.{AnswersAt, NeededAt}
use Rattle.convoy.specs.ClientLaws.Fits.{FitsAt, HasAnswered, HasEnded, HasFailed, IsDenied}
use Rattle.convoy.specs.ClientLaws.Wants.{AreWants, HasEnds}
use Rattle.convoy.specs.Replies.Ends.{EndsBy}
use Rattle.convoy.specs.Replies.Made.{Made}
use Rattle.convoy.specs.Replies.Run.{HasAsked, HasRun}
use Rattle.connection_uri.specs.Base.{BaseParts}
use Rattle.convoy.specs.State.{ConvoyState}
use Rattle.convoy.specs.declared.member.Member.{Member}
use Rattle.convoy.specs.Agreement.OneClient.{AskedAll, AskedOneMore, IsAlone}
use Rattle.lc_model.specs.Journey.{arrives_at}
use Rattle.lc_model.specs.Stop.{HasStop}
use Rattle.lc_model.specs.declared.answer.Answer.{Answer}
use Rattle.lc_model.specs.declared.answer.Answer.TheVariants as answers
use Rattle.lc_model.specs.declared.moment.TheConstants.{MOMENTS_END}
use Rattle.lc_model.specs.declared.query.Query.{Query}
use Rattle.lc_model.specs.declared.query.TheConstants.{LAST_LEAVE}
use Rattle.lc_world.specs.Link.{LinkSeen}
use Rattle.page_client.specs.Client.{shown}
use Rattle.page_client.specs.Shown.{IsRefusal, Shown}
use Rattle.page_client.specs.declared.client.Client.{Client}
use Rattle.page_client.specs.declared.fault.QueryFault.{QueryFault}
use Rattle.page_client.specs.declared.fault.QueryFault.TheVariants.{HorizonRange, SameStop, UnknownFrom, UnknownTo}
use Rattle.page_client.specs.declared.outcome.Outcome.{Outcome}
use Rattle.page_client.specs.declared.outcome.Outcome.TheVariants as outcomes
use Rattle.page_client.specs.declared.phase.Phase.{Phase}
use Rattle.page_client.specs.declared.phase.Phase.TheVariants as phases
use Rattle.page_client.specs.declared.want.Want.{Want}
use Rattle.lc_world.specs.Sides.Side.{Side}
use Rattle.cli_ask.specs.Block.{IsPrintable}
use Rattle.cli_ask.specs.Client.{AsksFor, EndsRight, shown_of}
use Rattle.cli_ask.specs.declared.end.ClientEnd.{ClientEnd}

-- within a week of any moment of leaving there are only moments
within_a_week : (arrival leave horizon : ℕ) → horizon ≤ 604_800 → leave ≤ LAST_LEAVE → arrival ≤ leave + horizon → arrival < MOMENTS_END
within_a_week arrival leave horizon week not_after in_time = omega arith

-- a journey that was found arrives at a moment
pub printable : (base : BaseParts) (query : Query) (before now : ℕ) (version : Option ℕ) (made : List Made) (outcome : Outcome) → EndsBy base query before now version made outcome → IsPrintable outcome
printable base query before now version made (outcomes.Found journey) ends =
    within_a_week (arrives_at journey) query.leave query.horizon ends.accepted.0.up_to_a_week query.not_after ends.in_time
printable base query before now version made outcomes.NoJourney ends = tt
printable base query before now version made (outcomes.Refused fault) ends = tt
printable base query before now version made (outcomes.LinkFault count later) ends = tt
printable base query before now version made (outcomes.PeerWrong reply fault) ends = tt

-- What is said of the first client is said of the only one.
first_is : (members : List Member) (member : Member) (k : ℕ) (P : Member → Type 0) → members ≡ member ∷ [] → k ≡ 1 → IfSome (slice_get members (k - 1)) P → P member
first_is members member k P alone one is = subst (λ n. IfSome (slice_get (member ∷ []) (n - 1)) P) one (subst (λ (l : List Member). IfSome (slice_get l (k - 1)) P) alone is)

no_outcome : (outcome : Option Outcome) → IsSome outcome → outcome ≡ None → ⊥
no_outcome None is e = cc
no_outcome (Some o) is e = cc

-- a client that has its outcome is at its end
pub at_end : (side : Side) (client : Client) (given : List Want) (phase : Phase) → IsSome client.outcome → FitsAt side client given phase → HasEnded side (shown client) given client.outcome
at_end side client given phases.Gate some fits = absurd (no_outcome client.outcome some fits.no_outcome)
at_end side client given (phases.Stops first) some fits = absurd (no_outcome client.outcome some fits.no_outcome)
at_end side client given (phases.Page name) some fits = absurd (no_outcome client.outcome some fits.no_outcome)
at_end side client given phases.Finished some fits = fits

module _ (side : Side) (s t : Shown) (given : List Want) (query : s.query ≡ t.query) (version : s.version ≡ t.version) where
  same_answered : (answer : Answer) → HasAnswered side s given answer → HasAnswered side t given answer
  same_answered answer is = record {
    accepted = subst (λ q. IsRefusal q None) query is.accepted;
    ends = subst (HasEnds side.doc) query is.ends;
    version = is.version;
    at_version = sym version ∙ is.at_version;
    of_side = is.of_side;
    answers = subst (λ q. AnswersAt side is.version q answer) query is.answers;
    names = is.names;
    are_needed = subst (λ q. NeededAt side is.version q is.names) query is.are_needed;
    given = is.given;
  }

  same_denied : (fault : QueryFault) → IsDenied side s given fault → IsDenied side t given fault
  same_denied HorizonRange is = record { deserved = subst (λ q. IsRefusal q (Some HorizonRange)) query is.deserved; given = is.given }
  same_denied SameStop is = record { deserved = subst (λ q. IsRefusal q (Some SameStop)) query is.deserved; given = is.given }
  same_denied UnknownFrom is = record {
    accepted = subst (λ q. IsRefusal q None) query is.accepted;
    no_from = subst (λ (q : Query). HasStop side.doc.stops q.from → ⊥) query is.no_from;
    given = is.given;
  }
  same_denied UnknownTo is = record {
    accepted = subst (λ q. IsRefusal q None) query is.accepted;
    from = subst (λ (q : Query). HasStop side.doc.stops q.from) query is.from;
    no_to = subst (λ (q : Query). HasStop side.doc.stops q.to → ⊥) query is.no_to;
    given = is.given;
  }

  same_failed : (v w : Option ℕ) → v ≡ w → HasFailed side s given v → HasFailed side t given w
  same_failed v w e is = by v w e (at_gate_or_behind v is) where
    at_gate_or_behind : (v : Option ℕ) → HasFailed side s given v → HasFailed side t given v
    at_gate_or_behind None is = (subst (λ q. IsRefusal q None) query is.0, is.1)
    at_gate_or_behind (Some named) is = record {
      of_side = is.of_side;
      past_gate = is.past_gate;
      goes_on = λ all are. is.goes_on all (subst (λ q. AreWants side named q all) (sym query) are);
    }

    by : (v w : Option ℕ) → v ≡ w → HasFailed side t given v → HasFailed side t given w
    by v w e is = subst (HasFailed side t given) e is

  -- how a client ended, of what else shows the same question and version
  pub same_end : (outcome : Outcome) → HasEnded side s given (Some outcome) → HasEnded side t given (Some outcome)
  same_end (outcomes.Found journey) is = same_answered (answers.Journey journey) is
  same_end outcomes.NoJourney is = same_answered answers.NoJourney is
  same_end (outcomes.Refused fault) is = same_denied fault is
  same_end (outcomes.LinkFault before after) is = same_failed s.version t.version version is
  same_end (outcomes.PeerWrong reply fault) is = absurd is

-- what the client asked for besides what it received
asked_for : (side : Side) (query : Query) (member : Member) (given asked : List Want) (outcome : Outcome) → (shown member.client).outcome ≡ Some outcome
    → AskedAll member given asked ⊎ AskedOneMore side query member given asked → AsksFor side query given asked outcome
asked_for side query member given asked (outcomes.Found journey) is (inl all) = all.are
asked_for side query member given asked (outcomes.Found journey) is (inr more) = let e = sym is ∙ more.by_fault.is in absurd (cc)
asked_for side query member given asked outcomes.NoJourney is (inl all) = all.are
asked_for side query member given asked outcomes.NoJourney is (inr more) = let e = sym is ∙ more.by_fault.is in absurd (cc)
asked_for side query member given asked (outcomes.Refused fault) is (inl all) = all.are
asked_for side query member given asked (outcomes.Refused fault) is (inr more) = let e = sym is ∙ more.by_fault.is in absurd (cc)
asked_for side query member given asked (outcomes.LinkFault before after) is (inl all) = absurd (all.no_fault (record { low = before; high = after; is = is }))
asked_for side query member given asked (outcomes.LinkFault before after) is (inr more) = record { want = more.want; is_next = more.is_next; are = more.are }
asked_for side query member given asked (outcomes.PeerWrong reply fault) is (inl all) = all.are
asked_for side query member given asked (outcomes.PeerWrong reply fault) is (inr more) = let e = sym is ∙ more.by_fault.is in absurd (cc)

-- what the convoy says of the client with this number
pub record IsSaid (new : ConvoyState) (k : ℕ) (end : ClientEnd) : Type 0 where
  pub version : IfSome (slice_get new.members (k - 1)) (λ (m : Member). end.version ≡ (shown m.client).version)
  pub exchanges : IfSome (slice_get new.members (k - 1)) (λ (m : Member). end.exchanges ≡ m.exchanges)
  pub outcome : IfSome (slice_get new.members (k - 1)) (λ (m : Member). Some end.outcome ≡ (shown m.client).outcome)

module _ (base : BaseParts) (query : Query) (new : ConvoyState) (before after : LinkSeen) (k : ℕ) (one : k ≡ 1) (end : ClientEnd) (said : IsSaid new k end) where
  pub asks : HasRun base query before after new → HasAsked base query before after end.version end.exchanges end.outcome
  asks run =
      let version = first_is new.members run.member k (λ (m : Member). end.version ≡ (shown m.client).version) run.alone one said.version in
      let exchanges = first_is new.members run.member k (λ (m : Member). end.exchanges ≡ m.exchanges) run.alone one said.exchanges in
      let some : Some end.outcome ≡ Some run.outcome = first_is new.members run.member k (λ (m : Member). Some end.outcome ≡ (shown m.client).outcome) run.alone one said.outcome ∙ run.ended in
      let outcome : end.outcome ≡ run.outcome = cc in
      subst (λ v. HasAsked base query before after v end.exchanges end.outcome) (sym version)
      (subst (λ n. HasAsked base query before after (shown run.member.client).version n end.outcome) (sym exchanges)
      (subst (HasAsked base query before after (shown run.member.client).version run.member.exchanges) (sym outcome) run.asked))

  pub right : (side : Side) → IsAlone side base query new before after → EndsRight side base query before.recorded after.recorded end
  right side alone =
      let member = alone.member in
      let version = first_is new.members member k (λ (m : Member). end.version ≡ (shown m.client).version) alone.only one said.version in
      let exchanges = first_is new.members member k (λ (m : Member). end.exchanges ≡ m.exchanges) alone.only one said.exchanges in
      let outcome = first_is new.members member k (λ (m : Member). Some end.outcome ≡ (shown m.client).outcome) alone.only one said.outcome in
      let ended = subst (HasEnded side (shown member.client) alone.given) (sym outcome) (at_end side member.client alone.given member.client.phase alone.ended alone.fits.fits) in
      record {
        given = alone.given;
        ended = same_end side (shown member.client) (shown_of query end) alone.given alone.query_is (sym version) end.outcome ended;
        version_is = version ∙ alone.version_is;
        asked = alone.asked;
        asks = asked_for side query member alone.given alone.asked end.outcome (sym outcome) alone.exact;
        exchanges = exchanges ∙ alone.count;
        tells = alone.recorded;
        replied = alone.replied;
      }
