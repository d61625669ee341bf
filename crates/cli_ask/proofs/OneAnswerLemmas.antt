-- Two clients that ended with an answer or a refusal by one side, at one version, ended in one way, and received the same.
use Rattle.std.proofs.Common.{◌≡◌, ◌∙◌, List, [], ◌∷◌, Some, ap, refl, subst, sym}
use Rattle.lc_model.specs.Laws.{arrival_of}
use Rattle.lc_model.specs.declared.answer.Answer.{Answer}
use Rattle.lc_model.specs.declared.answer.Answer.TheVariants as answers
use Rattle.lc_model.specs.declared.query.Query.{Query}
use Rattle.lc_time.specs.declared.zone.Zone.{Zone}
use Rattle.convoy.specs.ClientLaws.Answered.{AnswersAt, NeededAt}
use Rattle.convoy.specs.ClientLaws.Fits.{HasAnswered, HasEnded, IsDenied}
use Rattle.convoy.specs.ClientLaws.Laws.{OneArrivalAt, OneListOfNeededAt}
use Rattle.convoy.specs.ClientLaws.Wants.{wants_of}
use Rattle.convoy.specs.Replies.Laws.{SayTheSame}
use Rattle.convoy.specs.Agreement.OneClient.{version_of}
use Rattle.page_client.specs.declared.fault.QueryFault.{QueryFault}
use Rattle.page_client.specs.declared.fault.QueryFault.TheVariants.{HorizonRange, SameStop, UnknownFrom, UnknownTo}
use Rattle.page_client.specs.declared.outcome.Outcome.{Outcome}
use Rattle.page_client.specs.declared.outcome.Outcome.TheVariants as outcomes
use Rattle.page_client.specs.declared.want.Want.{Want}
use Rattle.lc_world.specs.Sides.Side.{Side, date_in}
use Rattle.convoy.specs.ClientLaws.Stated.{version_at}
use Rattle.cli_ask.specs.Client.{shown_of}
use Rattle.cli_ask.specs.Laws.{IsNoLinkFault}
use Rattle.cli_ask.specs.declared.end.ClientEnd.{ClientEnd}
use Rattle.cli_ask.proofs.SideLemmas.{answered_at, denied_at, in_zone}

-- the outcomes of two clients of one side say the same, and both received the same
pub record AreAlike (o p : Outcome) (g h : List Want) : Type 0 where
  pub outcome : SayTheSame o p
  pub given : g ≡ h

-- the question means one version to both, by what a side had when each of them asked first
module _ (one_arrival : OneArrivalAt) (one_needed : OneListOfNeededAt) (side meant : Side) (query : Query) (d e : ClientEnd) (g h : List Want)
    (at : d.version ≡ version_of meant query g) (to : e.version ≡ version_of meant query h) where
  -- an answer is one at the version that the question means
  first_version : (answer : Answer) (x : HasAnswered side (shown_of query d) g answer) → x.version ≡ version_at meant query.known
  first_version answer x =
      let same : Some x.version ≡ Some (version_at meant query.known) = sym x.at_version ∙ at ∙ ap (version_of meant query) x.given in
      cc

  second_version : (answer : Answer) (y : HasAnswered side (shown_of query e) h answer) → y.version ≡ version_at meant query.known
  second_version answer y =
      let same : Some y.version ≡ Some (version_at meant query.known) = sym y.at_version ∙ to ∙ ap (version_of meant query) y.given in
      cc

  same_arrival : (a b : Answer) → HasAnswered side (shown_of query d) g a → HasAnswered side (shown_of query e) h b → arrival_of a ≡ arrival_of b
  same_arrival a b x y =
      let version = version_at meant query.known in
      one_arrival side version query a b (subst (λ v. AnswersAt side v query a) (first_version a x) x.answers) (subst (λ v. AnswersAt side v query b) (second_version b y) y.answers)

  same_given : (a b : Answer) → HasAnswered side (shown_of query d) g a → HasAnswered side (shown_of query e) h b → g ≡ h
  same_given a b x y =
      let version = version_at meant query.known in
      let names : x.names ≡ y.names = one_needed side version query x.names y.names (subst (λ v. NeededAt side v query x.names) (first_version a x) x.are_needed)
      (subst (λ v. NeededAt side v query y.names) (second_version b y) y.are_needed) in
      x.given ∙ ap wants_of names ∙ sym y.given

  -- what is answered is not refused
  not_both : (answer : Answer) (fault : QueryFault) → HasAnswered side (shown_of query d) g answer → IsDenied side (shown_of query e) h fault → ⊥
  not_both answer HorizonRange x y = y.deserved x.accepted.0
  not_both answer SameStop x y = x.accepted.1 y.deserved.1
  not_both answer UnknownFrom x y = y.no_from x.ends.from
  not_both answer UnknownTo x y = y.no_to x.ends.to

  nor_both : (answer : Answer) (fault : QueryFault) → IsDenied side (shown_of query d) g fault → HasAnswered side (shown_of query e) h answer → ⊥
  nor_both answer HorizonRange x y = x.deserved y.accepted.0
  nor_both answer SameStop x y = y.accepted.1 x.deserved.1
  nor_both answer UnknownFrom x y = x.no_from y.ends.from
  nor_both answer UnknownTo x y = x.no_to y.ends.to

  -- a question is refused for one cause
  both_denied : (a b : QueryFault) → IsDenied side (shown_of query d) g a → IsDenied side (shown_of query e) h b → AreAlike (outcomes.Refused a) (outcomes.Refused b) g h
  both_denied HorizonRange HorizonRange x y = record { outcome = refl; given = x.given ∙ sym y.given }
  both_denied HorizonRange SameStop x y = absurd (x.deserved y.deserved.0)
  both_denied HorizonRange UnknownFrom x y = absurd (x.deserved y.accepted.0)
  both_denied HorizonRange UnknownTo x y = absurd (x.deserved y.accepted.0)
  both_denied SameStop HorizonRange x y = absurd (y.deserved x.deserved.0)
  both_denied SameStop SameStop x y = record { outcome = refl; given = x.given ∙ sym y.given }
  both_denied SameStop UnknownFrom x y = absurd (y.accepted.1 x.deserved.1)
  both_denied SameStop UnknownTo x y = absurd (y.accepted.1 x.deserved.1)
  both_denied UnknownFrom HorizonRange x y = absurd (y.deserved x.accepted.0)
  both_denied UnknownFrom SameStop x y = absurd (x.accepted.1 y.deserved.1)
  both_denied UnknownFrom UnknownFrom x y = record { outcome = refl; given = x.given ∙ sym y.given }
  both_denied UnknownFrom UnknownTo x y = absurd (x.no_from y.from)
  both_denied UnknownTo HorizonRange x y = absurd (y.deserved x.accepted.0)
  both_denied UnknownTo SameStop x y = absurd (x.accepted.1 y.deserved.1)
  both_denied UnknownTo UnknownFrom x y = absurd (y.no_from x.from)
  both_denied UnknownTo UnknownTo x y = record { outcome = refl; given = x.given ∙ sym y.given }

  -- how clients ended by no fault of the link
  pub alike : (o p : Outcome) → HasEnded side (shown_of query d) g (Some o) → HasEnded side (shown_of query e) h (Some p) → IsNoLinkFault o → IsNoLinkFault p → AreAlike o p g h
  alike (outcomes.Found a) (outcomes.Found b) x y f i = record { outcome = (let same = same_arrival (answers.Journey a) (answers.Journey b) x y in cc); given = same_given (answers.Journey a) (answers.Journey b) x y }
  alike (outcomes.Found a) outcomes.NoJourney x y f i = let never = same_arrival (answers.Journey a) answers.NoJourney x y in absurd (cc)
  alike (outcomes.Found a) (outcomes.Refused b) x y f i = absurd (not_both (answers.Journey a) b x y)
  alike (outcomes.Found a) (outcomes.LinkFault m n) x y f i = absurd i
  alike (outcomes.Found a) (outcomes.PeerWrong r b) x y f i = absurd y
  alike outcomes.NoJourney (outcomes.Found b) x y f i = let never = same_arrival answers.NoJourney (answers.Journey b) x y in absurd (cc)
  alike outcomes.NoJourney outcomes.NoJourney x y f i = record { outcome = tt; given = same_given answers.NoJourney answers.NoJourney x y }
  alike outcomes.NoJourney (outcomes.Refused b) x y f i = absurd (not_both answers.NoJourney b x y)
  alike outcomes.NoJourney (outcomes.LinkFault m n) x y f i = absurd i
  alike outcomes.NoJourney (outcomes.PeerWrong r b) x y f i = absurd y
  alike (outcomes.Refused a) (outcomes.Found b) x y f i = absurd (nor_both (answers.Journey b) a x y)
  alike (outcomes.Refused a) outcomes.NoJourney x y f i = absurd (nor_both answers.NoJourney a x y)
  alike (outcomes.Refused a) (outcomes.Refused b) x y f i = both_denied a b x y
  alike (outcomes.Refused a) (outcomes.LinkFault m n) x y f i = absurd i
  alike (outcomes.Refused a) (outcomes.PeerWrong r b) x y f i = absurd y
  alike (outcomes.LinkFault k l) p x y f i = absurd f
  alike (outcomes.PeerWrong r a) p x y f i = absurd x

-- sides at which a question means one version mean it to a client that received this
pub same_version : (side other : Side) (query : Query) (given : List Want) → version_at side query.known ≡ version_at other query.known → version_of side query given ≡ version_of other query given
same_version side other query [] same = refl
same_version side other query (want ∷ more) same = ap Some same

-- how a client ended by a side in another zone is how it ended by the side, but for a fault of the link
pub ended_at : (side : Side) (zone : Zone) → date_in zone ≡ date_in side.zone → (query : Query) (end : ClientEnd) (given : List Want) (outcome : Outcome)
    → HasEnded (in_zone side zone) (shown_of query end) given (Some outcome) → IsNoLinkFault outcome → HasEnded side (shown_of query end) given (Some outcome)
ended_at side zone same query end given (outcomes.Found journey) ended fine = answered_at side zone same (shown_of query end) given (answers.Journey journey) ended
ended_at side zone same query end given outcomes.NoJourney ended fine = answered_at side zone same (shown_of query end) given answers.NoJourney ended
ended_at side zone same query end given (outcomes.Refused fault) ended fine = denied_at side zone same (shown_of query end) given fault ended
ended_at side zone same query end given (outcomes.LinkFault before after) ended fine = absurd fine
ended_at side zone same query end given (outcomes.PeerWrong reply fault) ended fine = absurd ended
