-- A client that agrees with a side agrees with every later one.
use Rattle.std.proofs.Common.{◌≡◌, ℕ, List, true, Option, Some, None, refl, sym, subst}
use Rattle.lc_model.specs.declared.answer.Answer.{Answer}
use Rattle.lc_model.specs.declared.answer.Answer.TheVariants as answers
use Rattle.lc_model.specs.declared.page.PageName.{PageName}
use Rattle.lc_model.specs.Versions.History.{Entry}
use Rattle.page_client.specs.Client.{shown}
use Rattle.page_client.specs.Shown.{Shown}
use Rattle.page_client.specs.declared.client.Client.{Client}
use Rattle.page_client.specs.declared.fault.QueryFault.{QueryFault}
use Rattle.page_client.specs.declared.fault.QueryFault.TheVariants.{HorizonRange, SameStop, UnknownFrom, UnknownTo}
use Rattle.page_client.specs.declared.outcome.Outcome.{Outcome}
use Rattle.page_client.specs.declared.outcome.Outcome.TheVariants as outcomes
use Rattle.page_client.specs.declared.phase.Phase.{Phase}
use Rattle.page_client.specs.declared.phase.Phase.TheVariants as phases
use Rattle.page_client.specs.declared.want.Want.{Want}
use Rattle.lc_world.specs.Sides.Response.{IsPageOf}
use Rattle.lc_world.specs.Sides.Side.{IsLater, IsValidSide, Side, has_version}
use Rattle.lc_world.proofs.SidesLemmas.LaterLemmas.{timetables_stay, with_more}
use Rattle.lc_world.proofs.SidesLemmas.VersionLemmas.{still_found}
use Rattle.convoy.specs.ClientLaws.Fits.{FitsAt, FitsSide, HasAnswered, HasEnded, HasFailed, IsDenied, IsOfSide, IsSentOn, WaitsForPage}
use Rattle.convoy.specs.ClientLaws.Laws.{FitsStays, OwnPagesStay}
use Rattle.convoy.proofs.ClientLawsLemmas.AnsweredLemmas.{answers_stay, needed_stays}
use Rattle.convoy.proofs.ClientLawsLemmas.PublishedLemmas.{published_stays}
use Rattle.convoy.proofs.ClientLawsLemmas.WantsLemmas.{wants_stay}

-- who has a version of the side has this one
pub has_own : (side : Side) (at : Option ℕ) (version : ℕ) → at ≡ Some version → IsOfSide side at → has_version side version ≡ true
has_own side at version is own = subst (IsOfSide side) is own

module _ (side : Side) (more : List Entry) (valid : IsValidSide (with_more side more)) where
  later : IsLater side (with_more side more)
  later = record { more = more; is = refl }

  still_has : (version : ℕ) → has_version side version ≡ true → has_version (with_more side more) version ≡ true
  still_has version there = still_found side.base_moment side.history more version there

  still_own : (at : Option ℕ) → IsOfSide side at → IsOfSide (with_more side more) at
  still_own None own = own
  still_own (Some version) own = still_has version own

  answered_stays : (s : Shown) (wanted : List Want) (answer : Answer) → HasAnswered side s wanted answer → HasAnswered (with_more side more) s wanted answer
  answered_stays s wanted answer is = record {
    accepted = is.accepted;
    ends = is.ends;
    version = is.version;
    at_version = is.at_version;
    of_side = still_has is.version is.of_side;
    answers = (answers_stay s.query answer side (with_more side more) is.version valid later is.of_side).0 is.answers;
    names = is.names;
    are_needed = (needed_stays s.query is.names side (with_more side more) is.version valid later is.of_side).0 is.are_needed;
    given = is.given;
  }

  denied_stays : (s : Shown) (wanted : List Want) (fault : QueryFault) → IsDenied side s wanted fault → IsDenied (with_more side more) s wanted fault
  denied_stays s wanted HorizonRange is = is
  denied_stays s wanted SameStop is = is
  denied_stays s wanted UnknownFrom is = record { accepted = is.accepted; no_from = is.no_from; given = is.given }
  denied_stays s wanted UnknownTo is = record { accepted = is.accepted; from = is.from; no_to = is.no_to; given = is.given }

  failed_stays : (s : Shown) (wanted : List Want) (version : Option ℕ) → HasFailed side s wanted version → HasFailed (with_more side more) s wanted version
  failed_stays s wanted None is = is
  failed_stays s wanted (Some version) is = record {
    of_side = still_has version is.of_side;
    past_gate = is.past_gate;
    goes_on = λ all are. is.goes_on all ((wants_stay s.query all side (with_more side more) version valid later is.of_side).1 are);
  }

  ended_stays : (s : Shown) (wanted : List Want) (outcome : Option Outcome) → HasEnded side s wanted outcome → HasEnded (with_more side more) s wanted outcome
  ended_stays s wanted None is = is
  ended_stays s wanted (Some (outcomes.Found journey)) is = answered_stays s wanted (answers.Journey journey) is
  ended_stays s wanted (Some outcomes.NoJourney) is = answered_stays s wanted answers.NoJourney is
  ended_stays s wanted (Some (outcomes.Refused fault)) is = denied_stays s wanted fault is
  ended_stays s wanted (Some (outcomes.LinkFault before after)) is = failed_stays s wanted s.version is
  ended_stays s wanted (Some (outcomes.PeerWrong reply fault)) is = is

  module _ (client : Client) (wanted : List Want) (own : IsOfSide side client.version) where
    sent_stays : (name : PageName) → IsSentOn side (shown client) wanted name → IsSentOn (with_more side more) (shown client) wanted name
    sent_stays name is = record {
      accepted = is.accepted;
      at_version = is.at_version;
      no_outcome = is.no_outcome;
      given = is.given;
      published = is.published;
      is_published = (published_stays is.published side (with_more side more) name.version valid later (has_own side client.version name.version is.at_version own)).0 is.is_published;
      is_page = is.is_page;
      sound = is.sound;
    }

    under_way_stays : (name : PageName) → WaitsForPage side client wanted name → WaitsForPage (with_more side more) client wanted name
    under_way_stays name is = record {
      accepted = is.accepted;
      at_version = is.at_version;
      no_outcome = is.no_outcome;
      ends = is.ends;
      published = is.published;
      is_published = (published_stays is.published side (with_more side more) name.version valid later (has_own side client.version name.version is.at_version own)).0 is.is_published;
      before = is.before;
      page = is.page;
      behind = is.behind;
      parts = is.parts;
      is_page = is.is_page;
      sound = is.sound;
      given = is.given;
      goes_on = is.goes_on;
      stands = is.stands;
      by_gate = is.by_gate;
    }

    fits_stays_at : (phase : Phase) → FitsAt side client wanted phase → FitsAt (with_more side more) client wanted phase
    fits_stays_at phases.Gate is = is
    fits_stays_at (phases.Stops name) is = sent_stays name is
    fits_stays_at (phases.Page name) is = under_way_stays name is
    fits_stays_at phases.Finished is = ended_stays (shown client) wanted client.outcome is

pub fits_stays : FitsStays
fits_stays before after client wanted valid after_is fits =
    subst (λ (side : Side). IsValidSide side → FitsSide side client wanted) (sym after_is.is)
    (λ v. record {
      of_side = still_own before after_is.more v client.version fits.of_side;
      fits = fits_stays_at before after_is.more v client wanted fits.of_side client.phase fits.fits;
    }) valid

pub own_pages_stay : OwnPagesStay
own_pages_stay before after page valid after_is own = record {
  has = subst (λ (side : Side). IsValidSide side → has_version side page.name.version ≡ true) (sym after_is.is) (λ v. still_has before after_is.more v page.name.version own.has) valid;
  is_page = subst (λ (side : Side). IsValidSide side → IsPageOf side page.name.version page.name.departs page) (sym after_is.is)
      (λ v. record {
        list = own.is_page.list;
        timetable = timetables_stay before (with_more before after_is.more) page.name.version own.is_page.list v (record { more = after_is.more; is = refl }) own.has own.is_page.timetable;
        is = own.is_page.is;
      }) valid;
  sound = own.sound;
}
