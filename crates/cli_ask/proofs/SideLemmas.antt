-- Sides whose zones show the same dates have the same answers.
use Rattle.std.proofs.Common.{◌≡◌, ℕ, List, ap₂, subst}
use Rattle.lc_model.specs.declared.answer.Answer.{Answer}
use Rattle.lc_model.specs.declared.date.ServiceDate.{ServiceDate}
use Rattle.lc_model.specs.declared.doc.StopsDoc.{StopsDoc}
use Rattle.lc_model.specs.declared.page.PageName.{PageName}
use Rattle.lc_model.specs.declared.query.Query.{Query}
use Rattle.lc_model.specs.declared.run.Run.{Run}
use Rattle.lc_time.specs.Zone.{date_shown}
use Rattle.lc_time.specs.declared.zone.Zone.{Zone}
use Rattle.lc_model.specs.Versions.History.{Entry, news_at}
use Rattle.lc_model.specs.Versions.Timetable.{AreLiveRuns}
use Rattle.std.specs.Prelude.{unwrap_or}
use Rattle.lc_world.specs.Sides.Side.{Side, date_in, first_date}
use Rattle.cli_words.specs.declared.command.Publishing.{Publishing}
use Rattle.timetable.specs.Laws.{AreSame}
use Rattle.timetable.specs.declared.timetable.Timetable.{Timetable}
use Rattle.convoy.specs.ClientLaws.Answered.{AnswersAt, NeededAt}
use Rattle.convoy.specs.ClientLaws.Fits.{HasAnswered, IsDenied}
use Rattle.convoy.specs.ClientLaws.Published.{AreLiveAt, IsPublished, Published}
use Rattle.page_client.specs.Shown.{Shown}
use Rattle.page_client.specs.declared.fault.QueryFault.{QueryFault}
use Rattle.page_client.specs.declared.fault.QueryFault.TheVariants.{HorizonRange, SameStop, UnknownFrom, UnknownTo}
use Rattle.page_client.specs.declared.want.Want.{Want}
use Rattle.cli_ask.specs.Publishing.{side_with}
use Rattle.cli_ask.proofs.AdmissionLemmas.{store_with}

-- the side with this zone in the place of its own
abbrev pub in_zone : Side → Zone → Side
in_zone side zone = record side { zone = zone }

-- zones that show the same dates have the same date at each moment
same_dates : (x y : Zone) → ((moment : ℕ) → date_shown x moment ≡ date_shown y moment) → date_in x ≡ date_in y
same_dates x y same = λ i moment. unwrap_or (same moment i) first_date

module _ (side : Side) (zone : Zone) (same : date_in zone ≡ date_in side.zone) where
  pub live_at : (version : ℕ) (live : List Run) → AreLiveAt (in_zone side zone) version live → AreLiveAt side version live
  live_at version live are = subst (λ (dates : ℕ → ServiceDate). AreLiveRuns side.runs side.doc.stops (news_at dates side.history version) live) same are

  answers_at : (version : ℕ) (query : Query) (answer : Answer) → AnswersAt (in_zone side zone) version query answer → AnswersAt side version query answer
  answers_at version query answer is = record { live = is.live; are_live = live_at version is.live is.are_live; is_answer = is.is_answer }

  published_at : (version : ℕ) (published : Published) → IsPublished (in_zone side zone) version published → IsPublished side version published
  published_at version published is = record {
    are_live = live_at version published.live is.are_live;
    are_connections = is.are_connections;
    are_pages = is.are_pages;
  }

  needed_at : (version : ℕ) (query : Query) (names : List PageName) → NeededAt (in_zone side zone) version query names → NeededAt side version query names
  needed_at version query names is = record {
    published = is.published;
    is_published = published_at version is.published is.is_published;
    needed = is.needed;
    are_needed = is.are_needed;
    names_are = is.names_are;
  }

  pub answered_at : (s : Shown) (wanted : List Want) (answer : Answer) → HasAnswered (in_zone side zone) s wanted answer → HasAnswered side s wanted answer
  answered_at s wanted answer is = record {
    accepted = is.accepted;
    ends = record { from = is.ends.from; to = is.ends.to };
    version = is.version;
    at_version = is.at_version;
    of_side = is.of_side;
    answers = answers_at is.version s.query answer is.answers;
    names = is.names;
    are_needed = needed_at is.version s.query is.names is.are_needed;
    given = is.given;
  }

  pub denied_at : (s : Shown) (wanted : List Want) (fault : QueryFault) → IsDenied (in_zone side zone) s wanted fault → IsDenied side s wanted fault
  denied_at s wanted HorizonRange is = is
  denied_at s wanted SameStop is = is
  denied_at s wanted UnknownFrom is = record { accepted = is.accepted; no_from = is.no_from; given = is.given }
  denied_at s wanted UnknownTo is = record { accepted = is.accepted; from = is.from; no_to = is.no_to; given = is.given }

-- the sides of timetables that are the same differ in their zones alone, which show the same dates
pub same_side : (a b : Timetable) (publishing : Publishing) (moment : ℕ) (history : List Entry) → AreSame a b
    → side_with a publishing (store_with a moment history) ≡ in_zone (side_with b publishing (store_with b moment history)) a.zone
same_side a b publishing moment history same =
    let side = λ (runs : List Run) (doc : StopsDoc). let s : Side = record (side_with b publishing (store_with b moment history)) { runs = runs; doc = doc; zone = a.zone } in s in
    ap₂ side same.runs same.doc

pub dates_of : (a b : Timetable) → AreSame a b → date_in a.zone ≡ date_in b.zone
dates_of a b same = same_dates a.zone b.zone same.zones.dates
