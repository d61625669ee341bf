-- What is published of a version is one, is lawful, and stays.
use Rattle.std.proofs.Common.{◌≡◌, ℕ, List, ◌∷◌, ◌++◌, true, refl, ap, sym, subst, ◌∙◌}
use Rattle.std.specs.Prelude.{◌↔◌}
use Rattle.lc_model.specs.Connection.{AreConnectionsOf, connections_of}
use Rattle.lc_model.specs.Run.{RunsForward}
use Rattle.lc_model.specs.declared.connection.Connection.{Connection}
use Rattle.lc_model.specs.declared.run.Run.{Run}
use Rattle.lc_model.proofs.ConnectionLemmas.{NoneArrivesEarly-sorted}
use Rattle.lc_model.proofs.OneValueLemmas.{one_list_of_connections}
use Rattle.lc_model.specs.Versions.History.{Entry, news_at}
use Rattle.lc_model.specs.Versions.News.{TripSaid}
use Rattle.lc_model.specs.Versions.Pages.{CutPage, departures_of, pages_of}
use Rattle.lc_model.specs.Versions.Timetable.{AreLiveRuns}
use Rattle.live_calls.proofs.LawLemmas.{one_live_list}
use Rattle.live_calls.proofs.LiveRunsLemmas.{live_runs_go_forward}
use Rattle.lc_world.proofs.SidesLemmas.PageLemmas.{never_falls}
use Rattle.convoy.proofs.PageLawsLemmas.RidesAreLegsLemmas.{Timetable}
use Rattle.convoy.proofs.PageLawsLemmas.RowLemmas.{never_empty}
use Rattle.lc_world.specs.Sides.PageAt.{linked, page_among}
use Rattle.lc_world.specs.Sides.Side.{IsTimetableAt, IsValidSide, Side, date_in, has_version}
use Rattle.lc_world.proofs.SidesLemmas.LaterLemmas.{with_more}
use Rattle.lc_world.proofs.SidesLemmas.VersionLemmas.{later_moments, news_stay}
use Rattle.convoy.specs.ClientLaws.Laws.{OnePublished, PagesAreAmong, PublishedIsLawful, PublishedStays, Stays}
use Rattle.convoy.specs.ClientLaws.Published.{AreLiveAt, IsPublished, Published}

same_parts : (a b : Published) → a.live ≡ b.live → a.list ≡ b.list → a.first ≡ b.first → a.rest ≡ b.rest → a ≡ b
same_parts a b live list first rest =
    ap (λ (l : List Run). let p : Published = record { live = l; list = a.list; first = a.first; rest = a.rest } in p) live
    ∙ ap (λ (l : List Connection). let p : Published = record { live = b.live; list = l; first = a.first; rest = a.rest } in p) list
    ∙ ap (λ (f : CutPage). let p : Published = record { live = b.live; list = b.list; first = f; rest = a.rest } in p) first
    ∙ ap (λ (r : List CutPage). let p : Published = record { live = b.live; list = b.list; first = b.first; rest = r } in p) rest

pub one_published : OnePublished
one_published side version a b first second =
    let live : a.live ≡ b.live = one_live_list _ _ _ a.live b.live first.are_live second.are_live in
    let list : a.list ≡ b.list =
    one_list_of_connections b.live a.list b.list (subst (λ (l : List Run). AreConnectionsOf l a.list) live first.are_connections) second.are_connections in
    let pages : a.first ∷ a.rest ≡ b.first ∷ b.rest = sym first.are_pages ∙ ap (λ (l : List Connection). pages_of (side.cuts_of (departures_of l)) l) list ∙ second.are_pages in
    let head : a.first ≡ b.first = cc in
    let tail : a.rest ≡ b.rest = cc in
    same_parts a b live list head tail

pub live_runs_forward : (side : Side) (version : ℕ) (live : List Run) → IsValidSide side → AreLiveAt side version live → RunsForward live
live_runs_forward side version live valid are = live_runs_go_forward side.runs side.doc.stops (news_at (date_in side.zone) side.history version) live valid.calls are

pub is_lawful : PublishedIsLawful
is_lawful side version published valid is =
    let runs : RunsForward published.live = live_runs_forward side version published.live valid is.are_live in
    record {
      pages = record {
        in_order = is.are_connections.in_order;
        cuts = side.cuts_of (departures_of published.list);
        lawful = valid.lawful (departures_of published.list) (never_falls published.list is.are_connections.in_order);
        are = is.are_pages;
      };
      runs = runs;
      forward = NoneArrivesEarly-sorted published.live (connections_of published.live) published.list runs refl is.are_connections.all;
    }

-- the runs and their connections are a timetable
pub is_timetable : (side : Side) (version : ℕ) (published : Published) → IsValidSide side → IsPublished side version published → Timetable published.live published.list
is_timetable side version published valid is = record {
  in_key_order = is.are_live.in_order;
  forward = live_runs_forward side version published.live valid is.are_live;
  connections = is.are_connections;
}

-- a version of which a timetable is known is published
pub record IsMadeOf (side : Side) (version : ℕ) (list : List Connection) : Type 0 where
  pub published : Published
  pub is_published : IsPublished side version published
  pub same : published.list ≡ list

pub made_of : (side : Side) (version : ℕ) (list : List Connection) → IsTimetableAt side version list → IsMadeOf side version list
made_of side version list t =
    let pages = never_empty list (side.cuts_of (departures_of list)) in
    record {
      published = record { live = t.live; list = list; first = pages.0; rest = pages.1 };
      is_published = record { are_live = t.are_live; are_connections = t.are_connections; are_pages = pages.2 };
      same = refl;
    }

pub pages_are_among : PagesAreAmong
pages_are_among side version departs page is =
    let made = made_of side version is.list is.timetable in
    let cuts : List Connection → List ℕ = λ l. side.cuts_of (departures_of l) in
    record {
      published = made.published;
      is_published = made.is_published;
      is =
          is.is
          ∙ ap (λ (l : List Connection). linked version (cuts l) (page_among (pages_of (cuts l) l) departs)) (sym made.same)
          ∙ ap (λ (pages : List CutPage). linked version (cuts made.published.list) (page_among pages departs)) made.is_published.are_pages;
    }

-- the news of a version are the same after more messages
same_news : (side : Side) (more : List Entry) (version : ℕ) → IsValidSide (with_more side more) → has_version side version ≡ true →
    news_at (date_in side.zone) (side.history ++ more) version ≡ news_at (date_in side.zone) side.history version
same_news side more version valid there =
    news_stay (date_in side.zone) side.history more version (later_moments side.base_moment side.history more version valid.rising there)

-- what is so of a version by its runs and its documents alone stays
pub stays_by_news : (IsSo : Side → ℕ → Type 0) → ((side : Side) (more : List Entry) (version : ℕ) →
    ((live : List Run) → AreLiveAt side version live ↔ AreLiveAt (with_more side more) version live) → (IsSo side version ↔ IsSo (with_more side more) version)) → Stays IsSo
stays_by_news IsSo both before after version valid later there =
    subst (λ (side : Side). IsValidSide side → (IsSo before version ↔ IsSo side version)) (sym later.is)
    (λ v. both before later.more version (λ live. (
      (λ are. subst (λ (news : List TripSaid). AreLiveRuns before.runs before.doc.stops news live) (sym (same_news before later.more version v there)) are),
      (λ are. subst (λ (news : List TripSaid). AreLiveRuns before.runs before.doc.stops news live) (same_news before later.more version v there) are),
    ))) valid

pub published_stays : PublishedStays
published_stays published =
    stays_by_news (λ side version. IsPublished side version published) (λ side more version same. (
      (λ is. record { are_live = (same published.live).0 is.are_live; are_connections = is.are_connections; are_pages = is.are_pages }),
      (λ is. record { are_live = (same published.live).1 is.are_live; are_connections = is.are_connections; are_pages = is.are_pages }),
    ))
