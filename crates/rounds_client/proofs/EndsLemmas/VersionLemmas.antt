-- The needed pages of a version show the journeys of the fewest rides at the version.
use Rattle.std.proofs.Common.{◌≡◌, ℕ, List, [], ◌∷◌, ◌++◌, map, refl, ap, sym, subst, ◌∙◌}
use Rattle.std.specs.List.{All}
use Rattle.std.proofs.lemmas.List.{append_assoc}
use Rattle.std.proofs.lemmas.List.Elements.{All-head, All-tail}
use Rattle.lc_model.specs.Ride.{IsRideAt}
use Rattle.lc_model.specs.declared.connection.Connection.{Connection}
use Rattle.lc_model.specs.declared.page.PageName.{PageName}
use Rattle.lc_model.specs.declared.query.Query.{Query}
use Rattle.lc_model.specs.declared.run.Run.{Run}
use Rattle.live_calls.proofs.LawLemmas.{one_live_list}
use Rattle.lc_model.specs.Versions.Pages.{CutPage}
use Rattle.convoy.proofs.PageLawsLemmas.JourneysLemmas.{chain_is_journey, journey_is_chain}
use Rattle.page_json.specs.declared.page.Page.{Page}
use Rattle.lc_world.specs.Sides.PageAt.{named}
use Rattle.lc_world.specs.Sides.Response.{IsPageOf}
use Rattle.lc_world.specs.Sides.Side.{IsValidSide, Side}
use Rattle.convoy.specs.PageLaws.Chain.{connections_along}
use Rattle.convoy.specs.PageLaws.Needed.{needed_pages}
use Rattle.convoy.specs.PageLaws.Rides.{pages_on}
use Rattle.convoy.specs.PageLaws.Stop.{bound_of}
use Rattle.convoy.proofs.PageLawsLemmas.UpToLemmas.{is_up_to}
use Rattle.convoy.specs.ClientLaws.Answered.{names_at}
use Rattle.convoy.specs.ClientLaws.Links.{connections_on}
use Rattle.convoy.specs.ClientLaws.Published.{IsOwnPage, IsPublished, Published}
use Rattle.convoy.proofs.ClientLawsLemmas.AnsweredLemmas.{least_of_chains}
use Rattle.convoy.proofs.ClientLawsLemmas.OwnPageLemmas.{all_parts, own_is_between}
use Rattle.convoy.proofs.ClientLawsLemmas.PublishedLemmas.{is_lawful, is_timetable}
use Rattle.change_rounds.specs.Fewest.{IsFewestAnswer, IsFewestChain}
use Rattle.change_rounds.proofs.AlikeLemmas.{journeys_are_alike}
use Rattle.rounds_client.specs.Ends.Version.{AlikeAt, FewestOfNeededAt}
use Rattle.rounds_client.proofs.EndsLemmas.NeededLemmas.{fewest_of_rides}

module _ (side : Side) (version : ℕ) (query : Query) (published : Published) (valid : IsValidSide side) (is_published : IsPublished side version published) where
  -- the side's own page of a name has the connections of the page of that name
  own_list : (before : List CutPage) (cut : CutPage) (behind : List CutPage) → pages_on published.first published.rest query ≡ before ++ cut ∷ behind → (page : Page) → IsOwnPage side page → page.name ≡ named version cut.departs →
      page.list ≡ cut.connections
  own_list before cut behind parts page own is =
      let P : PageName → Type 0 = λ n. IsPageOf side n.version n.departs page in
      let whole = all_parts published.first published.rest query before cut behind parts in
      ap (λ (p : Page). p.list) (own_is_between side version published valid is_published _ cut behind whole page (subst P is own.is_page))

  -- and so page by page
  own_lists : (before cuts behind : List CutPage) → pages_on published.first published.rest query ≡ before ++ (cuts ++ behind) → (pages : List Page) → All (IsOwnPage side) pages → map (λ (page : Page). page.name) pages ≡ names_at version cuts →
      connections_on pages ≡ connections_along cuts
  own_lists before [] behind parts [] own is = refl
  own_lists before [] behind parts (page ∷ pages) own is = absurd (cc)
  own_lists before (cut ∷ cuts) behind parts [] own is = absurd (cc)
  own_lists before (cut ∷ cuts) behind parts (page ∷ pages) own is =
      let first : page.name ≡ named version cut.departs = cc in
      let others : map (λ (p : Page). p.name) pages ≡ names_at version cuts = cc in
      let here = own_list before cut (cuts ++ behind) parts page (All-head (IsOwnPage side) page pages own) first in
      let on = own_lists (before ++ cut ∷ []) cuts behind (parts ∙ sym (append_assoc before (cut ∷ []) (cuts ++ behind))) pages (All-tail (IsOwnPage side) page pages own) others in
      ap (λ (l : List Connection). l ++ connections_on pages) here ∙ ap (λ (l : List Connection). cut.connections ++ l) on

pub fewest_of_needed_at : FewestOfNeededAt
fewest_of_needed_at side version query names pages answer valid at are =
    let published = at.published in
    let needs = at.are_needed in
    let lawful = is_lawful side version published valid at.is_published in
    let table = is_timetable side version published valid at.is_published in
    let up_to = is_up_to (bound_of query needs.best) (pages_on published.first published.rest query) in
    let lists : connections_on pages ≡ connections_along (needed_pages published.first published.rest query needs.best) =
    own_lists side version query published valid at.is_published [] (needed_pages published.first published.rest query needs.best) up_to.left up_to.are pages are.own
    (are.named ∙ at.names_are ∙ ap (names_at version) needs.are) in
    let best = least_of_chains published.live published.list published.first published.rest query side.doc table lawful.pages lawful.forward needs.best needs.is_best in
    let law = fewest_of_rides (IsRideAt published.live) published.list published.first published.rest query side.doc needs.best answer lawful.pages lawful.forward best
    (λ journey. journey_is_chain published.live published.list query side.doc journey table) (λ journey. chain_is_journey published.live published.list query side.doc journey table) needs.is_best in
    let P : List Connection → Type 0 = λ l. IsFewestChain query side.doc l answer in (
      (λ chain. record { live = published.live; are_live = at.is_published.are_live; is_fewest = law.0 (subst P lists chain) }),
      (λ fewest.
          let same : fewest.live ≡ published.live = one_live_list _ _ _ fewest.live published.live fewest.are_live at.is_published.are_live in
          let Q : List Run → Type 0 = λ live. IsFewestAnswer (IsRideAt live) query side.doc answer in
          subst P (sym lists) (law.1 (subst Q same fewest.is_fewest))),
    )

pub alike_at : AlikeAt
alike_at side version query a b first second =
    let same : first.live ≡ second.live = one_live_list _ _ _ first.live second.live first.are_live second.are_live in
    let Q : List Run → Type 0 = λ live. IsFewestAnswer (IsRideAt live) query side.doc a in
    journeys_are_alike second.live query side.doc a b (subst Q same first.is_fewest) second.is_fewest
