-- What was taken back until it was over has the latest journeys of a timetable.
use Rattle.std.proofs.Common.{◌≡◌, ℕ, ◌≤◌, ◌⊎◌, inl, inr, List, [], ◌∷◌, ◌++◌, Option, Some, None, reverse, refl, sym, ◌∙◌, ap, subst, append-nil, append_assoc}
use Rattle.std.proofs.lemmas.List.{reverse-append}
use Rattle.lc_model.specs.Connection.{NoneArrivesEarly}
use Rattle.lc_model.specs.Journey.{IsJourney, leaves_at}
use Rattle.lc_model.specs.Leg.{IsChain, IsLegOf, in_time}
use Rattle.lc_model.specs.Question.{latest_of}
use Rattle.lc_model.specs.declared.connection.Connection.{Connection}
use Rattle.lc_model.specs.declared.doc.StopsDoc.{StopsDoc}
use Rattle.lc_model.specs.declared.journey.Journey.{Journey}
use Rattle.lc_model.specs.declared.query.Query.{Query}
use Rattle.lc_model.specs.declared.ride.Ride.{Ride}
use Rattle.lc_model.specs.Versions.Pages.{CutPage, page_for}
use Rattle.convoy.specs.PageLaws.Chain.{ArePagesOf, along_previous, connections_along}
use Rattle.convoy.proofs.PageLawsLemmas.ChainLemmas.{begins_there, links_part}
use Rattle.convoy.proofs.PageLawsLemmas.PartJourneyLemmas.{chain_of_front, chain_of_rest}
use Rattle.convoy.proofs.PageLawsLemmas.RowLemmas.{row}
use Rattle.back_scan.specs.Latest.{IsLatestDeparture, IsListLatest}
use Rattle.back_scan.specs.StandsFor.{IsLatestChain}
use Rattle.back_scan.proofs.OneLatestLemmas.{latest_departures_are_one}
use Rattle.back_client.specs.Ends.Early.{bound_back}
use Rattle.back_client.specs.Ends.LatestOf.{IsLatestOf}
use Rattle.back_client.specs.Ends.NeededBack.{IsOverBack, IsTakenBackUntilOver, connections_back, pages_back}
use Rattle.back_client.proofs.EndsLemmas.BackLemmas.{all_pages_back, along-append, pages_back_may_be_all}

-- what was taken is amid all connections
record IsAmid (list middle : List Connection) : Type 0 where
  front : List Connection
  end : List Connection
  whole : (front ++ middle) ++ end ≡ list

amid : (list : List Connection) (first : CutPage) (rest : List CutPage) (query : Query) (taken left : List CutPage) → ArePagesOf list first rest → pages_back first rest query ≡ taken ++ left → IsAmid list (connections_back taken)
amid list first rest query taken left pages are =
    let is = row list first rest pages in
    let moment = latest_of query in
    let found = page_for first rest moment in
    let previous = along_previous first rest moment in
    let there = begins_there first rest moment is.follow in
    let turned : reverse previous ++ found ∷ [] ≡ reverse left ++ reverse taken = sym (reverse-append (found ∷ []) previous) ∙ ap reverse are ∙ reverse-append taken left in
    let in_a_row : first ∷ rest ≡ (reverse left ++ reverse taken) ++ there.0 =
    sym (links_part first rest moment) ∙ ap (λ ps. reverse previous ++ ps) there.1 ∙ sym (append_assoc (reverse previous) (found ∷ []) there.0) ∙ ap (λ ps. ps ++ there.0) turned in
    record {
      front = connections_along (reverse left);
      end = connections_along there.0;
      whole = ap (λ l. l ++ connections_along there.0) (sym (along-append (reverse left) (reverse taken)))
          ∙ sym (along-append (reverse left ++ reverse taken) there.0) ∙ ap connections_along (sym in_a_row) ∙ is.whole;
    }

-- a chain of what was taken is one of all connections
chain_of_all : (list : List Connection) (query : Query) (doc : StopsDoc) (middle : List Connection) (journey : Journey) → IsAmid list middle → IsChain query doc middle journey → IsChain query doc list journey
chain_of_all list query doc middle journey amid is =
    let P : List Connection → Type 0 = λ l. IsChain query doc l journey in
    subst P amid.whole (chain_of_front query doc (amid.front ++ middle) amid.end journey (chain_of_rest query doc amid.front middle journey is))

-- the latest departure of what was taken until it was over is that of all connections
by_end : (list : List Connection) (first : CutPage) (rest : List CutPage) (query : Query) (doc : StopsDoc) (taken left : List CutPage) (latest : Option ℕ) → ArePagesOf list first rest → NoneArrivesEarly list →
    pages_back first rest query ≡ taken ++ left → IsListLatest query doc (connections_back taken) latest →
    (left ≡ []) ⊎ ((before : List CutPage) × (page : CutPage) × (taken ≡ before ++ page ∷ []) × IsOverBack query doc before page) → IsListLatest query doc list latest
by_end list first rest query doc taken left latest pages forward are is (inl none) =
    (all_pages_back list first rest query doc taken latest pages forward (are ∙ ap (λ l. taken ++ l) none ∙ append-nil taken)).0 is
by_end list first rest query doc taken left latest pages forward are is (inr (before, page, ends, over)) =
    let T : List CutPage → Type 0 = λ t. IsListLatest query doc (connections_back t) latest in
    let there = subst T ends is in
    let same = latest_departures_are_one (IsLegOf (in_time query (connections_back (before ++ page ∷ [])))) query doc over.latest latest over.is_latest there in
    let P : Option ℕ → Type 0 = λ o. page.departs ≤ bound_back query o in
    (pages_back_may_be_all list first rest query doc before page left latest pages forward (are ∙ ap (λ t. t ++ left) ends) (subst P same over.by_name)).0 there

pub latest_of_all : (list : List Connection) (first : CutPage) (rest : List CutPage) (query : Query) (doc : StopsDoc) (taken : List CutPage) (latest : Option ℕ) → ArePagesOf list first rest → NoneArrivesEarly list →
    IsTakenBackUntilOver query doc (pages_back first rest query) taken → IsListLatest query doc (connections_back taken) latest → IsListLatest query doc list latest
latest_of_all list first rest query doc taken latest pages forward h is = by_end list first rest query doc taken h.left latest pages forward h.are is h.ends

-- where two kinds of ride have the same journeys, a latest departure of the one is one of the other
pub latest_over : (A B : Ride → Type 0) (query : Query) (doc : StopsDoc) (latest : Option ℕ) → ((journey : Journey) → IsJourney A query doc journey → IsJourney B query doc journey) →
    ((journey : Journey) → IsJourney B query doc journey → IsJourney A query doc journey) → IsLatestDeparture A query doc latest → IsLatestDeparture B query doc latest
latest_over A B query doc None forth back is = λ journey j. is journey (back journey j)
latest_over A B query doc (Some leaves) forth back ((journey, is, at), latest) = ((journey, forth journey is, at), (λ other j. latest other (back other j)))

-- a latest chain of what was taken until it was over is a latest journey
pub latest_journeys : (list : List Connection) (first : CutPage) (rest : List CutPage) (query : Query) (doc : StopsDoc) (taken : List CutPage) (B : Ride → Type 0) (answer : Option Journey) → ArePagesOf list first rest → NoneArrivesEarly list →
    ((journey : Journey) → IsChain query doc list journey → IsJourney B query doc journey) → ((journey : Journey) → IsJourney B query doc journey → IsChain query doc list journey) →
    IsTakenBackUntilOver query doc (pages_back first rest query) taken → IsLatestChain query doc (connections_back taken) answer → IsLatestOf B query doc answer
latest_journeys list first rest query doc taken B None pages forward forth back h is = λ journey j. latest_of_all list first rest query doc taken None pages forward h is journey (back journey j)
latest_journeys list first rest query doc taken B (Some journey) pages forward forth back h is =
    let all = latest_of_all list first rest query doc taken (Some (leaves_at journey)) pages forward h ((journey, is.is_journey, refl), is.is_latest) in
    record {
      is_journey = forth journey (chain_of_all list query doc (connections_back taken) journey (amid list first rest query taken h.left pages h.are) is.is_journey);
      is_latest = λ other j. all.1 other (back other j);
    }
