-- A walk along the previous links over an honest link: page after page is the side's own, and passes the tests.
use Rattle.std.proofs.Common.{◌≡◌, ℕ, suc, ◌+◌, ◌≤◌, ◌⊎◌, inl, inr, true, List, [], ◌∷◌, ◌++◌, map, reverse, Option, Some, None, Result, Ok, length, refl, ap, ap₂, sym, subst, ◌∙◌, arith}
use Rattle.std.specs.Prelude.{option_map}
use Rattle.std.specs.Option.{IfSome}
use Rattle.std.proofs.lemmas.List.{append_assoc, reverse-append}
use Rattle.lc_model.specs.Question.{latest_of}
use Rattle.lc_model.specs.declared.connection.Connection.{Connection}
use Rattle.lc_model.specs.declared.doc.StopsDoc.{StopsDoc}
use Rattle.lc_model.specs.declared.journey.Journey.{Journey}
use Rattle.lc_model.specs.declared.page.PageName.{PageName}
use Rattle.lc_model.specs.declared.query.Query.{Query}
use Rattle.lc_model.specs.Versions.Cuts.{first_of}
use Rattle.lc_model.specs.Versions.Pages.{CutPage, departures_of}
use Rattle.connection_uri.specs.Base.{BaseParts}
use Rattle.connection_uri.specs.Page.{page_target_of}
use Rattle.lc_world.specs.Link.{IsHonestWith, LinkSeen}
use Rattle.page_json.specs.Sound.{IsSoundName, IsSoundPage}
use Rattle.page_json.specs.declared.page.Page.{Page}
use Rattle.page_client.specs.Page.{IsPageReply}
use Rattle.page_client.specs.Request.{Asks}
use Rattle.page_client.specs.Shown.{answered}
use Rattle.page_client.specs.declared.fault.PeerFault.{PeerFault}
use Rattle.page_client.specs.declared.outcome.Outcome.{Outcome}
use Rattle.page_client.specs.declared.outcome.Outcome.TheVariants as outcomes
use Rattle.lc_world.specs.Sides.PageAt.{linked, named, page_among}
use Rattle.lc_world.specs.Sides.Reply.{IsReply}
use Rattle.lc_world.specs.Sides.Response.{IsPageOf}
use Rattle.lc_world.specs.Sides.Short.{StandsUnder}
use Rattle.lc_world.specs.Sides.Side.{Side, has_version}
use Rattle.convoy.specs.PageLaws.Chain.{ArePagesOf, connections_along, names_of}
use Rattle.convoy.specs.ClientLaws.Answered.{names_at}
use Rattle.convoy.specs.ClientLaws.Published.{IsPublished, Published, between}
use Rattle.convoy.proofs.ClientLawsLemmas.OwnPageLemmas.{found, own_is_between}
use Rattle.convoy.proofs.ClientLawsLemmas.PublishedLemmas.{published_stays}
use Rattle.back_client.specs.Ends.Early.{bound_back}
use Rattle.back_client.specs.Ends.NeededBack.{IsOverBack, IsTakenBackUntilOver, connections_back, pages_back}
use Rattle.convoy.specs.Exchange.{Got}
use Rattle.convoy.specs.Agreement.Leaves.{LeavesHonest, RoseWithin}
use Rattle.convoy.specs.Agreement.Requests.{TellsRequests}
use Rattle.convoy.proofs.AgreementLemmas.HonestLemmas.{leaves_then, no_less}
use Rattle.convoy.proofs.AgreementLemmas.TurnLemmas.{rose_wider}
use Rattle.back_scan.specs.Forward.{forward_query}
use Rattle.back_scan.specs.Latest.{IsListLatest}
use Rattle.back_scan.specs.Over.{IsOver}
use Rattle.back_scan.specs.StandsFor.{IsLatestChain}
use Rattle.back_scan.specs.declared.arrive_query.ArriveQuery.{ArriveQuery}
use Rattle.back_client.specs.Exchange.{IsExchange}
use Rattle.back_client.specs.Steps.{EndsByGot, EndsByPage, EndsBySaid, IsOverAt, LeadsBack, LeadsOn, Taken, WalksBack}
use Rattle.back_client.specs.Wrong.{wrong_of}
use Rattle.back_client.specs.declared.page.Place.{Place}
use Rattle.back_client.specs.declared.page.Place.TheVariants.{After}
use Rattle.back_client.specs.Ends.Requests.{page_request}
use Rattle.back_client.proofs.EndsLemmas.ExchangeLemmas.{OneExchange, has_later, one_exchange, page_read, requests_then}
use Rattle.back_client.proofs.EndsLemmas.FrontLemmas.{IsAskedBack}
use Rattle.back_client.proofs.EndsLemmas.PagesBackLemmas.{PlaceIs, all_pages, later_pages, list_is, passes, previous_is, same_first, same_others}

pub not_behind : (front : List CutPage) (taken : CutPage) (more : List CutPage) → [] ≡ front ++ taken ∷ more → ⊥
not_behind [] taken more e = cc
not_behind (q ∷ front) taken more e = cc

-- a page is the last one, or it is before that
last_or_before : (before front : List CutPage) (page taken : CutPage) (more : List CutPage) → before ++ page ∷ [] ≡ front ++ taken ∷ more →
    ((before ≡ front) × (page ≡ taken) × (more ≡ [])) ⊎ ((back : List CutPage) × (before ≡ front ++ taken ∷ back))
last_or_before [] [] page taken more e = inl (refl, same_first page taken [] more e, sym (same_others page taken [] more e))
last_or_before [] (x ∷ front) page taken more e = absurd (not_behind front taken more (same_others page x [] (front ++ taken ∷ more) e))
last_or_before (b ∷ before) [] page taken more e = inr (before, ap (λ (x : CutPage). x ∷ before) (same_first b taken (before ++ page ∷ []) more e))
last_or_before (b ∷ before) (x ∷ front) page taken more e =
    let same : b ≡ x = same_first b x (before ++ page ∷ []) (front ++ taken ∷ more) e in
    elim (last_or_before before front page taken more (same_others b x (before ++ page ∷ []) (front ++ taken ∷ more) e)) [
      | inl last ↦ inl (ap₂ (λ (y : CutPage) (l : List CutPage). y ∷ l) same last.0, last.1, last.2)
      | inr amid ↦ inr (amid.0, ap₂ (λ (y : CutPage) (l : List CutPage). y ∷ l) same amid.1)
    ]

-- what was taken, with one page more
one_more_back : (before : List CutPage) (cut : CutPage) (page : Page) → page.list ≡ cut.connections → page.list ++ connections_back before ≡ connections_back (before ++ cut ∷ [])
one_more_back before cut page same =
    ap (λ (l : List Connection). l ++ connections_back before) same ∙ ap connections_along (sym (reverse-append before (cut ∷ [])))

-- one is over where one is so by what was taken
over_by : (query : Query) (latest : Option ℕ) (name : ℕ) → IsOver query latest name → name ≤ bound_back query latest
over_by query None name over = over
over_by query (Some leaves) name over = over

by_over : (query : Query) (latest : Option ℕ) (name : ℕ) → name ≤ bound_back query latest → IsOver query latest name
by_over query None name by = by
by_over query (Some leaves) name by = by

over_back : (query : Query) (doc : StopsDoc) (list : List Connection) (before : List CutPage) (cut : CutPage) (name : ℕ) → list ≡ connections_back (before ++ cut ∷ []) → name ≡ cut.departs → IsOverAt query doc list name →
    IsOverBack query doc before cut
over_back query doc list before cut name same at over =
    let L : List Connection → Type 0 = λ l. IsListLatest query doc l over.latest in
    let D : ℕ → Type 0 = λ d. d ≤ bound_back query over.latest in
    record { latest = over.latest; is_latest = subst L same over.is_latest; by_name = subst D at (over_by query over.latest name over.over) }

back_over : (query : Query) (doc : StopsDoc) (list : List Connection) (before : List CutPage) (cut : CutPage) (name : ℕ) → list ≡ connections_back (before ++ cut ∷ []) → name ≡ cut.departs → IsOverBack query doc before cut →
    IsOverAt query doc list name
back_over query doc list before cut name same at over =
    let L : List Connection → Type 0 = λ l. IsListLatest query doc l over.latest in
    let D : ℕ → Type 0 = λ d. d ≤ bound_back query over.latest in
    record { latest = over.latest; is_latest = subst L (sym same) over.is_latest; over = by_over query over.latest name (subst D (sym at) over.by_name) }

-- the page that the previous link leads to
record IsPrevious (version : ℕ) (behind : List CutPage) (name : PageName) : Type 0 where
  cut : CutPage
  more : List CutPage
  are : behind ≡ cut ∷ more
  is : name ≡ named version cut.departs

is_previous : (version : ℕ) (behind : List CutPage) (name : PageName) → option_map (named version) (first_of (names_of behind)) ≡ Some name → IsPrevious version behind name
is_previous version [] name links = absurd (cc)
is_previous version (q ∷ more) name links = record { cut = q; more = more; are = refl; is = let same : named version q.departs ≡ name = cc in sym same }

none_before : (version : ℕ) (behind : List CutPage) → option_map (named version) (first_of (names_of behind)) ≡ None → behind ≡ []
none_before version [] links = refl
none_before version (q ∷ more) links = absurd (cc)

-- what ended a walk after these pages: an answer over them, or a fault of the link at the last one
abbrev pub EndsWalk : Query → StopsDoc → List CutPage → List CutPage → ℕ → ℕ → Outcome → Type 0
EndsWalk query doc pages asked before after (outcomes.Found journey) = IsTakenBackUntilOver query doc pages asked × IsLatestChain query doc (connections_back asked) (Some journey)
EndsWalk query doc pages asked before after outcomes.NoJourney = IsTakenBackUntilOver query doc pages asked × IsLatestChain query doc (connections_back asked) None
EndsWalk query doc pages asked before after (outcomes.Refused fault) = ⊥
EndsWalk query doc pages asked before after (outcomes.LinkFault low high) = IsAskedBack query doc pages asked × RoseWithin before after low high
EndsWalk query doc pages asked before after (outcomes.PeerWrong reply fault) = ⊥

answers_walk : (query : Query) (doc : StopsDoc) (pages asked : List CutPage) (before after : ℕ) (journey : Option Journey) → IsTakenBackUntilOver query doc pages asked → IsLatestChain query doc (connections_back asked) journey →
    EndsWalk query doc pages asked before after (answered journey)
answers_walk query doc pages asked before after None until chain = (until, chain)
answers_walk query doc pages asked before after (Some journey) until chain = (until, chain)

-- a walk that began earlier ends by the same
longer : (query : Query) (doc : StopsDoc) (pages asked : List CutPage) (a b c : ℕ) (outcome : Outcome) → a ≤ b → EndsWalk query doc pages asked b c outcome → EndsWalk query doc pages asked a c outcome
longer query doc pages asked a b c (outcomes.Found journey) l ends = ends
longer query doc pages asked a b c outcomes.NoJourney l ends = ends
longer query doc pages asked a b c (outcomes.Refused fault) l ends = absurd ends
longer query doc pages asked a b c (outcomes.LinkFault low high) l ends = (ends.0, rose_wider a b c c low high l (no_less c) ends.1)
longer query doc pages asked a b c (outcomes.PeerWrong reply fault) l ends = absurd ends

one_counted : (pages : List CutPage) (cut : CutPage) (n : ℕ) → length pages ≡ n + 1 → length (cut ∷ pages) ≡ suc n + 1
one_counted pages cut n count = omega arith

same_page : (a b : Page) (said : Result Page PeerFault) → said ≡ Ok a → said ≡ Ok b → a ≡ b
same_page a b said one two = cc

module _ {X : Type 0} (seen : X → LinkSeen) (base : BaseParts) (asked : ArriveQuery) (published : Published) (version : ℕ) (doc : StopsDoc) (row : ArePagesOf published.list published.first published.rest)
    (in_range : latest_of (forward_query asked) ≡ asked.arrive) where
  -- the link's side publishes this of the version
  pub record IsAt (side : Side) (link : X) : Type 0 where
    pub honest : IsHonestWith (seen link) base side
    pub is_published : IsPublished side version published
    pub has : has_version side version ≡ true

  still_at : (side left : Side) (link next : X) → IsAt side link → LeavesHonest base side left (seen link) (seen next) → IsAt left next
  still_at side left link next at leaves = record {
    honest = leaves.honest;
    is_published = (published_stays published side left version leaves.honest.stands.valid leaves.later at.has).0 at.is_published;
    has = has_later side left version leaves.later at.has;
  }

  -- the page of this name is waited for, after these pages, and one was not over after any of them
  pub record Waits (place : Place) (taken : List Connection) (name : PageName) (before : List CutPage) : Type 0 where
    pub cut : CutPage
    pub behind : List CutPage
    pub parts : pages_back published.first published.rest (forward_query asked) ≡ before ++ cut ∷ behind
    pub is_page : name ≡ named version cut.departs
    pub sound : IsSoundName name
    pub at : PlaceIs place before
    pub taken_is : taken ≡ connections_back before
    pub goes_on : (front : List CutPage) (page : CutPage) (more : List CutPage) → before ≡ front ++ page ∷ more → ¬ IsOverBack (forward_query asked) doc front page

  -- what a walk over the link results in
  pub record Walked (side : Side) (link last : X) (before : List CutPage) (count : ℕ) (outcome : Outcome) : Type 0 where
    pub left : Side
    pub honest : LeavesHonest base side left (seen link) (seen last)
    pub pages : List CutPage
    pub recorded : TellsRequests (seen link).recorded (seen last).recorded base.authority (map (page_request base) (names_at version pages))
    pub count_is : length pages ≡ count
    pub ends : EndsWalk (forward_query asked) doc (pages_back published.first published.rest (forward_query asked)) (before ++ pages) (seen link).faults (seen last).faults outcome

  module _ (place : Place) (taken : List Connection) (name : PageName) (before : List CutPage) (w : Waits place taken name before) where
    abbrev ahead : List CutPage
    ahead = reverse before ++ later_pages published.list published.first published.rest (forward_query asked) row

    amid : published.first ∷ published.rest ≡ reverse w.behind ++ w.cut ∷ (reverse before ++ later_pages published.list published.first published.rest (forward_query asked) row)
    amid = all_pages published.list published.first published.rest (forward_query asked) row before w.cut w.behind w.parts

    -- the page is between its neighbours
    record IsOwn (page : Page) : Type 0 where
      sound : IsSoundPage page
      is : page ≡ between version (reverse w.behind) w.cut (reverse before ++ later_pages published.list published.first published.rest (forward_query asked) row)

    -- the side's own page is read
    reads : (side : Side) → StandsUnder base side → IsPublished side version published → has_version side version ≡ true → (request reply : List ℕ) (said : Result Page PeerFault) →
        Asks base (page_target_of base name) None request → IsReply side request reply → IsPageReply base name reply said → (page : Page) × (said ≡ Ok page) × IsOwn page
    reads side stands is_published has request reply said asks replies says =
        let cuts = side.cuts_of (departures_of published.list) in
        let page : Page = linked version cuts w.cut in
        let is_page : IsPageOf side version w.cut.departs (linked version (side.cuts_of (departures_of published.list)) w.cut) = record {
          list = published.list;
          timetable = record { live = published.live; are_live = is_published.are_live; are_connections = is_published.are_connections };
          is =
              sym (ap (λ (all : List CutPage). linked version cuts (page_among all w.cut.departs)) is_published.are_pages
              ∙ ap (linked version cuts) (found side version published stands.valid is_published (reverse w.behind) w.cut ahead amid));
        } in
        let A : PageName → Type 0 = λ n. Asks base (page_target_of base n) None request in
        let R : PageName → Type 0 = λ n. IsPageReply base n reply said in
        let read = page_read base side page request reply said stands has (subst IsSoundName w.is_page w.sound) is_page (subst A w.is_page asks) replies (subst R w.is_page says) in
        (page, read.0, record { sound = read.1; is = own_is_between side version published stands.valid is_published (reverse w.behind) w.cut ahead amid page is_page })

    module _ (page : Page) (own : IsOwn page) where
      previous_there : page.previous ≡ option_map (named version) (first_of (names_of w.behind))
      previous_there = previous_is published.list published.first published.rest (forward_query asked) version row before w.cut w.behind w.parts page own.is

      right : (reply : List ℕ) → wrong_of asked.arrive place page reply ≡ None
      right reply = passes published.list published.first published.rest (forward_query asked) version row before w.cut w.behind w.parts page own.is asked.arrive place reply in_range w.at

      taken_there : page.list ++ taken ≡ connections_back (before ++ w.cut ∷ [])
      taken_there =
          ap (λ (l : List Connection). page.list ++ l) w.taken_is
          ∙ one_more_back before w.cut page (list_is published.list published.first published.rest (forward_query asked) version row before w.cut w.behind w.parts page own.is)

      departs_there : page.name.departs ≡ w.cut.departs
      departs_there = ap (λ (p : Page). p.name.departs) own.is

      -- one waits for the previous page
      waits_on : (previous : PageName) → LeadsOn (forward_query asked) doc (page.list ++ taken) page previous → Waits (After name.departs) (page.list ++ taken) previous (before ++ w.cut ∷ [])
      waits_on previous leads =
          let on = is_previous version w.behind previous (sym previous_there ∙ leads.is_previous) in
          let sound : IsSoundName previous = subst (λ (o : Option PageName). IfSome o IsSoundName) leads.is_previous own.sound.previous in
          record {
            cut = on.cut;
            behind = on.more;
            parts = w.parts ∙ ap (λ (l : List CutPage). before ++ w.cut ∷ l) on.are ∙ sym (append_assoc before (w.cut ∷ []) (on.cut ∷ on.more));
            is_page = on.is;
            sound = sound;
            at = (before, w.cut, refl, ap (λ (n : PageName). n.departs) w.is_page);
            taken_is = taken_there;
            goes_on = λ front taken_page more e over.
                elim (last_or_before before front w.cut taken_page more e) [
                  | inl last ↦
                      (let B : List CutPage → Type 0 = λ b. IsOverBack (forward_query asked) doc b taken_page in
                      let C : CutPage → Type 0 = λ c. IsOverBack (forward_query asked) doc before c in
                      leads.not_over (back_over (forward_query asked) doc (page.list ++ taken) before w.cut page.name.departs taken_there departs_there (subst C (sym last.1) (subst B (sym last.0) over))))
                  | inr back ↦ w.goes_on front taken_page back.0 back.1 over
                ];
          }

      -- it was taken until one is over
      until : (page.previous ≡ None) ⊎ IsOverAt (forward_query asked) doc (page.list ++ taken) page.name.departs →
          IsTakenBackUntilOver (forward_query asked) doc (pages_back published.first published.rest (forward_query asked)) (before ++ w.cut ∷ [])
      until stops = record {
        left = w.behind;
        are = w.parts ∙ sym (append_assoc before (w.cut ∷ []) w.behind);
        goes_on = λ front taken_page next more e.
            elim (last_or_before before front w.cut taken_page (next ∷ more) e) [
              | inl last ↦ absurd (not_behind [] next more (sym last.2))
              | inr back ↦ w.goes_on front taken_page back.0 back.1
            ];
        ends = elim stops [
          | inl none ↦ inl (none_before version w.behind (sym previous_there ∙ none))
          | inr over ↦ inr (before, w.cut, refl, over_back (forward_query asked) doc (page.list ++ taken) before w.cut page.name.departs taken_there departs_there over)
        ];
      }

    -- its request is recorded
    its_request : (a b : LinkSeen) → TellsRequests a.recorded b.recorded base.authority (page_request base name ∷ []) → TellsRequests a.recorded b.recorded base.authority (map (page_request base) (names_at version (w.cut ∷ [])))
    its_request a b tells =
        let P : PageName → Type 0 = λ n. TellsRequests a.recorded b.recorded base.authority (page_request base n ∷ []) in
        subst P w.is_page tells

    -- what it leads to that it led on
    record Turned (side : Side) (link : X) (turn : Taken X) : Type 0 where
      left : Side
      honest : LeavesHonest base side left (seen link) (seen turn.link)
      here : IsAt left turn.link
      waits : Waits (After name.departs) (turn.page.list ++ taken) turn.previous (before ++ w.cut ∷ [])
      recorded : TellsRequests (seen link).recorded (seen turn.link).recorded base.authority (map (page_request base) (names_at version (w.cut ∷ [])))

    turned : (side : Side) (link : X) (turn : Taken X) → IsAt side link → LeadsBack seen base asked doc place taken name link turn → Turned side link turn
    turned side link turn at leads =
        let x = one_exchange base side (page_target_of base name) None (seen link) (seen turn.link) (Some turn.reply) at.honest leads.exchange in
        let here = still_at side x.left link turn.link at x.honest in
        let read = reads x.left x.honest.honest.stands here.is_published here.has x.request turn.reply (Ok turn.page) x.asks x.replied leads.says in
        let same : read.0 ≡ turn.page = same_page read.0 turn.page (Ok turn.page) read.1 refl in
        record {
          left = x.left;
          honest = x.honest;
          here = here;
          waits = waits_on turn.page (subst IsOwn same read.2) turn.previous leads.leads;
          recorded = its_request (seen link) (seen turn.link) x.recorded;
        }

    -- the exchange that ends the walk
    module _ (side : Side) (link last : X) (at : IsAt side link) (outcome : Outcome) where
      by_page : (page : Page) (own : IsOwn page) (wrong : Option Outcome) → wrong ≡ None → EndsByPage wrong (forward_query asked) doc taken page outcome →
          EndsWalk (forward_query asked) doc (pages_back published.first published.rest (forward_query asked)) (before ++ w.cut ∷ []) (seen link).faults (seen last).faults outcome
      by_page page own (Some wrong) none ends = absurd (cc)
      by_page page own None none ends =
          let all = before ++ w.cut ∷ [] in
          let P : Outcome → Type 0 = λ o. EndsWalk (forward_query asked) doc (pages_back published.first published.rest (forward_query asked)) all (seen link).faults (seen last).faults o in
          let L : List Connection → Type 0 = λ l. IsLatestChain (forward_query asked) doc l ends.journey in
          subst P (sym ends.is)
          (answers_walk (forward_query asked) doc (pages_back published.first published.rest (forward_query asked)) all (seen link).faults (seen last).faults ends.journey
          (until page own ends.last) (subst L (taken_there page own) ends.is_latest))

      by_got : (got : Got) → OneExchange base side (page_target_of base name) None (seen link) (seen last) got → EndsByGot base asked doc place taken name (seen link).faults (seen last).faults got outcome →
          EndsWalk (forward_query asked) doc (pages_back published.first published.rest (forward_query asked)) (before ++ w.cut ∷ []) (seen link).faults (seen last).faults outcome
      by_got None x ends =
          let P : Outcome → Type 0 = λ o. EndsWalk (forward_query asked) doc (pages_back published.first published.rest (forward_query asked)) (before ++ w.cut ∷ []) (seen link).faults (seen last).faults o in
          subst P (sym ends) (
            record { before = before; last = w.cut; behind = w.behind; are = refl; parts = w.parts; goes_on = w.goes_on },
            record { from = no_less (seen link).faults; to = no_less (seen last).faults; rose = x.rose refl },
          )
      by_got (Some reply) x (said, says, ends) =
          let here = still_at side x.left link last at x.honest in
          let read = reads x.left x.honest.honest.stands here.is_published here.has x.request reply said x.asks x.replied says in
          let S : Result Page PeerFault → Type 0 = λ r. EndsBySaid asked doc place taken name reply r outcome in
          let by = subst S read.1 ends in
          by_page read.0 read.2 (wrong_of asked.arrive place read.0 reply) (right read.0 read.2 reply) by.1

      ends_here : (got : Got) → IsExchange base (page_target_of base name) None (seen link) (seen last) got → EndsByGot base asked doc place taken name (seen link).faults (seen last).faults got outcome →
          Walked side link last before 1 outcome
      ends_here got ex ends =
          let x = one_exchange base side (page_target_of base name) None (seen link) (seen last) got at.honest ex in
          record {
            left = x.left;
            honest = x.honest;
            pages = w.cut ∷ [];
            recorded = its_request (seen link) (seen last) x.recorded;
            count_is = refl;
            ends = by_got got x ends;
          }

  -- the walk
  pub walks : (turns : List (Taken X)) (side : Side) (link last : X) (place : Place) (taken : List Connection) (name : PageName) (before : List CutPage) (outcome : Outcome) → IsAt side link → Waits place taken name before →
      WalksBack seen base asked doc place taken name link turns last outcome → Walked side link last before (length turns + 1) outcome
  walks [] side link last place taken name before outcome at w ends = ends_here place taken name before w side link last at outcome ends.got ends.exchange ends.ends
  walks (turn ∷ rest) side link last place taken name before outcome at w (leads, more) =
      let t = turned place taken name before w side link turn at leads in
      let on = walks rest t.left turn.link last (After name.departs) (turn.page.list ++ taken) turn.previous (before ++ w.cut ∷ []) outcome t.here t.waits more in
      let T : List CutPage → Type 0 = λ l. EndsWalk (forward_query asked) doc (pages_back published.first published.rest (forward_query asked)) l (seen turn.link).faults (seen last).faults outcome in
      record {
        left = on.left;
        honest = leaves_then base side t.left on.left (seen link) (seen turn.link) (seen last) t.honest on.honest;
        pages = w.cut ∷ on.pages;
        recorded = requests_then (seen link).recorded (seen turn.link).recorded (seen last).recorded base.authority (map (page_request base) (names_at version (w.cut ∷ []))) (map (page_request base) (names_at version on.pages)) t.recorded on.recorded;
        count_is = one_counted on.pages w.cut (length rest) on.count_is;
        ends = longer (forward_query asked) doc (pages_back published.first published.rest (forward_query asked)) (before ++ w.cut ∷ on.pages) (seen link).faults (seen turn.link).faults (seen last).faults outcome t.honest.not_fallen
            (subst T (append_assoc before (w.cut ∷ []) on.pages) on.ends);
      }
