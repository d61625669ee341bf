-- Pages that were taken along the previous links are in departure order, and their names fall.
use Rattle.std.proofs.Common.{◌≡◌, ℕ, ◌+◌, ◌-◌, ◌<◌, ◌≤◌, max, Bool, true, false, List, [], ◌∷◌, ◌++◌, Option, Some, None, Result, Ok, Err, length, refl, sym, ◌∙◌, ap, subst, inl, inr, arith, append-nil}
use Rattle.std.specs.Prelude.{◌&&◌, ◌||◌, is_some, nat_le, nat_lt, cond}
use Rattle.std.specs.List.{All}
use Rattle.std.proofs.lemmas.Bool.{cases_lt, false≢true}
use Rattle.std.proofs.lemmas.Bool.Decides.{nat_tests}
use Rattle.std.proofs.lemmas.List.Elements.{All-append, All-nil, All-weaker}
use Rattle.lc_model.specs.Connection.{InDepartureOrder, last_departure}
use Rattle.lc_model.specs.declared.connection.Connection.{Connection}
use Rattle.lc_model.specs.declared.doc.StopsDoc.{StopsDoc}
use Rattle.lc_model.specs.declared.page.PageName.{PageName}
use Rattle.lc_model.specs.declared.query.Query.{Query}
use Rattle.connection_uri.specs.Base.{BaseParts}
use Rattle.connection_uri.specs.Page.{page_target_of}
use Rattle.lc_world.specs.Link.{LinkSeen}
use Rattle.page_json.specs.declared.page.Page.{Page}
use Rattle.page_client.specs.Page.{IsPageReply, advances, begins_at, is_on_from}
use Rattle.page_client.specs.declared.fault.PeerFault.{PeerFault}
use Rattle.page_client.specs.declared.fault.PeerFault.TheVariants.{GateWrong, Retreat}
use Rattle.page_client.specs.declared.outcome.Outcome.{Outcome}
use Rattle.page_client.specs.declared.outcome.Outcome.TheVariants.{PeerWrong}
use Rattle.page_client.proofs.OrderLemmas.{begins, ends, in_order-append}
use Rattle.back_scan.specs.Forward.{forward_query}
use Rattle.back_scan.specs.Latest.{IsListLatest}
use Rattle.back_scan.specs.Over.{IsOver}
use Rattle.back_scan.specs.StandsFor.{StandsFor}
use Rattle.back_scan.specs.declared.arrive_query.ArriveQuery.{ArriveQuery}
use Rattle.back_scan.specs.declared.scan.BackScan.{BackScan}
use Rattle.back_client.specs.Arrives.{HasWalked, ended}
use Rattle.convoy.specs.Exchange.{Got}
use Rattle.back_client.specs.Exchange.{IsExchange}
use Rattle.back_client.specs.Steps.{AfterGot, AfterSaid, Answers, EndsAt, EndsByGot, EndsByPage, EndsBySaid, IsOverAt, IsRead, IsTurn, Leads, LeadsBack, LeadsOn, Taken, TakesReply, WalksBack}
use Rattle.back_client.specs.Wrong.{is_level, is_off, is_up_to, overlaps, reaches, retreats, wrong_gate, wrong_of, wrong_retreat}
use Rattle.back_client.specs.declared.outcome.ArriveEnd.{ArriveEnd}
use Rattle.back_client.specs.declared.page.Place.{Place}
use Rattle.back_client.specs.declared.page.Place.TheVariants.{After, First}
use Rattle.back_client.specs.declared.step.Sequel.{Sequel}
use Rattle.back_client.specs.declared.step.Sequel.TheVariants.{Ends, Goes}

-- what was taken comes from the page of the place on, and the page that is asked for is before that
abbrev pub IsAhead : Place → List Connection → ℕ → Type 0
IsAhead (First gate) taken departs = taken ≡ []
IsAhead (After name) taken departs = (departs < name) × All (λ (c : Connection). name ≤ c.dep) taken

-- so many exchanges were made: two before the first page, and at most one for each second from the place to the moment of arrival
abbrev pub IsWithin : ArriveQuery → Place → ℕ → Type 0
IsWithin asked (First gate) exchanges = exchanges ≡ 2
IsWithin asked (After name) exchanges = ((forward_query asked).leave < name) × (name + exchanges ≤ asked.arrive + 3)

-- some pages were taken, and what follows makes a walk from the first page on
pub record IsWalking {X : Type 0} (seen : X → LinkSeen) (base : BaseParts) (asked : ArriveQuery) (doc : StopsDoc) (gate : List ℕ) (first : PageName) (start : X)
    (scan : BackScan) (place : Place) (name : PageName) (exchanges : ℕ) (link : X) : Type 0 where
  pub taken : List Connection
  pub stands : StandsFor scan (forward_query asked) doc taken
  pub in_order : InDepartureOrder taken
  pub ahead : IsAhead place taken name.departs
  pub within : IsWithin asked place exchanges
  pub walks : (turns : List (Taken X)) (last : X) (outcome : Outcome) → WalksBack seen base asked doc place taken name link turns last outcome →
      (all : List (Taken X)) × WalksBack seen base asked doc (First gate) [] first start all last outcome × (length all + 2 ≡ length turns + exchanges)

in_order_nil : InDepartureOrder []
in_order_nil i j d before within = absurd (omega arith)

-- before the first page
pub begins_walking : {X : Type 0} (seen : X → LinkSeen) (base : BaseParts) (asked : ArriveQuery) (doc : StopsDoc) (gate : List ℕ) (first : PageName) (start : X) (scan : BackScan) →
    StandsFor scan (forward_query asked) doc [] → IsWalking seen base asked doc gate first start scan (First gate) first 2 start
begins_walking seen base asked doc gate first start scan stands = record {
  taken = [];
  stands = stands;
  in_order = in_order_nil;
  ahead = refl;
  within = refl;
  walks = λ turns last outcome walk. (turns, walk, refl);
}

-- tests that a page passes
retreats_not : (wrong : Option Outcome) (place : Place) (page : Page) (reply : List ℕ) (t : Bool) → retreats place page ≡ t → wrong_retreat wrong place page reply ≡ None → t ≡ false
retreats_not (Some outcome) place page reply t e h = absurd (cc)
retreats_not None place page reply false e h = refl
retreats_not None place page reply true e h =
    let P : Bool → Type 0 = λ b. cond b (Some (PeerWrong reply Retreat)) None ≡ None in
    let k = subst P e h in absurd (cc)

pub not_retreats : (arrive : ℕ) (place : Place) (page : Page) (reply : List ℕ) → wrong_of arrive place page reply ≡ None → retreats place page ≡ false
not_retreats arrive place page reply h = retreats_not (wrong_gate arrive place page) place page reply (retreats place page) refl h

or_false : (a b : Bool) → (a || b) ≡ false → (a ≡ false) × (b ≡ false)
or_false false b e = (refl, e)
or_false true b e = absurd (false≢true (sym e))

below_level : (departs : ℕ) (previous : Option PageName) (name : PageName) → previous ≡ Some name → is_level departs previous ≡ false → name.departs < departs
below_level departs None name e h = absurd (cc)
below_level departs (Some previous) name e h =
    let same : previous ≡ name = cc in
    let l : previous.departs < departs = grind (arith, nat_tests) in
    let P : PageName → Type 0 = λ n. n.departs < departs in subst P same l

-- the previous page of one that leads back is an earlier one
pub leads_below : (place : Place) (page : Page) (name : PageName) → retreats place page ≡ false → page.previous ≡ Some name → name.departs < page.name.departs
leads_below place page name h e = below_level page.name.departs page.previous name e (or_false (is_level page.name.departs page.previous) (overlaps place page.list) h).0

some_last : (c : Connection) (rest : List Connection) → last_departure (c ∷ rest) ≡ None → ⊥
some_last c [] e = cc
some_last c (next ∷ rest) e = some_last next rest e

up_to_false : (moment : ℕ) (list : List Connection) (last : Option ℕ) → last_departure list ≡ last → is_up_to moment last ≡ false → InDepartureOrder list → All (λ (c : Connection). c.dep < moment) list
up_to_false moment [] None e h order = All-nil (λ (c : Connection). c.dep < moment)
up_to_false moment (c ∷ rest) None e h order = absurd (some_last c rest e)
up_to_false moment list (Some last) e h order =
    let l : last < moment = grind (arith, nat_tests) in
    All-weaker (λ (c : Connection). c.dep ≤ last) (λ (c : Connection). c.dep < moment) (λ c by. omega arith) list (ends list last order e)

-- the connections of a page that leads back come before what was taken
pub in_order_before : (place : Place) (page : Page) (taken : List Connection) (departs : ℕ) → retreats place page ≡ false → InDepartureOrder page.list → InDepartureOrder taken → IsAhead place taken departs →
    InDepartureOrder (page.list ++ taken)
in_order_before (First gate) page taken departs h order taken_order ahead =
    let P : List Connection → Type 0 = λ l. InDepartureOrder l in
    subst P (sym (ap (λ l. page.list ++ l) ahead ∙ append-nil page.list)) order
in_order_before (After name) page taken departs h order taken_order ahead =
    let o = or_false (is_level page.name.departs page.previous) (overlaps (After name) page.list) h in
    in_order-append page.list taken name order taken_order (up_to_false name page.list (last_departure page.list) refl o.1 order) ahead.1

and_left : (a b : Bool) → (a && b) ≡ true → a ≡ true
and_left true b e = refl
and_left false b e = absurd (false≢true e)

-- what was taken after the page comes from its name on
ahead_after : (place : Place) (page : Page) (taken : List Connection) → advances page ≡ true → InDepartureOrder page.list → IsAhead place taken page.name.departs → (previous : PageName) → previous.departs < page.name.departs →
    IsAhead (After page.name.departs) (page.list ++ taken) previous.departs
ahead_after place page taken on order ahead previous l = (
  l,
  All-append (λ (c : Connection). page.name.departs ≤ c.dep) page.list taken
      (begins page.list page.name.departs order (and_left (begins_at page.list page.name.departs) (is_on_from (last_departure page.list) page.next) on)) (later place taken ahead),
) where
  later : (place : Place) (taken : List Connection) → IsAhead place taken page.name.departs → All (λ (c : Connection). page.name.departs ≤ c.dep) taken
  later (First gate) taken h = let P : List Connection → Type 0 = λ l. All (λ (c : Connection). page.name.departs ≤ c.dep) l in subst P (sym h) (All-nil (λ (c : Connection). page.name.departs ≤ c.dep))
  later (After name) taken h = let k = h.0 in All-weaker (λ (c : Connection). name ≤ c.dep) (λ (c : Connection). page.name.departs ≤ c.dep) (λ c by. omega arith) taken h.1

-- where one is not over at a name, it is after the first second of the horizon
pub after_leave : (query : Query) (doc : StopsDoc) (taken : List Connection) (latest : Option ℕ) (name : ℕ) → IsListLatest query doc taken latest → (IsOverAt query doc taken name → ⊥) → query.leave < name
after_leave query doc taken None name is not = elim (cases_lt query.leave name) [ inl l ↦ l | inr m ↦ absurd (not (record { latest = None; is_latest = is; over = m })) ]
after_leave query doc taken (Some leaves) name is not = elim (cases_lt leaves name) [
  | inl l ↦ let j = is.0.1 in let e = is.0.2 in let n = j.not_early in omega arith
  | inr m ↦ absurd (not (record { latest = Some leaves; is_latest = is; over = m }))
]

-- the first page is named at or before the moment, where it has a previous one
gate_right : (arrive : ℕ) (gate : List ℕ) (page : Page) (reply : List ℕ) (t : Bool) → is_off arrive page ≡ t → wrong_of arrive (First gate) page reply ≡ None → t ≡ false
gate_right arrive gate page reply false e h = refl
gate_right arrive gate page reply true e h =
    let P : Bool → Type 0 = λ b. wrong_retreat (cond b (Some (PeerWrong gate (GateWrong page))) None) (First gate) page reply ≡ None in
    let k = subst P e h in absurd (cc)

not_late : (arrive : ℕ) (departs : ℕ) (previous : Option PageName) (name : PageName) → previous ≡ Some name → (is_some previous && nat_lt arrive departs) ≡ false → departs ≤ arrive
not_late arrive departs None name e h = absurd (cc)
not_late arrive departs (Some previous) name e h = grind (arith, nat_tests)

pub by_arrival : (arrive : ℕ) (gate : List ℕ) (page : Page) (reply : List ℕ) (previous : PageName) → wrong_of arrive (First gate) page reply ≡ None → page.previous ≡ Some previous → page.name.departs ≤ arrive
by_arrival arrive gate page reply previous h e =
    not_late arrive page.name.departs page.previous previous e
    (or_false (is_some page.previous && nat_lt arrive page.name.departs) (Rattle.back_client.specs.Wrong.is_by arrive page.next) (gate_right arrive gate page reply (is_off arrive page) refl h)).0

-- one exchange more, after a page that led on
within_after : (asked : ArriveQuery) (place : Place) (page : Page) (reply : List ℕ) (taken : List Connection) (previous : PageName) (exchanges : ℕ) → wrong_of asked.arrive place page reply ≡ None → page.previous ≡ Some previous →
    IsAhead place taken page.name.departs → (forward_query asked).leave < page.name.departs → IsWithin asked place exchanges → IsWithin asked (After page.name.departs) (exchanges + 1)
within_after asked (First gate) page reply taken previous exchanges right e ahead l h =
    let by = by_arrival asked.arrive gate page reply previous right e in
    (l, omega arith)
within_after asked (After name) page reply taken previous exchanges right e ahead l h =
    let below = ahead.0 in let m = h.1 in
    (l, omega arith)

-- a page that was read and leads on goes on with the walk
goes_page : {X : Type 0} (seen : X → LinkSeen) (base : BaseParts) (asked : ArriveQuery) (doc : StopsDoc) (gate : List ℕ) (first : PageName) (start : X) (old new : BackScan) (place : Place) (name : PageName) (exchanges : ℕ) (link after : X) (previous : PageName) (reply : List ℕ) (page : Page) →
    IsExchange base (page_target_of base name) None (seen link) (seen after) (Some reply) → IsPageReply base name reply (Ok page) → IsRead name page →
    (wrong : Option Outcome) → wrong_of asked.arrive place page reply ≡ wrong → Leads wrong old new page (Goes previous) →
    IsWalking seen base asked doc gate first start old place name exchanges link → IsWalking seen base asked doc gate first start new (After name.departs) previous (exchanges + 1) after
goes_page seen base asked doc gate first start old new place name exchanges link after previous reply page exchange says read (Some wrong) e leads h = absurd (cc)
goes_page {X = X} seen base asked doc gate first start old new place name exchanges link after previous reply page exchange says read None e leads h =
    let N : PageName → Type 0 = λ n. IsAhead place h.taken n.departs in
    let ahead = subst N (sym read.named) h.ahead in
    let back = not_retreats asked.arrive place page reply e in
    let order = in_order_before place page h.taken page.name.departs back read.valid.in_order h.in_order ahead in
    let now = leads (forward_query asked) doc h.taken order h.stands in
    let lead = now.1 in
    let below = leads_below place page previous back lead.is_previous in
    let leave = after_leave (forward_query asked) doc (page.list ++ h.taken) now.2.0 page.name.departs now.2.1 lead.not_over in
    let A : PageName → Type 0 = λ n. IsAhead (After n.departs) (page.list ++ h.taken) previous.departs in
    let W : PageName → Type 0 = λ n. IsWithin asked (After n.departs) (exchanges + 1) in
    record {
      taken = page.list ++ h.taken;
      stands = now.0;
      in_order = order;
      ahead = subst A read.named (ahead_after place page h.taken read.on read.valid.in_order ahead previous below);
      within = subst W read.named (within_after asked place page reply h.taken previous exchanges e lead.is_previous ahead leave h.within);
      walks = λ turns last outcome walk.
          let turn : Taken X = record { reply = reply; page = page; previous = previous; link = after } in
          let all = h.walks (turn ∷ turns) last outcome (record { exchange = exchange; says = says; read = read; right = e; leads = lead }, walk) in
          let same = all.2 in
          (all.0, all.1, omega arith);
    }

goes_said : {X : Type 0} (seen : X → LinkSeen) (base : BaseParts) (asked : ArriveQuery) (doc : StopsDoc) (gate : List ℕ) (first : PageName) (start : X) (old new : BackScan) (place : Place) (name : PageName) (exchanges : ℕ) (link after : X) (previous : PageName) (reply : List ℕ) →
    IsExchange base (page_target_of base name) None (seen link) (seen after) (Some reply) → (said : Result Page PeerFault) → IsPageReply base name reply said → AfterSaid asked.arrive place name reply old new said (Goes previous) →
    IsWalking seen base asked doc gate first start old place name exchanges link → IsWalking seen base asked doc gate first start new (After name.departs) previous (exchanges + 1) after
goes_said seen base asked doc gate first start old new place name exchanges link after previous reply exchange (Err fault) says leads h = absurd (cc)
goes_said seen base asked doc gate first start old new place name exchanges link after previous reply exchange (Ok page) says leads h =
    goes_page seen base asked doc gate first start old new place name exchanges link after previous reply page exchange says leads.0 (wrong_of asked.arrive place page reply) refl leads.1 h

goes_got : {X : Type 0} (seen : X → LinkSeen) (base : BaseParts) (asked : ArriveQuery) (doc : StopsDoc) (gate : List ℕ) (first : PageName) (start : X) (old new : BackScan) (place : Place) (name : PageName) (exchanges : ℕ) (link after : X) (previous : PageName) →
    (got : Got) → IsExchange base (page_target_of base name) None (seen link) (seen after) got → AfterGot base asked.arrive place name old new (seen link).faults (seen after).faults (Goes previous) got →
    IsWalking seen base asked doc gate first start old place name exchanges link → IsWalking seen base asked doc gate first start new (After name.departs) previous (exchanges + 1) after
goes_got seen base asked doc gate first start old new place name exchanges link after previous None exchange leads h = absurd (cc)
goes_got seen base asked doc gate first start old new place name exchanges link after previous (Some reply) exchange leads h =
    goes_said seen base asked doc gate first start old new place name exchanges link after previous reply exchange leads.said leads.says leads.after h

-- a turn that goes on goes on with the walk
pub goes_on : {X : Type 0} (seen : X → LinkSeen) (base : BaseParts) (asked : ArriveQuery) (doc : StopsDoc) (gate : List ℕ) (first : PageName) (start : X) (old new : BackScan) (place : Place) (name : PageName) (exchanges : ℕ) (link after : X) (previous : PageName) (sequel : Sequel) →
    sequel ≡ Goes previous → IsTurn base asked.arrive place name old new (seen link) (seen after) sequel →
    IsWalking seen base asked doc gate first start old place name exchanges link → IsWalking seen base asked doc gate first start new (After name.departs) previous (exchanges + 1) after
goes_on seen base asked doc gate first start old new place name exchanges link after previous sequel e turn h =
    let P : Sequel → Type 0 = λ s. AfterGot base asked.arrive place name old new (seen link).faults (seen after).faults s turn.got in
    goes_got seen base asked doc gate first start old new place name exchanges link after previous turn.got turn.exchange (subst P e turn.leads) h

-- what ends a turn ends the walk
ends_page : (asked : ArriveQuery) (doc : StopsDoc) (place : Place) (taken : List Connection) (old new : BackScan) (page : Page) (outcome : Outcome) → (wrong : Option Outcome) → Leads wrong old new page (Ends outcome) →
    (wrong ≡ None → InDepartureOrder (page.list ++ taken)) → StandsFor old (forward_query asked) doc taken → EndsByPage wrong (forward_query asked) doc taken page outcome
ends_page asked doc place taken old new page outcome (Some wrong) leads order stands = cc
ends_page asked doc place taken old new page outcome None leads order stands = (leads (forward_query asked) doc taken (order refl) stands).1

ends_said : (asked : ArriveQuery) (doc : StopsDoc) (place : Place) (taken : List Connection) (old new : BackScan) (name : PageName) (reply : List ℕ) (outcome : Outcome) →
    (said : Result Page PeerFault) → AfterSaid asked.arrive place name reply old new said (Ends outcome) → InDepartureOrder taken → IsAhead place taken name.departs → StandsFor old (forward_query asked) doc taken →
    EndsBySaid asked doc place taken name reply said outcome
ends_said asked doc place taken old new name reply outcome (Err fault) leads in_order ahead stands = cc
ends_said asked doc place taken old new name reply outcome (Ok page) leads in_order ahead stands = (
  leads.0,
  ends_page asked doc place taken old new page outcome (wrong_of asked.arrive place page reply) leads.1
      (λ e. in_order_before place page taken name.departs (not_retreats asked.arrive place page reply e) leads.0.valid.in_order in_order ahead) stands,
)

ends_got : (base : BaseParts) (asked : ArriveQuery) (doc : StopsDoc) (place : Place) (taken : List Connection) (old new : BackScan) (name : PageName) (before after : ℕ) (outcome : Outcome) →
    (got : Got) → AfterGot base asked.arrive place name old new before after (Ends outcome) got → InDepartureOrder taken → IsAhead place taken name.departs → StandsFor old (forward_query asked) doc taken →
    EndsByGot base asked doc place taken name before after got outcome
ends_got base asked doc place taken old new name before after outcome None leads in_order ahead stands = cc
ends_got base asked doc place taken old new name before after outcome (Some reply) leads in_order ahead stands =
    (leads.said, leads.says, ends_said asked doc place taken old new name reply outcome leads.said leads.after in_order ahead stands)

-- a turn that ends ends the walk
pub ends_walk : {X : Type 0} (seen : X → LinkSeen) (base : BaseParts) (asked : ArriveQuery) (doc : StopsDoc) (gate : List ℕ) (first : PageName) (start : X) (old new : BackScan) (place : Place) (name : PageName) (exchanges : ℕ) (link after : X) (outcome : Outcome) (sequel : Sequel) →
    sequel ≡ Ends outcome → IsTurn base asked.arrive place name old new (seen link) (seen after) sequel →
    IsWalking seen base asked doc gate first start old place name exchanges link → (end : ArriveEnd) → end ≡ ended outcome (Some first.version) (exchanges + 1) →
    HasWalked seen base asked doc gate first start after end
ends_walk seen base asked doc gate first start old new place name exchanges link after outcome sequel e turn h end is =
    let P : Sequel → Type 0 = λ s. AfterGot base asked.arrive place name old new (seen link).faults (seen after).faults s turn.got in
    let all = h.walks [] after outcome (record {
      got = turn.got;
      exchange = turn.exchange;
      ends = ends_got base asked doc place h.taken old new name (seen link).faults (seen after).faults outcome turn.got (subst P e turn.leads) h.in_order h.ahead h.stands;
    }) in
    let same = all.2 in
    let count : exchanges + 1 ≡ length all.0 + 3 = omega arith in
    record { turns = all.0; outcome = outcome; walks = all.1; is = is ∙ ap (ended outcome (Some first.version)) count }

-- how many exchanges there are at the end
pub most_exchanges : (asked : ArriveQuery) (place : Place) (exchanges : ℕ) → IsWithin asked place exchanges → exchanges + 1 ≤ asked.horizon + 3
most_exchanges asked (First gate) exchanges h = omega arith
most_exchanges asked (After name) exchanges h = let l = h.0 in let m = h.1 in omega arith
