-- What its turn over an honest link leaves of one client, and of the cached pages.
use Rattle.std.proofs.Common.{◌≡◌, ◌≢◌, ℕ, ◌+◌, inl, inr, List, [], ◌∷◌, ◌++◌, length, Option, Some, None, Result, Ok, Err, refl, ap, sym, subst, ◌∙◌, arith}
use Rattle.std.specs.List.{All}
use Rattle.std.proofs.lemmas.List.{append-nil}
use Rattle.std.proofs.lemmas.List.Elements.{All-contains}
use Rattle.lc_model.specs.declared.page.PageName.{PageName}
use Rattle.lc_model.proofs.ListLemmas.{All-from_contains}
use Rattle.connection_uri.specs.Base.{BaseParts}
use Rattle.page_json.specs.declared.page.Page.{Page}
use Rattle.page_client.specs.Kept.{Kept, has_name, page_named, with_put}
use Rattle.page_client.proofs.KeptLemmas.{All-with_put, All-with_used, found, named}
use Rattle.lc_io.specs.Counts.{Rose}
use Rattle.lc_world.specs.Link.{Exchanges, IsHonestWith, LinkSeen}
use Rattle.page_client.specs.Client.{shown}
use Rattle.page_client.specs.Shown.{Shown, ended, want_of, wrong_gate}
use Rattle.page_client.specs.declared.fault.PeerFault.{PeerFault}
use Rattle.page_client.specs.declared.outcome.Outcome.{Outcome}
use Rattle.page_client.specs.declared.outcome.Outcome.TheVariants.{LinkFault}
use Rattle.page_client.specs.declared.want.Want.{Want}
use Rattle.page_client.specs.declared.want.Want.TheVariants as wants
use Rattle.page_client.proofs.PageLemmas.{waits_for}
use Rattle.lc_world.specs.Sides.Side.{IsLater, IsValidSide, Side}
use Rattle.lc_world.proofs.SidesLemmas.LaterLemmas.{later_itself}
use Rattle.convoy.specs.ClientLaws.Fits.{FitsAt, FitsSide, WaitsForPage}
use Rattle.convoy.specs.ClientLaws.Published.{IsOwnPage}
use Rattle.convoy.specs.ClientLaws.Steps.{IsReplyTo, SaysOwnPage}
use Rattle.convoy.proofs.ClientLawsLemmas.FitsLemmas.{fits_stays, own_pages_stay}
use Rattle.convoy.proofs.ClientLawsLemmas.StepLemmas.{gate_keeps_it, link_fault_keeps_it, page_is_own, page_keeps_it, stops_keep_it}
use Rattle.convoy.specs.Exchange.{Got, IsExchange, bytes_of, result_of}
use Rattle.convoy.specs.Steps.{AfterPage, Takes, TakesAsked, TakesGate, TakesStops, kept_after}
use Rattle.convoy.specs.Turn.{Asks, IsCached, IsFinished}
use Rattle.convoy.specs.declared.member.Member.{Member}
use Rattle.convoy.specs.declared.turn.Turn.{Turn}
use Rattle.convoy.specs.declared.turn.Turn.TheVariants.{Cached, Exchanged, Finished}
use Rattle.convoy.specs.Agreement.Leaves.{AsksByNames, Gave, HasFault, HasGone, LeavesHonest, RoseWithin, VersionAfter, VersionThen}
use Rattle.convoy.specs.Agreement.Names.{asked_for, names_of}
use Rattle.convoy.specs.Agreement.Requests.{TellsAsked, request_of}
use Rattle.convoy.specs.Agreement.Rounds.{round_asked, round_at, round_with}
use Rattle.convoy.proofs.AgreementLemmas.AskedLemmas.{asks_document, asks_in_vain, asks_kept, asks_nothing, asks_page, gate_was_right}
use Rattle.convoy.proofs.AgreementLemmas.HonestLemmas.{is_get, leaves_alone}
use Rattle.convoy.proofs.AgreementLemmas.NamesLemmas.{lacked_is_asked}
use Rattle.convoy.proofs.AgreementLemmas.NoFaultLemmas.{gate_no_fault, page_no_fault, stops_no_fault}
use Rattle.convoy.proofs.AgreementLemmas.RequestLemmas.{tells_nothing, tells_one}
use Rattle.convoy.proofs.AgreementLemmas.RoundLemmas.{round_replied}

-- what a turn leaves of a client, which had received this, and of the cached pages
pub record MemberAgrees (base : BaseParts) (side : Side) (was is : Member) (own : List Want) (kept after_kept : Kept) (before after : LinkSeen) (turn : Turn) : Type 0 where
  pub left : Side
  pub honest : LeavesHonest base side left before after
  pub given : List Want
  pub failed : List Want
  pub asked : List Want
  pub gone : HasGone base side left was is before after given asked
  pub gave : Gave turn was is given asked
  pub version : VersionThen left (shown was.client) given (shown is.client).version
  pub by_names : AsksByNames left (shown was.client) (shown is.client) kept after_kept own given failed asked
  pub round_is : round_with given failed asked ≡ round_at turn (shown was.client) (shown is.client)
  pub client : FitsSide left is.client (own ++ given)
  pub pages : All (IsOwnPage left) after_kept.pages

pub none_more : (n : ℕ) → n ≡ n + 0
none_more n = omega arith

-- pages of a side are pages of a later one
pub pages_later : (before after : Side) (pages : List Page) → IsValidSide after → IsLater before after → All (IsOwnPage before) pages → All (IsOwnPage after) pages
pages_later before after pages valid later all =
    All-from_contains (IsOwnPage after) pages (λ page stands. own_pages_stay before after page valid later (All-contains (IsOwnPage before) pages page all stands))

module _ (base : BaseParts) (side : Side) (was is : Member) (own : List Want) (kept after_kept : Kept) where
  -- a client that had its outcome
  pub finished_agrees : (link : LinkSeen) → IsHonestWith link base side → FitsSide side was.client own → All (IsOwnPage side) kept.pages → IsFinished was is kept after_kept →
      MemberAgrees base side was is own kept after_kept link link Finished
  finished_agrees link honest fits pages f =
      subst (λ (k : Kept). MemberAgrees base side was is own kept k link link Finished) (sym f.cache) (
      subst (λ (m : Member). MemberAgrees base side was m own kept kept link link Finished) (sym f.member) (record {
        left = side;
        honest = leaves_alone base side link honest;
        given = [];
        failed = [];
        asked = [];
        gone = record {
          moved = record {
            query = refl;
            outcome = λ ended e. e;
            version = refl;
            fault = λ low high none some. absurd (no_outcome_and_one (shown was.client).outcome low high none some);
          };
          count = none_more was.exchanges;
          recorded = tells_nothing link.recorded base (shown was.client).query;
        };
        gave = record { had = f.had; same = refl; none_given = refl; none_asked = refl };
        version = refl;
        by_names = asks_nothing side (shown was.client) kept own;
        round_is = refl;
        client = subst (FitsSide side was.client) (sym (append-nil own)) fits;
        pages = pages;
      })
      ) where
        no_outcome_and_one : (outcome : Option Outcome) (low high : ℕ) → outcome ≡ None → outcome ≡ Some (LinkFault low high) → ⊥
        no_outcome_and_one outcome low high none some = cc

  module _ (none : (shown was.client).outcome ≡ None) where
    -- who waits has no outcome that could stay
    no_outcome_stays : (outcome : Outcome) → (shown was.client).outcome ≡ Some outcome → (shown is.client).outcome ≡ Some outcome
    no_outcome_stays outcome some = absurd (cc)

    -- a client that received one thing
    given_one : (left : Side) (want : Want) (before after : LinkSeen) (asked : List Want) → (shown is.client).query ≡ (shown was.client).query →
        VersionAfter side left (shown was.client) (want ∷ []) (shown is.client).version → ¬ HasFault (shown is.client) → is.exchanges ≡ was.exchanges + length asked →
        TellsAsked before.recorded after.recorded base (shown was.client).query asked → HasGone base side left was is before after (want ∷ []) asked
    given_one left want before after asked query version no_fault count recorded = record {
      moved = record {
        query = query;
        outcome = no_outcome_stays;
        version = version;
        fault = λ low high had some. absurd (no_fault (record { low = low; high = high; is = some }));
      };
      count = count;
      recorded = recorded;
    }

  -- a client that takes a cached page
  pub cached_agrees : (link : LinkSeen) → IsHonestWith link base side → FitsSide side was.client own → All (IsOwnPage side) kept.pages → IsCached was is kept after_kept →
      MemberAgrees base side was is own kept after_kept link link Cached
  cached_agrees link honest fits pages c =
      let holds = c.holds in
      let name = holds.page.name in
      let own_page = found (IsOwnPage side) (has_name holds.name) kept.pages holds.page pages holds.holds in
      let wants_it : want_of (shown was.client).phase ≡ wants.Page holds.page.name = holds.wants ∙ ap wants.Page (sym (named kept.pages holds.name holds.page holds.holds)) in
      let keeps = page_keeps_it side was.client is.client own holds.page honest.stands.valid fits wants_it own_page holds.takes in
      let under : WaitsForPage side was.client own holds.page.name = subst (FitsAt side was.client own) (waits_for was.client.phase holds.page.name wants_it) fits.fits in
      let no_fault = page_no_fault was.client is.client holds.page side.doc _ holds.takes under.stands c.had_none in
      record {
        left = side;
        honest = leaves_alone base side link honest;
        given = wants.Page name ∷ [];
        failed = [];
        asked = [];
        gone = given_one c.had_none side (wants.Page name) link link [] keeps.1.query keeps.1.version no_fault (c.same_count ∙ none_more was.exchanges) (tells_nothing link.recorded base (shown was.client).query);
        gave = record {
          waited = λ e. waits (shown was.client) name wants_it e;
          is_given = ap (λ (w : Want). w ∷ []) (sym wants_it);
          none_asked = refl;
          no_fault = no_fault;
        };
        version = keeps.1.version;
        by_names = asks_kept side (shown was.client) (shown is.client) kept after_kept own holds.name holds.page holds.holds holds.used no_fault;
        round_is = ap (λ (w : Want). round_with (w ∷ []) [] []) (sym wants_it);
        client = keeps.0;
        pages = subst (λ (k : Kept). All (IsOwnPage side) k.pages) (sym holds.used) (All-with_used (IsOwnPage side) kept.pages holds.name pages);
      } where
        waits : (s : Shown) (name : PageName) → want_of s.phase ≡ wants.Page name → want_of s.phase ≡ wants.Finished → ⊥
        waits s name is finished = cc

-- the counts with which a client ended
rose_within : (outcome : Option Outcome) (before after low high : ℕ) → outcome ≡ Some (LinkFault before after) → outcome ≡ Some (LinkFault low high) → Rose before after → RoseWithin before after low high
rose_within outcome before after low high is some rose =
    let from : before ≡ low = cc in
    let to : after ≡ high = cc in
    record {
      from = omega arith;
      to = omega arith;
      rose = subst (λ (h : ℕ). Rose low h) to (subst (λ (l : ℕ). Rose l after) from rose);
    }

-- what holds of the cached pages and of the one that was asked for holds afterwards
so_after : (P : Page → Type 0) (outcome : Option Outcome) (kept : Kept) (page : Page) → P page → All P kept.pages → All P (kept_after outcome kept page).pages
so_after P (Some outcome) kept page here all = all
so_after P None kept page here all = All-with_put P kept page here all

-- a client that makes an exchange
module _ (base : BaseParts) (side : Side) (was is : Member) (own : List Want) (kept after_kept : Kept) (before after : LinkSeen) (honest : IsHonestWith before base side)
    (fits : FitsSide side was.client own) (pages : All (IsOwnPage side) kept.pages) (none : (shown was.client).outcome ≡ None) (count : is.exchanges ≡ was.exchanges + 1) where
  exchanged : (got : Got) (ex : IsExchange base (shown was.client) before after got) → Exchanges before after base side ex.request (bytes_of got) (result_of got)
  exchanged got ex = ex.honest base side (is_get base _ _ ex.request ex.asks) honest

  leaves : (got : Got) (ex : IsExchange base (shown was.client) before after got) → LeavesHonest base side (exchanged got ex).side before after
  leaves got ex =
      let x = exchanged got ex in
      record { honest = x.honest; later = x.later; same = x.same; quiet = x.quiet; clear = ex.clear; not_fallen = ex.faults.not_fallen }

  fits_then : (got : Got) (ex : IsExchange base (shown was.client) before after got) → FitsSide (exchanged got ex).side was.client own
  fits_then got ex = let x = exchanged got ex in fits_stays side x.side was.client own x.honest.stands.valid x.later fits

  pages_then : (got : Got) (ex : IsExchange base (shown was.client) before after got) → All (IsOwnPage (exchanged got ex).side) kept.pages
  pages_then got ex = let x = exchanged got ex in pages_later side x.side kept.pages x.honest.stands.valid x.later pages

  replied : (reply : List ℕ) (ex : IsExchange base (shown was.client) before after (Some reply)) (want : Want) → want_of (shown was.client).phase ≡ want →
      IsReplyTo (exchanged (Some reply) ex).side base (shown was.client).query want reply
  replied reply ex want wants_it =
      subst (λ (w : Want). IsReplyTo (exchanged (Some reply) ex).side base (shown was.client).query w reply) wants_it (record {
        request = ex.request;
        asks = ex.asks;
        replies = (exchanged (Some reply) ex).replied;
      })

  request_is : (got : Got) (ex : IsExchange base (shown was.client) before after got) (want : Want) → want_of (shown was.client).phase ≡ want → ex.request ≡ request_of base (shown was.client).query want
  request_is got ex want wants_it = ex.asks.text_is ∙ ap (request_of base (shown was.client).query) wants_it

  -- the link gave a reply
  by_reply : (reply : List ℕ) (ex : IsExchange base (shown was.client) before after (Some reply)) (want : Want) → want_of (shown was.client).phase ≡ want → want ≢ wants.Finished →
      FitsSide (exchanged (Some reply) ex).side is.client (own ++ want ∷ []) → (shown is.client).query ≡ (shown was.client).query →
      VersionAfter side (exchanged (Some reply) ex).side (shown was.client) (want ∷ []) (shown is.client).version →
      VersionThen (exchanged (Some reply) ex).side (shown was.client) (want ∷ []) (shown is.client).version → ¬ HasFault (shown is.client) →
      AsksByNames (exchanged (Some reply) ex).side (shown was.client) (shown is.client) kept after_kept own (want ∷ []) [] (want ∷ []) → All (IsOwnPage (exchanged (Some reply) ex).side) after_kept.pages → MemberAgrees base side was is own kept after_kept before after Exchanged
  by_reply reply ex want wants_it not client query version version_then no_fault by_names own_pages = record {
    left = (exchanged (Some reply) ex).side;
    honest = leaves (Some reply) ex;
    given = want ∷ [];
    failed = [];
    asked = want ∷ [];
    gone = given_one base side was is own kept after_kept none (exchanged (Some reply) ex).side want before after (want ∷ []) query version no_fault count
        (tells_one before.recorded after.recorded base (shown was.client).query want ex.request (Some reply) (request_is (Some reply) ex want wants_it) ex.recorded);
    gave = inl (record {
      waited = λ e. not (sym wants_it ∙ e);
      is_given = ap (λ (w : Want). w ∷ []) (sym wants_it);
      is_asked = ap (λ (w : Want). w ∷ []) (sym wants_it);
      no_fault = no_fault;
    });
    version = version_then;
    by_names = by_names;
    round_is = sym (round_replied (want_of (shown was.client).phase) (shown is.client).outcome (λ low high some. no_fault (record { low = low; high = high; is = some })) ∙ ap (λ (w : Want). round_with (w ∷ []) [] (w ∷ [])) wants_it);
    client = client;
    pages = own_pages;
  }

  -- the link failed
  by_failure : (ex : IsExchange base (shown was.client) before after None) (want : Want) → want_of (shown was.client).phase ≡ want → want ≢ wants.Finished →
      shown is.client ≡ ended (LinkFault before.faults after.faults) (shown was.client) → after_kept ≡ kept → asked_for (names_of kept.pages) want ≡ want ∷ [] →
      MemberAgrees base side was is own kept after_kept before after Exchanged
  by_failure ex want wants_it not ends same not_kept =
      let x = exchanged None ex in
      let waits : want_of (shown was.client).phase ≡ wants.Finished → ⊥ = λ e. not (sym wants_it ∙ e) in
      let keeps = link_fault_keeps_it x.side was.client is.client own before.faults after.faults x.honest.stands.valid (fits_then None ex) waits ends in
      let outcome : (shown is.client).outcome ≡ Some (LinkFault before.faults after.faults) = ap (λ (s : Shown). s.outcome) ends in
      record {
        left = x.side;
        honest = leaves None ex;
        given = [];
        failed = want ∷ [];
        asked = want ∷ [];
        gone = record {
          moved = record {
            query = keeps.1.query;
            outcome = no_outcome_stays base side was is own kept after_kept none;
            version = keeps.1.version;
            fault = λ low high had some. rose_within (shown is.client).outcome before.faults after.faults low high outcome some (ex.faults.rose refl);
          };
          count = count;
          recorded = tells_one before.recorded after.recorded base (shown was.client).query want ex.request None (request_is None ex want wants_it) ex.recorded;
        };
        gave = inr (record {
          waited = waits;
          none_given = refl;
          is_asked = ap (λ (w : Want). w ∷ []) (sym wants_it);
          by_fault = record { low = before.faults; high = after.faults; is = outcome };
        });
        version = keeps.1.version;
        by_names =
            asks_in_vain x.side was.client is.client kept after_kept own want x.honest.stands.valid (fits_then None ex) wants_it waits none
            (record { low = before.faults; high = after.faults; is = outcome }) keeps.1 same not_kept;
        round_is = sym (ap (round_asked (want_of (shown was.client).phase)) outcome ∙ ap (λ (w : Want). round_with [] (w ∷ []) (w ∷ [])) wants_it);
        client = subst (FitsSide x.side is.client) (sym (append-nil own)) keeps.0;
        pages = subst (λ (k : Kept). All (IsOwnPage x.side) k.pages) (sym same) (pages_then None ex);
      }

  -- the time gate
  gate_agrees : (got : Got) (ex : IsExchange base (shown was.client) before after got) → want_of (shown was.client).phase ≡ wants.Gate →
      Takes was.client is.client before.faults after.faults (TakesGate base was.client is.client) got → after_kept ≡ kept → MemberAgrees base side was is own kept after_kept before after Exchanged
  gate_agrees None ex wants_it ends same = by_failure ex wants.Gate wants_it (λ e. cc) ends same refl
  gate_agrees (Some reply) ex wants_it takes same =
      let x = exchanged (Some reply) ex in
      let keeps = gate_keeps_it x.side base was.client is.client own reply takes.said x.honest.stands (fits_then (Some reply) ex) wants_it (replied reply ex wants.Gate wants_it) takes.says takes.after in
      by_reply reply ex wants.Gate wants_it (λ e. cc) keeps.0 keeps.1.query
      (record { at = x.side; later = x.later; before = later_itself x.side; is = keeps.1.version }) keeps.1.version
      (gate_no_fault (shown was.client) (shown is.client) reply takes.said takes.after none)
      (asks_document x.side (shown was.client) (shown is.client) kept after_kept own wants.Gate same refl refl (gate_no_fault (shown was.client) (shown is.client) reply takes.said takes.after none))
      (subst (λ (k : Kept). All (IsOwnPage x.side) k.pages) (sym same) (pages_then (Some reply) ex))

  -- the stops document
  stops_agrees : (got : Got) (ex : IsExchange base (shown was.client) before after got) → want_of (shown was.client).phase ≡ wants.Stops →
      Takes was.client is.client before.faults after.faults (TakesStops was.client is.client) got → after_kept ≡ kept → MemberAgrees base side was is own kept after_kept before after Exchanged
  stops_agrees None ex wants_it ends same = by_failure ex wants.Stops wants_it (λ e. cc) ends same refl
  stops_agrees (Some reply) ex wants_it takes same =
      let x = exchanged (Some reply) ex in
      let keeps = stops_keep_it x.side base was.client is.client own reply takes.said x.honest.stands (fits_then (Some reply) ex) wants_it (replied reply ex wants.Stops wants_it) takes.says takes.after in
      by_reply reply ex wants.Stops wants_it (λ e. cc) keeps.0 keeps.1.query keeps.1.version keeps.1.version
      (stops_no_fault was.client is.client reply takes.said takes.after none)
      (asks_document x.side (shown was.client) (shown is.client) kept after_kept own wants.Stops same refl refl (stops_no_fault was.client is.client reply takes.said takes.after none))
      (subst (λ (k : Kept). All (IsOwnPage x.side) k.pages) (sym same) (pages_then (Some reply) ex))

  -- a page
  said_agrees : (name : PageName) (reply : List ℕ) (ex : IsExchange base (shown was.client) before after (Some reply)) (said : Result Page PeerFault) → want_of (shown was.client).phase ≡ wants.Page name →
      page_named kept.pages name ≡ None → SaysOwnPage (exchanged (Some reply) ex).side name said → AfterPage was.client is.client reply kept after_kept said → MemberAgrees base side was is own kept after_kept before after Exchanged
  said_agrees name reply ex (Err fault) wants_it lacks says took = absurd says
  said_agrees name reply ex (Ok page) wants_it lacks says took =
      let x = exchanged (Some reply) ex in
      let wants_page : want_of (shown was.client).phase ≡ wants.Page page.name = wants_it ∙ ap wants.Page (sym says.0) in
      let keeps = page_keeps_it x.side was.client is.client own page x.honest.stands.valid (fits_then (Some reply) ex) wants_page says.1 took.0 in
      let under : WaitsForPage x.side was.client own page.name = subst (FitsAt x.side was.client own) (waits_for was.client.phase page.name wants_page) (fits_then (Some reply) ex).fits in
      let gate = wrong_gate page (shown was.client).query.leave (shown was.client).gate in
      let right = gate_was_right x.side was.client is.client (own ++ wants.Page page.name ∷ []) page keeps.0 took.0 in
      let put : after_kept ≡ record kept { pages = with_put kept page } = took.1 ∙ ap (λ (o : Option Outcome). kept_after o kept page) right in
      let not_kept : page_named kept.pages page.name ≡ None = subst (λ (n : PageName). page_named kept.pages n ≡ None) (sym says.0) lacks in
      let no_fault = page_no_fault was.client is.client page x.side.doc _ took.0 under.stands none in
      by_reply reply ex (wants.Page page.name) wants_page (λ e. cc) keeps.0 keeps.1.query keeps.1.version keeps.1.version no_fault
      (asks_page x.side (shown was.client) (shown is.client) kept after_kept own page not_kept put no_fault)
      (subst (λ (k : Kept). All (IsOwnPage x.side) k.pages) (sym took.1) (so_after (IsOwnPage x.side) gate kept page says.1 (pages_then (Some reply) ex)))

  page_agrees : (name : PageName) (got : Got) (ex : IsExchange base (shown was.client) before after got) → want_of (shown was.client).phase ≡ wants.Page name →
      page_named kept.pages name ≡ None → TakesAsked base name was.client is.client kept after_kept before.faults after.faults got → MemberAgrees base side was is own kept after_kept before after Exchanged
  page_agrees name None ex wants_it lacks ends = by_failure ex (wants.Page name) wants_it (λ e. cc) ends.0 ends.1 (lacked_is_asked kept.pages name lacks)
  page_agrees name (Some reply) ex wants_it lacks takes =
      let x = exchanged (Some reply) ex in
      said_agrees name reply ex takes.said wants_it lacks
      (page_is_own x.side base was.client own name reply takes.said x.honest.stands (fits_then (Some reply) ex) wants_it (replied reply ex (wants.Page name) wants_it) takes.says)
      takes.after_page

  pub exchanged_agrees : Asks base was.client is.client kept after_kept before after → MemberAgrees base side was is own kept after_kept before after Exchanged
  exchanged_agrees (inl (gate, same)) = gate_agrees gate.got gate.exchange gate.wants gate.takes same
  exchanged_agrees (inr (inl (stops, same))) = stops_agrees stops.got stops.exchange stops.wants stops.takes same
  exchanged_agrees (inr (inr page)) = page_agrees page.name page.got page.exchange page.wants page.lacks page.takes
