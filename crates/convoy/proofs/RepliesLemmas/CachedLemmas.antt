-- The cached pages, with one more that was received.
use Rattle.std.proofs.Common.{◌≡◌, ◌∙◌, ◌-◌, ◌&&◌, ℕ, Bool, true, false, not, is_some, List, [], ◌∷◌, ◌++◌, Option, Some, None, Result, Ok, Err, ap, append-nil, append_assoc, refl, subst, sym}
use Rattle.std.specs.Prelude.{if◌then◌else◌, ◌||◌}
use Rattle.std.specs.List.{slice_get}
use Rattle.connection_uri.specs.Base.{BaseParts}
use Rattle.convoy.specs.Exchange.{Got}
use Rattle.convoy.specs.Steps.{AfterPage as AfterPageSaid, HoldsPage, TakesAsked, kept_after}
use Rattle.csa_scan.proofs.ListPlacesLemmas.{slice_get-append}
use Rattle.lc_model.specs.declared.page.PageName.{PageName}
use Rattle.lc_model.specs.declared.query.Query.{Query}
use Rattle.page_client.specs.Kept.{Kept, page_named, with_put}
use Rattle.page_client.specs.Client.{shown}
use Rattle.page_client.specs.Page.{IsPageReply}
use Rattle.page_client.specs.Shown.{is_off, wrong_gate}
use Rattle.page_client.specs.declared.client.Client.{Client}
use Rattle.page_client.specs.declared.fault.PeerFault.{PeerFault}
use Rattle.page_client.specs.declared.fault.PeerFault.TheVariants.{GateWrong}
use Rattle.page_client.specs.declared.outcome.Outcome.{Outcome}
use Rattle.page_client.specs.declared.outcome.Outcome.TheVariants as outcomes
use Rattle.page_client.specs.declared.want.Want.TheVariants as wants
use Rattle.page_json.specs.declared.page.Page.{Page}
use Rattle.convoy.specs.Replies.Cached.{CacheAlong, IsAfterExchange, IsAfterWant, IsCacheAfter, IsPutBy, has_page, is_page, is_sent_wrong}
use Rattle.convoy.specs.Replies.Course.{ReadsPages}
use Rattle.convoy.specs.Replies.Made.{Made}
use Rattle.convoy.specs.Replies.Met.{Met, met_by}
use Rattle.convoy.proofs.RepliesLemmas.StepLemmas.{AtPage, HoldsGate}

-- one more was received
cache_along_more : (base : BaseParts) (questions : List Query) (before all : List Met) (met : Met) (kept now later : Kept) → CacheAlong base questions before kept all now →
    IsCacheAfter base questions (before ++ all) now met later → CacheAlong base questions before kept (all ++ met ∷ []) later
cache_along_more base questions before [] met kept now later along after = (
  later,
  subst (λ (l : List Met). IsCacheAfter base questions l kept met later) (append-nil before) (subst (λ (k : Kept). IsCacheAfter base questions (before ++ []) k met later) along after),
  refl,
)
cache_along_more base questions before (m ∷ all) met kept now later along after = (
  along.0,
  along.1,
  cache_along_more base questions (before ++ m ∷ []) all met along.0 now later along.2
      (subst (λ (l : List Met). IsCacheAfter base questions l now met later) (sym (append_assoc before (m ∷ []) all)) after),
)

-- who asks later changes nothing of it
pub cache_along_with_more : (base : BaseParts) (questions more : List Query) (before all : List Met) (kept now : Kept) → CacheAlong base questions before kept all now →
    CacheAlong base (questions ++ more) before kept all now
cache_along_with_more base questions more before [] kept now along = along
cache_along_with_more base questions more before (m ∷ all) kept now along =
    let one = along.1 in (
      along.0,
      record { query = one.query; asks = slice_get-append questions more (m.client - 1) one.query one.asks; is = one.is },
      cache_along_with_more base questions more (before ++ m ∷ []) all along.0 now along.2,
    )

-- who has read no page has received none, and who has read one has
has_read_none : (base : BaseParts) (first : PageName) (for_pages : List Made) → ReadsPages base (Some first) for_pages [] → has_page for_pages ≡ false
has_read_none base first [] reads = refl
has_read_none base first (made ∷ more) reads = absurd reads

has_read_some : (base : BaseParts) (first : PageName) (for_pages : List Made) (page : Page) (pages : List Page) → ReadsPages base (Some first) for_pages (page ∷ pages) → has_page for_pages ≡ true
has_read_some base first [] page pages reads = absurd reads
has_read_some base first (made ∷ more) page pages reads = ap (λ (m : Made). is_page m.want || has_page more) reads.0.is

-- The time gate's reply is held until a page was received. Its test fails exactly where the time gate was wrong to send to the page.
module _ (base : BaseParts) (first : PageName) (for_pages : List Made) (leave : ℕ) (page : Page) (reply : List ℕ) where
  by_off : (off : Bool) → is_some (if off then Some (outcomes.PeerWrong reply (GateWrong page)) else None) ≡ off
  by_off true = refl
  by_off false = refl

  by_held : (pages : List Page) (gate : Option (List ℕ)) → ReadsPages base (Some first) for_pages pages → HoldsGate reply pages gate →
      is_some (wrong_gate page leave gate) ≡ is_sent_wrong leave for_pages page
  by_held [] gate reads held =
      ap (λ (g : Option (List ℕ)). is_some (wrong_gate page leave g)) held ∙ by_off (is_off leave page)
      ∙ ap (λ (has : Bool). not has && is_off leave page) (sym (has_read_none base first for_pages reads))
  by_held (p ∷ pages) gate reads held =
      ap (λ (g : Option (List ℕ)). is_some (wrong_gate page leave g)) held
      ∙ ap (λ (has : Bool). not has && is_off leave page) (sym (has_read_some base first for_pages p pages reads))

sent_wrong_is : (base : BaseParts) (client : Client) (made : List Made) (name : PageName) (page : Page) → AtPage base (shown client) client made name →
    is_some (wrong_gate page (shown client).query.leave (shown client).gate) ≡ is_sent_wrong (shown client).query.leave made page
sent_wrong_is base client made name page at =
    let c = at.come in
    by_held base c.first c.for_pages (shown client).query.leave page c.gate c.pages (shown client).gate c.reads at.gate
    ∙ ap (λ (l : List Made). is_sent_wrong (shown client).query.leave l page) (sym c.was_made)

-- a page was asked for
module _ (base : BaseParts) (was is : Client) (old new : Kept) (made : List Made) (name : PageName) (at : AtPage base (shown was) was made name) where
  kept_so : (page : Page) (outcome : Option Outcome) → is_some outcome ≡ is_sent_wrong (shown was).query.leave made page →
      kept_after outcome old page ≡ (if is_sent_wrong (shown was).query.leave made page then old else record old { pages = with_put old page })
  kept_so page (Some outcome) wrong = ap (λ (b : Bool). if b then old else record old { pages = with_put old page }) wrong
  kept_so page None wrong = ap (λ (b : Bool). if b then old else record old { pages = with_put old page }) wrong

  by_reply : (reply : List ℕ) (said : Result Page PeerFault) → IsPageReply base name reply said → AfterPageSaid was is reply old new said → IsPutBy base (shown was).query made old name reply new
  by_reply reply (Err fault) says (ended, same) = record { said = Err fault; says = says; is = same }
  by_reply reply (Ok page) says (takes, put) = record {
    said = Ok page;
    says = says;
    is = put ∙ kept_so page (wrong_gate page (shown was).query.leave (shown was).gate) (sent_wrong_is base was made name page at);
  }

  exchange_kept : (low high : ℕ) (got : Got) → TakesAsked base name was is old new low high got → IsAfterExchange base (shown was).query made old name got new
  exchange_kept low high None (ended, same) = same
  exchange_kept low high (Some reply) takes = by_reply reply takes.said takes.says takes.after_page

-- a client, which this was, received one more
module _ (base : BaseParts) (questions : List Query) (was : Client) (k : ℕ) (asks : slice_get questions (k - 1) ≡ Some (shown was).query) (first old new : Kept) (all : List Met)
    (cached : CacheAlong base questions [] first all old) where
  -- whatever it was
  with_one : (made : Made) (asked : Bool) (low high : ℕ) → IsAfterWant base (shown was).query (met_by k all) old made.want asked made.got new
      → CacheAlong base questions [] first (all ++ record { client = k; made = made; asked = asked; low = low; high = high } ∷ []) new
  with_one made asked low high after =
      let one : Met = record { client = k; made = made; asked = asked; low = low; high = high } in
      cache_along_more base questions [] all one first old new cached (record { query = (shown was).query; asks = asks; is = after })

  -- the time gate's reply, or none
  pub with_gate : (got : Got) (low high : ℕ) → new ≡ old
      → CacheAlong base questions [] first (all ++ record { client = k; made = record { want = wants.Gate; got = got }; asked = true; low = low; high = high } ∷ []) new
  with_gate got low high same = with_one (record { want = wants.Gate; got = got }) true low high (refl, same)

  -- the stops document, or none
  pub with_stops : (got : Got) (low high : ℕ) → new ≡ old
      → CacheAlong base questions [] first (all ++ record { client = k; made = record { want = wants.Stops; got = got }; asked = true; low = low; high = high } ∷ []) new
  with_stops got low high same = with_one (record { want = wants.Stops; got = got }) true low high (refl, same)

  -- a page that was asked for
  pub with_page : (is : Client) (name : PageName) (got : Got) (low high : ℕ) → page_named old.pages name ≡ None → AtPage base (shown was) was (met_by k all) name → TakesAsked base name was is old new low high got
      → CacheAlong base questions [] first (all ++ record { client = k; made = record { want = wants.Page name; got = got }; asked = true; low = low; high = high } ∷ []) new
  with_page is name got low high lacks at takes = with_one (record { want = wants.Page name; got = got }) true low high (lacks, exchange_kept base was is old new (met_by k all) name at low high got takes)

  -- a cached page, by a reply that says it
  pub with_cached : (is : Client) (reply : List ℕ) (low high : ℕ) (holds : HoldsPage was is old new) → IsPageReply base holds.name reply (Ok holds.page)
      → CacheAlong base questions [] first (all ++ record { client = k; made = record { want = wants.Page holds.name; got = Some reply }; asked = false; low = low; high = high } ∷ []) new
  with_cached is reply low high holds says =
      with_one (record { want = wants.Page holds.name; got = Some reply }) false low high
      (record { page = holds.page; holds = holds.holds; reply = reply; got_is = refl; says = says; is = holds.used })
