-- Which pages were cached while clients received what they wanted, over any link. What was received determines them, most recently used
-- first.
use Rattle.std.specs.Prelude.{◌≡◌, ◌&&◌, ◌-◌, ℕ, Bool, true, false, not, List, [], ◌∷◌, ◌++◌, Option, Some, None, Result, Ok, Err, slice_get, if◌then◌else◌}
use Rattle.std.specs.List.{list_any}
use Rattle.lc_model.specs.declared.page.PageName.{PageName}
use Rattle.lc_model.specs.declared.query.Query.{Query}
use Rattle.connection_uri.specs.Base.{BaseParts}
use Rattle.page_client.specs.Kept.{Kept, page_named, with_put, with_used}
use Rattle.page_json.specs.declared.page.Page.{Page}
use Rattle.page_client.specs.Page.{IsPageReply}
use Rattle.page_client.specs.Shown.{is_off}
use Rattle.page_client.specs.declared.fault.PeerFault.{PeerFault}
use Rattle.page_client.specs.declared.want.Want.{Want}
use Rattle.page_client.specs.declared.want.Want.TheVariants as wants
use Rattle.convoy.specs.Replies.Made.{Made}
use Rattle.convoy.specs.Replies.Met.{Met, met_by}

-- a page is wanted
abbrev pub is_page : Want → Bool
is_page wants.Gate = false
is_page wants.Stops = false
is_page (wants.Page name) = true
is_page wants.Finished = false

-- a page is among what a client received
abbrev pub has_page : List Made → Bool
has_page made = list_any (λ (one : Made). is_page one.want) made

-- The time gate was wrong to send to the page. It is the first one after what the client received before, and not the one for the moment.
abbrev pub is_sent_wrong : ℕ → List Made → Page → Bool
is_sent_wrong leave before page = not (has_page before) && is_off leave page

-- The cache after the reply with a page that was not cached. The page that it says is put. One that fails a test is not, nor one to which
-- the time gate was wrong to send.
abbrev pub kept_by : Kept → (Page → Bool) → Result Page PeerFault → Kept
kept_by kept wrong (Ok page) = if wrong page then kept else record kept { pages = with_put kept page }
kept_by kept wrong (Err fault) = kept

-- the reply of an exchange for a page says it, or fails a test, and this is the cache after it
pub record IsPutBy (base : BaseParts) (query : Query) (before : List Made) (kept : Kept) (name : PageName) (reply : List ℕ) (now : Kept) : Type 0 where
  pub said : Result Page PeerFault
  pub says : IsPageReply base name reply said
  pub is : now ≡ kept_by kept (is_sent_wrong query.leave before) said

-- an exchange that failed leaves the cache
abbrev pub IsAfterExchange : BaseParts → Query → List Made → Kept → PageName → Option (List ℕ) → Kept → Type 0
IsAfterExchange base query before kept name (Some reply) now = IsPutBy base query before kept name reply now
IsAfterExchange base query before kept name None now = now ≡ kept

-- the cached page of this name was received, by a reply that says it, and moved to the front
pub record IsUsedBy (base : BaseParts) (kept : Kept) (name : PageName) (got : Option (List ℕ)) (now : Kept) : Type 0 where
  pub page : Page
  pub holds : page_named kept.pages name ≡ Some page
  pub reply : List ℕ
  pub got_is : got ≡ Some reply
  pub says : IsPageReply base name reply (Ok page)
  pub is : now ≡ record kept { pages = with_used kept.pages name }

-- a page is asked for exactly where none of its name is cached
abbrev pub IsAfterPage : BaseParts → Query → List Made → Kept → PageName → Bool → Option (List ℕ) → Kept → Type 0
IsAfterPage base query before kept name true got now = (page_named kept.pages name ≡ None) × IsAfterExchange base query before kept name got now
IsAfterPage base query before kept name false got now = IsUsedBy base kept name got now

-- the time gate and the stops document are asked for, and leave the cache
abbrev pub IsAfterWant : BaseParts → Query → List Made → Kept → Want → Bool → Option (List ℕ) → Kept → Type 0
IsAfterWant base query before kept wants.Gate asked got now = (asked ≡ true) × (now ≡ kept)
IsAfterWant base query before kept wants.Stops asked got now = (asked ≡ true) × (now ≡ kept)
IsAfterWant base query before kept (wants.Page name) asked got now = IsAfterPage base query before kept name asked got now
IsAfterWant base query before kept wants.Finished asked got now = ⊥

-- a client of one of these questions received this, after all that was received before, and this is the cache after it
pub record IsCacheAfter (base : BaseParts) (questions : List Query) (before : List Met) (kept : Kept) (met : Met) (now : Kept) : Type 0 where
  pub query : Query
  pub asks : slice_get questions (met.client - 1) ≡ Some query
  pub is : IsAfterWant base query (met_by met.client before) kept met.made.want met.asked met.made.got now

-- the cache went along all this, which came after what was received before, from the one to the other
abbrev pub CacheAlong : BaseParts → List Query → List Met → Kept → List Met → Kept → Type 0
CacheAlong base questions before kept [] now = now ≡ kept
CacheAlong base questions before kept (met ∷ more) now =
    (next : Kept) × IsCacheAfter base questions before kept met next × CacheAlong base questions (before ++ met ∷ []) next more now

-- a cache of so many pages, of which there is none yet
abbrev pub empty_cache : ℕ → Kept
empty_cache capacity = record { capacity = capacity; pages = [] }

-- The clients of these questions received all this with a cache of so many pages, which was empty at first.
pub record AreCached (capacity : ℕ) (base : BaseParts) (questions : List Query) (all : List Met) : Type 0 where
  pub now : Kept
  pub along : CacheAlong base questions [] (empty_cache capacity) all now
