-- That what was received determines which pages were cached, with one capacity of the cache, and that another capacity is refused.
use Rattle.std.specs.Prelude.{◌≡◌, ℕ, Bool, true, false, List, [], ◌∷◌, Ok}
use Rattle.lc_model.specs.declared.page.PageName.{PageName}
use Rattle.lc_model.specs.declared.query.Query.{Query}
use Rattle.connection_uri.specs.Base.{BaseParts}
use Rattle.page_client.specs.Kept.{Kept}
use Rattle.page_json.specs.declared.page.Page.{Page}
use Rattle.page_client.specs.Page.{IsPageReply}
use Rattle.page_client.specs.Shown.{is_off}
use Rattle.page_client.specs.declared.want.Want.TheVariants as wants
use Rattle.convoy.specs.Replies.Cached.{AreCached, CacheAlong}
use Rattle.convoy.specs.Replies.Made.{reply_to}
use Rattle.convoy.specs.Replies.Met.{Met}

-- from one cache on, all that was received leads to one cache
abbrev pub CacheIsOne : Type 0
CacheIsOne =
    (base : BaseParts) (questions : List Query) (before all : List Met) (kept now other : Kept) → CacheAlong base questions before kept all now → CacheAlong base questions before kept all other
    → now ≡ other

-- two pages of one version
abbrev pub early : PageName
early = record { version = 0; departs = 0 }

abbrev pub late : PageName
late = record { version = 0; departs = 60 }

-- a client received a page by this reply
abbrev pub received_by : ℕ → PageName → List ℕ → Bool → Met
received_by client name reply asked = record { client = client; made = reply_to (wants.Page name) reply; asked = asked; low = 0; high = 0 }

-- a client received both pages, and then another received the early one, by an exchange or without one
abbrev pub three_wants : List ℕ → List ℕ → Bool → List Met
three_wants to_early to_late asked = received_by 1 early to_early true ∷ received_by 1 late to_late true ∷ received_by 2 early to_early asked ∷ []

-- With room for one page the other client asks for it, and with room for two it does not. Each is refused with the other capacity.
pub record AreByCapacity (base : BaseParts) (query : Query) (to_early to_late : List ℕ) : Type 0 where
  pub one : AreCached 1 base (query ∷ query ∷ []) (three_wants to_early to_late true)
  pub two : AreCached 2 base (query ∷ query ∷ []) (three_wants to_early to_late false)
  pub not_two : AreCached 2 base (query ∷ query ∷ []) (three_wants to_early to_late true) → ⊥
  pub not_one : AreCached 1 base (query ∷ query ∷ []) (three_wants to_early to_late false) → ⊥

-- this holds where the replies say these pages, and the time gate was right to send to the early one
abbrev pub CapacityIsBound : Type 0
CapacityIsBound =
    (base : BaseParts) (query : Query) (to_early to_late : List ℕ) (early_page late_page : Page) → IsPageReply base early to_early (Ok early_page) → IsPageReply base late to_late (Ok late_page)
    → is_off query.leave early_page ≡ false → AreByCapacity base query to_early to_late

-- a client received the early page, and then another did, by an exchange or without one
abbrev pub two_wants : List ℕ → Bool → List Met
two_wants to_early asked = received_by 1 early to_early true ∷ received_by 2 early to_early asked ∷ []

-- The page is not cached, however large the cache is: the other client asks for it.
pub record IsNotPut (capacity : ℕ) (base : BaseParts) (query : Query) (to_early : List ℕ) : Type 0 where
  pub asked : AreCached capacity base (query ∷ query ∷ []) (two_wants to_early true)
  pub not_cached : AreCached capacity base (query ∷ query ∷ []) (two_wants to_early false) → ⊥

-- this holds where the reply says the page, and the time gate was wrong to send to it
abbrev pub WrongPageIsNotPut : Type 0
WrongPageIsNotPut =
    (capacity : ℕ) (base : BaseParts) (query : Query) (to_early : List ℕ) (early_page : Page) → IsPageReply base early to_early (Ok early_page) → is_off query.leave early_page ≡ true
    → IsNotPut capacity base query to_early
