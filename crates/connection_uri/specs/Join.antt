-- Joining a reference to the URL of the time gate, as the URL Standard does (section 4.4).
use Rattle.std.specs.Prelude.{◌≡◌, ◌≢◌, ℕ, ◌<◌, List, slice_get, Some, None, Ok}
use Rattle.url.specs.Ascii.{slash}
use Rattle.url.specs.Parser.{parse_url}
use Rattle.url.specs.Parts.{Parts, serialize}
use Rattle.lc_model.specs.declared.page.PageName.{PageName}
use Rattle.connection_uri.specs.Base.{BaseParts, IsBase}
use Rattle.connection_uri.specs.Page.{page_url_of, gate_url_of, page_target_of}

-- the reference, joined to the URL of one text, is the URL of the other, which is written so
pub record Joins (base_text reference url_text : List ℕ) : Type 0 where
  pub base : Parts
  pub url : Parts
  pub base_said : parse_url None base_text ≡ Ok base
  pub joined : parse_url (Some base) reference ≡ Ok url
  pub url_said : parse_url None url_text ≡ Ok url
  pub url_is : serialize url ≡ url_text

-- the page's URL, joined to that of the time gate, is the page's URL
abbrev pub PageUrlsJoin : Type 0
PageUrlsJoin =
    (base : BaseParts) (departs : ℕ) (name : PageName) → IsBase base → departs < 253_402_128_000 → name.version < 253_402_128_000 → name.departs < 253_402_128_000 → Joins (gate_url_of base departs) (page_url_of base name) (page_url_of base name)

-- The page's URL from its path on joins to it too, where the base's path does not begin with two slashes.
abbrev pub PageTargetsJoin : Type 0
PageTargetsJoin =
    (base : BaseParts) (departs : ℕ) (name : PageName) → IsBase base → slice_get base.path 1 ≢ Some slash → departs < 253_402_128_000 → name.version < 253_402_128_000 → name.departs < 253_402_128_000 → Joins (gate_url_of base departs) (page_target_of base name) (page_url_of base name)

-- Where it does, it never is: after two slashes an authority is read.
abbrev pub PageTargetsJoinNowhere : Type 0
PageTargetsJoinNowhere =
    (base : BaseParts) (departs : ℕ) (name : PageName) → IsBase base → slice_get base.path 1 ≡ Some slash → departs < 253_402_128_000 → name.version < 253_402_128_000 → name.departs < 253_402_128_000 → ¬ (Joins (gate_url_of base departs) (page_target_of base name) (page_url_of base name))
