-- The requests under a base: each of their targets is good, and what it says.
use Rattle.std.specs.Prelude.{◌≡◌, ℕ, ◌<◌, ◌≤◌, List, [], ◌∷◌, ◌++◌, length, codes, Option}
use Rattle.httparse.specs.Grammar.{AllPass, is_uri_byte}
use Rattle.lc_model.specs.declared.page.PageName.{PageName}
use Rattle.connection_uri.specs.Base.{BaseParts, IsBase}
use Rattle.connection_uri.specs.Page.{gate_target_of, stops_target_of, page_target_of}
use Rattle.lc_time.specs.Iso.{iso_text_of}
use Rattle.http_text.specs.declared.member.Member.{Member}
use Rattle.http_text.specs.Target.{path_of, query_of, members_of}
use Rattle.http_text.specs.RequestText.{request_text_of, CanAsk}

-- a GET of this target can be made, whatever moment its asker knows
abbrev pub CanAskFor : BaseParts → List ℕ → Type 0
CanAskFor base target = (known : Option ℕ) → CanAsk target (request_text_of base.authority target known)

-- a GET can be made of the base's path with at most 12,000 visible bytes after it
abbrev pub CanAskUnder : BaseParts → Type 0
CanAskUnder base = (tail : List ℕ) → AllPass is_uri_byte tail → length tail ≤ 12_000 → CanAskFor base (base.path ++ tail)

-- a GET can be made of the time gate, of the stops document and of each page
pub record CanAskForAll (base : BaseParts) : Type 0 where
  pub gate : (departs : ℕ) → departs < 253_402_128_000 → CanAskFor base (gate_target_of base departs)
  pub stops : CanAskFor base (stops_target_of base)
  pub page : (name : PageName) → name.version < 253_402_128_000 → name.departs < 253_402_128_000 → CanAskFor base (page_target_of base name)

-- under every base
abbrev pub TargetsAreGood : Type 0
TargetsAreGood = (base : BaseParts) → IsBase base → CanAskUnder base × CanAskForAll base

-- a name and a value of a query
abbrev pub member : List ℕ → List ℕ → Member
member name value = record { name = name; value = value }

-- the target says this path, and these members of its query and no others
pub record SaysTarget (target path : List ℕ) (members : List Member) : Type 0 where
  pub path_is : path_of target ≡ path
  pub query_is : members_of (query_of target) ≡ members

-- What the targets under a base say: at the time gate the moment, at a page the version and the moment, in this order. All are
-- texts of ISO 8601.
pub record TargetsSay (base : BaseParts) : Type 0 where
  pub gate : (departs : ℕ) → departs < 253_402_128_000
      → SaysTarget (gate_target_of base departs) (base.path ++ codes "connections")
      (member (codes "departureTime") (iso_text_of departs) ∷ [])
  pub stops : SaysTarget (stops_target_of base) (base.path ++ codes "stops") []
  pub page : (name : PageName) → name.version < 253_402_128_000 → name.departs < 253_402_128_000
      → SaysTarget (page_target_of base name) (base.path ++ codes "memento/connections")
      (member (codes "version") (iso_text_of name.version) ∷ member (codes "departureTime") (iso_text_of name.departs) ∷ [])

-- under every base
abbrev pub TargetsAreRead : Type 0
TargetsAreRead = (base : BaseParts) → IsBase base → TargetsSay base
