-- How a cache holds its pages: each by the key of its name.
use Rattle.std.specs.Prelude.{◌≡◌, List}
use Rattle.std.specs.List.{All}
use Rattle.lc_model.specs.declared.page.PageName.{PageName}
use Rattle.page_json.specs.declared.page.Page.{Page}
use Rattle.page_client.specs.declared.cache.Key.{Key}

-- the key of a name
abbrev pub key_of : PageName → Key
key_of name = record { version = name.version; departs = name.departs }

-- each page is at the key of its name
abbrev pub AreKeyed : List (Key × Page) → Type 0
AreKeyed entries = All (λ (e : Key × Page). e.0 ≡ key_of e.1.name) entries
