-- The pages that are cached, most recently used first.
use Rattle.std.specs.Prelude.{ℕ, ◌≤◌, Bool, not, ◌&&◌, ◌==◌, List, [], ◌∷◌, length, take, filter, find, map, Option}
use Rattle.std.specs.List.{IsDistinct}
use Rattle.std.specs.Option.{option_map_or}
use Rattle.lc_model.specs.declared.page.PageName.{PageName}
use Rattle.page_json.specs.declared.page.Page.{Page}

-- the pages, and how many there may be
pub record Kept : Type 0 where
  pub capacity : ℕ
  pub pages : List Page

-- two names are one: their versions are, and their departures are
abbrev pub is_same : PageName → PageName → Bool
is_same a b = (a.version == b.version) && (a.departs == b.departs)

-- the page has this name
abbrev pub has_name : PageName → Page → Bool
has_name name page = is_same name page.name

-- the page of this name, if it is cached
abbrev pub page_named : List Page → PageName → Option Page
page_named pages name = find (has_name name) pages

-- the pages of other names
abbrev pub without : List Page → PageName → List Page
without pages name = filter (λ (page : Page). not (has_name name page)) pages

-- a page that is used moves to the front, if it is cached
abbrev pub with_used : List Page → PageName → List Page
with_used pages name = option_map_or (λ (page : Page). page ∷ without pages name) (page_named pages name) pages

-- a page that is put is in front, and the last one is dropped where there are more than the capacity then
abbrev pub with_put : Kept → Page → List Page
with_put kept page = take kept.capacity (page ∷ without kept.pages page.name)

-- the names of the pages are distinct, and there are no more than the capacity
pub record IsWithin (kept : Kept) : Type 0 where
  pub distinct : IsDistinct is_same (map (λ (page : Page). page.name) kept.pages)
  pub most : length kept.pages ≤ kept.capacity
