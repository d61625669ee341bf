-- The pages as they are published (Linked Connections 1.0; Hydra, next and previous).
use Rattle.std.specs.Prelude.{ℕ, nat_lt, List, [], ◌∷◌, filter, Option, None, option_map}
use Rattle.std.specs.List.{last_or}
use Rattle.lc_model.specs.declared.connection.Connection.{Connection}
use Rattle.lc_model.specs.declared.page.PageName.{PageName}
use Rattle.lc_model.specs.Versions.Cuts.{first_of}
use Rattle.lc_model.specs.Versions.Pages.{CutPage, page_for, pages_of}
use Rattle.page_json.specs.declared.page.Page.{Page}

-- of these pages the one for a moment
abbrev pub page_among : List CutPage → ℕ → CutPage
page_among [] moment = record { departs = 0; connections = [] }
page_among (first ∷ rest) moment = page_for first rest moment

-- the cut after a page's name, if there is one: there the next page begins
abbrev pub next_cut : List ℕ → ℕ → Option ℕ
next_cut cuts departs = first_of (filter (nat_lt departs) cuts)

-- the cut before a page's name, if there is one: there the page before begins
abbrev pub previous_cut : List ℕ → ℕ → Option ℕ
previous_cut cuts departs = last_or None (filter (λ (cut : ℕ). nat_lt cut departs) cuts)

-- the page of a version that begins there
abbrev pub named : ℕ → ℕ → PageName
named version departs = record { version = version; departs = departs }

-- a page of a version with its links to its neighbours
abbrev pub linked : ℕ → List ℕ → CutPage → Page
linked version cuts page = record {
  name = named version page.departs;
  next = option_map (named version) (next_cut cuts page.departs);
  previous = option_map (named version) (previous_cut cuts page.departs);
  list = page.connections;
}

-- the page for a moment, of the connections of a version with these cuts, as it is published
abbrev pub page_at : ℕ → List ℕ → List Connection → ℕ → Page
page_at version cuts list moment = linked version cuts (page_among (pages_of cuts list) moment)
