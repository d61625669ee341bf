-- What the functions that write a page append. The base is in these texts as JSON has it.
use Rattle.std.specs.Prelude.{ℕ, List, [], ◌++◌, codes, Option, Some, None}
use Rattle.lc_model.specs.declared.page.PageName.{PageName}
use Rattle.lc_time.specs.Iso.{iso_text_of}
use Rattle.page_json.specs.ConnectionWriting.{list_part}
use Rattle.page_json.specs.declared.fronts.Fronts.{Fronts}
use Rattle.page_json.specs.declared.page.Page.{Page}
use Rattle.page_json.specs.declared.page_writing.TheConstants.{HEAD, SEARCH}

-- the URL of a page, and the end of its text
abbrev pub url_part : List ℕ → PageName → List ℕ
url_part base name =
    base ++ (codes "memento/connections?version=" ++ (iso_text_of name.version
    ++ (codes "&departureTime=" ++ (iso_text_of name.departs ++ codes "\""))))

-- a link to a page, if there is one
abbrev pub link_part : List ℕ → List ℕ → Option PageName → List ℕ
link_part front base None = []
link_part front base (Some name) = front ++ url_part base name

-- what a page says of itself
abbrev pub view_part : List ℕ → Page → List ℕ
view_part base page =
    codes ",\"@id\":\"" ++ (url_part base page.name
    ++ (codes ",\"@type\":\"hydra:PartialCollectionView\""
    ++ (link_part (codes ",\"hydra:next\":\"") base page.next
    ++ link_part (codes ",\"hydra:previous\":\"") base page.previous)))

-- how other pages are asked for, and the end of a page
abbrev pub search_part : List ℕ → List ℕ
search_part base = SEARCH.now ++ (base ++ codes "connections{?departureTime}\"}}")

-- a page
abbrev pub page_part : Fronts → Page → List ℕ
page_part fronts page =
    HEAD.now ++ (list_part fronts page.list ++ (view_part fronts.base page ++ search_part fronts.base))
