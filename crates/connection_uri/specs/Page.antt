-- The URLs of pages, and the targets of requests under a base.
use Rattle.std.specs.Prelude.{◌≡◌, ℕ, ◌<◌, List, ◌++◌, codes}
use Rattle.lc_model.specs.declared.page.PageName.{PageName}
use Rattle.lc_time.specs.Iso.{iso_text_of}
use Rattle.connection_uri.specs.Base.{BaseParts}

-- {base}memento/connections?version=V&departureTime=T, with both moments in ISO 8601
abbrev pub page_url_of : BaseParts → PageName → List ℕ
page_url_of base name =
    base.text ++ codes "memento/connections?version=" ++ iso_text_of name.version ++ codes "&departureTime="
    ++ iso_text_of name.departs

-- different pages have different URLs
abbrev pub PageUrlsDiffer : Type 0
PageUrlsDiffer =
    (base : BaseParts) (a b : PageName) → a.version < 253_402_128_000 → a.departs < 253_402_128_000 → b.version < 253_402_128_000 → b.departs < 253_402_128_000 → page_url_of base a ≡ page_url_of base b → a ≡ b

-- the parts of a page's URL, for any two texts for the moments, grouped from the right
abbrev pub page_parts_of : BaseParts → List ℕ → List ℕ → List ℕ
page_parts_of base version departs =
    base.text ++ (codes "memento/connections?version=" ++ (version ++ (codes "&departureTime=" ++ departs)))

-- the URL of the time gate: {base}connections?departureTime=T
abbrev pub gate_url_of : BaseParts → ℕ → List ℕ
gate_url_of base departs = base.text ++ codes "connections?departureTime=" ++ iso_text_of departs

-- the target of the time gate, its URL from the path on
abbrev pub gate_target_of : BaseParts → ℕ → List ℕ
gate_target_of base departs = base.path ++ codes "connections?departureTime=" ++ iso_text_of departs

-- the target of the stops document
abbrev pub stops_target_of : BaseParts → List ℕ
stops_target_of base = base.path ++ codes "stops"

-- the target of a page, its URL from the path on
abbrev pub page_target_of : BaseParts → PageName → List ℕ
page_target_of base name =
    base.path ++ codes "memento/connections?version=" ++ iso_text_of name.version ++ codes "&departureTime="
    ++ iso_text_of name.departs
