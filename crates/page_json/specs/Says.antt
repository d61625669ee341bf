-- What the texts in a page say.
use Rattle.std.specs.Prelude.{◌≡◌, ℕ, ◌<◌, ◌^◌, List}
use Rattle.lc_model.specs.Text.{IsIdText}
use Rattle.lc_model.specs.declared.key.RunKey.{RunKey}
use Rattle.lc_model.specs.declared.page.PageName.{PageName}
use Rattle.connection_uri.specs.Base.{BaseParts}
use Rattle.connection_uri.specs.Name.{name_of}
use Rattle.connection_uri.specs.Page.{page_url_of}
use Rattle.page_json.specs.Urls.{stop_url_of}

-- the text is the name of the connection of this run and sequence
pub record SaysName (base : BaseParts) (text : List ℕ) (name : RunKey × ℕ) : Type 0 where
  pub trip : IsIdText name.0.trip
  pub fits : name.1 < 2 ^ 32
  pub written : text ≡ name_of base name.0 name.1

-- the text is the URL of this stop
pub record SaysStop (base : BaseParts) (text : List ℕ) (stop : List ℕ) : Type 0 where
  pub id : IsIdText stop
  pub written : text ≡ stop_url_of base stop

-- the text is the URL of this page
pub record SaysPage (base : BaseParts) (text : List ℕ) (name : PageName) : Type 0 where
  pub version_fits : name.version < 253_402_128_000
  pub departs_fits : name.departs < 253_402_128_000
  pub written : text ≡ page_url_of base name

-- the text is the URL of this page, which is one of the version
pub record SaysLink (base : BaseParts) (version : ℕ) (text : List ℕ) (name : PageName) : Type 0 where
  pub page : SaysPage base text name
  pub same_version : name.version ≡ version
