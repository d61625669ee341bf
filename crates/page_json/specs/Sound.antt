-- Pages and stops documents as their types have them: the ranges of numbers, and which texts are ids.
use Rattle.std.specs.Prelude.{ℕ, ◌<◌, ◌^◌, ℤ, pos, negsuc}
use Rattle.std.specs.List.{All}
use Rattle.std.specs.Option.{IfSome}
use Rattle.std.specs.Str.{IsUtf8}
use Rattle.lc_model.specs.Text.{IsIdText}
use Rattle.lc_model.specs.declared.change.Change.{Change}
use Rattle.lc_model.specs.declared.connection.Connection.{Connection}
use Rattle.lc_model.specs.declared.doc.StopsDoc.{StopsDoc}
use Rattle.lc_model.specs.declared.page.PageName.{PageName}
use Rattle.lc_model.specs.declared.stop.Stop.{Stop}
use Rattle.page_json.specs.declared.page.Page.{Page}

-- a moment
abbrev pub IsMoment : ℕ → Type 0
IsMoment moment = moment < 253_402_128_000

-- a whole number of 64 bits with a sign
abbrev pub IsDelay : ℤ → Type 0
IsDelay (pos n) = n < 2 ^ 63
IsDelay (negsuc n) = n < 2 ^ 63

-- a connection as its type has it
pub record IsSoundConnection (c : Connection) : Type 0 where
  pub trip : IsIdText c.key.trip
  pub seq : c.seq < 2 ^ 32
  pub dep_stop : IsIdText c.dep_stop
  pub dep : IsMoment c.dep
  pub arr_stop : IsIdText c.arr_stop
  pub arr : IsMoment c.arr
  pub dep_delay : IsDelay c.dep_delay
  pub arr_delay : IsDelay c.arr_delay

-- the name of a page as its type has it
pub record IsSoundName (name : PageName) : Type 0 where
  pub version : IsMoment name.version
  pub departs : IsMoment name.departs

-- a page as its type has it
pub record IsSoundPage (page : Page) : Type 0 where
  pub name : IsSoundName page.name
  pub next : IfSome page.next IsSoundName
  pub previous : IfSome page.previous IsSoundName
  pub list : All IsSoundConnection page.list

-- a stop as its type has it
pub record IsSoundStop (stop : Stop) : Type 0 where
  pub id : IsIdText stop.id
  pub name : IsUtf8 stop.name
  pub parent : IfSome stop.parent IsIdText

-- a change as its type has it
pub record IsSoundChange (change : Change) : Type 0 where
  pub from : IsIdText change.from
  pub to : IsIdText change.to
  pub seconds : change.seconds < 2 ^ 32

-- a stops document as its type has it
pub record IsSoundDoc (doc : StopsDoc) : Type 0 where
  pub stops : All IsSoundStop doc.stops
  pub changes : All IsSoundChange doc.changes
