-- What the JSON of a page says, or its first fault.
use Rattle.std.specs.Prelude.{ℕ, List, Bool, true, not, codes, nat_le, Option, Some, None, option_and_then, Result, Ok, Err, if◌then◌else◌}
use Rattle.std.specs.Str.{bytes_eq}
use Rattle.lc_model.specs.Connection.{departure_cmp}
use Rattle.lc_model.specs.declared.connection.Connection.{Connection}
use Rattle.lc_model.specs.declared.key.RunKey.{RunKey}
use Rattle.lc_time.specs.Iso.{SaysMoment}
use Rattle.connection_uri.specs.Base.{BaseParts}
use Rattle.serde_json.specs.Data.{Data}
use Rattle.serde_json.specs.Find.{as_str, get}
use Rattle.lc_model.specs.Disorder.{first_disorder}
use Rattle.page_json.specs.ObjectMembers.Disorder.{unless_disorder}
use Rattle.page_json.specs.ObjectMembers.Members.{delay_of, list_of, object_under, said_at, said_if_there}
use Rattle.page_json.specs.ObjectMembers.Reading.{Reading, each_in, exactly, gives, ◌>>=◌}
use Rattle.page_json.specs.Says.{SaysLink, SaysName, SaysPage, SaysStop}
use Rattle.page_json.specs.declared.connection_reading.End.{End}
use Rattle.page_json.specs.declared.object_members.fault.PageFault.{PageFault}
use Rattle.page_json.specs.declared.object_members.fault.PageFault.TheVariants.{BadMember}
use Rattle.page_json.specs.declared.page.Page.{Page}
use Rattle.page_json.specs.ObjectMembers.JsonReading.{json_in}

-- the delay, the stop and the moment of an arrival or a departure, by their members
unfoldable pub end_at : BaseParts → List ℕ → List ℕ → List ℕ → Data → Reading End
end_at base delay_key stop_key moment_key tree = do
  delay ← exactly (delay_of delay_key tree)
  stop ← said_at (SaysStop base) stop_key tree
  moment ← said_at SaysMoment moment_key tree
  gives (record { delay = delay; stop = stop; moment = moment })

-- one text forbids, all else allows
abbrev pub is_allowed_by : Option (List ℕ) → Bool
is_allowed_by None = true
is_allowed_by (Some text) = not (bytes_eq text (codes "gtfs:NotAvailable"))

-- whether a member allows
abbrev pub allows : List ℕ → Data → Bool
allows key tree = is_allowed_by (option_and_then as_str (get key tree))

-- a connection of a name, an arrival and a departure
abbrev pub joined : Data → RunKey × ℕ → End → End → Connection
joined tree name arrival departure =
    record {
      key = name.0;
      seq = name.1;
      dep_stop = departure.stop;
      dep = departure.moment;
      arr_stop = arrival.stop;
      arr = arrival.moment;
      board = allows (codes "gtfs:pickupType") tree;
      alight = allows (codes "gtfs:dropOffType") tree;
      dep_delay = departure.delay;
      arr_delay = arrival.delay;
    }

-- none arrives before it departs
abbrev pub unless_early : Connection → Result Connection PageFault
unless_early c = if nat_le c.dep c.arr then Ok c else Err (BadMember (codes "arrivalTime"))

-- a connection, its members in the order of their bytes
unfoldable pub connection_in : BaseParts → Data → Reading Connection
connection_in base tree = do
  _ ← exactly (object_under (codes "@graph") tree)
  name ← said_at (SaysName base) (codes "@id") tree
  arrival ← end_at base (codes "arrivalDelay") (codes "arrivalStop") (codes "arrivalTime") tree
  departure ← end_at base (codes "departureDelay") (codes "departureStop") (codes "departureTime") tree
  exactly (unless_early (joined tree name arrival departure))

-- a page: its name, its connections, its links, and then their order
unfoldable pub page_in : BaseParts → Data → Reading Page
page_in base tree = do
  _ ← exactly (object_under (codes "page") tree)
  name ← said_at (SaysPage base) (codes "@id") tree
  graph ← exactly (list_of (codes "@graph") tree)
  list ← each_in (connection_in base) graph
  next ← said_if_there (SaysLink base name.version) (codes "hydra:next") tree
  previous ← said_if_there (SaysLink base name.version) (codes "hydra:previous") tree
  exactly (unless_disorder (first_disorder departure_cmp list)
      (record { name = name; next = next; previous = previous; list = list }))

-- the page that the bytes are
unfoldable pub page_of_bytes : BaseParts → List ℕ → Reading Page
page_of_bytes base bytes = do
  tree ← json_in bytes
  page_in base tree
