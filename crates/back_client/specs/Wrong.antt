-- The tests of a page beside those of its reply: it is the one for the moment, and leads back.
use Rattle.std.specs.Prelude.{ℕ, Bool, true, false, ◌&&◌, ◌||◌, nat_le, nat_lt, List, Option, Some, None, is_some, if◌then◌else◌}
use Rattle.lc_model.specs.Connection.{last_departure}
use Rattle.lc_model.specs.declared.connection.Connection.{Connection}
use Rattle.lc_model.specs.declared.page.PageName.{PageName}
use Rattle.page_json.specs.declared.page.Page.{Page}
use Rattle.page_client.specs.declared.fault.PeerFault.TheVariants.{GateWrong, Retreat}
use Rattle.page_client.specs.declared.outcome.Outcome.{Outcome}
use Rattle.page_client.specs.declared.outcome.Outcome.TheVariants.{PeerWrong}
use Rattle.back_client.specs.declared.page.Place.{Place}
use Rattle.back_client.specs.declared.page.Place.TheVariants.{First, After}

-- the next page begins at the moment or before it
abbrev pub is_by : ℕ → Option PageName → Bool
is_by arrive None = false
is_by arrive (Some next) = nat_le next.departs arrive

-- The page is not the one for the moment. Its name is above the moment, though there is a previous page, or the next page is for it.
abbrev pub is_off : ℕ → Page → Bool
is_off arrive page = (is_some page.previous && nat_lt arrive page.name.departs) || is_by arrive page.next

-- the previous link does not lead to an earlier departure
abbrev pub is_level : ℕ → Option PageName → Bool
is_level departs None = false
is_level departs (Some previous) = nat_le departs previous.departs

-- the last of these departures, if there are any, is at the moment or later
abbrev pub is_up_to : ℕ → Option ℕ → Bool
is_up_to moment None = false
is_up_to moment (Some last) = nat_le moment last

-- connections in departure order depart at the moment or later
abbrev pub reaches : ℕ → List Connection → Bool
reaches moment list = is_up_to moment (last_departure list)

-- after a page of a name, the connections do not depart before it
abbrev pub overlaps : Place → List Connection → Bool
overlaps (First gate) list = false
overlaps (After name) list = reaches name list

-- the page does not lead back: its previous link does not, or it holds what departs no earlier than the page before
abbrev pub retreats : Place → Page → Bool
retreats place page = is_level page.name.departs page.previous || overlaps place page.list

-- the time gate was wrong to send to the page
abbrev pub wrong_gate : ℕ → Place → Page → Option Outcome
wrong_gate arrive (First gate) page = if is_off arrive page then Some (PeerWrong gate (GateWrong page)) else None
wrong_gate arrive (After name) page = None

-- the outcome by the test of leading back, which comes last
abbrev pub wrong_retreat : Option Outcome → Place → Page → List ℕ → Option Outcome
wrong_retreat (Some outcome) place page reply = Some outcome
wrong_retreat None place page reply = if retreats place page then Some (PeerWrong reply Retreat) else None

-- the outcome by the first of these tests that the page fails, if it fails one
abbrev pub wrong_of : ℕ → Place → Page → List ℕ → Option Outcome
wrong_of arrive place page reply = wrong_retreat (wrong_gate arrive place page) place page reply
