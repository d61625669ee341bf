-- Where one may stop that goes back: no earlier connection lets one leave later.
use Rattle.std.specs.Prelude.{ℕ, ◌<◌, ◌≤◌, List, ◌++◌, Option, Some, None, ◌↔◌}
use Rattle.std.specs.List.{All}
use Rattle.lc_model.specs.Connection.{InDepartureOrder, NoneArrivesEarly}
use Rattle.lc_model.specs.Question.{latest_of}
use Rattle.lc_model.specs.declared.connection.Connection.{Connection}
use Rattle.lc_model.specs.declared.doc.StopsDoc.{StopsDoc}
use Rattle.lc_model.specs.declared.query.Query.{Query}
use Rattle.back_scan.specs.Latest.{IsListLatest}

-- the moment back to which connections matter: the latest departure, or the first second of the horizon where there is none
abbrev pub bound_back : Query → Option ℕ → ℕ
bound_back query None = query.leave
bound_back query (Some leaves) = leaves

-- What was taken of a list comes after earlier departures alone. They all depart before a moment that is no later than the bound. Then
-- the latest departure of what was taken is that of the whole list. Where the one has no chain, so has the other.
abbrev pub EarlierMayGo : Type 0
EarlierMayGo =
    (query : Query) (doc : StopsDoc) (left taken : List Connection) (latest : Option ℕ) (moment : ℕ) → InDepartureOrder (left ++ taken) → NoneArrivesEarly (left ++ taken) →
    All (λ (c : Connection). c.dep < moment) left → moment ≤ bound_back query latest → (IsListLatest query doc taken latest ↔ IsListLatest query doc (left ++ taken) latest)

-- What departs after the last second at which a journey may arrive changes nothing.
abbrev pub LaterMayGo : Type 0
LaterMayGo =
    (query : Query) (doc : StopsDoc) (taken left : List Connection) (latest : Option ℕ) → NoneArrivesEarly left → All (λ (c : Connection). latest_of query < c.dep) left →
    (IsListLatest query doc taken latest ↔ IsListLatest query doc (taken ++ left) latest)
