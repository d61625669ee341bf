-- Ways to cut departures into pages: by spans of time, by numbers of connections, or not at all.
use Rattle.std.specs.Prelude.{ℕ, suc, ◌/◌, List, [], ◌∷◌, nat_lt, nat_le, not, ◌&&◌, ◌==◌, Bool, true, if◌then◌else◌, Option, Some, None}

-- By spans of so many seconds, a page begins at the first departure, and at each in a later span than the one before.
abbrev pub span_begins : ℕ → Option ℕ → ℕ → Bool
span_begins seconds None departure = true
span_begins seconds (Some before) departure = nat_lt (before / seconds) (departure / seconds)

-- the cuts of the departures after one
abbrev pub span_cuts_behind : ℕ → Option ℕ → List ℕ → List ℕ
span_cuts_behind seconds before [] = []
span_cuts_behind seconds before (departure ∷ rest) =
    if span_begins seconds before departure then departure ∷ span_cuts_behind seconds (Some departure) rest
    else span_cuts_behind seconds (Some departure) rest

-- the cuts by spans of so many seconds since 1970
abbrev pub span_cuts : ℕ → List ℕ → List ℕ
span_cuts seconds departures = span_cuts_behind seconds None departures

-- By numbers of connections, a page begins at the first departure. It begins, too, at each that differs from the one before it
-- once the page has so many connections.
abbrev pub count_begins : ℕ → ℕ → Option ℕ → ℕ → Bool
count_begins count on_page None departure = true
count_begins count on_page (Some before) departure = nat_le count on_page && not (before == departure)

-- the cuts of the departures after one, where the page has so many connections
abbrev pub count_cuts_behind : ℕ → ℕ → Option ℕ → List ℕ → List ℕ
count_cuts_behind count on_page before [] = []
count_cuts_behind count on_page before (departure ∷ rest) =
    if count_begins count on_page before departure then departure ∷ count_cuts_behind count 1 (Some departure) rest
    else count_cuts_behind count (suc on_page) (Some departure) rest

-- the cuts by so many connections at least
abbrev pub count_cuts : ℕ → List ℕ → List ℕ
count_cuts count departures = count_cuts_behind count 0 None departures

-- the first departure alone
abbrev pub whole_cuts : List ℕ → List ℕ
whole_cuts [] = []
whole_cuts (first ∷ rest) = first ∷ []
