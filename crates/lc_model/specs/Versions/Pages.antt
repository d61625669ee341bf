-- The pages of a version (Linked Connections 1.0: pages are sorted by departure time and linked to their neighbours).
use Rattle.std.specs.Prelude.{ℕ, List, [], ◌∷◌, map, filter, nat_le, nat_lt, Bool, true, ◌&&◌, Option, Some, None}
use Rattle.lc_model.specs.declared.connection.Connection.{Connection}
use Rattle.lc_model.specs.Versions.Cuts.{first_of}

-- a page: the departure that names it, and its connections
pub record CutPage : Type 0 where
  pub departs : ℕ
  pub connections : List Connection

-- the departures of connections, one each, in their order
abbrev pub departures_of : List Connection → List ℕ
departures_of list = map (λ (c : Connection). c.dep) list

-- the moment is before this one, where there is one
abbrev pub is_before : Option ℕ → ℕ → Bool
is_before None moment = true
is_before (Some end) moment = nat_lt moment end

-- the connections that depart from this moment on, and before the other one where there is one
abbrev pub departing : ℕ → Option ℕ → List Connection → List Connection
departing from to list = filter (λ (c : Connection). nat_le from c.dep && is_before to c.dep) list

-- a page from each cut up to before the next one
abbrev pub pages_from : List ℕ → List Connection → List CutPage
pages_from [] list = []
pages_from (cut ∷ rest) list = record { departs = cut; connections = departing cut (first_of rest) list } ∷ pages_from rest list

-- The pages of connections with these cuts. Without connections there is one empty page, named by departure 0.
abbrev pub pages_of : List ℕ → List Connection → List CutPage
pages_of [] list = record { departs = 0; connections = [] } ∷ []
pages_of (cut ∷ rest) list = pages_from (cut ∷ rest) list

-- the last of these pages, or this one where there is none
abbrev pub last_page : CutPage → List CutPage → CutPage
last_page page [] = page
last_page page (next ∷ rest) = last_page next rest

-- the page for a moment: the last one named at or before it, else the first
abbrev pub page_for : CutPage → List CutPage → ℕ → CutPage
page_for first rest moment = last_page first (filter (λ (p : CutPage). nat_le p.departs moment) rest)
