-- The places of connections, in the order of departures.
use Rattle.std.specs.Prelude.{ℕ, suc, max, Bool, List, Option, Some, None, ◌&&◌, nat_le, if◌then◌else◌, false}
use Rattle.std.specs.List.{slice_get}
use Rattle.std.specs.Option.{option_and_then}
use Rattle.std.specs.Ordering.{nat_cmp, on, then_cmp}
use Rattle.std.specs.declared.cmp.Ordering.{Ordering}
use Rattle.std.specs.declared.ops.Bound.{Bound}
use Rattle.std.specs.declared.ops.Bound.TheVariants.{Excluded, Unbounded}
use Rattle.lc_model.specs.Connection.{connection_between}
use Rattle.lc_model.specs.declared.call.Call.{Call}
use Rattle.lc_model.specs.declared.connection.Connection.{Connection}
use Rattle.lc_model.specs.declared.key.RunKey.{RunKey}
use Rattle.lc_model.specs.Versions.Pages.{is_before}
use Rattle.version_store.specs.Index.Spans.{holds}
use Rattle.version_store.specs.declared.index.place.Place.{Place}
use Rattle.version_store.specs.declared.index.state.State.{State}

-- places by departure, then the number of the state, then the call
abbrev pub place_cmp : Place → Place → Ordering
place_cmp = then_cmp (on (λ p. p.dep) nat_cmp) (then_cmp (on (λ p. p.state) nat_cmp) (on (λ p. p.at) nat_cmp))

-- the first place that a departure can have
abbrev pub first_at : ℕ → Place
first_at dep = record { dep = dep; state = 0; at = 0 }

-- where the places of a span of departures end
abbrev pub end_of : ℕ → Option ℕ → Bound Place
end_of from None = Unbounded
end_of from (Some to) = Excluded (first_at (max from to))

-- the place departs from a moment on, and before the other one where there is one
abbrev pub is_between : ℕ → Option ℕ → Place → Bool
is_between from to place = nat_le from place.dep && is_before to place.dep

-- the connection from one call to another, if there are both
abbrev pub between : RunKey → Option Call → Option Call → Option Connection
between key None to = None
between key (Some from) None = None
between key (Some from) (Some to) = Some (connection_between key from to)

-- the connection of a state from its call at a place to the next one, if it has both
abbrev pub connection_of : ℕ → State → Option Connection
connection_of at state = between state.key (slice_get state.calls at) (slice_get state.calls (suc at))

-- that connection, if the state holds in a version
abbrev pub shown_of : ℕ → ℕ → State → Option Connection
shown_of version at state = if holds version state then connection_of at state else None

-- the connection at a place, if there is one
abbrev pub connection_at : List State → Place → Option Connection
connection_at states place = option_and_then (connection_of place.at) (slice_get states place.state)

-- the connection at a place, if it is of a run that holds in a version
abbrev pub shown : ℕ → List State → Place → Option Connection
shown version states place = option_and_then (shown_of version place.at) (slice_get states place.state)

-- whether there is a state, and it holds in a version
abbrev pub holds_there : ℕ → Option State → Bool
holds_there version None = false
holds_there version (Some state) = holds version state

-- whether the state that has a place holds in a version
abbrev pub is_held : ℕ → List State → Place → Bool
is_held version states place = holds_there version (slice_get states place.state)
