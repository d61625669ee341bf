-- The network that a seed gives: stops in a square, and lines along its rows and columns, in both directions.
use Rattle.std.specs.Prelude.{ℕ, ◌+◌, ◌-◌, ◌*◌, ◌/◌, ◌%◌, ◌==◌, if◌then◌else◌}

-- how many stops a row of the square has
abbrev pub side_of : ℕ → ℕ
side_of seed = 5 + seed % 26

-- how many stops there are
abbrev pub stop_count : ℕ → ℕ
stop_count side = side * side

-- how many trips there are: four lines a row, and 108 trips a line
abbrev pub trip_count : ℕ → ℕ
trip_count side = 432 * side

-- the line of a trip, and which of the line's trips it is
abbrev pub line_of : ℕ → ℕ
line_of trip = trip / 108

abbrev pub turn_of : ℕ → ℕ
turn_of trip = trip % 108

-- The stop of a line at a place. The lines go along each row and back, and then along each column and back.
abbrev pub stop_at : ℕ → ℕ → ℕ → ℕ
stop_at side line place =
    if line / side == 0 then (line % side) * side + place
    else (if line / side == 1 then (line % side) * side + (side - 1 - place)
    else (if line / side == 2 then place * side + line % side
    else (side - 1 - place) * side + line % side))

-- the seconds of the day at which a trip starts: from 5 o'clock on every ten minutes, and each line some minutes later
abbrev pub start_of : ℕ → ℕ
start_of trip = 18_000 + 600 * turn_of trip + 60 * ((7 * line_of trip) % 10)

-- it arrives at a stop every three minutes, and departs half a minute later
abbrev pub arrives_at : ℕ → ℕ → ℕ
arrives_at trip place = start_of trip + 180 * place

abbrev pub departs_at : ℕ → ℕ → ℕ
departs_at trip place = arrives_at trip place + 30
