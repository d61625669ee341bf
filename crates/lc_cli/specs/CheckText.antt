-- The counts of a timetable, a line each.
use Rattle.std.specs.Prelude.{ℕ, ◌+◌, List, ◌++◌, codes, decimal, length}
use Rattle.timetable.specs.declared.timetable.Timetable.{Timetable}

-- `{name} {count}`
abbrev pub count_line_of : List ℕ → ℕ → List ℕ
count_line_of name count = name ++ codes " " ++ decimal count ++ codes "\n"

-- How many stops and trips the feed has, and how many of the trips are left out. How many runs, connections and changes its
-- timetable has, and that no rule is broken.
abbrev pub check_text_of : Timetable → List ℕ
check_text_of made =
    count_line_of (codes "stops") (length made.doc.stops) ++ count_line_of (codes "trips") (made.trips + made.left_out)
    ++ count_line_of (codes "left out") made.left_out ++ count_line_of (codes "runs") (length made.runs)
    ++ count_line_of (codes "connections") made.connections ++ count_line_of (codes "changes") (length made.doc.changes)
    ++ codes "ok\n"
