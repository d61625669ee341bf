-- What the functions that write connections append. A base is in these texts as JSON has it.
use Rattle.std.specs.Prelude.{ℕ, ℤ, pos, zero, List, [], ◌∷◌, ◌++◌, Bool, true, false, codes, decimal}
use Rattle.std.specs.Fmt.{signed_decimal}
use Rattle.lc_model.specs.declared.connection.Connection.{Connection}
use Rattle.connection_uri.specs.Encoding.{encoded}
use Rattle.connection_uri.specs.Name.{run_part_of}
use Rattle.page_json.specs.MomentText.{end_text}
use Rattle.page_json.specs.declared.fronts.DelayFronts.{DelayFronts}
use Rattle.page_json.specs.declared.fronts.Fronts.{Fronts}
use Rattle.page_json.specs.declared.fronts.UseFronts.{UseFronts}
use Rattle.page_json.specs.declared.moment_text.End.{End}
use Rattle.page_json.specs.declared.moment_text.End.TheVariants.{Arrival, Departure}

-- the run and the sequence in a connection's name
abbrev pub name_part : List ℕ → ℕ → List ℕ
name_part run sequence = run ++ (codes "/" ++ decimal sequence)

-- a delay, with what comes before it and between it and the stop
abbrev pub late_part : DelayFronts → ℤ → List ℕ
late_part fronts delay = fronts.before ++ (signed_decimal delay ++ fronts.after)

-- the same, where a delay of 0 is in one text with both
abbrev pub delay_part : DelayFronts → ℤ → List ℕ
delay_part fronts (pos zero) = fronts.on_time
delay_part fronts delay = late_part fronts delay

-- the stop and the moment of an end
abbrev pub call_part : End → List ℕ → ℕ → List ℕ
call_part end stop moment = encoded stop ++ end_text end moment

-- the arrival or the departure
abbrev pub end_part : DelayFronts → End → ℤ → List ℕ → ℕ → List ℕ
end_part fronts end delay stop moment = delay_part fronts delay ++ call_part end stop moment

-- whether one may alight and board, and what comes before the trip
abbrev pub use_front : UseFronts → Bool → Bool → List ℕ
use_front fronts true true = fronts.both
use_front fronts true false = fronts.alighting
use_front fronts false true = fronts.boarding
use_front fronts false false = fronts.neither

-- whether one may alight and board, and the trip
abbrev pub use_part : UseFronts → List ℕ → Connection → List ℕ
use_part fronts run c = use_front fronts c.alight c.board ++ run

-- a connection from the run in its name on, without its end
abbrev pub members_part : Fronts → Connection → List ℕ
members_part fronts c =
    name_part (run_part_of c.key) c.seq
    ++ (end_part fronts.ends.arrival Arrival c.arr_delay c.arr_stop c.arr
    ++ (end_part fronts.ends.departure Departure c.dep_delay c.dep_stop c.dep ++ use_part fronts.uses (run_part_of c.key) c))

-- further connections, and the ends of the last one and of the list
abbrev pub rest_part : Fronts → List Connection → List ℕ
rest_part fronts [] = codes "\"}]"
rest_part fronts (c ∷ rest) = fronts.names.next ++ (members_part fronts c ++ rest_part fronts rest)

-- the list of connections
abbrev pub list_part : Fronts → List Connection → List ℕ
list_part fronts [] = codes "[]"
list_part fronts (c ∷ rest) = fronts.names.first ++ (members_part fronts c ++ rest_part fronts rest)
