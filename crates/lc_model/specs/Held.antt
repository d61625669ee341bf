-- Calls as they are stored.
use Rattle.std.specs.Prelude.{List}
use Rattle.std.specs.Rc.{rc_slice_items}
use Rattle.lc_model.specs.declared.call.Call.{Call}
use Rattle.lc_model.specs.declared.call.Held.{Held}
use Rattle.lc_model.specs.declared.call.Held.TheVariants.{Own, Shared}

-- the calls, whether copies share them or not
abbrev pub held_calls : Held → List Call
held_calls (Own calls) = calls.items
held_calls (Shared calls) = rc_slice_items calls
