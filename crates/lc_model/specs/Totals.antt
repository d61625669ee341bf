-- The orders of keys, connections, stops, changes and runs are total, as `Ranked` asks of an order.
use Rattle.std.specs.Cmp.{IsTotalOrder, nat_cmp_total, on_total, then_total}
use Rattle.std.specs.Cmp.Lexicographic.{nat_list_cmp_total, options_total}
use Rattle.std.specs.Ordering.{on}
use Rattle.lc_model.specs.Change.{change_cmp}
use Rattle.lc_model.specs.Connection.{departure_cmp}
use Rattle.lc_model.specs.RunKey.{date_cmp, key_cmp}
use Rattle.lc_model.specs.Text.{id_cmp}
use Rattle.lc_model.specs.declared.change.Change.{Change}
use Rattle.lc_model.specs.declared.connection.Connection.{Connection}
use Rattle.lc_model.specs.declared.date.ServiceDate.{ServiceDate}
use Rattle.lc_model.specs.declared.key.RunKey.{RunKey}
use Rattle.lc_model.specs.declared.run.Run.{Run}
use Rattle.lc_model.specs.declared.stop.Stop.{Stop}

-- the order of dates is total
date_cmp_total : IsTotalOrder date_cmp
date_cmp_total =
    then_total (on_total (λ (d : ServiceDate). d.year) nat_cmp_total)
    (then_total (on_total (λ (d : ServiceDate). d.month) nat_cmp_total) (on_total (λ (d : ServiceDate). d.day) nat_cmp_total))

-- the order of keys is total
pub key_cmp_total : IsTotalOrder key_cmp
key_cmp_total =
    then_total (on_total (λ (k : RunKey). k.trip) nat_list_cmp_total)
    (then_total (on_total (λ (k : RunKey). k.date) date_cmp_total) (on_total (λ (k : RunKey). k.start) (options_total nat_cmp_total)))

-- the order of connections is total
pub departure_cmp_total : IsTotalOrder departure_cmp
departure_cmp_total =
    then_total (on_total (λ (c : Connection). c.dep) nat_cmp_total)
    (then_total (on_total (λ (c : Connection). c.key) key_cmp_total) (on_total (λ (c : Connection). c.seq) nat_cmp_total))

-- the order of stops is total
pub stop_cmp_total : IsTotalOrder (on (λ (s : Stop). s.id) id_cmp)
stop_cmp_total = on_total (λ (s : Stop). s.id) nat_list_cmp_total

-- the order of changes is total
pub change_cmp_total : IsTotalOrder change_cmp
change_cmp_total = then_total (on_total (λ (c : Change). c.from) nat_list_cmp_total) (on_total (λ (c : Change). c.to) nat_list_cmp_total)

-- the order of runs is total
pub run_cmp_total : IsTotalOrder (on (λ (r : Run). r.key) key_cmp)
run_cmp_total = on_total (λ (r : Run). r.key) key_cmp_total
