-- The order of runs by their keys.
use Rattle.std.specs.Option.{option_cmp}
use Rattle.std.specs.Ordering.{nat_cmp, then_cmp, on}
use Rattle.std.specs.declared.cmp.Ordering.{Ordering}
use Rattle.lc_model.specs.Text.{id_cmp}
use Rattle.lc_model.specs.declared.date.ServiceDate.{ServiceDate}
use Rattle.lc_model.specs.declared.key.RunKey.{RunKey}

-- dates by year, month and day
abbrev pub date_cmp : ServiceDate → ServiceDate → Ordering
date_cmp = then_cmp (on (λ d. d.year) nat_cmp) (then_cmp (on (λ d. d.month) nat_cmp) (on (λ d. d.day) nat_cmp))

-- keys by trip, then service date, then start, and no start comes first
abbrev pub key_cmp : RunKey → RunKey → Ordering
key_cmp = then_cmp (on (λ k. k.trip) id_cmp) (then_cmp (on (λ k. k.date) date_cmp) (on (λ k. k.start) (option_cmp nat_cmp)))
