use Rattle.std.proofs.Common.{subst, sym, rules}
use Rattle.std.specs.Ordering.{on}
use Rattle.std.proofs.lemmas.Cmp.{nat_list_cmp_total, on_total}
use Rattle.std.proofs.lemmas.List.Sorted.{All-permutation}
use Rattle.lc_model.specs.Text.{id_cmp}
use Rattle.lc_model.proofs.OrdersLemmas.{IsSorted-from_closure}
use Rattle.gtfs_tables.specs.Calendars.Spans.{AreSpans, IsSpan}
use Rattle.gtfs_tables.specs.declared.calendars.frequency.Frequency.{Frequency}
use Rattle.trip_calls.proofs.starts.sorted_spans.Goals as goal

pub returns-clause-sorted : goal.returns-clause-sorted
returns-clause-sorted c =
    IsSorted-from_closure (on (λ (f : Frequency). f.trip) id_cmp) (on_total (λ (f : Frequency). f.trip) nat_list_cmp_total) c.sort_unstable_by.new.self.items c.sort_unstable_by.ensures.sorted (λ f a r f' k. search rules)

pub returns-clause-spans : goal.returns-clause-spans
returns-clause-spans c =
    All-permutation IsSpan c.in_ok-spans.spans.items c.sort_unstable_by.new.self.items c.sort_unstable_by.ensures.permutation (subst AreSpans (sym c.in_ok-spans.ensures) c.as_slice.ensures.spans)
