use Rattle.std.proofs.Common.{◌≡◌, ◌≤◌, ◌<◌, ℕ, None, drop, get_or, length, vec_len}
use Rattle.std.specs.Option.{option_copied}
use Rattle.lc_model.specs.Versions.Naming.{namings}
use Rattle.live_calls.specs.Walk.{last_news}
use Rattle.live_calls.proofs.naming.named_news.Given as goal

abbrev pub invariant-news : goal.invariant-news
invariant-news l = record {
  next : l.next ≤ length l.calls;
  one_each : vec_len l.named ≡ length l.calls;
  last : (k : ℕ) → k < length l.calls → last_news (option_copied (get_or l.named.items k None)) (namings l.calls l.next (drop l.news-index l.stops)) k ≡ last_news None (namings l.calls 0 l.stops) k;
}
