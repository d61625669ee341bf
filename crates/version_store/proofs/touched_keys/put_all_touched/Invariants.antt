use Rattle.std.proofs.Common.{map, take}
use Rattle.version_store.specs.Kept.{news_said}
use Rattle.version_store.specs.TouchedKeys.{PutsAllTouched}
use Rattle.version_store.proofs.touched_keys.put_all_touched.Given as goal

abbrev pub invariant-news : goal.invariant-news
invariant-news l = PutsAllTouched (map news_said (take l.dated-index l.news)) l.initial.keys l.keys
