use Rattle.std.proofs.Common.{refl}
use Rattle.std.specs.Fmt.{digits}
use Rattle.lc_time.specs.Calendar.{day_at}
use Rattle.lc_world.proofs.sides.worked.worked_sides.Goals as goal

pub returns-clause-asked : goal.returns-clause-asked
returns-clause-asked c = record {
  gate = refl;
  page = refl;
  stops = refl;
  update = refl;
  not_opened = refl;
  posted_to_gate = refl;
  updates_read = refl;
  small_letters = refl;
  other_base = refl;
  longer = refl;
}

pub returns-clause-values : goal.returns-clause-values
returns-clause-values c = record { field = refl; member = refl; no_member = refl }

pub returns-clause-pages : goal.returns-clause-pages
returns-clause-pages c = λ key. record { first = refl; before_all = refl; middle = refl; last = refl; empty = refl }

pub returns-clause-replies : goal.returns-clause-replies
unfolding digits day_at
returns-clause-replies c = λ doc. record { found = refl; unknown = refl; admitted = refl; other_method = refl; head = refl }
