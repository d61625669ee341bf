use Rattle.std.proofs.Common.{refl}
use Rattle.convoy.proofs.PageLawsLemmas.WorkedLemmas as near
use Rattle.convoy.proofs.page_laws.worked.worked_pages.Goals as goal

pub returns : goal.returns
returns c = record {
  links = λ key. record { pages = refl; before_nine = refl; at_nine = refl; after_all = refl; before_all = refl; back = refl; back_from_first = refl };
  needed = near.worked_needed;
  refused_cuts = near.refused_cuts;
  seconds = near.worked_seconds;
  not_at_once = near.not_at_once;
}
