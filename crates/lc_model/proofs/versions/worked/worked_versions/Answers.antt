use Rattle.std.proofs.Common.{refl}
use Rattle.lc_model.proofs.versions.worked.worked_versions.Goals as goal

pub returns : goal.returns
returns c = record {
  calls = record { without_news = refl; canceled = refl; late_in_b = refl; b_skipped = refl; raised = refl; no_data_in_b = refl; by_its_id = refl };
  added = record { over_q = refl };
  news = λ date. record { at_the_base = refl; first = refl; deleted = refl; before_deletion = refl; differential = refl; full = refl };
  versions = record { newest = refl; exactly = refl; between = refl; before_all = refl };
  pages = λ key. record { parted = refl; empty = refl; inside = refl; exactly = refl; before_all = refl };
}
