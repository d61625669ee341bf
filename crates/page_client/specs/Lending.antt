-- What a cache ends as, once a page of it is not looked at any more.
use Rattle.std.specs.Prelude.{◌≡◌, ⊤}
use Rattle.std.specs.Borrow.{Fml, MutBor, follows_so}
use mathlib.Core.Option.{none}
use Rattle.lc_model.specs.declared.page.PageName.{PageName}
use Rattle.page_client.specs.Kept.{Kept, with_used}
use Rattle.page_client.specs.contracts.cache.PageCache.{the_row}

-- the page of this name was used
abbrev pub EndsUsed : MutBor Kept → PageName → Fml
EndsUsed cache name = follows_so the_row the_row cache.ghost_name none (λ _ _. ⊤) (λ (end : Kept). end ≡ record cache.now { pages = with_used cache.now.pages name })
