-- Which wants are asked for, and which are taken from the cached pages. The names of these pages alone determine it.
use Rattle.std.specs.Prelude.{◌≡◌, ℕ, ◌+◌, Bool, not, List, [], ◌∷◌, ◌++◌, length, map, filter, take, if◌then◌else◌}
use Rattle.std.specs.List.{list_any}
use Rattle.lc_model.specs.declared.page.PageName.{PageName}
use Rattle.page_json.specs.declared.page.Page.{Page}
use Rattle.page_client.specs.Kept.{is_same}
use Rattle.page_client.specs.declared.want.Want.{Want}
use Rattle.page_client.specs.declared.want.Want.TheVariants as wants

-- the names of pages
abbrev pub names_of : List Page → List PageName
names_of pages = map (λ (page : Page). page.name) pages

-- a name is among these
abbrev pub is_among : List PageName → PageName → Bool
is_among names name = list_any (is_same name) names

-- all but this one
abbrev pub others : List PageName → PageName → List PageName
others names name = filter (λ (other : PageName). not (is_same name other)) names

-- The names of the cached pages after one was wanted. Its own is in front. Where it was not among them, the last one goes if there
-- are more than the capacity then.
abbrev pub names_with : ℕ → List PageName → PageName → List PageName
names_with capacity names name = if is_among names name then name ∷ others names name else take capacity (name ∷ others names name)

-- the names of the cached pages after anything was wanted
abbrev pub names_then : ℕ → List PageName → Want → List PageName
names_then capacity names wants.Gate = names
names_then capacity names wants.Stops = names
names_then capacity names (wants.Page name) = names_with capacity names name
names_then capacity names wants.Finished = names

-- what is asked for of one want: it, or nothing where that page is cached
abbrev pub asked_for : List PageName → Want → List Want
asked_for names wants.Gate = wants.Gate ∷ []
asked_for names wants.Stops = wants.Stops ∷ []
asked_for names (wants.Page name) = if is_among names name then [] else wants.Page name ∷ []
asked_for names wants.Finished = []

-- the names after wants, one after the other
abbrev pub names_after : ℕ → List PageName → List Want → List PageName
names_after capacity names [] = names
names_after capacity names (want ∷ more) = names_after capacity (names_then capacity names want) more

-- and what is asked for of these
abbrev pub asked_of : ℕ → List PageName → List Want → List Want
asked_of capacity names [] = []
asked_of capacity names (want ∷ more) = asked_for names want ++ asked_of capacity (names_then capacity names want) more

-- What a client received in its round, what it asked for after that in vain, and all that it asked for.
pub record Round : Type 0 where
  pub given : List Want
  pub failed : List Want
  pub asked : List Want

-- the names after rounds, one after the other
abbrev pub names_behind : ℕ → List PageName → List Round → List PageName
names_behind capacity names [] = names
names_behind capacity names (round ∷ more) = names_behind capacity (names_after capacity names round.given) more

-- The names of the cached pages determine what was asked for in the round: all that was received or failed, but the pages cached
-- then. What failed was not cached.
pub record IsByNames (capacity : ℕ) (names : List PageName) (round : Round) : Type 0 where
  pub asked : round.asked ≡ asked_of capacity names (round.given ++ round.failed)
  pub not_kept : asked_of capacity (names_after capacity names round.given) round.failed ≡ round.failed

-- in each round the names at that time determine it
abbrev pub AskByNames : ℕ → List PageName → List Round → Type 0
AskByNames capacity names [] = Unit {0}
AskByNames capacity names (round ∷ more) = IsByNames capacity names round × AskByNames capacity (names_after capacity names round.given) more

-- how many exchanges failed in these rounds
abbrev pub failures_in : List Round → ℕ
failures_in [] = 0
failures_in (round ∷ more) = length round.failed + failures_in more
