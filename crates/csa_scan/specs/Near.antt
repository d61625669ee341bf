-- The end of a question that is nearest to a stop: one walks from it before the first ride, and to it after the last.
use Rattle.std.specs.Prelude.{◌≡◌, ℕ, ◌<◌, ◌≤◌, ◌⊎◌, List, Option, Some, None, length}
use Rattle.std.specs.List.{slice_get}
use Rattle.lc_model.specs.Change.{change_between}
use Rattle.lc_model.specs.Question.{IsEnd}
use Rattle.lc_model.specs.Walk.{IsNearest}
use Rattle.lc_model.specs.declared.change.Change.{Change}
use Rattle.lc_model.specs.declared.stop.Stop.{Stop}
use Rattle.lc_model.specs.declared.walk.Walk.{Walk}
use Rattle.csa_scan.specs.Reach.{id_at}
use Rattle.csa_scan.specs.declared.side.Side.{Side}
use Rattle.csa_scan.specs.declared.side.Side.TheVariants.{Before, After}
use Rattle.csa_scan.specs.declared.trace.Near.{Near}

-- the stop of a change that may be an end of the question
abbrev pub outer_of : Side → Change → List ℕ
outer_of Before c = c.from
outer_of After c = c.to

-- the stop of a change where the rides begin or end
abbrev pub inner_of : Side → Change → List ℕ
inner_of Before c = c.to
inner_of After c = c.from

-- the seconds of the walk between a stop where the rides begin or end and another one
abbrev pub walk_between : Side → List Change → List ℕ → List ℕ → Option ℕ
walk_between Before changes inner outer = change_between changes outer inner
walk_between After changes inner outer = change_between changes inner outer

-- the stop is an end itself, or the nearest end is so far away
abbrev pub IsNear : Side → List Stop → List Change → List ℕ → List ℕ → Near → Type 0
IsNear side stops changes named stop n =
    (IsEnd stops named stop × (n.seconds ≡ 0))
    ⊎ ((IsEnd stops named stop → ⊥) × IsNearest (IsEnd stops named) (walk_between side changes stop) (id_at stops n.place) n.seconds)

-- the stop is no end, and there is no walk between it and one
pub record IsFar (side : Side) (stops : List Stop) (changes : List Change) (named stop : List ℕ) : Type 0 where
  pub no_end : IsEnd stops named stop → ⊥
  pub no_walk : (other : List ℕ) (seconds : ℕ) → IsEnd stops named other → walk_between side changes stop other ≡ Some seconds → ⊥

-- each end is at one of so many stops
abbrev pub AreWithin : List (Option Near) → Type 0
AreWithin near = (stop : ℕ) (n : Near) → slice_get near stop ≡ Some (Some n) → n.place < length near

-- place by place the nearest end to each of the stops, or none where there is none
pub record AreNear (side : Side) (stops : List Stop) (changes : List Change) (named : List ℕ) (near : List (Option Near)) : Type 0 where
  pub same_stops : length near ≡ length stops
  pub within : AreWithin near
  pub is_near : (stop : ℕ) (n : Near) → slice_get near stop ≡ Some (Some n) → IsNear side stops changes named (id_at stops stop) n
  pub is_far : (stop : ℕ) → slice_get near stop ≡ Some None → IsFar side stops changes named (id_at stops stop)

-- place by place the ends of the question alone, each near to itself
pub record AreEndsAlone (stops : List Stop) (named : List ℕ) (near : List (Option Near)) : Type 0 where
  pub same_stops : length near ≡ length stops
  pub sound : (stop : ℕ) (n : Near) → slice_get near stop ≡ Some (Some n) → IsEnd stops named (id_at stops stop) × (n.place ≡ stop) × (n.seconds ≡ 0)
  pub complete : (stop : ℕ) → slice_get near stop ≡ Some None → IsEnd stops named (id_at stops stop) → ⊥

-- the stop has this end so near now, where there was none nearer
pub record IsNowNear (stops : List Stop) (named outer : List ℕ) (seconds : ℕ) (old : List (Option Near)) (stop : ℕ) (n : Near) : Type 0 where
  pub within : n.place < length stops
  pub is : id_at stops n.place ≡ outer
  pub is_end : IsEnd stops named outer
  pub takes : n.seconds ≡ seconds
  pub nearer : (m : Near) → slice_get old stop ≡ Some (Some m) → seconds < m.seconds

-- The stop of the one id has the end of the other one so near, if it is one, or another one no farther. No other changed.
pub record ComesNear (stops : List Stop) (named outer inner : List ℕ) (seconds : ℕ) (old new : List (Option Near)) : Type 0 where
  pub same_stops : length new ≡ length old
  pub sound : (stop : ℕ) (n : Near) → slice_get new stop ≡ Some (Some n) →
      (slice_get old stop ≡ Some (Some n)) ⊎ ((id_at stops stop ≡ inner) × IsNowNear stops named outer seconds old stop n)
  pub no_farther : (stop : ℕ) (n : Near) → slice_get old stop ≡ Some (Some n) →
      (slice_get new stop ≡ Some (Some n)) ⊎ ((m : Near) × (slice_get new stop ≡ Some (Some m)) × (m.seconds < n.seconds))
  pub complete : (place : ℕ) → place < length stops → id_at stops place ≡ outer → IsEnd stops named outer →
      (stop : ℕ) → stop < length stops → id_at stops stop ≡ inner →
      (n : Near) × (slice_get new stop ≡ Some (Some n))
      × (((slice_get old stop ≡ Some (Some n)) × (n.seconds ≤ seconds)) ⊎ ((id_at stops n.place ≡ outer) × (n.seconds ≡ seconds)))

-- the walk between the stop where the rides begin or end and an outer one
abbrev pub walk_of : Side → List ℕ → List ℕ → ℕ → Walk
walk_of Before inner outer seconds = record { from = outer; to = inner; seconds = seconds }
walk_of After inner outer seconds = record { from = inner; to = outer; seconds = seconds }

-- the walk that takes so long, or none where it takes no time
abbrev pub MakesWalk : Side → List ℕ → List ℕ → ℕ → Option Walk → Type 0
MakesWalk side inner outer seconds None = seconds ≡ 0
MakesWalk side inner outer seconds (Some walk) = (0 < seconds) × (walk ≡ walk_of side inner outer seconds)

-- the walk between the stop of this id and the end nearest to it
abbrev pub IsWalkAt : Side → List Stop → List (Option Near) → List ℕ → Option Walk → Type 0
IsWalkAt side stops near inner walk =
    (stop : ℕ) → stop < length stops → id_at stops stop ≡ inner → (n : Near) → slice_get near stop ≡ Some (Some n) →
    MakesWalk side inner (id_at stops n.place) n.seconds walk
