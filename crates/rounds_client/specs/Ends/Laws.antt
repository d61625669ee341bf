-- That a client of the fewest rides ends rightly, and that its end is one.
use Rattle.std.specs.Prelude.{◌≡◌, List, [], ◌∷◌, ◌++◌, Option, Some, None}
use Rattle.lc_io.specs.Counts.{Rose}
use Rattle.lc_model.specs.declared.journey.Journey.{Journey}
use Rattle.lc_model.specs.declared.query.Query.{Query}
use Rattle.connection_uri.specs.Base.{BaseParts}
use Rattle.lc_world.specs.Link.{IsHonestWith, IsQuietWith, LinkSeen}
use Rattle.page_client.specs.Shown.{IsRefusal, answered}
use Rattle.lc_world.specs.Sides.Side.{Side}
use Rattle.convoy.specs.ClientLaws.Stated.{version_at}
use Rattle.convoy.specs.ClientLaws.Wants.{HasEnds}
use Rattle.change_rounds.specs.Laws.{AreAlike}
use Rattle.rounds_client.specs.Course.{Point}
use Rattle.rounds_client.specs.End.{EndsSo}
use Rattle.rounds_client.specs.declared.ending.FewestEnd.{FewestEnd}
use Rattle.rounds_client.specs.Ends.Right.{EndsWithFewest, IsRight}

-- over an honest link a client of the fewest rides ends rightly
abbrev pub FewestEndsRight : {X : Type 0} → (X → LinkSeen) → Type 0
FewestEndsRight {X} seen =
    (side : Side) (base : BaseParts) (query : Query) (before after : X) (end : FewestEnd) → IsHonestWith (seen before) base side → EndsSo seen base query before after end
    → IsRight seen base query side before after end

-- The time gate was asked first, and something else after it. Then the version is the one that the known moment means at the side which the
-- exchange with the time gate left, whatever the link records.
abbrev pub NamedAtGate : {X : Type 0} → (X → LinkSeen) → Type 0
NamedAtGate {X} seen =
    (side at : Side) (base : BaseParts) (query : Query) (before after : X) (end : FewestEnd) (later : List (Point X)) (next first : Point X) → IsHonestWith (seen before) base side
    → (ends : EndsSo seen base query before after end) → ends.points ≡ later ++ next ∷ first ∷ [] → IsHonestWith (seen next.link) base at → end.version ≡ Some (version_at at query.known)

-- The question has a horizon in range and different stops, which the stops document has. The count of the link did not increase. Then the end
-- is a journey of the fewest rides, or that there is none.
abbrev pub FewestIsFound : {X : Type 0} → (X → LinkSeen) → Type 0
FewestIsFound {X} seen =
    (side : Side) (base : BaseParts) (query : Query) (before after : X) (end : FewestEnd) → IsHonestWith (seen before) base side → IsRefusal query None → HasEnds side.doc query
    → ¬ Rose (seen before).faults (seen after).faults → EndsSo seen base query before after end
    → (answer : Option Journey) × (end.outcome ≡ answered answer) × EndsWithFewest seen base query side before after end answer

-- two ends name one version, after as many exchanges, and their answers are alike
pub record EndAlike (a b : FewestEnd) (first second : Option Journey) : Type 0 where
  pub version : a.version ≡ b.version
  pub exchanges : a.exchanges ≡ b.exchanges
  pub answers : AreAlike first second

-- over quiet links with one side two right ends with answers are alike
abbrev pub OneFewestEnd : {X Y : Type 0} → (X → LinkSeen) → (Y → LinkSeen) → Type 0
OneFewestEnd {X} {Y} seen seen_too =
    (side : Side) (base : BaseParts) (query : Query) (before after : X) (start left : Y) (a b : FewestEnd) (first second : Option Journey) → IsQuietWith (seen before) base side
    → IsQuietWith (seen_too start) base side → IsRight seen base query side before after a → IsRight seen_too base query side start left b → a.outcome ≡ answered first
    → b.outcome ≡ answered second → EndAlike a b first second
