-- The sides of turns, one after the other, and the version that they name to a client.
use Rattle.std.proofs.Common.{◌≡◌, ◌∙◌, ◌==◌, ℕ, suc, Bool, true, false, List, [], ◌∷◌, ◌++◌, Option, length, refl, ap, sym, arith, append-nil, eq-eqb}
use Rattle.std.specs.Prelude.{if◌then◌else◌}
use Rattle.std.proofs.lemmas.Bool.{false≢true, ne_eqb}
use Rattle.convoy.specs.Agreement.Leaves.{IsNamedBetween, VersionAfter}
use Rattle.convoy.specs.Agreement.Names.{Round}
use Rattle.cli_replay.specs.PlanLaws.Sides.{AreLater, sides_of, version_after, version_with}
use Rattle.cli_replay.proofs.ReplayLawsLemmas.EventLemmas.{has_turn}
use Rattle.cli_replay.specs.ReplayLaws.Turns.{rounds_of}
use Rattle.page_client.specs.Shown.{Shown}
use Rattle.page_client.specs.declared.want.Want.{Want}
use Rattle.page_client.specs.declared.want.Want.TheVariants as wants
use Rattle.lc_world.proofs.SidesLemmas.LaterLemmas.{later_itself, later_on}
use Rattle.lc_world.specs.Sides.Side.{IsLater, Side}

-- one side more
pub later_more : (first : Side) (sides : List Side) (last side left : Side) → AreLater first sides last → IsLater last side → IsLater side left → AreLater first (sides ++ side ∷ []) left
later_more first [] last side left are before behind = (later_on first last side are before, behind)
later_more first (next ∷ sides) last side left are before behind = (are.0, later_more next sides last side left are.1 before behind)

-- The side of a turn. It is the one that the time gate's reply left, where the turn begins with that, and else the one that the turn left.
pub record IsSideOfTurn (before left : Side) (known : Option ℕ) (given : List Want) (was version : Option ℕ) : Type 0 where
  pub at : Side
  pub later : IsLater before at
  pub up_to : IsLater at left
  pub is : version ≡ version_with at known given was

pub side_of_turn : (before left : Side) (old : Shown) (given : List Want) (version : Option ℕ) → IsLater before left → VersionAfter before left old given version →
    IsSideOfTurn before left old.query.known given old.version version
side_of_turn before left old [] version later after = record { at = left; later = later; up_to = later_itself left; is = after }
side_of_turn before left old (wants.Gate ∷ more) version later after =
    let named : IsNamedBetween before left old.query.known version = after in
    record { at = named.at; later = named.later; up_to = named.before; is = named.is }
side_of_turn before left old (wants.Stops ∷ more) version later after = record { at = left; later = later; up_to = later_itself left; is = after }
side_of_turn before left old (wants.Page name ∷ more) version later after = record { at = left; later = later; up_to = later_itself left; is = after }
side_of_turn before left old (wants.Finished ∷ more) version later after = record { at = left; later = later; up_to = later_itself left; is = after }

same_rest : (a b : ℕ) → suc a ≡ suc b → a ≡ b
same_rest a b same = omega arith

none_is_some : (a : ℕ) → 0 ≡ suc a → ⊥
none_is_some a same = omega arith

-- the sides of a client in turns and then in others
pub sides_of-append : (client : ℕ) (order more : List ℕ) (sides rest : List Side) → length sides ≡ length order →
    sides_of client (order ++ more) (sides ++ rest) ≡ sides_of client order sides ++ sides_of client more rest
sides_of-append client [] more [] rest one_each = refl
sides_of-append client [] more (side ∷ sides) rest one_each = absurd (none_is_some (length sides) (sym one_each))
sides_of-append client (other ∷ order) more [] rest one_each = absurd (none_is_some (length order) one_each)
sides_of-append client (other ∷ order) more (side ∷ sides) rest one_each =
    let again = sides_of-append client order more sides rest (same_rest (length sides) (length order) one_each) in
    elim (other == client) as (λ (b : Bool).
    (if b then side ∷ sides_of client (order ++ more) (sides ++ rest) else sides_of client (order ++ more) (sides ++ rest))
    ≡ (if b then side ∷ sides_of client order sides else sides_of client order sides) ++ sides_of client more rest) [
      | true ↦ ap (λ (l : List Side). side ∷ l) again
      | false ↦ again
    ]

-- a turn of its own more
pub sides_of-own : (client : ℕ) (order : List ℕ) (sides : List Side) (side : Side) → length sides ≡ length order →
    sides_of client (order ++ client ∷ []) (sides ++ side ∷ []) ≡ sides_of client order sides ++ side ∷ []
sides_of-own client order sides side one_each =
    sides_of-append client order (client ∷ []) sides (side ∷ []) one_each ∙ ap (λ (b : Bool). sides_of client order sides ++ (if b then side ∷ [] else [])) (eq-eqb client client refl)

-- a turn of another client more
pub sides_of-other : (client other : ℕ) (order : List ℕ) (sides : List Side) (side : Side) → (other ≡ client → ⊥) → length sides ≡ length order →
    sides_of client (order ++ other ∷ []) (sides ++ side ∷ []) ≡ sides_of client order sides
sides_of-other client other order sides side not one_each =
    sides_of-append client order (other ∷ []) sides (side ∷ []) one_each ∙ ap (λ (b : Bool). sides_of client order sides ++ (if b then side ∷ [] else [])) (ne_eqb other client not)
    ∙ append-nil (sides_of client order sides)

-- a client that has no turn
pub sides_of-none : (client : ℕ) (order : List ℕ) (sides : List Side) → has_turn client order ≡ false → sides_of client order sides ≡ []
sides_of-none client [] sides none = refl
sides_of-none client (other ∷ order) [] none = refl
sides_of-none client (other ∷ order) (side ∷ sides) none =
    (elim (other == client) as (λ (b : Bool).
    (if b then true else has_turn client order) ≡ false → (if b then side ∷ sides_of client order sides else sides_of client order sides) ≡ []) [
      | true ↦ λ e. absurd (false≢true (sym e))
      | false ↦ λ e. sides_of-none client order sides e
    ]) none

-- a client has as many sides as turns
pub as_many_sides : (client : ℕ) (order : List ℕ) (rounds : List Round) (sides : List Side) → length rounds ≡ length order → length sides ≡ length order →
    length (rounds_of client order rounds) ≡ length (sides_of client order sides)
as_many_sides client [] rounds sides one_each sides_each = refl
as_many_sides client (other ∷ order) [] sides one_each sides_each = absurd (none_is_some (length order) one_each)
as_many_sides client (other ∷ order) (round ∷ rounds) [] one_each sides_each = absurd (none_is_some (length order) sides_each)
as_many_sides client (other ∷ order) (round ∷ rounds) (side ∷ sides) one_each sides_each =
    let rest = as_many_sides client order rounds sides (same_rest (length rounds) (length order) one_each) (same_rest (length sides) (length order) sides_each) in
    elim (other == client) as (λ (b : Bool).
    length (if b then round ∷ rounds_of client order rounds else rounds_of client order rounds) ≡ length (if b then side ∷ sides_of client order sides else sides_of client order sides)) [
      | true ↦ ap suc rest
      | false ↦ rest
    ]

-- the version after a turn more
pub version_after-more : (known : Option ℕ) (rounds : List Round) (sides : List Side) (round : Round) (side : Side) (before : Option ℕ) → length rounds ≡ length sides →
    version_after known (rounds ++ round ∷ []) (sides ++ side ∷ []) before ≡ version_with side known round.given (version_after known rounds sides before)
version_after-more known [] [] round side before as_many = refl
version_after-more known [] (next ∷ sides) round side before as_many = absurd (none_is_some (length sides) as_many)
version_after-more known (earlier ∷ rounds) [] round side before as_many = absurd (none_is_some (length rounds) (sym as_many))
version_after-more known (earlier ∷ rounds) (next ∷ sides) round side before as_many =
    version_after-more known rounds sides round side (version_with next known earlier.given before) (same_rest (length rounds) (length sides) as_many)
