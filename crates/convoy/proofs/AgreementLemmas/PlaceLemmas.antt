-- Clients at their places, and what each received.
use Rattle.std.proofs.Common.{◌≡◌, ℕ, zero, suc, List, [], ◌∷◌, ◌++◌, Some, refl, ap, subst}
use Rattle.std.specs.Prelude.{set}
use Rattle.std.specs.List.{slice_get}
use Rattle.page_client.specs.declared.want.Want.{Want}
use Rattle.lc_world.specs.Sides.Side.{IsLater, IsValidSide, Side}
use Rattle.convoy.specs.ClientLaws.Fits.{FitsSide}
use Rattle.convoy.proofs.ClientLawsLemmas.FitsLemmas.{fits_stays}
use Rattle.convoy.specs.declared.member.Member.{Member}
use Rattle.convoy.specs.Agreement.Agreement.{AllFit}

-- the client at a place received what the list has there
pub record StandsAt (side : Side) (member : Member) (given : List (List Want)) (place : ℕ) : Type 0 where
  pub own : List Want
  pub is : slice_get given place ≡ Some own
  pub fits : FitsSide side member.client own

pub at_place : (side : Side) (members : List Member) (given : List (List Want)) (place : ℕ) (member : Member) → AllFit side members given → slice_get members place ≡ Some member →
    StandsAt side member given place
at_place side [] given place member all is = absurd (cc)
at_place side (first ∷ members) [] place member all is = absurd all
at_place side (first ∷ members) (own ∷ given) zero member all is =
    let same : first ≡ member = cc in
    subst (λ (m : Member). StandsAt side m (own ∷ given) zero) same (record { own = own; is = refl; fits = all.0 })
at_place side (first ∷ members) (own ∷ given) (suc place) member all is =
    let rest = at_place side members given place member all.1 is in
    record { own = rest.own; is = rest.is; fits = rest.fits }

-- another client is at a place, and received this
pub set_place : (side : Side) (members : List Member) (given : List (List Want)) (place : ℕ) (member : Member) (own : List Want) → AllFit side members given → FitsSide side member.client own →
    AllFit side (set members place member) (set given place own)
set_place side [] [] place member own all fits = tt
set_place side [] (first_own ∷ given) place member own all fits = absurd all
set_place side (first ∷ members) [] place member own all fits = absurd all
set_place side (first ∷ members) (first_own ∷ given) zero member own all fits = (fits, all.1)
set_place side (first ∷ members) (first_own ∷ given) (suc place) member own all fits = (all.0, set_place side members given place member own all.1 fits)

-- a client more
pub place_more : (side : Side) (members : List Member) (given : List (List Want)) (member : Member) (own : List Want) → AllFit side members given → FitsSide side member.client own →
    AllFit side (members ++ member ∷ []) (given ++ own ∷ [])
place_more side [] [] member own all fits = (fits, tt)
place_more side [] (first_own ∷ given) member own all fits = absurd all
place_more side (first ∷ members) [] member own all fits = absurd all
place_more side (first ∷ members) (first_own ∷ given) member own all fits = (all.0, place_more side members given member own all.1 fits)

-- all agree with a later side
pub all_later : (before after : Side) (members : List Member) (given : List (List Want)) → IsValidSide after → IsLater before after → AllFit before members given → AllFit after members given
all_later before after [] [] valid later all = tt
all_later before after [] (own ∷ given) valid later all = absurd all
all_later before after (member ∷ members) [] valid later all = absurd all
all_later before after (member ∷ members) (own ∷ given) valid later all =
    (fits_stays before after member.client own valid later all.0, all_later before after members given valid later all.1)

-- what is at a place, put there again, changes nothing
pub set_itself : {X : Type 0} (xs : List X) (place : ℕ) (x : X) → slice_get xs place ≡ Some x → set xs place x ≡ xs
set_itself [] place x is = refl
set_itself (first ∷ xs) zero x is = let same : x ≡ first = cc in ap (λ y. y ∷ xs) same
set_itself (first ∷ xs) (suc place) x is = ap (λ ys. first ∷ ys) (set_itself xs place x is)

-- of two values that are put at a place the second one is there
pub set_twice : {X : Type 0} (xs : List X) (place : ℕ) (x y : X) → set (set xs place x) place y ≡ set xs place y
set_twice [] place x y = refl
set_twice (first ∷ xs) zero x y = refl
set_twice (first ∷ xs) (suc place) x y = ap (λ ys. first ∷ ys) (set_twice xs place x y)
