-- Texts that are made piece by piece.
use Rattle.std.proofs.Common.{◌≡◌, ◌≢◌, ℕ, zero, suc, ◌<◌, ◌-◌, ◌+◌, List, [], ◌∷◌, ◌++◌, length, get_or, take, ap, refl, sym, ◌∙◌, append_assoc, append-nil, arith}
use Rattle.std.specs.List.{flat_map}
use Rattle.std.proofs.lemmas.List.{take_more}
use Rattle.lc_model.specs.Journey.{arrival_of_rides}
use Rattle.lc_model.specs.declared.ride.Ride.{Ride}

-- a further piece is after what was appended before
pub appended : (start before after done next : List ℕ) → before ≡ start ++ done → after ≡ before ++ next → after ≡ start ++ (done ++ next)
appended start before after done next was is = is ∙ ap (λ text. text ++ next) was ∙ append_assoc start done next

-- the pieces of one more item
pub one_more_piece : {X : Type 0} (piece : X → List ℕ) (xs : List X) (x : X) → flat_map piece (xs ++ x ∷ []) ≡ flat_map piece xs ++ piece x
one_more_piece piece [] x = append-nil (piece x)
one_more_piece piece (y ∷ xs) x = ap (λ rest. piece y ++ rest) (one_more_piece piece xs x) ∙ sym (append_assoc (piece y) (flat_map piece xs) (piece x))

arrives_at_end : (rides : List Ride) (place : ℕ) (last : Ride) → length rides ≡ suc place → last ≡ get_or rides place last → arrival_of_rides rides ≡ last.arr
arrives_at_end [] place last long is = absurd (omega arith)
arrives_at_end (ride ∷ []) zero last long is = sym (ap (λ (r : Ride). r.arr) is)
arrives_at_end (ride ∷ []) (suc place) last long is = absurd (omega arith)
arrives_at_end (ride ∷ next ∷ rest) zero last long is = absurd (omega arith)
arrives_at_end (ride ∷ next ∷ rest) (suc place) last long is = arrives_at_end (next ∷ rest) place last (omega arith) is

-- a list that has items has a length
pub some_long : {X : Type 0} (xs : List X) → xs ≢ [] → 0 < length xs
some_long [] some = absurd (some refl)
some_long (x ∷ xs) some = omega arith

-- rides arrive when their last one does
pub arrives_last : (rides : List Ride) (last : Ride) → rides ≢ [] → last ≡ get_or rides (length rides - 1) last → arrival_of_rides rides ≡ last.arr
arrives_last rides last some is = let long = some_long rides some in arrives_at_end rides (length rides - 1) last (omega (arith, long)) is

-- the lines of the rides that were passed, and of one more
pub one_more_line : (line : Ride → List ℕ) (rides : List Ride) (place : ℕ) (ride : Ride) → place < length rides → ride ≡ get_or rides place ride → flat_map line (take (place + 1) rides) ≡ flat_map line (take place rides) ++ line ride
one_more_line line rides place ride below is =
    ap (flat_map line) (take_more rides place ride below ∙ ap (λ r. take place rides ++ r ∷ []) (sym is))
    ∙ one_more_piece line (take place rides) ride
