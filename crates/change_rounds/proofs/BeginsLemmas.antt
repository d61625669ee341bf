-- What is known before the first round, and when a round begins.
use Rattle.std.proofs.Common.{◌≡◌, ℕ, ◌≤◌, List, [], ◌∷◌, None, length, sym, subst, inl, arith}
use Rattle.lc_model.specs.Journey.{AreRides}
use Rattle.lc_model.specs.Leg.{IsLegOf}
use Rattle.lc_model.specs.declared.connection.Connection.{Connection}
use Rattle.lc_model.specs.declared.doc.StopsDoc.{StopsDoc}
use Rattle.lc_model.specs.declared.key.RunKey.{RunKey}
use Rattle.lc_model.specs.declared.query.Query.{Query}
use Rattle.lc_model.specs.declared.ride.Ride.{Ride}
use Rattle.csa_scan.specs.Kept.{Kept}
use Rattle.csa_scan.specs.Nothing.{nothing_of}
use Rattle.csa_scan.proofs.BegunLemmas.{stands_nothing}
use Rattle.csa_scan.proofs.RoomLemmas.{none_there}
use Rattle.change_rounds.specs.InRound.{StandsInRound, cleared}
use Rattle.change_rounds.specs.Round.{AfterRounds}

-- there is a ride in a chain
pub some_rides : (doc : StopsDoc) (list : List Connection) (rides : List Ride) → AreRides (IsLegOf list) doc rides → length rides ≤ 0 → ⊥
some_rides doc list [] are l = are
some_rides doc list (ride ∷ rest) are l = omega arith

-- before the first round nothing is kept
pub after_none : (query : Query) (doc : StopsDoc) (runs : List RunKey) (kept : Kept) (list : List Connection) (stops : ℕ) → kept ≡ nothing_of stops → AfterRounds query doc runs kept list 0
after_none query doc runs kept list stops e =
    let nothing = stands_nothing query doc runs stops in
    let P : Kept → Type 0 = λ k. AfterRounds query doc runs k list 0 in
    subst P (sym e) (record {
      sound = λ place a at. absurd (cc);
      within = λ place a at. absurd (cc);
      boards = λ stop at b. (None, b);
      ready = nothing.follows.ready;
      reached = nothing.follows.reached;
      best = nothing.follows.best;
      covers = λ journey is l. absurd (some_rides doc list journey.rides is.are_rides l);
    })

-- a round begins
pub round_begins : (query : Query) (doc : StopsDoc) (runs : List RunKey) (old new : Kept) (list : List Connection) (n m : ℕ) → AfterRounds query doc runs old list n → new ≡ cleared m old → StandsInRound query doc runs old.arrivals new []
round_begins query doc runs old new list n m h e =
    let P : Kept → Type 0 = λ k. StandsInRound query doc runs old.arrivals k [] in
    subst P (sym e) (record {
      follows = record {
        grows = λ place a at. at;
        arrival_sound = λ place a at. inl at;
        boarding_sound = λ run b key at is_run. absurd (none_there m run b at);
        boarding_complete = λ place x at allowed after may. absurd (cc);
        ready = h.ready;
        reached = h.reached;
        best = h.best;
      };
      reaches = λ ride leg after may known. let at = leg.is_boards in absurd (cc);
    })
