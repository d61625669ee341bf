-- What two equal requests leave of a relay with one entry.
use Rattle.std.proofs.Common.{◌≡◌, ◌⊎◌, ◌∷◌, ◌++◌, [], ℕ, List, Some, inl, inr, refl}
use Rattle.std.specs.List.{All}
use Rattle.std.proofs.lemmas.List.Elements.{All-cons, All-nil}
use Rattle.lc_model.proofs.ListLemmas.{Contains-here}
use Rattle.lc_world.specs.ListLink.{entry_of}
use Rattle.lc_world.specs.declared.entry.Entry.{Entry}
use Rattle.lc_world.specs.declared.entry.RecordedReply.{RecordedReply}
use Rattle.lc_world.specs.declared.entry.RecordedReply.TheVariants.{Hidden, Reply}
use Rattle.page_relay.specs.HandedOn.{Follows, IsRecordedBelow}
use Rattle.page_relay.specs.Keeping.{IsToKeep}
use Rattle.page_relay.specs.Kept.{Kept}
use Rattle.page_relay.specs.Recorded.{IsGivenOf, IsKeptOf, IsReplied}
use Rattle.page_relay.specs.Worked.{WorkedRecorded, example, failed, replied, stops}

-- the one exchange that was handed on gave this reply
module _ (reply : List ℕ) (recorded : RecordedReply) (is : (recorded ≡ Hidden) ⊎ (recorded ≡ Reply reply)) where
  abbrev one : Entry
  one = entry_of stops.authority stops.request recorded

  by_it : IsReplied (one ∷ []) stops.authority stops.request reply
  by_it = record { entry = one; there = Contains-here one []; authority_is = refl; request_is = refl; reply_is = is }

  keeps_it : All (IsKeptOf (one ∷ [])) ((stops, reply) ∷ [])
  keeps_it = let kept : Kept = (stops, reply) in All-cons (IsKeptOf (one ∷ [])) kept [] by_it (All-nil (IsKeptOf (one ∷ [])))

  given : IsGivenOf (one ∷ []) (replied reply)
  given = by_it

  gives_it : All (IsGivenOf (one ∷ [])) (replied reply ∷ replied reply ∷ [])
  gives_it =
      All-cons (IsGivenOf (one ∷ [])) (replied reply) (replied reply ∷ []) given
      (All-cons (IsGivenOf (one ∷ [])) (replied reply) [] given (All-nil (IsGivenOf (one ∷ []))))

-- what is kept and handed on after both, with the reply or without
pub follows : (reply : List ℕ) (recorded : RecordedReply) → (recorded ≡ Hidden) ⊎ (recorded ≡ Reply reply) → (made : List Entry) → IsToKeep example stops.request reply
    → Follows example 1 (Some made) (Some (made ++ entry_of stops.authority stops.request recorded ∷ [])) (replied reply ∷ replied reply ∷ []) ((stops, reply) ∷ []) 1
follows reply recorded is made keep =
    let below : Entry = entry_of stops.authority stops.request recorded in
    let by : IsRecordedBelow (replied reply) below = record { authority_is = refl; request_is = refl; end_is = is } in
    record {
      handed_on = below ∷ [];
      relayed = ((stops, reply) ∷ [], [], inl (keep, refl), ((stops, reply) ∷ [], [], (refl, refl), (refl, refl), (refl, refl)), (below, by, refl));
      is = refl;
      count_is = refl;
    }

pub worked_recorded : (reply : List ℕ) → WorkedRecorded reply
worked_recorded reply = record {
  recorded = record {
    handed_on = replied reply ∷ [];
    is = refl;
    kept_of = keeps_it reply (Reply reply) (inr refl);
    given_of = gives_it reply (Reply reply) (inr refl);
    relayed_is = λ exact. refl;
    forwarded_is = λ exact. refl;
  };
  hidden = record {
    handed_on = entry_of stops.authority stops.request Hidden ∷ [];
    is = refl;
    kept_of = keeps_it reply Hidden (inl refl);
    given_of = gives_it reply Hidden (inl refl);
    relayed_is = λ exact. refl;
    forwarded_is = λ exact. refl;
  };
  follows = follows reply (Reply reply) (inr refl) (failed ∷ []);
  follows_hidden = follows reply Hidden (inl refl) [];
}
