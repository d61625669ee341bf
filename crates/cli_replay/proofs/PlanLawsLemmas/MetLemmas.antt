-- What a client received in its turns: one turn more, and the last one.
use Rattle.std.proofs.Common.{◌≡◌, ◌∙◌, ◌⊎◌, ◌≤◌, ◌<◌, ℕ, inl, inr, List, [], ◌∷◌, ◌++◌, Option, Some, None, refl, ap, ap₂, sym, subst, append-nil, append_assoc}
use Rattle.std.specs.Prelude.{IsSome}
use Rattle.std.proofs.lemmas.List.Elements.{All-append, All-cons, All-nil}
use Rattle.convoy.specs.declared.member.Member.{Member}
use Rattle.convoy.specs.Agreement.Names.{Round}
use Rattle.convoy.specs.Agreement.Rounds.{round_with}
use Rattle.cli_replay.proofs.ReplayLawsLemmas.FailureLemmas.{fails_idle, fails_last}
use Rattle.cli_replay.proofs.ReplayLawsLemmas.FinishesListLemmas.{ones_and_idle, ones_and_last}
use Rattle.cli_replay.proofs.ReplayLawsLemmas.PlayedTo.{HasMet}
use Rattle.cli_replay.proofs.ReplayLawsLemmas.TurnsClientLemmas.{CameOf, all_ones}
use Rattle.cli_replay.specs.ReplayLaws.Turns.{EndByFailure, IsIdle, IsOne, TakeOneEach, failed_in}
use Rattle.page_client.specs.Client.{shown}
use Rattle.page_client.specs.declared.outcome.Outcome.{Outcome}
use Rattle.page_client.specs.declared.want.Want.{Want}
use Rattle.lc_world.specs.Sides.Side.{Side}

-- each client received one want a turn up to now
abbrev pub HasMetAt : ℕ → List Round → Option Outcome → Type 0
HasMetAt place rounds outcome = HasMet rounds outcome

-- it received one want a turn, in the last turn the rest, and has ended
pub record HasFinished (rounds : List Round) (outcome : Option Outcome) : Type 0 where
  pub each : TakeOneEach rounds
  pub at_last : EndByFailure rounds
  pub ended : IsSome outcome

-- the clients at the first n places have ended
pub record HaveFinished (n place : ℕ) (rounds : List Round) (outcome : Option Outcome) : Type 0 where
  pub finished : place < n → HasFinished rounds outcome
  pub met : n ≤ place → HasMet rounds outcome

-- one want more
met_one : (mine : List Round) (before after : Option Outcome) (round : Round) (want : Want) (met : HasMet mine before) → before ≡ None → failed_in mine ≡ [] → round.given ++ round.failed ≡ want ∷ [] →
    HasMet (mine ++ round ∷ []) after
met_one mine before after round want met waits none one = record {
  ones = met.ones ++ round ∷ [];
  idle = [];
  are = ap (λ (l : List Round). l ++ round ∷ []) (all_ones mine before met waits) ∙ sym (append-nil (met.ones ++ round ∷ []));
  each = All-append IsOne met.ones (round ∷ []) met.each (All-cons IsOne round [] (record { want = want; is = one }) (All-nil IsOne));
  none = All-nil IsIdle;
  ended = inl refl;
  at_last = fails_last mine round none;
}

-- what came of a turn is what the client received in it
pub met_more : (side : Side) (was is : Member) (own given failed asked : List Want) (mine : List Round) → HasMet mine (shown was.client).outcome → ((shown was.client).outcome ≡ None → failed_in mine ≡ []) →
    CameOf side was is own given failed asked → HasMet (mine ++ round_with given failed asked ∷ []) (shown is.client).outcome
met_more side was is own given failed asked mine met none (inl r) = record {
  ones = met.ones;
  idle = met.idle ++ round_with given failed asked ∷ [];
  are = ap (λ (l : List Round). l ++ round_with given failed asked ∷ []) met.are ∙ append_assoc met.ones met.idle (round_with given failed asked ∷ []);
  each = met.each;
  none = All-append IsIdle met.idle (round_with given failed asked ∷ []) met.none (All-cons IsIdle (round_with given failed asked) [] nothing (All-nil IsIdle));
  ended = inr (subst (λ (member : Member). IsSome (shown member.client).outcome) (sym r.same) r.had);
  at_last = fails_idle mine (round_with given failed asked) met.at_last nothing;
} where
  nothing : given ++ failed ≡ []
  nothing = ap₂ (λ (x y : List Want). x ++ y) r.none_given r.none_failed
met_more side was is own given failed asked mine met none (inr (inl g)) =
    met_one mine (shown was.client).outcome (shown is.client).outcome (round_with given failed asked) g.want met g.waited (none g.waited) (ap₂ (λ (x y : List Want). x ++ y) g.is_given g.none_failed)
met_more side was is own given failed asked mine met none (inr (inr f)) =
    met_one mine (shown was.client).outcome (shown is.client).outcome (round_with given failed asked) f.failed_then.want met f.waited (none f.waited)
    (ap₂ (λ (x y : List Want). x ++ y) f.none_given f.failed_then.one)

-- the last turn of a client, in which it ends
module _ (mine : List Round) (round : Round) where
  at_last : (before : Option Outcome) → HasMet mine before → (IsSome before → IsIdle round) → (before ≡ None → failed_in mine ≡ []) → EndByFailure (mine ++ round ∷ [])
  at_last None met idle none = fails_last mine round (none refl)
  at_last (Some outcome) met idle none = fails_idle mine round met.at_last (idle refl)

  each : (before : Option Outcome) (met : HasMet mine before) → (IsSome before → IsIdle round) → (met.idle ≡ []) ⊎ IsSome before → TakeOneEach (mine ++ round ∷ [])
  each before met idle (inl nothing) =
      let are : mine ≡ met.ones = met.are ∙ ap (λ (l : List Round). met.ones ++ l) nothing ∙ append-nil met.ones in
      subst (λ (l : List Round). TakeOneEach (l ++ round ∷ [])) (sym are) (ones_and_last met.ones round met.each)
  each before met idle (inr some) =
      let are : mine ++ round ∷ [] ≡ met.ones ++ (met.idle ++ round ∷ []) =
      ap (λ (l : List Round). l ++ round ∷ []) met.are ∙ append_assoc met.ones met.idle (round ∷ []) in
      subst TakeOneEach (sym are) (ones_and_idle met.ones met.idle round met.each met.none (idle some))

  pub finished : (before after : Option Outcome) → HasMet mine before → (IsSome before → IsIdle round) → (before ≡ None → failed_in mine ≡ []) → IsSome after → HasFinished (mine ++ round ∷ []) after
  finished before after met idle none ended = record { each = each before met idle met.ended; at_last = at_last before met idle none; ended = ended }
