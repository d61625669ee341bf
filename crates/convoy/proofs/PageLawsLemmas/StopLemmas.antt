-- What was taken of a list, where the rest departs later.
use Rattle.std.proofs.Common.{◌≡◌, ℕ, ◌<◌, ◌≤◌, inl, inr, List, [], ◌∷◌, ◌++◌, Option, Some, None, arith}
use Rattle.std.specs.List.{All}
use Rattle.std.specs.declared.cmp.Ordering.TheVariants.{Less}
use Rattle.std.proofs.lemmas.Bool.{cases_lt}
use Rattle.std.proofs.lemmas.List.Elements.{All-tail, All-weaker}
use Rattle.lc_model.specs.Connection.{InDepartureOrder, NoneArrivesEarly, departure_cmp}
use Rattle.lc_model.specs.Journey.{arrives_at}
use Rattle.lc_model.specs.Leg.{IsChain, IsListBest}
use Rattle.lc_model.specs.Question.{latest_of}
use Rattle.lc_model.specs.declared.connection.Connection.{Connection}
use Rattle.lc_model.specs.declared.doc.StopsDoc.{StopsDoc}
use Rattle.lc_model.specs.declared.journey.Journey.{Journey}
use Rattle.lc_model.specs.declared.query.Query.{Query}
use Rattle.convoy.specs.PageLaws.Stop.{FrontMayBeAll, FrontWithChainMayBeAll, bound_of}
use Rattle.convoy.proofs.PageLawsLemmas.FilterLemmas.{pairs_tail}
use Rattle.convoy.proofs.PageLawsLemmas.PartJourneyLemmas.{chain_before, chain_of_front}

-- what holds of all of a list holds of its rest
pub all_of_rest : {X : Type 0} (P : X → Type 0) (front rest : List X) → All P (front ++ rest) → All P rest
all_of_rest P [] rest all = all
all_of_rest P (x ∷ front) rest all = all_of_rest P front rest (All-tail P x (front ++ rest) all)

pub order_of_rest : (front rest : List Connection) → InDepartureOrder (front ++ rest) → InDepartureOrder rest
order_of_rest [] rest in_order = in_order
order_of_rest (x ∷ front) rest in_order = order_of_rest front rest (pairs_tail (λ (c d : Connection). departure_cmp c d ≡ Less) x (front ++ rest) in_order)

-- what departs after a moment arrives after it, where none arrives early
arrive_after : (moment last : ℕ) (list : List Connection) → moment ≤ last → All (λ (c : Connection). last < c.dep) list → NoneArrivesEarly list → All (λ (c : Connection). moment < c.arr) list
arrive_after moment last list before late forward k d within = omega (arith, late k d within, forward k d within)

-- what departs at a moment or after it arrives after an earlier one, where none arrives early
arrive_later : (moment last : ℕ) (list : List Connection) → moment < last → All (λ (c : Connection). last ≤ c.dep) list → NoneArrivesEarly list → All (λ (c : Connection). moment < c.arr) list
arrive_later moment last list before late forward k d within = omega (arith, late k d within, forward k d within)

module _ (query : Query) (doc : StopsDoc) (taken left : List Connection) (last : ℕ) (in_order : InDepartureOrder (taken ++ left)) (forward : NoneArrivesEarly (taken ++ left)) where
  -- a chain of the whole list that arrives before all of the rest does is one of what was taken
  chain_of_taken : (moment : ℕ) (journey : Journey) → All (λ (c : Connection). moment < c.arr) left → arrives_at journey ≤ moment → IsChain query doc (taken ++ left) journey → IsChain query doc taken journey
  chain_of_taken moment journey late by_then is = chain_before query doc moment taken left journey in_order forward late by_then is

  left_forward : NoneArrivesEarly left
  left_forward = all_of_rest (λ (c : Connection). c.dep ≤ c.arr) taken left forward

  no_earlier : (arrival : ℕ) (journey : Journey) → All (λ (c : Connection). last ≤ c.dep) left → arrival ≤ last → ((other : Journey) → IsChain query doc taken other → arrival ≤ arrives_at other) → IsChain query doc (taken ++ left) journey →
      arrival ≤ arrives_at journey
  no_earlier arrival journey late by_last least is =
      elim (cases_lt (arrives_at journey) arrival) [
        | inl earlier ↦
            (let late_arrivals : All (λ (c : Connection). arrives_at journey < c.arr) left = arrive_later (arrives_at journey) last left (omega arith) late left_forward in
            let no_later : arrival ≤ arrives_at journey = least journey (chain_of_taken (arrives_at journey) journey late_arrivals (omega arith) is) in
            no_later)
        | inr no_later ↦ no_later
      ]

  pub with_chain : (arrival : ℕ) → All (λ (c : Connection). last ≤ c.dep) left → arrival ≤ last → IsListBest query doc taken (Some arrival) → IsListBest query doc (taken ++ left) (Some arrival)
  with_chain arrival late by_last ((journey, is, arrives), least) =
      ((journey, chain_of_front query doc taken left journey is, arrives), (λ other is_other. no_earlier arrival other late by_last least is_other))

  pub taken_is_all : (best : Option ℕ) → All (λ (c : Connection). last < c.dep) left → bound_of query best ≤ last → IsListBest query doc taken best → IsListBest query doc (taken ++ left) best
  taken_is_all (Some arrival) late by_last least =
      with_chain arrival (All-weaker (λ (c : Connection). last < c.dep) (λ (c : Connection). last ≤ c.dep) (λ c h. omega arith) left late) by_last least
  taken_is_all None late by_last none =
      λ journey is. none journey (chain_of_taken (latest_of query) journey (arrive_after (latest_of query) last left by_last late left_forward) is.in_time is)

  pub all_is_taken : (best : Option ℕ) → All (λ (c : Connection). last < c.dep) left → bound_of query best ≤ last → IsListBest query doc (taken ++ left) best → IsListBest query doc taken best
  all_is_taken (Some arrival) late by_last ((journey, is, arrives), least) =
      ((journey, chain_of_taken arrival journey (arrive_after arrival last left by_last late left_forward) (omega arith) is, arrives), (λ other is_other. least other (chain_of_front query doc taken left other is_other)))
  all_is_taken None late by_last none = λ journey is. none journey (chain_of_front query doc taken left journey is)

pub front_may_be_all : FrontMayBeAll
front_may_be_all query doc taken left best last in_order forward late by_last =
    (taken_is_all query doc taken left last in_order forward best late by_last, all_is_taken query doc taken left last in_order forward best late by_last)

pub front_with_chain : FrontWithChainMayBeAll
front_with_chain query doc taken left arrival last in_order forward late by_last least = with_chain query doc taken left last in_order forward arrival late by_last least
