-- Arguments ask one question.
use Rattle.std.proofs.Common.{◌≡◌, ◌∙◌, ℕ, ◌≤◌, List, Option, Some, None, ap, subst, sym}
use Rattle.std.proofs.Props.{props}
use Rattle.clap.specs.Simple.{App}
use Rattle.back_scan.specs.declared.arrive_query.ArriveQuery.{ArriveQuery}
use Rattle.back_scan.specs.declared.arrive_query.TheConstants.{FIRST_ARRIVE, LAST_ARRIVE}
use Rattle.lc_model.specs.declared.query.Query.{Query}
use Rattle.lc_model.specs.declared.query.TheConstants.{FIRST_LEAVE, LAST_LEAVE}
use Rattle.lc_time.specs.Iso.{SaysMoment}
use Rattle.lc_time.proofs.OneTextLemmas.{one_moment}
use Rattle.cli_words.specs.Question.{AsksArrival, AsksQuestion, SaysKnown, SaysMomentWithin, SaysStop}
use Rattle.cli_words.proofs.MadeLemmas.{same_made}
use Rattle.cli_words.proofs.WordsLemmas.{same_number, same_text}

-- a text says one moment
one_within : (low high : ℕ) (text text' : List ℕ) (moment moment' : ℕ) → text ≡ text' → SaysMomentWithin low high text moment → SaysMomentWithin low high text' moment' → moment ≡ moment'
one_within low high text text' moment moment' same p q =
    one_moment text' moment moment' (subst (λ (t : List ℕ). SaysMoment t moment) same p.says) q.says

one_stop : (word : Option (List ℕ)) (a b : List ℕ) → SaysStop word a → SaysStop word b → a ≡ b
one_stop word a b p q = same_text a b (sym p.is ∙ q.is)

one_known : (value : Option (List ℕ)) (a b : Option ℕ) → SaysKnown value a → SaysKnown value b → a ≡ b
one_known None a b p q = p ∙ sym q
one_known (Some text) None b p q = absurd p
one_known (Some text) (Some a) None p q = absurd q
one_known (Some text) (Some a) (Some b) p q = ap (λ (n : ℕ). Some n) (one_moment text a b p q)

-- a question may leave then
abbrev MayLeave : ℕ → Type 0
MayLeave leave = (FIRST_LEAVE ≤ leave) × (leave ≤ LAST_LEAVE)

may_leave_prop : (leave : ℕ) → IsProp (MayLeave leave)
may_leave_prop leave = hlevel props

abbrev query_of : (from to : List ℕ) (known : Option ℕ) (horizon leave : ℕ) → MayLeave leave → Query
query_of from to known horizon leave may = record { from = from; to = to; leave = leave; known = known; horizon = horizon; not_before = may.0; not_after = may.1 }

same_query : (a b : Query) → a.from ≡ b.from → a.to ≡ b.to → a.known ≡ b.known → a.horizon ≡ b.horizon → a.leave ≡ b.leave → a ≡ b
same_query a b from to known horizon leave =
    same_made MayLeave may_leave_prop (query_of a.from a.to a.known a.horizon) a.leave b.leave (a.not_before, a.not_after) (b.not_before, b.not_after) leave
    ∙ (λ i. query_of (from i) (to i) (known i) (horizon i) b.leave (b.not_before, b.not_after))

pub one_question : (a : App) (words : List (List ℕ)) (p q : Query) → AsksQuestion a words p → AsksQuestion a words q → p ≡ q
one_question a words p q x y =
    let t = x.times in
    let u = y.times in
    same_query p q (one_stop _ p.from q.from x.from_is y.from_is) (one_stop _ p.to q.to x.to_is y.to_is)
    (one_known _ p.known q.known t.known_is u.known_is)
    (same_number p.horizon q.horizon (sym t.horizon_said ∙ u.horizon_said))
    (one_within FIRST_LEAVE LAST_LEAVE t.word u.word p.leave q.leave (same_text _ _ (sym t.word_is ∙ u.word_is)) t.moment_is u.moment_is)

-- a question may ask to arrive by then
abbrev MayArrive : ℕ → Type 0
MayArrive arrive = (FIRST_ARRIVE ≤ arrive) × (arrive ≤ LAST_ARRIVE)

may_arrive_prop : (arrive : ℕ) → IsProp (MayArrive arrive)
may_arrive_prop arrive = hlevel props

abbrev arrival_of : (from to : List ℕ) (known : Option ℕ) (horizon arrive : ℕ) → MayArrive arrive → ArriveQuery
arrival_of from to known horizon arrive may = record { from = from; to = to; arrive = arrive; known = known; horizon = horizon; not_before = may.0; not_after = may.1 }

same_arrival : (a b : ArriveQuery) → a.from ≡ b.from → a.to ≡ b.to → a.known ≡ b.known → a.horizon ≡ b.horizon → a.arrive ≡ b.arrive → a ≡ b
same_arrival a b from to known horizon arrive =
    same_made MayArrive may_arrive_prop (arrival_of a.from a.to a.known a.horizon) a.arrive b.arrive (a.not_before, a.not_after) (b.not_before, b.not_after) arrive
    ∙ (λ i. arrival_of (from i) (to i) (known i) (horizon i) b.arrive (b.not_before, b.not_after))

pub one_arrival : (a : App) (words : List (List ℕ)) (p q : ArriveQuery) → AsksArrival a words p → AsksArrival a words q → p ≡ q
one_arrival a words p q x y =
    let t = x.times in
    let u = y.times in
    same_arrival p q (one_stop _ p.from q.from x.from_is y.from_is) (one_stop _ p.to q.to x.to_is y.to_is)
    (one_known _ p.known q.known t.known_is u.known_is)
    (same_number p.horizon q.horizon (sym t.horizon_said ∙ u.horizon_said))
    (one_within FIRST_ARRIVE LAST_ARRIVE t.word u.word p.arrive q.arrive (same_text _ _ (sym t.word_is ∙ u.word_is)) t.moment_is u.moment_is)
