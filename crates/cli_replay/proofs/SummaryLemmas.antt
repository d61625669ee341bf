-- The messages and the leaves of events, of which one more is looked at, and sums over clients.
use Rattle.std.proofs.Common.{◌≡◌, ◌∙◌, ℕ, zero, suc, ◌+◌, ◌-◌, ◌<◌, ◌≤◌, List, [], ◌∷◌, ◌++◌, ap, ap₂, arith, cond, drop, get_or, length, map, refl, sym, take}
use Rattle.std.specs.Int.{from_bool}
use Rattle.std.specs.Prelude.{Bool, true, false, count_by, sum, zip}
use Rattle.std.proofs.lemmas.List.{drop_more, map-append, take_more}
use Rattle.std.proofs.lemmas.List.Recursion.{is_count_by}
use Rattle.std.proofs.lemmas.List.Sums.{sum_by-cons, sum_by_more, sum_by_push}
use Rattle.cli_ask.specs.declared.end.ClientEnd.{ClientEnd}
use Rattle.cli_replay.specs.ReplayLaws.Events.{messages_in}
use Rattle.cli_replay.specs.declared.replay_laws.event.Event.{Event}
use Rattle.cli_replay.specs.declared.replay_laws.event.Event.TheVariants as events
use Rattle.cli_replay.specs.Summary.{arrivals_of, exchanges_of, is_message, leaves_in, seconds_of}

one_message : (event : Event) (all : List Event) → messages_in (event ∷ all) ≡ cond (is_message event) (1 + messages_in all) (messages_in all)
one_message (events.Ask query) all = refl
one_message (events.Message message) all = refl
one_message (events.Turn client) all = refl

-- the messages of events are counted
pub messages_counted : (all : List Event) → messages_in all ≡ count_by is_message all
messages_counted = is_count_by messages_in is_message refl one_message

and_leaves : (all : List Event) (last : Event) → leaves_in (all ++ last ∷ []) ≡ leaves_in all ++ leaves_in (last ∷ [])
and_leaves [] last = refl
and_leaves (events.Ask query ∷ all) last = ap (λ (rest : List ℕ). query.leave ∷ rest) (and_leaves all last)
and_leaves (events.Message message ∷ all) last = and_leaves all last
and_leaves (events.Turn client ∷ all) last = and_leaves all last

-- what the next event adds to the leaves
pub more_leaves : (all : List Event) (place : ℕ) (last : Event) → place < length all → last ≡ get_or all place last → leaves_in (take (place + 1) all) ≡ leaves_in (take place all) ++ leaves_in (last ∷ [])
more_leaves all place last within is =
    ap leaves_in (take_more all place last within ∙ ap (λ (x : Event). take place all ++ x ∷ []) (sym is)) ∙ and_leaves (take place all) last

-- what the next client adds to a count
pub more_counted : (p : ClientEnd → Bool) (ends : List ClientEnd) (place : ℕ) (end : ClientEnd) → place < length ends → end ≡ get_or ends place end → count_by p (take (place + 1) ends) ≡ count_by p (take place ends) + cond (p end) 1 0
more_counted p ends place end within is =
    sum_by_more (λ (x : ClientEnd). cond (p x) 1 0) ends place end within ∙ ap (λ (x : ClientEnd). count_by p (take place ends) + cond (p x) 1 0) (sym is)

-- that count is the number of a `bool`
pub number_of : (b : Bool) → from_bool b ≡ cond b 1 0
number_of true = refl
number_of false = refl

-- it adds 1 at most
pub one_at_most : (b : Bool) → cond b 1 0 ≤ 1
one_at_most true = omega arith
one_at_most false = omega arith

-- what the next client adds to the exchanges
pub more_exchanges : (ends : List ClientEnd) (place : ℕ) (end : ClientEnd) → place < length ends → end ≡ get_or ends place end → exchanges_of (take (place + 1) ends) ≡ exchanges_of (take place ends) + end.exchanges
more_exchanges ends place end within is =
    ap exchanges_of (take_more ends place end within ∙ ap (λ (x : ClientEnd). take place ends ++ x ∷ []) (sym is))
    ∙ ap sum (map-append (λ (x : ClientEnd). x.exchanges) (take place ends) (end ∷ [])) ∙ sum_by_push (λ (n : ℕ). n) (map (λ (x : ClientEnd). x.exchanges) (take place ends)) end.exchanges

-- the arrivals that are left are the next client's and those after it
pub next_arrivals : (leaves : List ℕ) (ends : List ClientEnd) (place leave : ℕ) (end : ClientEnd) → place < length leaves → place < length ends → leave ≡ get_or leaves place leave → end ≡ get_or ends place end
    → arrivals_of (drop place leaves) (drop place ends) ≡ seconds_of leave end.outcome + arrivals_of (drop (place + 1) leaves) (drop (place + 1) ends)
next_arrivals leaves ends place leave end within_leaves within_ends is_leave is_end =
    ap₂ arrivals_of (drop_more leaves place leave within_leaves ∙ ap (λ (x : ℕ). x ∷ drop (place + 1) leaves) (sym is_leave))
    (drop_more ends place end within_ends ∙ ap (λ (x : ClientEnd). x ∷ drop (place + 1) ends) (sym is_end))
    ∙ sum_by-cons (λ (n : ℕ). n) (seconds_of leave end.outcome) (map (λ (client : ℕ × ClientEnd). seconds_of client.0 client.1.outcome) (zip (drop (place + 1) leaves) (drop (place + 1) ends)))

no_ends : (leaves : List ℕ) → arrivals_of leaves [] ≡ 0
no_ends [] = refl
no_ends (leave ∷ leaves) = refl

-- none are left where there is no client more
pub no_arrivals_left : (leaves : List ℕ) (ends : List ClientEnd) (place : ℕ) → (place < length leaves → place < length ends → ⊥) → arrivals_of (drop place leaves) (drop place ends) ≡ 0
no_arrivals_left [] ends zero none = refl
no_arrivals_left [] ends (suc place) none = refl
no_arrivals_left (leave ∷ leaves) [] zero none = refl
no_arrivals_left (leave ∷ leaves) [] (suc place) none = no_ends (drop place leaves)
no_arrivals_left (leave ∷ leaves) (end ∷ ends) zero none = absurd (none (omega arith) (omega arith))
no_arrivals_left (leave ∷ leaves) (end ∷ ends) (suc place) none = no_arrivals_left leaves ends place (λ in_leaves in_ends. none (omega (arith, in_leaves)) (omega (arith, in_ends)))
