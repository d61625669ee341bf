-- Turns of an event sequence, and after them one of each client, in the order of their numbers.
use Rattle.std.proofs.Common.{◌≡◌, ℕ, zero, suc, ◌+◌, ◌-◌, ◌≤◌, ◌==◌, inl, inr, Bool, true, false, List, [], ◌∷◌, ◌++◌, length, Option, Some, refl, ap, ap₂, sym, subst, ◌∙◌, arith, eq-eqb, length-append}
use Rattle.std.specs.Prelude.{if◌then◌else◌}
use Rattle.std.specs.List.{All, slice_get}
use Rattle.std.proofs.lemmas.Bool.{ne_eqb}
use Rattle.std.proofs.lemmas.List.Elements.{All-cons, All-head, All-nil, All-tail}
use Rattle.connection_uri.specs.Base.{BaseParts}
use Rattle.convoy.specs.declared.member.Member.{Member}
use Rattle.convoy.specs.Agreement.Names.{Round}
use Rattle.convoy.specs.Agreement.Requests.{requests_of}
use Rattle.lc_model.specs.declared.query.Query.{Query}
use Rattle.page_client.specs.Client.{shown}
use Rattle.cli_replay.specs.ReplayLaws.Events.{before_turn_of, turns_in}
use Rattle.cli_replay.specs.ReplayLaws.Turns.{IsIdle, IsOne, TakeOneEach, counted, requests_by, requests_in, rounds_of}
use Rattle.cli_replay.specs.declared.replay_laws.event.Event.{Event}
use Rattle.cli_replay.specs.declared.replay_laws.event.Event.TheVariants as events

-- this many numbers after this one
abbrev pub counted_from : ℕ → ℕ → List ℕ
counted_from k zero = []
counted_from k (suc n) = suc k ∷ counted_from (suc k) n

-- and one more of them
counted_from-more : (k n : ℕ) → counted_from k n ++ suc (k + n) ∷ [] ≡ counted_from k (suc n)
counted_from-more k zero = let same : k + 0 ≡ k = omega arith in ap (λ (m : ℕ). suc m ∷ []) same
counted_from-more k (suc n) =
    let same : suc k + n ≡ k + suc n = omega arith in
    let rest : counted_from (suc k) n ++ suc (k + suc n) ∷ [] ≡ counted_from (suc k) (suc n) =
    subst (λ (m : ℕ). counted_from (suc k) n ++ suc m ∷ [] ≡ counted_from (suc k) (suc n)) same (counted_from-more (suc k) n) in
    ap (λ (l : List ℕ). suc k ∷ l) rest

-- the numbers from 1 on
pub counted_is : (n : ℕ) → counted n ≡ counted_from 0 n
counted_is zero = refl
counted_is (suc n) =
    let same : 0 + n ≡ n = omega arith in
    ap (λ (l : List ℕ). l ++ suc n ∷ []) (counted_is n) ∙ subst (λ (m : ℕ). counted_from 0 n ++ suc m ∷ [] ≡ counted_from 0 (suc n)) same (counted_from-more 0 n)

pub length-counted : (n : ℕ) → length (counted n) ≡ n
length-counted zero = refl
length-counted (suc n) = omega (arith, length-append (counted n) (suc n ∷ []), length-counted n)

same_rest : (a b : ℕ) → suc a ≡ suc b → a ≡ b
same_rest a b same = omega arith

none_is_some : (a : ℕ) → zero ≡ suc a → ⊥
none_is_some a same = omega arith

-- among the numbers after its own a client has no turn
none_behind : (client k n : ℕ) (rounds : List Round) → client ≤ k → rounds_of client (counted_from k n) rounds ≡ []
none_behind client k zero rounds le = refl
none_behind client k (suc n) [] le = refl
none_behind client k (suc n) (round ∷ rounds) le =
    let other : (suc k == client) ≡ false = ne_eqb (suc k) client (beyond client k le) in
    ap (λ (b : Bool). if b then round ∷ rounds_of client (counted_from (suc k) n) rounds else rounds_of client (counted_from (suc k) n) rounds) other
    ∙ none_behind client (suc k) n rounds (further client k le) where
      beyond : (client k : ℕ) → client ≤ k → suc k ≡ client → ⊥
      beyond client k le same = omega arith

      further : (client k : ℕ) → client ≤ k → client ≤ suc k
      further client k le = omega arith

-- and among those with its own it has the one at its place
own_from : (client k n place : ℕ) (rounds : List Round) (round : Round) → client ≡ suc (k + place) → length rounds ≡ n → slice_get rounds place ≡ Some round →
    rounds_of client (counted_from k n) rounds ≡ round ∷ []
own_from client k n place [] round is same has = absurd (cc)
own_from client k zero place (first ∷ rounds) round is same has = absurd (none_is_some (length rounds) (sym same))
own_from client k (suc n) zero (first ∷ rounds) round is same has =
    let own : suc k ≡ client = omega arith in
    let at_first : first ≡ round = cc in
    ap (λ (b : Bool). if b then first ∷ rounds_of client (counted_from (suc k) n) rounds else rounds_of client (counted_from (suc k) n) rounds) (eq-eqb (suc k) client own)
    ∙ ap₂ (λ (r : Round) (l : List Round). r ∷ l) at_first (none_behind client (suc k) n rounds (within client k is)) where
      within : (client k : ℕ) → client ≡ suc (k + 0) → client ≤ suc k
      within client k is = omega arith
own_from client k (suc n) (suc place) (first ∷ rounds) round is same has =
    ap (λ (b : Bool). if b then first ∷ rounds_of client (counted_from (suc k) n) rounds else rounds_of client (counted_from (suc k) n) rounds)
    (ne_eqb (suc k) client (not_yet client k place is))
    ∙ own_from client (suc k) n place rounds round (then_is client k place is) (same_rest (length rounds) n same) has where
      not_yet : (client k place : ℕ) → client ≡ suc (k + suc place) → suc k ≡ client → ⊥
      not_yet client k place is same = omega arith

      then_is : (client k place : ℕ) → client ≡ suc (k + suc place) → client ≡ suc (suc k + place)
      then_is client k place is = omega arith

pub own_round : (n place : ℕ) (rounds : List Round) (round : Round) → length rounds ≡ n → slice_get rounds place ≡ Some round → rounds_of (place + 1) (counted n) rounds ≡ round ∷ []
own_round n place rounds round same has =
    let is : place + 1 ≡ suc (0 + place) = omega arith in
    ap (λ (l : List ℕ). rounds_of (place + 1) l rounds) (counted_is n) ∙ own_from (place + 1) 0 n place rounds round is same has

-- the requests of one turn of each client, one client after the other
requests_from : (base : BaseParts) (questions : List Query) (k n : ℕ) (members : List Member) (rounds : List Round) → length members ≡ n →
    ((place : ℕ) (member : Member) → slice_get members place ≡ Some member → slice_get questions (k + place) ≡ Some (shown member.client).query) →
    requests_in base questions (counted_from k n) rounds ≡ requests_of base members rounds
requests_from base questions k zero [] rounds same asked = refl
requests_from base questions k zero (member ∷ members) rounds same asked = absurd (none_is_some (length members) (sym same))
requests_from base questions k (suc n) [] rounds same asked = absurd (none_is_some n same)
requests_from base questions k (suc n) (member ∷ members) [] same asked = refl
requests_from base questions k (suc n) (member ∷ members) (round ∷ rounds) same asked =
    let at : k + 0 ≡ suc k - 1 = omega arith in
    let own : slice_get questions (suc k - 1) ≡ Some (shown member.client).query =
    subst (λ (i : ℕ). slice_get questions i ≡ Some (shown member.client).query) at (asked 0 member refl) in
    ap₂ (λ (x y : List (List ℕ)). x ++ y) (ap (λ (q : Option Query). requests_by base q round) own)
    (requests_from base questions (suc k) n members rounds (same_rest (length members) n same)
    (λ place other has. subst (λ (i : ℕ). slice_get questions i ≡ Some (shown other.client).query) (one_on k place) (asked (suc place) other has))) where
      one_on : (k place : ℕ) → k + suc place ≡ suc k + place
      one_on k place = omega arith

pub requests_counted : (base : BaseParts) (questions : List Query) (n : ℕ) (members : List Member) (rounds : List Round) → length members ≡ n →
    ((place : ℕ) (member : Member) → slice_get members place ≡ Some member → slice_get questions place ≡ Some (shown member.client).query) →
    requests_in base questions (counted n) rounds ≡ requests_of base members rounds
requests_counted base questions n members rounds same asked =
    ap (λ (l : List ℕ). requests_in base questions l rounds) (counted_is n)
    ∙ requests_from base questions 0 n members rounds same (λ place member has. subst (λ (i : ℕ). slice_get questions i ≡ Some (shown member.client).query) (from_none place) (asked place member has)) where
      from_none : (place : ℕ) → place ≡ 0 + place
      from_none place = omega arith

-- before the first turn of a client that has none is all
pub no_turn : (client : ℕ) (all : List Event) (rounds : List Round) → length rounds ≡ length (turns_in all) → rounds_of client (turns_in all) rounds ≡ [] → before_turn_of client all ≡ all
no_turn client [] rounds same none = refl
no_turn client (events.Ask query ∷ more) rounds same none = ap (λ (l : List Event). events.Ask query ∷ l) (no_turn client more rounds same none)
no_turn client (events.Message message ∷ more) rounds same none = ap (λ (l : List Event). events.Message message ∷ l) (no_turn client more rounds same none)
no_turn client (events.Turn other ∷ more) [] same none = absurd (none_is_some (length (turns_in more)) same)
no_turn client (events.Turn other ∷ more) (round ∷ rounds) same none =
    let rest = λ (is : rounds_of client (turns_in more) rounds ≡ []). no_turn client more rounds (same_rest (length rounds) (length (turns_in more)) same) is in
    (elim (other == client) as (λ (b : Bool). (if b then round ∷ rounds_of client (turns_in more) rounds else rounds_of client (turns_in more) rounds) ≡ [] →
    (if b then [] else events.Turn other ∷ before_turn_of client more) ≡ events.Turn other ∷ more
    ) [
      | true ↦ λ some. absurd (cc)
      | false ↦ λ is. ap (λ (l : List Event). events.Turn other ∷ l) (rest is)
    ]) none

-- one want in each turn, and what is left in the last one
pub ones_and_last : (ones : List Round) (last : Round) → All IsOne ones → TakeOneEach (ones ++ last ∷ [])
ones_and_last [] last each = tt
ones_and_last (one ∷ []) last each = inl (All-head IsOne one [] each, tt)
ones_and_last (one ∷ next ∷ ones) last each = inl (All-head IsOne one (next ∷ ones) each, ones_and_last (next ∷ ones) last (All-tail IsOne one (next ∷ ones) each))

all_idle : (idle : List Round) (last : Round) → All IsIdle idle → IsIdle last → All IsIdle (idle ++ last ∷ [])
all_idle [] last none none_then = All-cons IsIdle last [] none_then (All-nil IsIdle)
all_idle (round ∷ idle) last none none_then = All-cons IsIdle round (idle ++ last ∷ []) (All-head IsIdle round idle none) (all_idle idle last (All-tail IsIdle round idle none) none_then)

idle_to_last : (idle : List Round) (last : Round) → All IsIdle idle → IsIdle last → TakeOneEach (idle ++ last ∷ [])
idle_to_last [] last none none_then = tt
idle_to_last (round ∷ []) last none none_then = inr (all_idle (round ∷ []) last none none_then)
idle_to_last (round ∷ next ∷ idle) last none none_then = inr (all_idle (round ∷ next ∷ idle) last none none_then)

-- one want in each turn up to an end, and nothing after it
pub ones_and_idle : (ones idle : List Round) (last : Round) → All IsOne ones → All IsIdle idle → IsIdle last → TakeOneEach (ones ++ (idle ++ last ∷ []))
ones_and_idle [] idle last each none none_then = idle_to_last idle last none none_then
ones_and_idle (one ∷ ones) idle last each none none_then =
    then_more one (ones ++ (idle ++ last ∷ [])) (All-head IsOne one ones each) (ones_and_idle ones idle last (All-tail IsOne one ones each) none none_then) where
      then_more : (one : Round) (rest : List Round) → IsOne one → TakeOneEach rest → TakeOneEach (one ∷ rest)
      then_more one [] is rest = absurd rest
      then_more one (next ∷ rest) is more = inl (is, more)
