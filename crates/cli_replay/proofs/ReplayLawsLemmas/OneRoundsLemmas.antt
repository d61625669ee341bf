-- What was received in the turns of an event sequence fixes what was asked for in them.
use Rattle.std.proofs.Common.{◌≡◌, ◌∙◌, ◌==◌, ℕ, inl, inr, Bool, true, false, List, [], ◌∷◌, ◌++◌, ap, ap₂, arith, length, refl, subst, sym}
use Rattle.std.specs.List.{All, AllZip}
use Rattle.std.specs.Prelude.{if◌then◌else◌}
use Rattle.std.proofs.lemmas.Bool.{eq-eqb}
use Rattle.std.proofs.lemmas.List.{append-nil}
use Rattle.std.proofs.lemmas.List.Elements.{All-head, All-tail}
use Rattle.convoy.specs.Agreement.Names.{AskByNames, Round, asked_of, names_after}
use Rattle.lc_model.specs.declared.page.PageName.{PageName}
use Rattle.page_client.specs.declared.want.Want.{Want}
use Rattle.journey_text.specs.Script.{IsClient}
use Rattle.cli_replay.specs.ReplayLaws.Turns.{IsIdle, IsOne, TakeOneEach, failed_in, given_in, rounds_of}
use Rattle.cli_replay.proofs.ReplayLawsLemmas.EventLemmas.{AreClients}

-- both turns gave the same, and the same failed in both
pub record MetTheSame (r s : Round) : Type 0 where
  pub given : r.given ≡ s.given
  pub failed : r.failed ≡ s.failed

fewer : {X : Type 0} (x y : X) (xs ys : List X) → length (x ∷ xs) ≡ length (y ∷ ys) → length xs ≡ length ys
fewer x y xs ys same = omega (arith, same)

not_as_many : {X : Type 0} (x y z : X) (ys : List X) → length (x ∷ []) ≡ length (y ∷ z ∷ ys) → ⊥
not_as_many x y z ys same = omega (arith, same)

-- two lists that are nothing together are nothing
no_first : {X : Type 0} (xs ys : List X) → xs ++ ys ≡ [] → xs ≡ []
no_first [] ys none = refl
no_first (x ∷ xs) ys none = absurd (cc)

no_second : {X : Type 0} (xs ys : List X) → xs ++ ys ≡ [] → ys ≡ []
no_second [] ys none = none
no_second (x ∷ xs) ys none = absurd (cc)

-- a turn in which something was received is none in which nothing was wanted
given_one : (r : Round) → r.failed ≡ [] → (one : IsOne r) → r.given ≡ one.want ∷ []
given_one r none one = sym (ap (λ (l : List Want). r.given ++ l) none ∙ append-nil r.given) ∙ one.is

idle_given : (rs : List Round) → All IsIdle rs → given_in rs ≡ []
idle_given [] idle = refl
idle_given (r ∷ rs) idle =
    ap₂ (λ (x y : List Want). x ++ y) (no_first r.given r.failed (All-head IsIdle r rs idle)) (idle_given rs (All-tail IsIdle r rs idle))

-- what was received first, and what after it
first_given : (r : Round) (rs : List Round) (want : Want) → r.given ≡ want ∷ [] → given_in (r ∷ rs) ≡ want ∷ given_in rs
first_given r rs want is = ap (λ (l : List Want). l ++ given_in rs) is

not_idle : (r : Round) (rs ts : List Round) (want : Want) → r.given ≡ want ∷ [] → All IsIdle ts → given_in (r ∷ rs) ≡ given_in ts → ⊥
not_idle r rs ts want is idle same =
    let never : want ∷ given_in rs ≡ [] = sym (first_given r rs want is) ∙ same ∙ idle_given ts idle in
    cc

same_first : (a b : Want) (xs ys : List Want) → a ∷ xs ≡ b ∷ ys → a ≡ b
same_first a b xs ys same = cc

same_others : (a b : Want) (xs ys : List Want) → a ∷ xs ≡ b ∷ ys → xs ≡ ys
same_others a b xs ys same = cc

both_idle : (rs ts : List Round) → length rs ≡ length ts → All IsIdle rs → All IsIdle ts → AllZip MetTheSame rs ts
both_idle [] [] same idle other = tt
both_idle [] (t ∷ ts) same idle other = absurd (omega (arith, same))
both_idle (r ∷ rs) [] same idle other = absurd (omega (arith, same))
both_idle (r ∷ rs) (t ∷ ts) same idle other =
    let here = All-head IsIdle r rs idle in
    let there = All-head IsIdle t ts other in (
      record {
        given = no_first r.given r.failed here ∙ sym (no_first t.given t.failed there);
        failed = no_second r.given r.failed here ∙ sym (no_second t.given t.failed there);
      },
      both_idle rs ts (fewer r t rs ts same) (All-tail IsIdle r rs idle) (All-tail IsIdle t ts other),
    )

-- A client receives one want in each turn, and the rest in the last one. In as many turns it received the same in each, where
-- it received the same in all and nothing failed.
pub met_the_same : (rs ts : List Round) → length rs ≡ length ts → TakeOneEach rs → TakeOneEach ts → failed_in rs ≡ [] → failed_in ts ≡ [] → given_in rs ≡ given_in ts →
    AllZip MetTheSame rs ts
met_the_same [] ts many each other_each none other_none same = absurd each
met_the_same (r ∷ []) [] many each other_each none other_none same = absurd other_each
met_the_same (r ∷ []) (t ∷ []) many each other_each none other_none same = (
  record {
    given = sym (append-nil r.given) ∙ same ∙ append-nil t.given;
    failed = no_first r.failed [] none ∙ sym (no_first t.failed [] other_none);
  },
  tt,
)
met_the_same (r ∷ []) (t ∷ next ∷ ts) many each other_each none other_none same = absurd (not_as_many r t next ts many)
met_the_same (r ∷ next ∷ rs) [] many each other_each none other_none same = absurd other_each
met_the_same (r ∷ next ∷ rs) (t ∷ []) many each other_each none other_none same = absurd (not_as_many t r next rs (sym many))
met_the_same (r ∷ next ∷ rs) (t ∷ following ∷ ts) many (inl (one, more)) (inl (other, further)) none other_none same =
    let given = given_one r (no_first r.failed (failed_in (next ∷ rs)) none) one in
    let other_given = given_one t (no_first t.failed (failed_in (following ∷ ts)) other_none) other in
    let all : one.want ∷ given_in (next ∷ rs) ≡ other.want ∷ given_in (following ∷ ts) =
    sym (first_given r (next ∷ rs) one.want given) ∙ same ∙ first_given t (following ∷ ts) other.want other_given in (
      record {
        given =
            given ∙ ap (λ (w : Want). let l : List Want = w ∷ [] in l) (same_first one.want other.want (given_in (next ∷ rs)) (given_in (following ∷ ts)) all) ∙ sym other_given;
        failed = no_first r.failed (failed_in (next ∷ rs)) none ∙ sym (no_first t.failed (failed_in (following ∷ ts)) other_none);
      },
      met_the_same (next ∷ rs) (following ∷ ts) (fewer r t (next ∷ rs) (following ∷ ts) many) more further (no_second r.failed (failed_in (next ∷ rs)) none)
          (no_second t.failed (failed_in (following ∷ ts)) other_none) (same_others one.want other.want (given_in (next ∷ rs)) (given_in (following ∷ ts)) all),
    )
met_the_same (r ∷ next ∷ rs) (t ∷ following ∷ ts) many (inl (one, more)) (inr idle) none other_none same =
    absurd (not_idle r (next ∷ rs) (t ∷ following ∷ ts) one.want (given_one r (no_first r.failed (failed_in (next ∷ rs)) none) one) idle same)
met_the_same (r ∷ next ∷ rs) (t ∷ following ∷ ts) many (inr idle) (inl (other, further)) none other_none same =
    absurd (not_idle t (following ∷ ts) (r ∷ next ∷ rs) other.want (given_one t (no_first t.failed (failed_in (following ∷ ts)) other_none) other) idle (sym same))
met_the_same (r ∷ next ∷ rs) (t ∷ following ∷ ts) many (inr idle) (inr other) none other_none same = both_idle (r ∷ next ∷ rs) (t ∷ following ∷ ts) many idle other

-- a client has as many turns in each play of an event sequence
pub as_many_rounds : (client : ℕ) (order : List ℕ) (rs ts : List Round) → length rs ≡ length ts → length (rounds_of client order rs) ≡ length (rounds_of client order ts)
as_many_rounds client [] rs ts same = refl
as_many_rounds client (other ∷ order) [] [] same = refl
as_many_rounds client (other ∷ order) [] (t ∷ ts) same = absurd (omega (arith, same))
as_many_rounds client (other ∷ order) (r ∷ rs) [] same = absurd (omega (arith, same))
as_many_rounds client (other ∷ order) (r ∷ rs) (t ∷ ts) same =
    let rest = as_many_rounds client order rs ts (fewer r t rs ts same) in
    elim (other == client) as (λ (b : Bool).
    length (if b then r ∷ rounds_of client order rs else rounds_of client order rs) ≡ length (if b then t ∷ rounds_of client order ts else rounds_of client order ts)
    ) [
      | true ↦ omega (arith, rest)
      | false ↦ rest
    ]

-- a client received the same in its turns, where the first of these turns is its own or not
abbrev BothMet : ℕ → List ℕ → Round → Round → List Round → List Round → Bool → Type 0
BothMet client order r t rs ts own =
    AllZip MetTheSame (if own then r ∷ rounds_of client order rs else rounds_of client order rs) (if own then t ∷ rounds_of client order ts else rounds_of client order ts)

others_met : (client : ℕ) (order : List ℕ) (r t : Round) (rs ts : List Round) (own : Bool) → BothMet client order r t rs ts own → AllZip MetTheSame (rounds_of client order rs) (rounds_of client order ts)
others_met client order r t rs ts true both = both.1
others_met client order r t rs ts false both = both

-- where each client received the same in each of its turns, each turn gave the same
pub met_in_all : (count : ℕ) (order : List ℕ) (rs ts : List Round) → length rs ≡ length order → length ts ≡ length order → AreClients count order →
    ((client : ℕ) → IsClient count client → AllZip MetTheSame (rounds_of client order rs) (rounds_of client order ts)) → AllZip MetTheSame rs ts
met_in_all count [] [] [] many other_many are met = tt
met_in_all count [] [] (t ∷ ts) many other_many are met = absurd (omega (arith, other_many))
met_in_all count [] (r ∷ rs) ts many other_many are met = absurd (omega (arith, many))
met_in_all count (first ∷ order) [] ts many other_many are met = absurd (omega (arith, many))
met_in_all count (first ∷ order) (r ∷ rs) [] many other_many are met = absurd (omega (arith, other_many))
met_in_all count (first ∷ order) (r ∷ rs) (t ∷ ts) many other_many are met =
    ((first_met (first == first) (eq-eqb first first refl) (met first are.0)).0, met_in_all count order rs ts (omega (arith, many)) (omega (arith, other_many)) are.1 rest) where
      first_met : (b : Bool) → b ≡ true → BothMet first order r t rs ts b → AllZip MetTheSame (r ∷ rounds_of first order rs) (t ∷ rounds_of first order ts)
      first_met b is both = subst (BothMet first order r t rs ts) is both

      rest : (client : ℕ) → IsClient count client → AllZip MetTheSame (rounds_of client order rs) (rounds_of client order ts)
      rest client is = others_met client order r t rs ts (first == client) (met client is)

-- the names of the cached pages determine one round
pub same_rounds : (cache : ℕ) (names : List PageName) (rs ts : List Round) → AllZip MetTheSame rs ts → AskByNames cache names rs → AskByNames cache names ts → rs ≡ ts
same_rounds cache names [] [] met asks other_asks = refl
same_rounds cache names [] (t ∷ ts) met asks other_asks = absurd met
same_rounds cache names (r ∷ rs) [] met asks other_asks = absurd met
same_rounds cache names (r ∷ rs) (t ∷ ts) (met, more) (asks, by_names) (other_asks, other_by_names) =
    let asked : r.asked ≡ t.asked = asks.asked ∙ ap₂ (λ (given failed : List Want). asked_of cache names (given ++ failed)) met.given met.failed ∙ sym other_asks.asked in
    let round = λ (given failed asked : List Want). let made : Round = record { given = given; failed = failed; asked = asked } in made in
    let first : r ≡ t = λ i. round (met.given i) (met.failed i) (asked i) in
    let rest = same_rounds cache (names_after cache names r.given) rs ts more by_names
    (subst (λ (given : List Want). AskByNames cache (names_after cache names given) ts) (sym met.given) other_by_names) in
    ap₂ (λ (x : Round) (l : List Round). x ∷ l) first rest
