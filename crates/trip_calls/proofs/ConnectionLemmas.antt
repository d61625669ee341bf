-- The connections of runs: none arrives before it departs, and no two tie in the order of departures.
use Rattle.std.proofs.Common.{◌≡◌, ℕ, zero, suc, ◌+◌, ◌-◌, ◌<◌, ◌≤◌, List, [], ◌∷◌, ◌++◌, length, get_or, take, drop, sym, ap, ap₂, append_assoc, ◌∙◌, subst, refl, arith}
use Rattle.std.specs.List.{All}
use Rattle.std.proofs.lemmas.List.Elements.{All-more}
use Rattle.std.proofs.lemmas.List.{flat_map_more, get_or_default, take_more}
use Rattle.lc_model.specs.Call.{InSequence}
use Rattle.lc_model.specs.Connection.{connection_between, connections_of, connections_of_calls}
use Rattle.lc_model.specs.declared.call.Call.{Call}
use Rattle.lc_model.specs.declared.connection.Connection.{Connection}
use Rattle.lc_model.specs.declared.key.RunKey.{RunKey}
use Rattle.lc_model.specs.declared.run.Run.{Run}

-- after the last call but one there is no connection
pub no_more : (key : RunKey) (calls : List Call) (n : ℕ) → length calls ≤ n + 1 → connections_of_calls key (drop n calls) ≡ []
no_more key [] zero h = refl
no_more key [] (suc n) h = refl
no_more key (x ∷ []) zero h = refl
no_more key (x ∷ y ∷ calls) zero h = absurd (omega (arith, h))
no_more key (x ∷ calls) (suc n) h = no_more key calls n (omega (arith, h))

-- the connection from a call to the next, and those after it
pub one_more : (key : RunKey) (calls : List Call) (n : ℕ) (d : Call) → n + 1 < length calls → connections_of_calls key (drop n calls) ≡ connection_between key (get_or calls n d) (get_or calls (suc n) d) ∷ connections_of_calls key (drop (suc n) calls)
one_more key [] n d h = absurd (omega (arith, h))
one_more key (x ∷ []) n d h = absurd (omega (arith, h))
one_more key (x ∷ y ∷ calls) zero d h = refl
one_more key (x ∷ y ∷ calls) (suc n) d h = one_more key (y ∷ calls) n d (omega (arith, h))

-- a connection more, and those after it
pub one_behind : (key : RunKey) (calls : List Call) (i : ℕ) (a b : Call) (now new whole : List Connection) (x : Connection) → 1 ≤ i → i < length calls → a ≡ get_or calls (i - 1) a → b ≡ get_or calls i b
    → new ≡ now ++ x ∷ [] → x ≡ connection_between key a b → now ++ connections_of_calls key (drop (i - 1) calls) ≡ whole → new ++ connections_of_calls key (drop (i + 1 - 1) calls) ≡ whole
one_behind key calls i a b now new whole x from lt at_a at_b grown made so_far =
    let n = i - 1 in
    let next : suc n ≡ i = omega (arith, from) in
    let rest = connections_of_calls key (drop i calls) in
    let end : i + 1 - 1 ≡ i = omega arith in
    let to : get_or calls (suc n) a ≡ b = ap (λ v. get_or calls v a) next ∙ get_or_default calls i a b lt ∙ sym at_b in
    let more = one_more key calls n a (omega (arith, from, lt)) in
    let front : connections_of_calls key (drop n calls) ≡ x ∷ rest =
    more ∙ ap₂ (λ (f t : Call). connection_between key f t ∷ connections_of_calls key (drop (suc n) calls)) (sym at_a) to
    ∙ ap₂ (λ (c : Connection) (v : ℕ). c ∷ connections_of_calls key (drop v calls)) (sym made) next in
    ap₂ (λ (l : List Connection) (v : ℕ). l ++ connections_of_calls key (drop v calls)) grown end ∙ append_assoc now (x ∷ []) rest ∙ ap (λ l. now ++ l) (sym front) ∙ so_far

-- one run more
pub connections_more : (runs : List Run) (i : ℕ) (r : Run) (calls : List Call) (old new : List Connection) → i < length runs → r ≡ get_or runs i r → calls ≡ r.calls → old ≡ connections_of (take i runs) → new ≡ old ++ connections_of_calls r.key calls → new ≡ connections_of (take (i + 1) runs)
connections_more runs i r calls old new lt is same e f =
    f ∙ ap (λ (v : List Call). old ++ connections_of_calls r.key v) same ∙ ap (λ (v : List Connection). v ++ connections_of_calls r.key r.calls) e
    ∙ flat_map_more (λ (r : Run). connections_of_calls r.key r.calls) [] (take i runs) r
    ∙ ap (λ (v : Run). connections_of (take i runs ++ v ∷ [])) is ∙ ap connections_of (sym (take_more runs i r lt))

pub in_sequence_more : (runs : List Run) (i : ℕ) (r : Run) (calls : List Call) → i < length runs → r ≡ get_or runs i r → calls ≡ r.calls → InSequence calls → All (λ (r : Run). InSequence r.calls) (take i runs) → All (λ (r : Run). InSequence r.calls) (take (i + 1) runs)
in_sequence_more runs i r calls lt is same rise all =
    All-more (λ (r : Run). InSequence r.calls) runs i r lt all (subst (λ (v : Run). InSequence v.calls) is (subst InSequence same rise))
