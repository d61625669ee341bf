-- Calls whose moments are raised go forward.
use Rattle.std.proofs.Common.{◌≡◌, ℕ, suc, ◌<◌, ◌≤◌, max, List, [], ◌∷◌, sym, subst, arith}
use Rattle.std.specs.List.{All, AllPairs}
use Rattle.std.proofs.lemmas.List.Elements.{All-nil, All-cons, All-head, All-tail, All-weaker}
use Rattle.std.proofs.lemmas.List.Kept.{AllPairs-cons}
use Rattle.lc_model.specs.Call.{GoesForward}
use Rattle.lc_model.specs.declared.call.Call.{Call}
use Rattle.lc_model.specs.Versions.Live.{StatedCall, in_range, raised}

-- the sequence of a call as it is stated, which its moments do not change
abbrev pub seq_of : StatedCall → ℕ
seq_of stated = (stated.at 0 0).seq

-- the call is made at the moments that are stated of it, and its sequence does not depend on them
pub record KeepsTimes (stated : StatedCall) : Type 0 where
  pub arr : (a d : ℕ) → (stated.at a d).arr ≡ a
  pub dep : (a d : ℕ) → (stated.at a d).dep ≡ d
  pub seq : (a d : ℕ) → (stated.at a d).seq ≡ seq_of stated

pub AllPairs-nil : {X : Type 0} (R : X → X → Type 0) → AllPairs R []
AllPairs-nil R i j d lt inside = absurd (omega arith)

pub AllPairs-head : {X : Type 0} (R : X → X → Type 0) (x : X) (xs : List X) → AllPairs R (x ∷ xs) → All (R x) xs
AllPairs-head R x xs h k d inside = h 0 (suc k) d (omega arith) (omega arith)

pub AllPairs-tail : {X : Type 0} (R : X → X → Type 0) (x : X) (xs : List X) → AllPairs R (x ∷ xs) → AllPairs R xs
AllPairs-tail R x xs h i j d lt inside = h (suc i) (suc j) d (omega arith) (omega arith)

abbrev arr_of : ℕ → StatedCall → ℕ
arr_of before stated = max before (in_range stated.arr)

abbrev dep_of : ℕ → StatedCall → ℕ
dep_of before stated = max (arr_of before stated) (in_range stated.dep)

-- the first call, raised
abbrev first_of : ℕ → StatedCall → Call
first_of before stated = stated.at (arr_of before stated) (dep_of before stated)

-- no call arrives before the moment that comes before them all
above : (before : ℕ) (list : List StatedCall) → All KeepsTimes list → All (λ (c : Call). before ≤ c.arr) (raised before list)
above before [] keeps = All-nil (λ (c : Call). before ≤ c.arr)
above before (stated ∷ rest) keeps =
    let here = All-head KeepsTimes stated rest keeps in
    let is : (first_of before stated).arr ≡ arr_of before stated = here.arr (arr_of before stated) (dep_of before stated) in
    All-cons (λ (c : Call). before ≤ c.arr) (first_of before stated) (raised (dep_of before stated) rest) (omega (arith, is))
    (All-weaker (λ (c : Call). dep_of before stated ≤ c.arr) (λ (c : Call). before ≤ c.arr) (λ c le. omega (arith, le)) (raised (dep_of before stated) rest)
    (above (dep_of before stated) rest (All-tail KeepsTimes stated rest keeps)))

at_a_stop : (before : ℕ) (list : List StatedCall) → All KeepsTimes list → All (λ (c : Call). c.arr ≤ c.dep) (raised before list)
at_a_stop before [] keeps = All-nil (λ (c : Call). c.arr ≤ c.dep)
at_a_stop before (stated ∷ rest) keeps =
    let here = All-head KeepsTimes stated rest keeps in
    let is : (first_of before stated).arr ≡ arr_of before stated = here.arr (arr_of before stated) (dep_of before stated) in
    let then : (first_of before stated).dep ≡ dep_of before stated = here.dep (arr_of before stated) (dep_of before stated) in
    All-cons (λ (c : Call). c.arr ≤ c.dep) (first_of before stated) (raised (dep_of before stated) rest) (omega (arith, is, then))
    (at_a_stop (dep_of before stated) rest (All-tail KeepsTimes stated rest keeps))

along : (before : ℕ) (list : List StatedCall) → All KeepsTimes list → AllPairs (λ (x y : Call). x.dep ≤ y.arr) (raised before list)
along before [] keeps = AllPairs-nil (λ (x y : Call). x.dep ≤ y.arr)
along before (stated ∷ rest) keeps =
    let here = All-head KeepsTimes stated rest keeps in
    let then : (first_of before stated).dep ≡ dep_of before stated = here.dep (arr_of before stated) (dep_of before stated) in
    let later = All-tail KeepsTimes stated rest keeps in
    AllPairs-cons (λ (x y : Call). x.dep ≤ y.arr) (first_of before stated) (raised (dep_of before stated) rest)
    (All-weaker (λ (c : Call). dep_of before stated ≤ c.arr) (λ (c : Call). (first_of before stated).dep ≤ c.arr) (λ c le. omega (arith, le, then)) (raised (dep_of before stated) rest)
    (above (dep_of before stated) rest later))
    (along (dep_of before stated) rest later)

-- raising does not change the sequences
all_raised : (P : ℕ → Type 0) (before : ℕ) (list : List StatedCall) → All KeepsTimes list → All (λ (t : StatedCall). P (seq_of t)) list → All (λ (c : Call). P c.seq) (raised before list)
all_raised P before [] keeps all = All-nil (λ (c : Call). P c.seq)
all_raised P before (stated ∷ rest) keeps all =
    let here = All-head KeepsTimes stated rest keeps in
    All-cons (λ (c : Call). P c.seq) (first_of before stated) (raised (dep_of before stated) rest)
    (subst P (sym (here.seq (arr_of before stated) (dep_of before stated))) (All-head (λ (t : StatedCall). P (seq_of t)) stated rest all))
    (all_raised P (dep_of before stated) rest (All-tail KeepsTimes stated rest keeps) (All-tail (λ (t : StatedCall). P (seq_of t)) stated rest all))

-- the sequences of calls as they are stated increase
abbrev pub RiseInStated : List StatedCall → Type 0
RiseInStated list = AllPairs (λ (x y : StatedCall). seq_of x < seq_of y) list

in_sequence : (before : ℕ) (list : List StatedCall) → All KeepsTimes list → RiseInStated list → AllPairs (λ (x y : Call). x.seq < y.seq) (raised before list)
in_sequence before [] keeps rise = AllPairs-nil (λ (x y : Call). x.seq < y.seq)
in_sequence before (stated ∷ rest) keeps rise =
    let here = All-head KeepsTimes stated rest keeps in
    let is : (first_of before stated).seq ≡ seq_of stated = here.seq (arr_of before stated) (dep_of before stated) in
    let later = All-tail KeepsTimes stated rest keeps in
    AllPairs-cons (λ (x y : Call). x.seq < y.seq) (first_of before stated) (raised (dep_of before stated) rest)
    (all_raised (λ n. (first_of before stated).seq < n) (dep_of before stated) rest later
    (All-weaker (λ (t : StatedCall). seq_of stated < seq_of t) (λ (t : StatedCall). (first_of before stated).seq < seq_of t) (λ t lt. omega (arith, lt, is)) rest
    (AllPairs-head (λ (x y : StatedCall). seq_of x < seq_of y) stated rest rise)))
    (in_sequence (dep_of before stated) rest later (AllPairs-tail (λ (x y : StatedCall). seq_of x < seq_of y) stated rest rise))

pub raised_go_forward : (before : ℕ) (list : List StatedCall) → All KeepsTimes list → RiseInStated list → GoesForward (raised before list)
raised_go_forward before list keeps rise = record {
  in_sequence = in_sequence before list keeps rise;
  at_a_stop = at_a_stop before list keeps;
  along = along before list keeps;
}
