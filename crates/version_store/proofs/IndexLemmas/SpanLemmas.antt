-- Which versions a state holds in once it ends or begins, and a list in which one state is another one.
use Rattle.std.proofs.Common.{◌≡◌, ℕ, zero, suc, ◌<◌, ◌≤◌, List, [], ◌∷◌, set, map, Bool, true, false, cond, Option, Some, None, refl, sym, ap, ◌∙◌, arith}
use Rattle.std.specs.Prelude.{◌&&◌, nat_le, nat_lt}
use Rattle.std.specs.List.{filter, slice_get}
use Rattle.std.specs.Option.{ForSome}
use Rattle.std.proofs.lemmas.Bool.{and_parts}
use Rattle.std.proofs.lemmas.Bool.Decides.{nat_tests}
use Rattle.lc_model.specs.declared.run.Run.{Run}
use Rattle.lc_model.specs.Versions.Pages.{is_before}
use Rattle.version_store.specs.Index.Inside.{IsPast}
use Rattle.version_store.specs.Index.Spans.{held, holds, run_of}
use Rattle.version_store.specs.Index.Turns.{begun, closed_state, ended}
use Rattle.version_store.specs.declared.index.state.State.{State}

-- ---- one item of a list is another one

pub get_set_here : {X : Type 0} (xs : List X) (i : ℕ) (x y : X) → slice_get xs i ≡ Some x → slice_get (set xs i y) i ≡ Some y
get_set_here [] i x y e = absurd (cc)
get_set_here (z ∷ xs) zero x y e = refl
get_set_here (z ∷ xs) (suc i) x y e = get_set_here xs i x y e

pub get_set_other : {X : Type 0} (xs : List X) (i j : ℕ) (y : X) → (i ≡ j → ⊥) → slice_get (set xs i y) j ≡ slice_get xs j
get_set_other [] i j y apart = refl
get_set_other (z ∷ xs) zero zero y apart = absurd (apart refl)
get_set_other (z ∷ xs) zero (suc j) y apart = refl
get_set_other (z ∷ xs) (suc i) zero y apart = refl
get_set_other (z ∷ xs) (suc i) (suc j) y apart = get_set_other xs i j y (λ e. apart (ap suc e))

held_one : (version : ℕ) (x y : State) (xs : List State) (b : Bool) → run_of y ≡ run_of x
    → map run_of (cond b (y ∷ filter (holds version) xs) (filter (holds version) xs)) ≡ map run_of (cond b (x ∷ filter (holds version) xs) (filter (holds version) xs))
held_one version x y xs true e = ap (λ (r : Run). r ∷ map run_of (filter (holds version) xs)) e
held_one version x y xs false e = refl

held_cons : (version : ℕ) (x : State) (b : Bool) (xs ys : List State) → held version xs ≡ held version ys
    → map run_of (cond b (x ∷ filter (holds version) xs) (filter (holds version) xs)) ≡ map run_of (cond b (x ∷ filter (holds version) ys) (filter (holds version) ys))
held_cons version x true xs ys e = ap (λ (v : List Run). run_of x ∷ v) e
held_cons version x false xs ys e = e

-- a version in which the other state holds as the one does has the same runs
pub held_set : (version : ℕ) (xs : List State) (i : ℕ) (x y : State) → slice_get xs i ≡ Some x → run_of y ≡ run_of x → holds version y ≡ holds version x → held version (set xs i y) ≡ held version xs
held_set version [] i x y at e same = absurd (cc)
held_set version (z ∷ xs) zero x y at e same =
    let is : z ≡ x = cc in
    ap (λ (b : Bool). map run_of (cond b (y ∷ filter (holds version) xs) (filter (holds version) xs))) (same ∙ ap (holds version) (sym is))
    ∙ held_one version z y xs (holds version z) (e ∙ ap run_of (sym is))
held_set version (z ∷ xs) (suc i) x y at e same = held_cons version z (holds version z) (set xs i y) xs (held_set version xs i x y at e same)

-- ---- the versions of a state

at_or_after : (begin end : ℕ) → (nat_le begin end && nat_lt end end) ≡ true → ⊥
at_or_after begin end e = grind (arith, nat_tests, e)

-- a state that ends at a version does not hold in it
pub ended_gone : (next : ℕ) (s : State) → holds next (ended next s) ≡ true → ⊥
ended_gone next s e = at_or_after s.begin next e

before_end : (version next : ℕ) (end : Option ℕ) → is_before end next ≡ true → version < next → is_before end version ≡ true
before_end version next None e under = refl
before_end version next (Some end) e under = grind (arith, nat_tests, e, under)

lower : (version next : ℕ) → version < next → nat_lt version next ≡ true
lower version next under = grind (arith, nat_tests)

is_lower : (version next : ℕ) → nat_lt version next ≡ true → version < next
is_lower version next e = grind (arith, nat_tests, e)

-- before that it holds where it held
pub ended_before : (version next : ℕ) (s : State) → version < next → holds next s ≡ true → holds version (ended next s) ≡ holds version s
ended_before version next s under here =
    let parts = and_parts (nat_le s.begin next) (is_before s.end next) here in
    ap (λ (b : Bool). nat_le s.begin version && b) (lower version next under ∙ sym (before_end version next s.end parts.1 under))

-- where it holds it held
pub ended_held : (version next : ℕ) (s : State) → holds next s ≡ true → holds version (ended next s) ≡ true → holds version s ≡ true
ended_held version next s here e =
    let parts = and_parts (nat_le s.begin version) (nat_lt version next) e in
    sym (ended_before version next s (is_lower version next parts.1) here) ∙ e

-- a run that has not begun holds in no version
pub closed_gone : (version : ℕ) (run : Run) → holds version (closed_state run) ≡ false
closed_gone version run = grind (arith, nat_tests)

pub begun_here : (next : ℕ) (s : State) → holds next (begun next s) ≡ true
begun_here next s = grind (arith, nat_tests)

-- a state that begins at a version does not hold before it
pub begun_before : (version next : ℕ) (s : State) → version < next → holds version (begun next s) ≡ false
begun_before version next s under = grind (arith, nat_tests)

pub begun_from : (version next : ℕ) (s : State) → holds version (begun next s) ≡ true → next ≤ version
begun_from version next s e = grind (arith, nat_tests, e)

never_past : (next version : ℕ) (end : Option ℕ) → ForSome end (λ e. e ≤ next) → next ≤ version → is_before end version ≡ true → is_before end next ≡ true
never_past next version None low after e = refl
never_past next version (Some end) low after e = absurd (omega (arith, is_lower version end e, low end refl, after))

begins_by : (begin next : ℕ) → begin ≤ next → nat_le begin next ≡ true
begins_by begin next low = grind (arith, nat_tests)

-- what holds after the newest version holds in it
pub steady : (next version : ℕ) (s : State) → IsPast next s → next ≤ version → holds version s ≡ true → holds next s ≡ true
steady next version s past after e =
    let parts = and_parts (nat_le s.begin version) (is_before s.end version) e in
    let begins = begins_by s.begin next past.begins in
    let ends = never_past next version s.end past.ends after parts.1 in
    ap (λ (b : Bool). b && is_before s.end next) begins ∙ ends

holds_later : (next version : ℕ) (end : Option ℕ) → ForSome end (λ e. e ≤ next) → next ≤ version → is_before end next ≡ true → is_before end version ≡ true
holds_later next version None low after e = refl
holds_later next version (Some end) low after e = absurd (omega (arith, is_lower next end e, low end refl))

stays_begun : (begin next version : ℕ) → nat_le begin next ≡ true → next ≤ version → nat_le begin version ≡ true
stays_begun begin next version e after = grind (arith, nat_tests, e, after)

-- what holds in the newest version holds after it
pub stays : (next version : ℕ) (s : State) → IsPast next s → next ≤ version → holds next s ≡ true → holds version s ≡ true
stays next version s past after e =
    let parts = and_parts (nat_le s.begin next) (is_before s.end next) e in
    ap (λ (b : Bool). b && is_before s.end version) (stays_begun s.begin next version parts.0 after) ∙ holds_later next version s.end past.ends after parts.1

pub past_ended : (next : ℕ) (s : State) → IsPast next s → IsPast next (ended next s)
past_ended next s past = record { begins = past.begins; ends = λ end e. let at : next ≡ end = cc in omega (arith, at) }

pub past_begun : (next : ℕ) (s : State) → IsPast next (begun next s)
past_begun next s = record { begins = omega arith; ends = λ end e. absurd (cc) }

pub past_closed : (next : ℕ) (run : Run) → IsPast next (closed_state run)
past_closed next run = record { begins = omega arith; ends = λ end e. let at : 0 ≡ end = cc in omega (arith, at) }

pub past_later : (next : ℕ) (s : State) → IsPast next s → IsPast (suc next) s
past_later next s past = record { begins = omega (arith, past.begins); ends = λ end e. omega (arith, past.ends end e) }
