-- The arguments of a line, as `clap` finds them.
use Rattle.std.proofs.Common.{◌≡◌, ◌∙◌, ◌≢◌, ℕ, ◌+◌, ◌≤◌, ◌==◌, ◌||◌, ◌&&◌, not, min, Bool, true, false, List, [], ◌∷◌, ◌++◌, map, length, Some, None, ap, refl, subst, sym, arith, append_assoc}
use Rattle.std.specs.Prelude.{find, is_some}
use Rattle.std.specs.Option.{option_map_or, option_or}
use Rattle.std.specs.Str.{bytes_eq}
use Rattle.std.proofs.lemmas.Bool.{false≢true, ne_eqb}
use Rattle.std.proofs.lemmas.Bool.Decides.{nat_tests}
use Rattle.std.proofs.lemmas.List.Folds.{find-append, list_any-append}
use Rattle.std.proofs.lemmas.Slice.Eq.{bytes_eq-Decides}
use Rattle.clap.specs.Lexer.{usize_max}
use Rattle.clap.specs.Simple.{filled_from}
use Rattle.clap.specs.Walk.{Rule, Text, has_long, has_short, arg_by_id, arg_by_index, arg_by_long, arg_by_short}
use Rattle.cli_words.specs.Grammar.{are_apart, is_among}
use Rattle.cli_words.specs.Line.{flagged, named, placed}
use Rattle.cli_words.proofs.TestLemmas.{left_false, right_false, left_true, right_true, not_false, or_true}
use Rattle.cli_words.proofs.StepLemmas.{flag_rule, option_rule, place_rule, same_text}

-- places, numbered from i on
abbrev pub numbered : ℕ → List Text → List Rule
numbered i [] = []
numbered i (place ∷ places) = place_rule i place ∷ numbered (min (i + 1) usize_max) places

-- the arguments of a line, as `clap` builds them
abbrev pub rules_of : List Text → List Text → List Text → List Rule
rules_of places options flags = numbered 1 places ++ (map option_rule options ++ map flag_rule flags)

filled_flags : (i : ℕ) (flags : List Text) → filled_from i (map flagged flags) ≡ map flag_rule flags
filled_flags i [] = refl
filled_flags i (f ∷ fs) = ap (λ rest. flag_rule f ∷ rest) (filled_flags i fs)

filled_options : (i : ℕ) (options flags : List Text) → filled_from i (map named options ++ map flagged flags) ≡ map option_rule options ++ map flag_rule flags
filled_options i [] flags = filled_flags i flags
filled_options i (o ∷ os) flags = ap (λ rest. option_rule o ∷ rest) (filled_options i os flags)

filled_places : (i : ℕ) (places options flags : List Text)
    → filled_from i (map placed places ++ (map named options ++ map flagged flags)) ≡ numbered i places ++ (map option_rule options ++ map flag_rule flags)
filled_places i [] options flags = filled_options i options flags
filled_places i (p ∷ ps) options flags = ap (λ rest. place_rule i p ∷ rest) (filled_places (min (i + 1) usize_max) ps options flags)

pub built_rules : (places options flags : List Text) → filled_from 1 (map placed places ++ map named options ++ map flagged flags) ≡ rules_of places options flags
built_rules places options flags = ap (filled_from 1) (append_assoc (map placed places) (map named options) (map flagged flags)) ∙ filled_places 1 places options flags

-- ---- names

-- a name that is none of these is neither the first nor one of the rest
pub neither : (x : Text) (xs : List Text) (q : Text) → is_among (x ∷ xs) q ≡ false → (bytes_eq x q ≡ false) × (is_among xs q ≡ false)
neither x xs q e = (left_false (bytes_eq x q) (is_among xs q) e, right_false (bytes_eq x q) (is_among xs q) e)

-- a name that is none of these is not one of them
pub other : (names : List Text) (n q : Text) → is_among names n ≡ false → is_among names q ≡ true → bytes_eq n q ≡ false
other names n q absent there = by (bytes_eq n q) refl
  where
    by : (t : Bool) → bytes_eq n q ≡ t → bytes_eq n q ≡ false
    by false t = t
    by true t =
        let e : n ≡ q = (bytes_eq-Decides n q).0 t in
        absurd (false≢true (sym absent ∙ ap (is_among names) e ∙ there))

-- what is one of these names is the first or one of the rest
pub first_or_rest : {R : Type 0} (x : Text) (xs : List Text) (q : Text) → is_among (x ∷ xs) q ≡ true → (x ≡ q → R) → (is_among xs q ≡ true → R) → R
first_or_rest {R} x xs q h first rest = by (bytes_eq x q) refl h
  where
    by : (t : Bool) → bytes_eq x q ≡ t → (t || is_among xs q) ≡ true → R
    by true t h = first ((bytes_eq-Decides x q).0 t)
    by false t h = rest h

pub names_apart : (xs ys : List Text) → are_apart (xs ++ ys) ≡ true
    → (are_apart xs ≡ true) × (are_apart ys ≡ true) × ((q : Text) → is_among xs q ≡ true → is_among ys q ≡ false)
names_apart [] ys e = (refl, e, λ q h. absurd (false≢true h))
names_apart (x ∷ xs) ys e =
    let rest = names_apart xs ys (right_true _ _ e) in
    let n : is_among (xs ++ ys) x ≡ false = not_false _ (left_true _ _ e) in
    let parts : (is_among xs x || is_among ys x) ≡ false = sym (list_any-append (λ n. bytes_eq n x) xs ys) ∙ n in (
      rw (left_false (is_among xs x) (is_among ys x) parts, rest.0) refl,
      rest.1,
      λ q h. first_or_rest {R = is_among ys q ≡ false} x xs q h (λ e. ap (is_among ys) (sym e) ∙ right_false _ _ parts) (rest.2 q),
    )

-- ---- what is found by its long name and by its id

abbrev by_long : Text → Rule → Bool
by_long n a = not (is_some a.index) && has_long a n

abbrev by_id : Text → Rule → Bool
by_id n a = bytes_eq a.id n

abbrev by_short : ℕ → Rule → Bool
by_short x a = not (is_some a.index) && has_short a x

abbrev by_index : ℕ → Rule → Bool
by_index i a = option_map_or (λ k. k == i) a.index false

no_place_long : (n : Text) (i : ℕ) (places : List Text) → find (by_long n) (numbered i places) ≡ None
no_place_long n i [] = refl
no_place_long n i (p ∷ ps) = no_place_long n (min (i + 1) usize_max) ps

no_place_id : (n : Text) (i : ℕ) (places : List Text) → is_among places n ≡ false → find (by_id n) (numbered i places) ≡ None
no_place_id n i [] e = refl
no_place_id n i (p ∷ ps) e =
    let b = neither p ps n e in
    rw b.0 (no_place_id n (min (i + 1) usize_max) ps b.1)

option_long : (n : Text) (options : List Text) → is_among options n ≡ true → find (by_long n) (map option_rule options) ≡ Some (option_rule n)
option_long n [] e = absurd (false≢true e)
option_long n (o ∷ os) e = by (bytes_eq o n) refl e (option_long n os)
  where
    by : (t : Bool) → bytes_eq o n ≡ t → (t || is_among os n) ≡ true → (is_among os n ≡ true → find (by_long n) (map option_rule os) ≡ Some (option_rule n))
        → find (by_long n) (map option_rule (o ∷ os)) ≡ Some (option_rule n)
    by true t e rest = rw ((bytes_eq-Decides o n).0 t) (simp (same_text n))
    by false t e rest = simp t (rest e)

no_option_long : (n : Text) (options : List Text) → is_among options n ≡ false → find (by_long n) (map option_rule options) ≡ None
no_option_long n [] e = refl
no_option_long n (o ∷ os) e =
    let b = neither o os n e in
    simp b.0 (no_option_long n os b.1)

option_id : (n : Text) (options : List Text) → is_among options n ≡ true → find (by_id n) (map option_rule options) ≡ Some (option_rule n)
option_id n [] e = absurd (false≢true e)
option_id n (o ∷ os) e = by (bytes_eq o n) refl e (option_id n os)
  where
    by : (t : Bool) → bytes_eq o n ≡ t → (t || is_among os n) ≡ true → (is_among os n ≡ true → find (by_id n) (map option_rule os) ≡ Some (option_rule n))
        → find (by_id n) (map option_rule (o ∷ os)) ≡ Some (option_rule n)
    by true t e rest = rw ((bytes_eq-Decides o n).0 t) (simp (same_text n))
    by false t e rest = simp t (rest e)

flag_long : (n : Text) (flags : List Text) → is_among flags n ≡ true → find (by_long n) (map flag_rule flags) ≡ Some (flag_rule n)
flag_long n [] e = absurd (false≢true e)
flag_long n (f ∷ fs) e = by (bytes_eq f n) refl e (flag_long n fs)
  where
    by : (t : Bool) → bytes_eq f n ≡ t → (t || is_among fs n) ≡ true → (is_among fs n ≡ true → find (by_long n) (map flag_rule fs) ≡ Some (flag_rule n))
        → find (by_long n) (map flag_rule (f ∷ fs)) ≡ Some (flag_rule n)
    by true t e rest = rw ((bytes_eq-Decides f n).0 t) (simp (same_text n))
    by false t e rest = simp t (rest e)

no_flag_long : (n : Text) (flags : List Text) → is_among flags n ≡ false → find (by_long n) (map flag_rule flags) ≡ None
no_flag_long n [] e = refl
no_flag_long n (f ∷ fs) e =
    let b = neither f fs n e in
    simp b.0 (no_flag_long n fs b.1)

no_place_short : (x i : ℕ) (places : List Text) → find (by_short x) (numbered i places) ≡ None
no_place_short x i [] = refl
no_place_short x i (p ∷ ps) = no_place_short x (min (i + 1) usize_max) ps

no_option_short : (x : ℕ) (options flags : List Text) → find (by_short x) (map option_rule options ++ map flag_rule flags) ≡ None
no_option_short x [] [] = refl
no_option_short x [] (f ∷ fs) = no_option_short x [] fs
no_option_short x (o ∷ os) flags = no_option_short x os flags

no_option_index : (i : ℕ) (options flags : List Text) → find (by_index i) (map option_rule options ++ map flag_rule flags) ≡ None
no_option_index x [] [] = refl
no_option_index x [] (f ∷ fs) = no_option_index x [] fs
no_option_index x (o ∷ os) flags = no_option_index x os flags

-- ---- the same of all the arguments

-- the places from i on are found so
abbrev pub HasPlaces : List Rule → ℕ → List Text → Type 0
HasPlaces c i [] = arg_by_index c i ≡ None
HasPlaces c i (place ∷ places) = (arg_by_index c i ≡ Some (place_rule i place)) × (arg_by_id c place ≡ Some (place_rule i place))
    × HasPlaces c (min (i + 1) usize_max) places

-- options are found so
pub record HasOptions (c : List Rule) (options flags : List Text) : Type 0 where
  pub option_long : (n : Text) → is_among options n ≡ true → arg_by_long c n ≡ Some (option_rule n)
  pub option_id : (n : Text) → is_among options n ≡ true → arg_by_id c n ≡ Some (option_rule n)
  pub flag_long : (n : Text) → is_among flags n ≡ true → arg_by_long c n ≡ Some (flag_rule n)
  pub none_long : (n : Text) → is_among options n ≡ false → is_among flags n ≡ false → arg_by_long c n ≡ None
  pub none_short : (x : ℕ) → arg_by_short c x ≡ None

in_two : {X : Type 0} (p : X → Bool) (xs ys : List X) → find p xs ≡ None → find p (xs ++ ys) ≡ find p ys
in_two p xs ys e = find-append p xs ys ∙ ap (λ first. option_or first (find p ys)) e

in_first : {X : Type 0} (p : X → Bool) (xs ys : List X) (x : X) → find p xs ≡ Some x → find p (xs ++ ys) ≡ Some x
in_first p xs ys x e = find-append p xs ys ∙ ap (λ first. option_or first (find p ys)) e

pub has_options : (places options flags : List Text) → ((q : Text) → is_among places q ≡ true → is_among options q ≡ false)
    → ((q : Text) → is_among options q ≡ true → is_among flags q ≡ false) → HasOptions (rules_of places options flags) options flags
has_options places options flags no_place no_flag = record {
  option_long = λ n e. in_two (by_long n) (numbered 1 places) _ (no_place_long n 1 places) ∙ in_first (by_long n) (map option_rule options) _ _ (option_long n options e);
  option_id = λ n e. in_two (by_id n) (numbered 1 places) _ (no_place_id n 1 places (absent n e)) ∙ in_first (by_id n) (map option_rule options) _ _ (option_id n options e);
  flag_long = λ n e. in_two (by_long n) (numbered 1 places) _ (no_place_long n 1 places) ∙ in_two (by_long n) (map option_rule options) _ (no_option_long n options (no_option n e)) ∙ flag_long n flags e;
  none_long = λ n e f. in_two (by_long n) (numbered 1 places) _ (no_place_long n 1 places) ∙ in_two (by_long n) (map option_rule options) _ (no_option_long n options e) ∙ no_flag_long n flags f;
  none_short = λ x. in_two (by_short x) (numbered 1 places) _ (no_place_short x 1 places) ∙ no_option_short x options flags;
}
  where
    by : (a b : Bool) → (a ≡ true → b ≡ false) → b ≡ true → a ≡ false
    by true b f e = absurd (false≢true (sym (f refl) ∙ e))
    by false b f e = refl

    absent : (n : Text) → is_among options n ≡ true → is_among places n ≡ false
    absent n e = by (is_among places n) (is_among options n) (no_place n) e

    no_option : (n : Text) → is_among flags n ≡ true → is_among options n ≡ false
    no_option n e = by (is_among options n) (is_among flags n) (no_flag n) e

-- none of these has place i or a later one
abbrev Below : ℕ → List Rule → Type 0
Below i front = (k : ℕ) → i ≤ k → find (by_index k) front ≡ None

later : (i : ℕ) (front : List Rule) (place : Text) → Below i front → Below (i + 1) (front ++ place_rule i place ∷ [])
later i front place below k le =
    let ne : i ≢ k = omega arith in
    let differs : (i == k) ≡ false = ne_eqb i k ne in
    in_two (by_index k) front _ (below k (omega arith)) ∙ simp differs

has_places_after : (front : List Rule) (i : ℕ) (places : List Text) (options flags : List Text) → i + length places ≤ usize_max → Below i front
    → are_apart places ≡ true → ((q : Text) → is_among places q ≡ true → find (by_id q) front ≡ None)
    → HasPlaces (front ++ (numbered i places ++ (map option_rule options ++ map flag_rule flags))) i places
has_places_after front i [] options flags fit below apart new = in_two (by_index i) front _ (below i (omega arith)) ∙ no_option_index i options flags
has_places_after front i (p ∷ ps) options flags fit below apart new =
    let tail : List Rule = numbered (min (i + 1) usize_max) ps ++ (map option_rule options ++ map flag_rule flags) in
    let here : i ≤ i = omega arith in
    let same : (i == i) ≡ true = grind (arith, nat_tests) in
    let next : min (i + 1) usize_max ≡ i + 1 = omega arith in
    let fit' : (i + 1) + length ps ≤ usize_max = omega arith in
    let rest = has_places_after (front ++ place_rule i p ∷ []) (i + 1) ps options flags fit' (later i front p below) (right_true _ _ apart)
    (λ q e. in_two (by_id q) front _ (new q (old q e)) ∙ simp (differs q e)) in (
      in_two (by_index i) front (place_rule i p ∷ tail) (below i here) ∙ simp same,
      in_two (by_id p) front (place_rule i p ∷ tail) (new p (simp (same_text p))) ∙ simp (same_text p),
      subst (λ (j : ℕ). HasPlaces (front ++ (place_rule i p ∷ (numbered j ps ++ options_of))) j ps) (sym next)
          (subst (λ (c : List Rule). HasPlaces c (i + 1) ps) (append_assoc front (place_rule i p ∷ []) (numbered (i + 1) ps ++ options_of)) rest),
    )
  where
    options_of : List Rule
    options_of = map option_rule options ++ map flag_rule flags

    differs : (q : Text) → is_among ps q ≡ true → bytes_eq p q ≡ false
    differs q e = other ps p q (not_false _ (left_true _ _ apart)) e

    old : (q : Text) → is_among ps q ≡ true → is_among (p ∷ ps) q ≡ true
    old q e = ap (λ (b : Bool). bytes_eq p q || b) e ∙ or_true (bytes_eq p q)

pub has_places : (places options flags : List Text) → 1 + length places ≤ usize_max → are_apart places ≡ true → HasPlaces (rules_of places options flags) 1 places
has_places places options flags fit apart = has_places_after [] 1 places options flags fit (λ k le. refl) apart (λ q e. refl)
