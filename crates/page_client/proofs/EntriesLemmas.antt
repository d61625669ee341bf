-- Entries that are cached by keys of their values, seen as the list of the values.
use Rattle.std.proofs.Common.{◌≡◌, ◌⊎◌, inl, inr, ℕ, zero, suc, ◌+◌, ◌-◌, ◌<◌, ◌≤◌, Bool, true, false, cond, not, List, [], ◌∷◌, length, map, take, Option, Some, None, Contains, refl, sym, ap, ◌∙◌, arith}
use Rattle.std.specs.List.{All, AllByRecursion, IsDistinct, filter, find}
use Rattle.std.specs.Option.{option_map, option_map_or}
use Rattle.std.specs.Map.{IsKeyTest, keys_of, lookup, lookup_entry, remove_entry}
use Rattle.std.proofs.lemmas.List.Elements.{All-contains, All-head, All-tail}
use Rattle.std.proofs.lemmas.List.{take-map}
use Rattle.std.proofs.Math.Seq.{take-length}
use Rattle.lc_model.proofs.ListLemmas.{All-from_contains}
use Rattle.lru.specs.LruCache.{LruCache, promoted, put_entries}
use Rattle.lru.proofs.CallerLemmas.{Contains-promoted, Contains-put_entries, IsPut}

module _ {K X : Type 0} (key : X → K) where
  -- each value is cached by its key
  abbrev pub IsKeyed : K × X → Type 0
  IsKeyed e = e.0 ≡ key e.1

  abbrev pub AreKept : List (K × X) → Type 0
  AreKept es = All IsKeyed es

  abbrev pub values : List (K × X) → List X
  values es = map (λ (e : K × X). e.1) es

  module _ (test : K → Bool) (p : X → Bool) (agree : (x : X) → test (key x) ≡ p x) where
    at_entry : (e : K × X) → e.0 ≡ key e.1 → test e.0 ≡ p e.1
    at_entry e h = ap test h ∙ agree e.1

    pub lookup_entry-find : (es : List (K × X)) → AreKept es → option_map (λ (e : K × X). e.1) (lookup_entry test es) ≡ find p (values es)
    lookup_entry-find [] h = refl
    lookup_entry-find (e ∷ es) h =
        let same = at_entry e (All-head IsKeyed e es h) in
        rw (← same) ((elim (test e.0) as (λ v. option_map (λ (e : K × X). e.1) (cond v (Some e) (lookup_entry test es)) ≡ cond v (Some e.1) (find p (values es))) [
          | true ↦ refl
          | false ↦ lookup_entry-find es (All-tail IsKeyed e es h)
        ]))

    pub lookup-find : (es : List (K × X)) → AreKept es → lookup test es ≡ find p (values es)
    lookup-find [] h = refl
    lookup-find (e ∷ es) h =
        let same = at_entry e (All-head IsKeyed e es h) in
        rw (← same) ((elim (test e.0) as (λ v. cond v (Some e.1) (lookup test es) ≡ cond v (Some e.1) (find p (values es))) [
          | true ↦ refl
          | false ↦ lookup-find es (All-tail IsKeyed e es h)
        ]))

    -- none of the others has the key that passes
    filter-others : (eq : K → K → Bool) → IsKeyTest eq test → (k : K) → test k ≡ true → (es : List (K × X)) → AreKept es
        → AllByRecursion (λ (j : K). eq k j ≡ false) (keys_of es) → filter (λ (x : X). not (p x)) (values es) ≡ values es
    filter-others eq laws k passes [] h apart = refl
    filter-others eq laws k passes (e ∷ es) h apart =
        let off : p e.1 ≡ false = sym (at_entry e (All-head IsKeyed e es h)) ∙ laws k e.0 passes ∙ apart.0 in
        rw off (ap (λ (xs : List X). e.1 ∷ xs) (filter-others eq laws k passes es (All-tail IsKeyed e es h) apart.1))

    pub values-remove_entry : (eq : K → K → Bool) → IsKeyTest eq test → (es : List (K × X)) → AreKept es → IsDistinct eq (keys_of es)
        → values (remove_entry test es) ≡ filter (λ (x : X). not (p x)) (values es)
    unfolding IsDistinct
    values-remove_entry eq laws [] h apart = refl
    values-remove_entry eq laws (e ∷ es) h apart =
        let same = at_entry e (All-head IsKeyed e es h) in
        rw (← same) ((elim (test e.0) as (λ v. test e.0 ≡ v → values (cond v es (e ∷ remove_entry test es)) ≡ cond (not v) (e.1 ∷ filter (λ (x : X). not (p x)) (values es)) (filter (λ (x : X). not (p x)) (values es))) [
          | true ↦ λ passes. sym (filter-others eq laws e.0 passes es (All-tail IsKeyed e es h) apart.0)
          | false ↦ λ _. ap (λ (xs : List X). e.1 ∷ xs) (values-remove_entry eq laws es (All-tail IsKeyed e es h) apart.1)
        ]) refl)

    to_front : (es gone : List (K × X)) (o : Option (K × X))
        → values (option_map_or (λ (e : K × X). e ∷ gone) o es) ≡ option_map_or (λ (x : X). x ∷ values gone) (option_map (λ (e : K × X). e.1) o) (values es)
    to_front es gone None = refl
    to_front es gone (Some e) = refl

    pub values-promoted : (eq : K → K → Bool) → IsKeyTest eq test → (es : List (K × X)) → AreKept es → IsDistinct eq (keys_of es)
        → values (promoted test es) ≡ option_map_or (λ (x : X). x ∷ filter (λ (x : X). not (p x)) (values es)) (find p (values es)) (values es)
    values-promoted eq laws es h apart =
        rw (← values-remove_entry eq laws es h apart, ← lookup_entry-find es h) (to_front es (remove_entry test es) (lookup_entry test es))

    pub AreKept-promoted : (es : List (K × X)) → AreKept es → AreKept (promoted test es)
    AreKept-promoted es h = All-from_contains IsKeyed (promoted test es) (λ e c. All-contains IsKeyed es e h (Contains-promoted test es e c))

    -- where no key passes the values stay
    filter-none : (es : List (K × X)) → AreKept es → lookup_entry test es ≡ None → filter (λ (x : X). not (p x)) (values es) ≡ values es
    filter-none [] h none = refl
    filter-none (e ∷ es) h none =
        let same = at_entry e (All-head IsKeyed e es h) in
        rw (← same) ((elim (test e.0) as (λ v. cond v (Some e) (lookup_entry test es) ≡ None → cond (not v) (e.1 ∷ filter (λ (x : X). not (p x)) (values es)) (filter (λ (x : X). not (p x)) (values es)) ≡ e.1 ∷ values es) [
          | true ↦ λ no. cc
          | false ↦ λ no. ap (λ (xs : List X). e.1 ∷ xs) (filter-none es (All-tail IsKeyed e es h) no)
        ]) none)

    length-remove_entry : (es : List (K × X)) (e : K × X) → lookup_entry test es ≡ Some e → length (remove_entry test es) + 1 ≡ length es
    length-remove_entry [] e found = cc
    length-remove_entry (f ∷ es) e found = (elim (test f.0) as (λ v. cond v (Some f) (lookup_entry test es) ≡ Some e → length (cond v es (f ∷ remove_entry test es)) + 1 ≡ length (f ∷ es)) [
      | true ↦ λ _. omega arith
      | false ↦ λ on. omega (arith, length-remove_entry es e on)
    ]) found

  take-all : (n : ℕ) (xs : List X) → length xs ≤ n → take n xs ≡ xs
  take-all zero [] h = refl
  take-all zero (x ∷ xs) h = absurd (omega arith)
  take-all (suc n) [] h = refl
  take-all (suc n) (x ∷ xs) h = ap (λ (ys : List X). x ∷ ys) (take-all n xs (omega arith))

  pub length-values : (es : List (K × X)) → length (values es) ≡ length es
  length-values [] = refl
  length-values (e ∷ es) = ap suc (length-values es)

  take-front : (n : ℕ) (x : X) (xs : List X) → 0 < n → take n (x ∷ xs) ≡ x ∷ take (n - 1) xs
  take-front zero x xs h = absurd (omega arith)
  take-front (suc n) x xs h = let e : suc n - 1 ≡ n = omega arith in rw e refl

  module _ (eq : K → K → Bool) (c : LruCache K X) (k : K) (x : X) (p : X → Bool) (agree : (y : X) → eq k (key y) ≡ p y) (laws : IsKeyTest eq (eq k)) where
    after_put : AreKept c.entries → IsDistinct eq (keys_of c.entries) → length c.entries ≤ c.cap → 0 < c.cap → (o : Option (K × X)) → lookup_entry (eq k) c.entries ≡ o
        → values (option_map_or (λ (e : K × X). (e.0, x) ∷ remove_entry (eq k) c.entries) o ((k, x) ∷ take (c.cap - 1) c.entries)) ≡ take c.cap (x ∷ filter (λ (y : X). not (p y)) (values c.entries))
    after_put h apart fits some None none =
        rw (filter-none (eq k) p agree c.entries h none, take-front c.cap x (values c.entries) some) (ap (λ (xs : List X). x ∷ xs) (sym (take-map _ (c.cap - 1) c.entries)))
    after_put h apart fits some (Some e) found =
        let removed = values-remove_entry (eq k) p agree eq laws c.entries h apart in
        let long = length-remove_entry (eq k) p agree c.entries e found in
        let short : length (x ∷ values (remove_entry (eq k) c.entries)) ≤ c.cap = omega (arith, length-values (remove_entry (eq k) c.entries)) in
        rw (← removed) (sym (take-all c.cap (x ∷ values (remove_entry (eq k) c.entries)) short))

    pub values-put_entries : AreKept c.entries → IsDistinct eq (keys_of c.entries) → length c.entries ≤ c.cap → 0 < c.cap
        → values (put_entries eq c k x) ≡ take c.cap (x ∷ filter (λ (y : X). not (p y)) (values c.entries))
    values-put_entries h apart fits some = after_put h apart fits some (lookup_entry (eq k) c.entries) refl

  -- a value that is put by its key is cached by it
  pub AreKept-put_entries : (eq : K → K → Bool) → ((j k : K) → eq j k ≡ true → j ≡ k) → (c : LruCache K X) (k : K) (x : X) → key x ≡ k → AreKept c.entries
      → AreKept (put_entries eq c k x)
  AreKept-put_entries eq same c k x named h = All-from_contains IsKeyed (put_entries eq c k x) (λ e within. elim (Contains-put_entries eq c k x e within) [
    | inl was ↦ All-contains IsKeyed c.entries e h was
    | inr (is, inl first) ↦ first ∙ sym named ∙ ap key (sym is)
    | inr (is, inr (old, was, equal)) ↦ sym (same k e.0 equal) ∙ sym named ∙ ap key (sym is)
  ])
