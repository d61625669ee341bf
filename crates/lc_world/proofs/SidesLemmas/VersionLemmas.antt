-- What later messages leave as it was: the news of the versions before them.
use Rattle.std.proofs.Common.{◌≡◌, ℕ, suc, ◌+◌, ◌<◌, ◌≤◌, List, [], ◌∷◌, ◌++◌, length, get_or, Bool, true, false, ◌||◌, refl, ap, sym, subst, ◌∙◌, arith, length-append}
use Rattle.std.specs.Prelude.{nat_le, ◌==◌}
use Rattle.std.specs.List.{All, AllPairs, Contains, filter_map, list_any}
use Rattle.std.proofs.lemmas.Bool.{eqb-true}
use Rattle.std.proofs.lemmas.Bool.Decides.{nat_tests}
use Rattle.std.proofs.lemmas.List.{append-nil, get_or-append-add, get_or_append_left, map-append}
use Rattle.std.proofs.lemmas.List.Elements.{All-append, All-cons, All-from_get_or, All-head, All-nil, All-tail, All-weaker, filter-append}
use Rattle.std.proofs.lemmas.List.Folds.{Any-from_list_any, list_any-append}
use Rattle.std.proofs.lemmas.List.Kept.{AllPairs-cons}
use Rattle.lc_model.specs.declared.date.ServiceDate.{ServiceDate}
use Rattle.lc_model.specs.Versions.History.{Entry, IsRising, kept_behind, moments_of, news_at, up_to}
use Rattle.lc_model.specs.Versions.Named.{last_of}
use Rattle.lc_model.specs.Versions.News.{EntitySaid}

-- the numbers strictly increase
abbrev pub Rising : List ℕ → Type 0
Rising numbers = AllPairs (λ (x y : ℕ). x < y) numbers

-- what is before others in an increasing list is below them
pub below : (xs ys : List ℕ) (v : ℕ) → Rising (xs ++ ys) → Contains xs v → All (λ (y : ℕ). v < y) ys
below xs ys v rising (k, inside, at) =
    All-from_get_or (λ (y : ℕ). v < y) ys v (λ j within.
    let pair : get_or (xs ++ ys) k v < get_or (xs ++ ys) (length xs + j) v = rising k (length xs + j) v (omega arith) (omega (arith, length-append xs ys)) in
    let left : get_or (xs ++ ys) k v ≡ get_or xs k v = get_or_append_left xs ys v k inside in
    let right : get_or (xs ++ ys) (length xs + j) v ≡ get_or ys j v = get_or-append-add xs ys j v in
    omega arith)

-- what the test finds is there
pub contains_found : (xs : List ℕ) (v : ℕ) → list_any (λ (w : ℕ). w == v) xs ≡ true → Contains xs v
contains_found xs v found =
    let (k, x, inside, at, same) = Any-from_list_any (λ (w : ℕ). w == v) xs found in
    subst (λ (w : ℕ). Contains xs w) (eqb-true x v same) (k, inside, at)

-- no message of a later moment belongs to the version
pub none_up_to : (v : ℕ) (more : List Entry) → All (λ (y : ℕ). v < y) (moments_of more) → up_to v more ≡ []
none_up_to v [] later = refl
none_up_to v (entry ∷ more) later =
    let first : v < entry.update.moment = All-head (λ (y : ℕ). v < y) entry.update.moment (moments_of more) later in
    let over : nat_le entry.update.moment v ≡ false = grind (arith, nat_tests) in
    rw over (none_up_to v more (All-tail (λ (y : ℕ). v < y) entry.update.moment (moments_of more) later))

-- the news of the version stay
pub news_stay : (date_of : ℕ → ServiceDate) (history more : List Entry) (v : ℕ) → All (λ (y : ℕ). v < y) (moments_of more)
    → news_at date_of (history ++ more) v ≡ news_at date_of history v
news_stay date_of history more v later =
    let parted : up_to v (history ++ more) ≡ up_to v history ++ up_to v more = filter-append (λ (e : Entry). nat_le e.update.moment v) history more in
    let none : up_to v history ++ up_to v more ≡ up_to v history = ap (λ entries. up_to v history ++ entries) (none_up_to v more later) ∙ append-nil (up_to v history) in
    ap (λ (entries : List Entry). filter_map (λ (e : EntitySaid). e.news) (kept_behind date_of [] entries)) (parted ∙ none)

-- the moments of a history that goes on
pub moments_on : (history more : List Entry) → moments_of (history ++ more) ≡ moments_of history ++ moments_of more
moments_on history more = map-append (λ (e : Entry). e.update.moment) history more

-- the version is before what was admitted later
pub later_moments : (base : ℕ) (history more : List Entry) (v : ℕ) → IsRising base (moments_of (history ++ more))
    → list_any (λ (w : ℕ). w == v) (base ∷ moments_of history) ≡ true → All (λ (y : ℕ). v < y) (moments_of more)
later_moments base history more v rising found =
    below (base ∷ moments_of history) (moments_of more) v
    (subst (λ (moments : List ℕ). Rising (base ∷ moments)) (moments_on history more) rising)
    (contains_found (base ∷ moments_of history) v found)

-- a version is one of the later side too
pub still_found : (base : ℕ) (history more : List Entry) (v : ℕ) → list_any (λ (w : ℕ). w == v) (base ∷ moments_of history) ≡ true
    → list_any (λ (w : ℕ). w == v) (base ∷ moments_of (history ++ more)) ≡ true
still_found base history more v found =
    ap (λ (moments : List ℕ). list_any (λ (w : ℕ). w == v) (base ∷ moments)) (moments_on history more)
    ∙ list_any-append (λ (w : ℕ). w == v) (base ∷ moments_of history) (moments_of more)
    ∙ ap (λ (there : Bool). there || list_any (λ (w : ℕ). w == v) (moments_of more)) found

-- the last one of an increasing list is the greatest
pub last_is_greatest : (x : ℕ) (xs : List ℕ) → Rising (x ∷ xs) → All (λ (y : ℕ). y ≤ last_of x xs) (x ∷ xs)
last_is_greatest x [] rising = All-cons (λ (y : ℕ). y ≤ x) x [] (omega arith) (All-nil (λ (y : ℕ). y ≤ x))
last_is_greatest x (y ∷ ys) rising =
    let rest = last_is_greatest y ys (λ i j d before inside. rising (suc i) (suc j) d (omega arith) (omega arith)) in
    let first : x < y = rising 0 1 x (omega arith) (omega arith) in
    let second : y ≤ last_of y ys = All-head (λ (z : ℕ). z ≤ last_of y ys) y ys rest in
    All-cons (λ (z : ℕ). z ≤ last_of y ys) x (y ∷ ys) (omega arith) rest

-- an increasing list goes on by a number above all of it
pub rising_on : (xs : List ℕ) (m : ℕ) → Rising xs → All (λ (x : ℕ). x < m) xs → Rising (xs ++ m ∷ [])
rising_on [] m rising under = λ i j d before inside. absurd (omega arith)
rising_on (x ∷ xs) m rising under =
    let rest : Rising xs = λ i j d before inside. rising (suc i) (suc j) d (omega arith) (omega arith) in
    let below_rest : All (λ (y : ℕ). x < y) xs = λ k d inside. rising 0 (suc k) d (omega arith) (omega arith) in
    AllPairs-cons (λ (y z : ℕ). y < z) x (xs ++ m ∷ [])
    (All-append (λ (y : ℕ). x < y) xs (m ∷ []) below_rest (All-cons (λ (y : ℕ). x < y) m [] (All-head (λ (y : ℕ). y < m) x xs under) (All-nil (λ (y : ℕ). x < y))))
    (rising_on xs m rest (All-tail (λ (y : ℕ). y < m) x xs under))

-- the moments still increase with one above the last
pub history_rises : (base : ℕ) (history : List Entry) (entry : Entry) → IsRising base (moments_of history)
    → last_of base (moments_of history) < entry.update.moment → IsRising base (moments_of (history ++ entry ∷ []))
history_rises base history entry rising above =
    subst (λ (moments : List ℕ). Rising (base ∷ moments)) (sym (moments_on history (entry ∷ [])))
    (rising_on (base ∷ moments_of history) entry.update.moment rising
    (All-weaker (λ (y : ℕ). y ≤ last_of base (moments_of history)) (λ (y : ℕ). y < entry.update.moment) (λ y h. omega arith)
    (base ∷ moments_of history) (last_is_greatest base (moments_of history) rising)))
