-- What can be found out: whether items of a list are so, and whether a text is written from a value.
use Rattle.std.proofs.Common.{◌≡◌, ◌∙◌, ℕ, zero, suc, ◌<◌, Bool, true, false, List, [], ◌∷◌, ◌++◌, length, take, drop, get_or, Option, Some, None, Decides, IsUtf8, ap, ap₂, refl, sym, subst, arith}
use Rattle.std.proofs.Math.Seq.{drop-append_seam, take-append_seam}
use Rattle.std.proofs.lemmas.Bool.Decides.{Decides-eqb, not_from_Decides}
use Rattle.std.proofs.lemmas.List.{take-append-drop}
use Rattle.std.proofs.lemmas.List.Elements.{All-nil, All-cons, All-head, All-tail}
use Rattle.std.proofs.lemmas.Slice.Eq.{bytes_eq-Decides}
use Rattle.std.proofs.lemmas.Str.{IsUtf8-from_is_utf8, is_utf8-from_IsUtf8}
use Rattle.std.specs.List.{All, Any}
use Rattle.std.specs.Option.{IfSome}
use Rattle.std.specs.Prelude.{bytes_eq, ◌==◌}
use Rattle.std.specs.Str.{is_utf8}

pub turn : {P Q : Type 0} → (P → Q) → (Q → P) → Dec P → Dec Q
turn to from (yes h) = yes (to h)
turn to from (no none) = no (λ q. none (from q))

pub both : {P Q : Type 0} → Dec P → Dec Q → Dec (P × Q)
both (yes h) (yes k) = yes (h, k)
both (yes h) (no none) = no (λ two. none two.1)
both (no none) d = no (λ two. none two.0)

by_test : {P : Type 0} (r : Bool) → Decides r P → Dec P
by_test true d = yes (d.0 refl)
by_test false d = no (not_from_Decides false d refl)

pub same_text : (a b : List ℕ) → Dec (a ≡ b)
same_text a b = by_test (bytes_eq a b) (bytes_eq-Decides a b)

pub same_number : (m n : ℕ) → Dec (m ≡ n)
same_number m n = by_test (m == n) (Decides-eqb m n)

pub utf8 : (bytes : List ℕ) → Dec (IsUtf8 bytes)
utf8 bytes = by_test (is_utf8 bytes) (IsUtf8-from_is_utf8 bytes, is_utf8-from_IsUtf8 bytes)

-- ---- items of a list

pub if_some : {X : Type 0} (P : X → Type 0) → ((x : X) → Dec (P x)) → (o : Option X) → Dec (IfSome o P)
if_some P each None = yes tt
if_some P each (Some x) = each x

pub all : {X : Type 0} (P : X → Type 0) → ((x : X) → Dec (P x)) → (xs : List X) → Dec (All P xs)
all P each [] = yes (All-nil P)
all P each (x ∷ xs) = turn (λ two. All-cons P x xs two.0 two.1) (λ are. (All-head P x xs are, All-tail P x xs are)) (both (each x) (all P each xs))

further : {X : Type 0} (P : X → Type 0) (x : X) (xs : List X) → (P x → ⊥) → (Any P xs → ⊥) → (k : ℕ) (y : X) → k < length (x ∷ xs) → get_or (x ∷ xs) k y ≡ y → P y → ⊥
further P x xs not none zero y inside at h = not (subst P (sym at) h)
further P x xs not none (suc k) y inside at h = none (k, y, omega arith, at, h)

pub any : {X : Type 0} (P : X → Type 0) → ((x : X) → Dec (P x)) → (xs : List X) → Dec (Any P xs)
any P each [] = no (λ h. let inside = h.2 in omega arith)
any P each (x ∷ xs) = elim (each x) [
  | yes h ↦ yes (0, x, omega arith, refl, h)
  | no not ↦ elim (any P each xs) [
    | yes h ↦ let inside = h.2 in yes (suc h.0, h.1, omega arith, h.3, h.4)
    | no none ↦ no (λ h. further P x xs not none h.0 h.1 h.2 h.3 h.4)
  ]
]

-- ---- numbers

lower : (P : ℕ → Type 0) (n : ℕ) → (P n → ⊥) → ((k : ℕ) × (k < n) × P k → ⊥) → (k : ℕ) → k < suc n → P k → Dec (k ≡ n) → ⊥
lower P n not none k low h (yes same) = not (subst P same h)
lower P n not none k low h (no other) = none (k, omega arith, h)

-- a number below the bound
pub below : (P : ℕ → Type 0) → ((k : ℕ) → Dec (P k)) → (n : ℕ) → Dec ((k : ℕ) × (k < n) × P k)
below P each zero = no (λ h. let low = h.1 in omega arith)
below P each (suc n) = elim (each n) [
  | yes h ↦ yes (n, omega arith, h)
  | no not ↦ elim (below P each n) [
    | yes h ↦ let low = h.1 in yes (h.0, omega arith, h.2)
    | no none ↦ no (λ h. lower P n not none h.0 h.1 h.2 (same_number h.0 n))
  ]
]

-- ---- texts

-- of each text it is known from which value it is written, or that it is from none
abbrev pub Readable : {X : Type 0} → (X → List ℕ) → Type 0
Readable {X} write = (text : List ℕ) → Dec ((x : X) × (text ≡ write x))

-- numbers below a bound
pub numbers : (write : ℕ → List ℕ) (bound : ℕ) → Readable (λ (n : (k : ℕ) × (k < bound)). write n.0)
numbers write bound text = turn (λ h. ((h.0, h.1), h.2)) (λ h. (h.0.0, h.0.1, h.1)) (below (λ k. text ≡ write k) (λ k. same_text text (write k)) bound)

-- what comes after a front
pub behind : {X : Type 0} (front : List ℕ) (write : X → List ℕ) → Readable write → Readable (λ (x : X). front ++ write x)
behind front write read text =
    turn
    (λ h. (h.1.0, sym (take-append-drop (length front) text) ∙ ap₂ (λ (a b : List ℕ). a ++ b) h.0 h.1.1))
    (λ h. (
      ap (take (length front)) h.1 ∙ take-append_seam front (write h.0),
      (h.0, ap (drop (length front)) h.1 ∙ drop-append_seam front (write h.0)),
    ))
    (both (same_text (take (length front) text) front) (read (drop (length front) text)))

-- the front of a text and what is left say these values
record Parted {X Y : Type 0} (v : X → List ℕ) (w : Y → List ℕ) (text : List ℕ) (k : ℕ) : Type 0 where
  front : (x : X) × (take k text ≡ v x)
  back : (y : Y) × (drop k text ≡ w y)

put : {X Y : Type 0} (v : X → List ℕ) (w : Y → List ℕ) (text : List ℕ) → (k : ℕ) × (k < suc (length text)) × Parted v w text k → (p : X × Y) × (text ≡ v p.0 ++ w p.1)
put v w text h =
    ((h.2.front.0, h.2.back.0), sym (take-append-drop h.0 text) ∙ ap₂ (λ (a b : List ℕ). a ++ b) h.2.front.1 h.2.back.1)

shorter : (a b : List ℕ) → length a < suc (length (a ++ b))
shorter [] b = omega arith
shorter (c ∷ a) b = let rest = shorter a b in omega arith

part : {X Y : Type 0} (v : X → List ℕ) (w : Y → List ℕ) (text : List ℕ) → (p : X × Y) × (text ≡ v p.0 ++ w p.1) → (k : ℕ) × (k < suc (length text)) × Parted v w text k
part v w text h = (
  length (v h.0.0),
  subst (λ (t : List ℕ). length (v h.0.0) < suc (length t)) (sym h.1) (shorter (v h.0.0) (w h.0.1)),
  record {
    front = (h.0.0, ap (take (length (v h.0.0))) h.1 ∙ take-append_seam (v h.0.0) (w h.0.1));
    back = (h.0.1, ap (drop (length (v h.0.0))) h.1 ∙ drop-append_seam (v h.0.0) (w h.0.1));
  },
)

-- one text and then another
pub joined : {X Y : Type 0} (v : X → List ℕ) (w : Y → List ℕ) → Readable v → Readable w → Readable (λ (p : X × Y). v p.0 ++ w p.1)
joined v w front back text =
    turn (put v w text) (part v w text) (below (Parted v w text) (λ k. turn (λ two. record { front = two.0; back = two.1 }) (λ (p : Parted v w text k). (p.front, p.back)) (both (front (take k text)) (back (drop k text)))) (suc (length text)))
