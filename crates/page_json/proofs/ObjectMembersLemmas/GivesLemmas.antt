-- What a reading gives is so.
use Rattle.std.proofs.Common.{◌≡◌, ℕ, [], ◌∷◌, Option, Some, None, Result, Ok, Err, refl, sym, subst}
use Rattle.std.specs.List.{All}
use Rattle.std.specs.Result.{IfOk}
use Rattle.std.proofs.lemmas.List.Elements.{All-nil, All-cons}
use Rattle.serde_json.specs.Data.{Data, Items, no_items, item}
use Rattle.page_json.specs.ObjectMembers.Disorder.{unless_disorder}
use Rattle.page_json.specs.ObjectMembers.Reading.{Reading, after, each_in, exactly, ◌>>=◌}
use Rattle.page_json.specs.declared.object_members.fault.PageFault.{PageFault}

-- what the reading gives is so
pub record Gives {X : Type 0} (P : X → Type 0) (reading : Reading X) : Type 0 where
  pub so : (x : X) → reading (Ok x) → P x

-- anything
abbrev pub Any : {X : Type 0} → X → Type 0
Any {X} x = Unit {0}

pub any : {X : Type 0} (reading : Reading X) → Gives Any reading
any reading = record { so = λ x h. tt }

pub gives_exactly : {X : Type 0} (P : X → Type 0) (answer : Result X PageFault) → IfOk answer P → Gives P (exactly answer)
gives_exactly P answer is = record { so = λ x e. subst (λ (r : Result _ PageFault). IfOk r P) (sym e) is }

not_given : {X : Type 0} (x : X) (fault : PageFault) → ◌≡◌ {A = Result X PageFault} (Ok x) (Err fault) → ⊥
not_given x fault e = cc

pub gives_after : {A B : Type 0} (P : A → Type 0) (Q : B → Type 0) (first : Result A PageFault) (next : A → Reading B) → IfOk first P → ((x : A) → P x → Gives Q (next x)) → Gives Q (after first next)
gives_after P Q (Ok x) next is each = each x is
gives_after P Q (Err fault) next is each = record { so = λ y e. absurd (not_given y fault e) }

pub gives_then : {A B : Type 0} (P : A → Type 0) (Q : B → Type 0) (first : Reading A) (next : A → Reading B) → Gives P first → ((x : A) → P x → Gives Q (next x)) → Gives Q (first >>= next)
gives_then {A} {B} P Q first next is each = record { so = λ y (r, h, k). go r y h k } where
  go : (r : Result A PageFault) (y : B) → first r → after r next (Ok y) → Q y
  go (Ok x) y h k = (each x (is.so x h)).so y k
  go (Err fault) y h k = absurd (not_given y fault k)

pub gives_each : {X : Type 0} (P : X → Type 0) (inner : Data → Reading X) → ((d : Data) → Gives P (inner d)) → (items : Items) → Gives (All P) (each_in inner items)
unfolding each_in
gives_each P inner is no_items = gives_exactly (All P) (Ok []) (All-nil P)
gives_each P inner is (item d ds) =
    gives_then P (All P) (inner d) _ (is d) (λ x one. gives_then (All P) (All P) (each_in inner ds) _ (gives_each P inner is ds) (λ xs all. gives_exactly (All P) (Ok (x ∷ xs)) (All-cons P x xs one all)))

-- what is not in order is not given
pub if_ordered : {X : Type 0} (P : X → Type 0) (place : Option ℕ) (x : X) → (place ≡ None → P x) → IfOk (unless_disorder place x) P
if_ordered P None x is = is refl
if_ordered P (Some place) x is = tt
