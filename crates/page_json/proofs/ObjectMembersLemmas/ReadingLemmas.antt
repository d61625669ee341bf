-- Readings that give something.
use Rattle.std.proofs.Common.{◌≡◌, ℕ, List, [], ◌∷◌, Result, Ok, map, refl, sym, subst}
use Rattle.std.proofs.lemmas.List.Elements.{All-head, All-tail}
use Rattle.std.specs.List.{All}
use Rattle.serde_json.specs.Data.{Data}
use Rattle.serde_json.specs.View.{items_of}
use Rattle.page_json.specs.ObjectMembers.Reading.{Reading, after, each_in, exactly, what_is_said, ◌>>=◌}
use Rattle.page_json.specs.declared.object_members.fault.PageFault.{PageFault}

-- the reading gives this
pub record Reads {X : Type 0} (reading : Reading X) (x : X) : Type 0 where
  pub is : reading (Ok x)

pub reads_exactly : {X : Type 0} (x : X) → Reads (exactly (Ok x)) x
reads_exactly x = record { is = refl }

pub reads_exactly_by : {X : Type 0} (answer : Result X PageFault) (x : X) → answer ≡ Ok x → Reads (exactly answer) x
reads_exactly_by answer x e = record { is = sym e }

pub reads_after : {A B : Type 0} (first : Result A PageFault) (x : A) (next : A → Reading B) (y : B) → first ≡ Ok x → Reads (next x) y → Reads (after first next) y
reads_after {A} {B} first x next y e h = record { is = subst (λ (r : Result A PageFault). after r next (Ok y)) (sym e) h.is }

pub reads_then : {A B : Type 0} (first : Reading A) (x : A) (next : A → Reading B) (y : B) → Reads first x → Reads (next x) y → Reads (first >>= next) y
reads_then first x next y one two = record { is = (Ok x, one.is, two.is) }

-- a text that says this alone
pub reads_said : {X : Type 0} (Says : List ℕ → X → Type 0) (key text : List ℕ) (x : X) → Says text x → ((y : X) → Says text y → y ≡ x) → Reads (what_is_said Says key text) x
reads_said Says key text x says alone = record { is = (says, alone) }

pub reads_each : {X : Type 0} (inner : Data → Reading X) (tree_of : X → Data) (Sound : X → Type 0) → ((x : X) → Sound x → Reads (inner (tree_of x)) x) → (xs : List X) → All Sound xs → Reads (each_in inner (items_of (map tree_of xs))) xs
unfolding each_in
reads_each inner tree_of Sound h [] sound = record { is = refl }
reads_each inner tree_of Sound h (x ∷ xs) sound =
    reads_then (inner (tree_of x)) x _ (x ∷ xs) (h x (All-head Sound x xs sound))
    (reads_then (each_in inner (items_of (map tree_of xs))) xs _ (x ∷ xs) (reads_each inner tree_of Sound h xs (All-tail Sound x xs sound)) (reads_exactly (x ∷ xs)))
