-- What a text says is what was read of it.
use Rattle.std.proofs.Common.{Bool, cond, ◌+◌, false, ◌≡◌, ℕ, ◌≤◌, length, arith, List, [], ◌∷◌, ◌++◌, Option, Some, None, refl, sym, ap, ◌∙◌, ◌↔◌}
use Rattle.std.specs.Prelude.{IfSome, map, option_map, option_to_list, count_by, if◌then◌else◌, ◌==◌}
use Rattle.std.specs.List.{filter_map, cons_option}
use Rattle.std.proofs.lemmas.List.Sums.{fold-append}
use Rattle.std.proofs.lemmas.List.Elements.{filter_map-append}
use Rattle.std.proofs.lemmas.Bool.{eqb-false}
use Rattle.std.proofs.lemmas.List.{map_push}
use Rattle.trip_updates.specs.Meaning.{if_said}

-- what is read of a text is what it says, where both are what is written there
pub said_is : {A : Type 0} (P : A → Type 0) (says r : Option A) → ((x : A) → (says ≡ Some x) ↔ P x) → IfSome r P → ((x : A) → P x → r ≡ Some x) → r ≡ says
said_is P says (Some x) law said exact = sym ((law x).1 said)
said_is P None None law said exact = refl
said_is P (Some y) None law said exact = exact y ((law y).0 refl)

-- one item more, of one tree more
pub one_more : {T X : Type 0} (f : T → X) (after before : List X) (x : X) (trees : List T) (tree : T) → after ≡ before ++ x ∷ [] → before ≡ map f trees → x ≡ f tree → after ≡ map f (trees ++ tree ∷ [])
one_more f after before x trees tree a b c = a ∙ rw (b, c) (sym (map_push f trees tree))

text_said : {X : Type 0} (reads : List ℕ → Option X) (text : List ℕ) → 1 ≤ length text → if_said reads (Some text) ≡ option_map (λ x. Some x) (reads text)
text_said reads [] some = absurd (omega (arith, some))
text_said reads (b ∷ text) some = refl

-- a text that is there and not empty
pub said_there : {X : Type 0} (reads : List ℕ → Option X) (o : Option (List ℕ)) (text : List ℕ) (r : Option X) → o ≡ Some text → 1 ≤ length text → r ≡ reads text → option_map (λ x. Some x) r ≡ if_said reads o
said_there reads o text r there some is = sym (ap (if_said reads) there ∙ text_said reads text some ∙ ap (option_map (λ x. Some x)) (sym is))

pub said_empty : {X : Type 0} (reads : List ℕ → Option X) (text : List ℕ) → length text ≡ 0 → Some None ≡ if_said reads (Some text)
said_empty reads [] none = refl
said_empty reads (b ∷ text) none = absurd (omega (arith, none))

pub some : (text : List ℕ) → (length text == 0) ≡ false → 1 ≤ length text
some text e = let ne : length text ≡ 0 → ⊥ = eqb-false (length text) 0 e in omega arith

cons_one : {X : Type 0} (o : Option X) → cons_option o [] ≡ option_to_list o
cons_one None = refl
cons_one (Some x) = refl

-- news of one entity more
pub news_more : {A B : Type 0} (f : A → Option B) (after before : List B) (xs : List A) (x : A) → after ≡ before ++ option_to_list (f x) → before ≡ filter_map f xs → after ≡ filter_map f (xs ++ x ∷ [])
news_more {A} {B} f after before xs x a b =
    a ∙ ap (λ (ys : List B). ys ++ option_to_list (f x)) b ∙ ap (λ (ys : List B). filter_map f xs ++ ys) (sym (cons_one (f x))) ∙ sym (filter_map-append f xs (x ∷ []))

count_one : {A : Type 0} (p : A → Bool) (xs : List A) (x : A) → count_by p (xs ++ x ∷ []) ≡ count_by p xs + cond (p x) 1 0
count_one p xs x = fold-append (λ n x. n + cond (p x) 1 0) 0 xs (x ∷ [])

pub count_more : {A : Type 0} (p : A → Bool) (after before : ℕ) (xs : List A) (x : A) → after ≡ before + (if p x then 1 else 0) → before ≡ count_by p xs → after ≡ count_by p (xs ++ x ∷ [])
count_more p after before xs x a b = a ∙ ap (λ (n : ℕ). n + cond (p x) 1 0) b ∙ sym (count_one p xs x)
