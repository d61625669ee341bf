-- How arguments look to `clap`.
use Rattle.std.proofs.Common.{◌≡◌, ◌∙◌, ℕ, ◌==◌, Bool, true, false, List, [], ◌∷◌, ◌++◌, codes, Option, Some, None, ap, refl, subst, sym, zero, suc, arith, append_assoc}
use Rattle.std.specs.List.{list_any, list_all}
use Rattle.std.specs.Str.{bytes_eq}
use Rattle.std.proofs.lemmas.Bool.{false≢true}
use Rattle.std.proofs.lemmas.Bool.Decides.{nat_tests}
use Rattle.clap.specs.Lexer.{long_of, name_and_value, short_of}
use Rattle.clap.specs.Walk.{Text}
use Rattle.clap.proofs.CutLemmas.{Lacks}
use Rattle.clap.proofs.LexerLemmas.{name_and_value-at, name_and_value-without}
use Rattle.cli_words.specs.Grammar.{IsPlainWord, is_among, is_option_name}
use Rattle.cli_words.proofs.TableLemmas.{first_or_rest}
use Rattle.cli_words.proofs.TestLemmas.{left_false, left_true, right_false, right_true, not_false}

abbrev no_equals : Text → Type 0
no_equals text = list_any (λ byte. byte == 61) text ≡ false

lacks : (text : Text) → no_equals text → Lacks 61 text
lacks [] e i lt = absurd (omega arith)
lacks (x ∷ xs) e zero lt = let f : (x == 61) ≡ false = left_false (x == 61) _ e in grind (arith, nat_tests)
lacks (x ∷ xs) e (suc i) lt = lacks xs (right_false (x == 61) _ e) i (omega arith)

-- the argument `--name` of an option or flag
pub named_word : (name : Text) → is_option_name name ≡ true → (bytes_eq (codes "--" ++ name) (45 ∷ 45 ∷ []) ≡ false) × (long_of (codes "--" ++ name) ≡ Some (name, None))
named_word [] e = absurd (false≢true e)
named_word (x ∷ xs) e = (refl, ap (λ p. Some p) (name_and_value-without (x ∷ xs) (lacks (x ∷ xs) (not_false _ e))))

-- the argument `--name=value`
pub joined_word : (name value : Text) → is_option_name name ≡ true
    → (bytes_eq (codes "--" ++ name ++ codes "=" ++ value) (45 ∷ 45 ∷ []) ≡ false) × (long_of (codes "--" ++ name ++ codes "=" ++ value) ≡ Some (name, Some value))
joined_word [] value e = absurd (false≢true e)
joined_word (x ∷ xs) value e =
    (refl, ap (λ (t : Text). Some (name_and_value (x ∷ t))) (append_assoc xs (61 ∷ []) value) ∙ ap (λ p. Some p) (name_and_value-at (x ∷ xs) value (lacks (x ∷ xs) (not_false _ e))))

-- what is one of these names is the name of an option
pub is_name : (names : List Text) (n : Text) → list_all is_option_name names ≡ true → is_among names n ≡ true → is_option_name n ≡ true
is_name [] n all e = absurd (false≢true e)
is_name (x ∷ xs) n all e = first_or_rest {R = is_option_name n ≡ true} x xs n e
    (λ same. subst (λ (t : Text). is_option_name t ≡ true) same (left_true (is_option_name x) _ all)) (λ among. is_name xs n (right_true (is_option_name x) _ all) among)

-- an argument with this name, and with this value where there is one
abbrev pub spelled : Text → Option Text → Text
spelled name None = codes "--" ++ name
spelled name (Some value) = codes "--" ++ name ++ codes "=" ++ value

-- how an argument looks
pub data Looks (word : Text) : Type 0 where
  plain : IsPlainWord word → Looks word
  dash : word ≡ codes "-" → Looks word
  dashes : word ≡ codes "--" → Looks word
  long : (name : Text) (value : Option Text) → bytes_eq word (45 ∷ 45 ∷ []) ≡ false → long_of word ≡ Some (name, value) → word ≡ spelled name value → Looks word
  short : (first : ℕ) (rest : Text) → bytes_eq word (45 ∷ 45 ∷ []) ≡ false → long_of word ≡ None → short_of word ≡ Some (first ∷ rest) → word ≡ 45 ∷ first ∷ rest → Looks word

-- a text without an equals sign, or one cut at its first
data Cut (text : Text) : Type 0 where
  without : no_equals text → Cut text
  at : (xs ys : Text) → no_equals xs → text ≡ xs ++ 61 ∷ ys → Cut text

cut : (text : Text) → Cut text
cut [] = without refl
cut (x ∷ xs) = by (x == 61) refl (cut xs)
  where
    by : (t : Bool) → (x == 61) ≡ t → Cut xs → Cut (x ∷ xs)
    by true t rest = let e : x ≡ 61 = grind (arith, nat_tests) in at [] xs refl (ap (λ (y : ℕ). y ∷ xs) e)
    by false t (without none) = without (rw t none)
    by false t (at front back none is) = at (x ∷ front) back (rw t none) (ap (λ rest. x ∷ rest) is)

long_looks : (x : ℕ) (xs : Text) → Looks (45 ∷ 45 ∷ x ∷ xs)
long_looks x xs = by (cut (x ∷ xs))
  where
    by : Cut (x ∷ xs) → Looks (45 ∷ 45 ∷ x ∷ xs)
    by (without none) = long (x ∷ xs) None refl (ap (λ p. Some p) (name_and_value-without (x ∷ xs) (lacks (x ∷ xs) none))) refl
    by (at name value none is) = long name (Some value) refl
        (ap (λ (t : Text). Some (name_and_value t)) is ∙ ap (λ p. Some p) (name_and_value-at name value (lacks name none)))
        (ap (λ (t : Text). 45 ∷ 45 ∷ t) (is ∙ sym (append_assoc name (61 ∷ []) value)))

short_looks : (x : ℕ) (xs : Text) → (x == 45) ≡ false → Looks (45 ∷ x ∷ xs)
short_looks x xs e = short x xs (rw e refl) (rw e refl) (rw e refl) refl

pub looks : (word : Text) → Looks word
looks [] = plain tt
looks (x ∷ xs) = by (x == 45) refl xs
  where
    second : (y : ℕ) (ys : Text) (t : Bool) → (y == 45) ≡ t → Looks (45 ∷ y ∷ ys)
    second y [] true t = let e : y ≡ 45 = grind (arith, nat_tests) in dashes (ap (λ (y : ℕ). 45 ∷ y ∷ []) e)
    second y (z ∷ zs) true t = let e : 45 ≡ y = grind (arith, nat_tests) in subst (λ (y : ℕ). Looks (45 ∷ y ∷ z ∷ zs)) e (long_looks z zs)
    second y ys false t = short_looks y ys t

    by : (t : Bool) → (x == 45) ≡ t → (xs : Text) → Looks (x ∷ xs)
    by false t xs = plain (grind (arith, nat_tests))
    by true t [] = let e : x ≡ 45 = grind (arith, nat_tests) in dash (ap (λ (y : ℕ). y ∷ []) e)
    by true t (y ∷ ys) = let e : 45 ≡ x = grind (arith, nat_tests) in subst (λ (x : ℕ). Looks (x ∷ y ∷ ys)) e (second y ys (y == 45) refl)
