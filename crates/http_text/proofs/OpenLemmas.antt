-- Bytes that end inside a request target.
use Rattle.std.proofs.Common.{◌≡◌, ℕ, ◌⊎◌, inl, inr, Bool, true, false, ◌&&◌, eqb, cond, List, [], ◌∷◌, ◌++◌, refl, sym, ap, ap₂, subst, ◌∙◌, arith, append_assoc, codes}
use Rattle.std.specs.List.{list_all}
use Rattle.std.proofs.lemmas.List.Elements.{All-nil, All-cons, All-head, All-tail}
use Rattle.std.proofs.lemmas.Bool.{eqb-true}
use Rattle.std.proofs.lemmas.List.Sums.{AllPass-from_list_all, list_all-from_AllPass}
use Rattle.std.proofs.lemmas.Str.{IsUtf8-from_ascii}
use Rattle.std.proofs.lemmas.Str.Ascii.{IsAscii-cons, IsAscii-nil}
use Rattle.httparse.specs.Ascii.{crlf_bytes}
use Rattle.httparse.specs.Grammar.{LineEnd, crlf, lf, print_blank, print_version, IsToken, AllPass, is_token_byte, is_uri_byte, RequestHead, print_request, IsRequestHead, NeverHasRequest, EndsInTarget}
use Rattle.httparse.proofs.GrammarLemmas.{print_request-append}
use Rattle.http_text.specs.OpenTarget.{behind_blanks, ends_as_method, is_open_line}

-- ---- empty lines

record Blanks (bytes : List ℕ) : Type 0 where
  ends : List LineEnd
  text_is : bytes ≡ print_blank ends ++ behind_blanks bytes

blanks : (bytes : List ℕ) → Blanks bytes
blanks [] = record { ends = []; text_is = refl }
blanks (b ∷ []) = single b (eqb b 10) refl
  where
    single : (b : ℕ) (t : Bool) → eqb b 10 ≡ t → Blanks (b ∷ [])
    single b true e = record { ends = lf ∷ []; text_is = grind arith }
    single b false e = record { ends = []; text_is = rw e refl }
blanks (b ∷ (c ∷ bytes)) = double (eqb b 10) (eqb b 13 && eqb c 10) refl refl (blanks (c ∷ bytes)) (blanks bytes)
  where
    double : (t u : Bool) → eqb b 10 ≡ t → (eqb b 13 && eqb c 10) ≡ u → Blanks (c ∷ bytes) → Blanks bytes → Blanks (b ∷ (c ∷ bytes))
    double true u e f one two = let is = one.text_is in record { ends = lf ∷ one.ends; text_is = grind arith }
    double false true e f one two = let is = two.text_is in record { ends = crlf ∷ two.ends; text_is = grind arith }
    double false false e f one two = record { ends = []; text_is = rw (e, f) refl }

none : (t : Bool) → t ≡ false → t ≡ true → ⊥
none t e f = cc

-- a byte of a method is no such byte
differs : (b c : ℕ) → is_token_byte c ≡ false → is_token_byte b ≡ true → eqb b c ≡ false
differs b c other is = at (eqb b c) refl
  where
    at : (t : Bool) → eqb b c ≡ t → t ≡ false
    at true e = let same = subst (λ (x : ℕ). is_token_byte x ≡ true) (eqb-true b c e) is in absurd (none (is_token_byte c) other same)
    at false e = refl

not_line : (b : ℕ) → is_token_byte b ≡ true → (eqb b 10 ≡ false) × (eqb b 13 ≡ false) × (eqb b 32 ≡ false)
unfolding is_token_byte
not_line b is = (differs b 10 refl is, differs b 13 refl is, differs b 32 refl is)

behind : (ends : List LineEnd) (b : ℕ) (rest : List ℕ) → is_token_byte b ≡ true → behind_blanks (print_blank ends ++ b ∷ rest) ≡ b ∷ rest
behind [] b [] e = rw (not_line b e).0 refl
behind [] b (c ∷ rest) e = let no = not_line b e in rw (no.0, no.1) refl
behind (crlf ∷ ends) b rest e = behind ends b rest e
behind (lf ∷ ends) b rest e = after (print_blank ends) (behind ends b rest e)
  where
    after : (xs : List ℕ) → behind_blanks (xs ++ b ∷ rest) ≡ b ∷ rest → behind_blanks (10 ∷ (xs ++ b ∷ rest)) ≡ b ∷ rest
    after [] h = h
    after (x ∷ xs) h = h

-- ---- a method, a space and a target

record Parts (bytes : List ℕ) : Type 0 where
  method : List ℕ
  target : List ℕ
  token : AllPass is_token_byte method
  visible : AllPass is_uri_byte target
  text_is : bytes ≡ method ++ 32 ∷ target

parts_onto : (b : ℕ) (bytes : List ℕ) → is_token_byte b ≡ true → Parts bytes → Parts (b ∷ bytes)
parts_onto b bytes e p = record {
  method = b ∷ p.method;
  target = p.target;
  token = All-cons (λ x. is_token_byte x ≡ true) b p.method e p.token;
  visible = p.visible;
  text_is = ap (λ (x : List ℕ). b ∷ x) p.text_is;
}

both : (x y : Bool) → (x && y) ≡ true → (x ≡ true) × (y ≡ true)
both x y e = grind arith

parts : (bytes : List ℕ) → ends_as_method bytes ≡ true → Parts bytes
parts [] e = absurd (cc)
parts (b ∷ bytes) e = at (eqb b 32) refl e (parts bytes)
  where
    at : (t : Bool) → eqb b 32 ≡ t → cond t (list_all is_uri_byte bytes) (is_token_byte b && ends_as_method bytes) ≡ true → (ends_as_method bytes ≡ true → Parts bytes) → Parts (b ∷ bytes)
    at true is h rest = record { method = []; target = bytes; token = All-nil _; visible = AllPass-from_list_all is_uri_byte bytes h; text_is = ap (λ (x : ℕ). x ∷ bytes) (eqb-true b 32 is) }
    at false is h rest = let two = both (is_token_byte b) (ends_as_method bytes) h in parts_onto b bytes two.0 (rest two.1)

ends : (method target : List ℕ) → AllPass is_token_byte method → list_all is_uri_byte target ≡ true → ends_as_method (method ++ 32 ∷ target) ≡ true
ends [] target all e = e
ends (b ∷ method) target all e =
    let is = All-head (λ x. is_token_byte x ≡ true) b method all in
    rw ((not_line b is).2, is) (ends method target (All-tail (λ x. is_token_byte x ≡ true) b method all) e)

-- ---- both ways

open_line : (line : List ℕ) (bytes : List ℕ) (blank : List LineEnd) → bytes ≡ print_blank blank ++ line → is_open_line line ≡ true → EndsInTarget bytes
open_line [] bytes blank is e = absurd (cc)
open_line (b ∷ line) bytes blank is e =
    let two = both (is_token_byte b) (ends_as_method line) e in
    let p = parts line two.1 in
    let whole : bytes ≡ print_blank blank ++ (b ∷ p.method ++ 32 ∷ p.target) = is ∙ ap (λ (x : List ℕ). print_blank blank ++ b ∷ x) p.text_is in (
      blank,
      b ∷ p.method,
      p.target,
      (omega arith, All-cons (λ x. is_token_byte x ≡ true) b p.method two.0 p.token),
      p.visible,
      whole ∙ sym (append_assoc (print_blank blank) (b ∷ p.method) (32 ∷ p.target)),
    )

pub is_in_target : (bytes : List ℕ) → is_open_line (behind_blanks bytes) ≡ true → EndsInTarget bytes
is_in_target bytes e = let b = blanks bytes in open_line (behind_blanks bytes) bytes b.ends b.text_is e

pub in_target_is : (bytes : List ℕ) → EndsInTarget bytes → is_open_line (behind_blanks bytes) ≡ true
in_target_is bytes (blank, [], target, token, visible, is) = let some = token.0 in absurd (omega arith)
in_target_is bytes (blank, b ∷ method, target, token, visible, is) =
    let first = All-head (λ x. is_token_byte x ≡ true) b method token.1 in
    let whole = is ∙ append_assoc (print_blank blank) (b ∷ method) (32 ∷ target) in
    rw (whole, behind blank b (method ++ 32 ∷ target) first, first)
    (ends method target (All-tail (λ x. is_token_byte x ≡ true) b method token.1) (list_all-from_AllPass is_uri_byte target visible))

-- ---- what goes on in a target

record Split (front rest first last : List ℕ) : Type 0 where
  middle : List ℕ
  first_is : first ≡ front ++ middle
  last_is : rest ≡ middle ++ last

same_cons : (x y : ℕ) (xs ys : List ℕ) → x ∷ xs ≡ y ∷ ys → (x ≡ y) × (xs ≡ ys)
same_cons x y xs ys e = (cc, cc)

-- of two ways to part a text, one parts it first
split : (front rest first last : List ℕ) → front ++ rest ≡ first ++ last → Split front rest first last ⊎ Split first last front rest
split [] rest first last e = inl (record { middle = first; first_is = refl; last_is = e })
split (x ∷ front) rest [] last e = inr (record { middle = x ∷ front; first_is = refl; last_is = sym e })
split (x ∷ front) rest (y ∷ first) last e =
    let one = same_cons x y (front ++ rest) (first ++ last) e in
    elim (split front rest first last one.1) [
      | inl s ↦ inl (record { middle = s.middle; first_is = ap₂ (λ (z : ℕ) (zs : List ℕ). z ∷ zs) (sym one.0) s.first_is; last_is = s.last_is })
      | inr s ↦ inr (record { middle = s.middle; first_is = ap₂ (λ (z : ℕ) (zs : List ℕ). z ∷ zs) one.0 s.first_is; last_is = s.last_is })
    ]

-- how a request may go on after its method and space
abbrev rest_of_head : List ℕ
rest_of_head = codes "/" ++ 32 ∷ (print_version 1 ++ (crlf_bytes ++ (crlf_bytes ++ [])))

abbrev some_head : List LineEnd → List ℕ → RequestHead
some_head blank method = record {
  blank = blank;
  method = method;
  target = codes "/";
  minor = 1;
  line_end = crlf;
  fields = [];
  last = crlf;
}

is_some_head : (blank : List LineEnd) (method : List ℕ) → IsToken method → IsRequestHead (some_head blank method)
is_some_head blank method token = record {
  method = token;
  target = (omega arith, AllPass-from_list_all is_uri_byte (codes "/") refl);
  target_text = IsUtf8-from_ascii _ (IsAscii-cons 47 [] (omega arith) IsAscii-nil);
  minor = omega arith;
  fields = All-nil _;
}

-- a method and a space may become a request
becomes : (blank : List LineEnd) (method front middle : List ℕ) → IsToken method → print_blank blank ++ method ++ 32 ∷ [] ≡ front ++ middle → NeverHasRequest front → ⊥
becomes blank method front middle token e never =
    let h = some_head blank method in
    let whole : front ++ (middle ++ rest_of_head) ≡ print_request h ++ [] =
    sym (append_assoc front middle rest_of_head)
    ∙ ap (λ (x : List ℕ). x ++ rest_of_head) (sym e)
    ∙ append_assoc (print_blank blank ++ method) (32 ∷ []) rest_of_head
    ∙ append_assoc (print_blank blank) method (32 ∷ rest_of_head)
    ∙ sym (print_request-append h []) in
    never (middle ++ rest_of_head) h [] (is_some_head blank method token, whole)

AllPass-front : (test : ℕ → Bool) (front rest : List ℕ) → AllPass test (front ++ rest) → AllPass test front
AllPass-front test [] rest all = All-nil _
AllPass-front test (b ∷ front) rest all =
    All-cons (λ x. test x ≡ true) b front (All-head (λ x. test x ≡ true) b (front ++ rest) all) (AllPass-front test front rest (All-tail (λ x. test x ≡ true) b (front ++ rest) all))

-- bytes that no bytes make a head end inside a target where more bytes do
pub ended_before : (front rest : List ℕ) → NeverHasRequest front → EndsInTarget (front ++ rest) → EndsInTarget front
ended_before front rest never (blank, method, target, token, visible, is) =
    elim (split front rest (print_blank blank ++ method ++ 32 ∷ []) target (is ∙ sym (append_assoc (print_blank blank ++ method) (32 ∷ []) target))) [
      | inl s ↦ absurd (becomes blank method front s.middle token s.first_is never)
      | inr s ↦ (
        blank,
        method,
        s.middle,
        token,
        AllPass-front is_uri_byte s.middle rest (subst (AllPass is_uri_byte) s.last_is visible),
        s.first_is ∙ append_assoc (print_blank blank ++ method) (32 ∷ []) s.middle,
      )
    ]
