-- What the talk gives back of more bytes.
use Rattle.std.proofs.Common.{◌≡◌, ◌≢◌, ◌∙◌, ℕ, zero, suc, ◌+◌, ◌-◌, ◌≤◌, ◌==◌, ◌||◌, Bool, true, false, List, [], ◌∷◌, ◌++◌, length, take, min, refl, sym, ap, arith, append_assoc, length-append, length-take}
use borrow.Author.Tests.{eqb-false}
use Rattle.lc_io.specs.EchoTalk.{EchoTalkState, HasEchoed, take_none}

-- the first bytes of two parts
take_more : (n room : ℕ) (xs ys : List ℕ) → room ≡ n - length xs → take n (xs ++ ys) ≡ take n xs ++ take room ys
take_more zero room xs ys e = let none : 0 ≡ room = omega arith in ap (λ (k : ℕ). take k ys) none
take_more (suc n) room [] ys e = let all : suc n ≡ room = omega arith in ap (λ (k : ℕ). take k ys) all
take_more (suc n) room (x ∷ xs) ys e = ap (λ (l : List ℕ). x ∷ l) (take_more n room xs ys (omega arith))

-- no more are taken than there are
take_same : (a b : ℕ) (ys : List ℕ) → a ≡ min b (length ys) → take a ys ≡ take b ys
take_same a b [] e = take_none a ∙ sym (take_none b)
take_same zero zero (y ∷ ys) e = refl
take_same zero (suc b) (y ∷ ys) e = absurd (omega arith)
take_same (suc a) zero (y ∷ ys) e = absurd (omega arith)
take_same (suc a) (suc b) (y ∷ ys) e = ap (λ (l : List ℕ). y ∷ l) (take_same a b ys (omega arith))

-- a talk that gives back the next bytes, as many as it may, has echoed these too
pub echoes_more : (talk : EchoTalkState) (limit count : ℕ) (fed sent piece : List ℕ) → HasEchoed talk limit fed sent → count ≡ min (talk.limit - talk.requests) (length piece)
    → HasEchoed (record talk { requests = talk.requests + length (take count piece); pending = talk.pending ++ take count piece }) limit (fed ++ piece) sent
echoes_more talk limit count fed sent piece has is =
    let room = limit - length fed in
    let limit_is : talk.limit ≡ limit = has.limit_is in
    let requests_are : talk.requests ≡ min limit (length fed) = has.requests_are in
    let same : take count piece ≡ take room piece = take_same count room piece (omega arith) in
    record {
      some = has.some;
      limit_is = has.limit_is;
      goes_on = has.goes_on;
      requests_are = omega (arith, length-append fed piece, length-take count piece);
      output_is = sym (append_assoc sent talk.pending (take count piece))
          ∙ (ap (λ (l : List ℕ). l ++ take count piece) has.output_is
          ∙ (ap (λ (l : List ℕ). take limit fed ++ l) same ∙ sym (take_more limit room fed piece refl)));
    }

second_false : (a b : Bool) → (a || b) ≡ false → b ≡ false
second_false true b e = absurd (cc)
second_false false b e = e

-- a talk that has not ended gave back all that it was fed
pub all_given : (spent : Bool) (limit requests count : ℕ) (piece : List ℕ) → requests ≤ limit → count ≡ min (limit - requests) (length piece)
    → (spent || ((requests + length (take count piece)) == limit)) ≡ false → requests + length (take count piece) ≡ requests + length piece
all_given spent limit requests count piece within is goes_on =
    let given = requests + length (take count piece) in
    let not_all : given ≢ limit = eqb-false given limit (second_false spent (given == limit) goes_on) in
    omega (arith, length-take count piece, not_all)
