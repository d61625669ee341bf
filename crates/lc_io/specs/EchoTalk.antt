-- Talks in memory that give back what they are fed.
use Rattle.std.specs.Prelude.{◌≡◌, ◌≢◌, ℕ, zero, suc, ◌<◌, ◌==◌, ◌||◌, Bool, false, List, [], ◌++◌, length, take, min, refl}
use Rattle.std.proofs.Common.{sym, ◌∙◌, ap, arith, ne_eqb}
use Rattle.lc_io.specs.Talk.{Said, TalkSeen}

-- how many bytes it gives back at most, how many it gave back, which of them are not sent, and whether memory has run out
pub record EchoTalkState : Type 0 where
  pub limit : ℕ
  pub requests : ℕ
  pub pending : List ℕ
  pub spent : Bool

-- each byte is a request; the talk has ended once there were as many as it answers, or once memory ran out
abbrev pub echo_seen : EchoTalkState → TalkSeen
echo_seen talk = record { count = talk.requests; pending = talk.pending; requests = talk.requests; ended = talk.spent || (talk.requests == talk.limit) }

-- what is said for bytes, where the talk gives back so many at most
abbrev pub echo_of : ℕ → List ℕ → Said
echo_of limit fed = record { output = take limit fed; requests = min limit (length fed); ended = min limit (length fed) == limit }

-- it gives back some bytes, and says this
pub record Echoes (limit : ℕ) (fed : List ℕ) (said : Said) : Type 0 where
  pub some : 0 < limit
  pub is : said ≡ echo_of limit fed

-- the talk gives back so many bytes at most, was fed the first ones, and has sent the second ones
pub record HasEchoed (talk : EchoTalkState) (limit : ℕ) (fed sent : List ℕ) : Type 0 where
  pub some : 0 < limit
  pub limit_is : talk.limit ≡ limit
  pub goes_on : talk.spent ≡ false
  pub requests_are : talk.requests ≡ min limit (length fed)
  pub output_is : sent ++ talk.pending ≡ take limit fed

same_ended : (spent : Bool) (requests limit other : ℕ) → spent ≡ false → requests ≡ other → (spent || (requests == limit)) ≡ (other == limit)
same_ended spent requests limit other goes_on same = ap (λ (b : Bool). b || (requests == limit)) goes_on ∙ ap (λ (n : ℕ). n == limit) same

-- the record of three equal parts
same_said : (a b : List ℕ) (m n : ℕ) (p q : Bool) → a ≡ b → m ≡ n → p ≡ q → let left : Said = record { output = a; requests = m; ended = p } in left ≡ record { output = b; requests = n; ended = q }
same_said a b m n p q output requests ended =
    ap (λ (l : List ℕ). record { output = l; requests = m; ended = p }) output
    ∙ (ap (λ (k : ℕ). record { output = b; requests = k; ended = p }) requests
    ∙ ap (λ (e : Bool). record { output = b; requests = n; ended = e }) ended)

-- what it gave back, and what is pending, is what is said
pub echo_said : (talk : EchoTalkState) (limit : ℕ) (fed sent : List ℕ) → HasEchoed talk limit fed sent
    → Echoes limit fed (record { output = sent ++ (echo_seen talk).pending; requests = (echo_seen talk).requests; ended = (echo_seen talk).ended })
echo_said talk limit fed sent has = record {
  some = has.some;
  is = same_said (sent ++ talk.pending) (take limit fed) talk.requests (min limit (length fed)) (talk.spent || (talk.requests == talk.limit)) (min limit (length fed) == limit)
      has.output_is has.requests_are
      (ap (λ (n : ℕ). talk.spent || (talk.requests == n)) has.limit_is ∙ same_ended talk.spent talk.requests limit (min limit (length fed)) has.goes_on has.requests_are);
}

-- it is one
pub one_echo : (limit : ℕ) (fed : List ℕ) (a b : Said) → Echoes limit fed a → Echoes limit fed b → a ≡ b
one_echo limit fed a b p q = p.is ∙ sym q.is

pub take_none : (limit : ℕ) → let none : List ℕ = [] in take limit none ≡ none
take_none zero = refl
take_none (suc limit) = refl

no_limit : (limit : ℕ) → 0 < limit → min limit 0 ≢ limit
no_limit limit some is = absurd (omega arith)

-- for no bytes there is none
pub no_echo : (limit : ℕ) (a : Said) → Echoes limit [] a → a ≡ record { output = []; requests = 0; ended = false }
no_echo limit a p = p.is ∙ same_said (take limit []) [] (min limit 0) 0 (min limit 0 == limit) false (take_none limit) (omega arith) (ne_eqb (min limit 0) limit (no_limit limit p.some))
