-- What is found and kept in the memory of a relay.
use Rattle.std.proofs.Common.{◌≡◌, ◌<◌, ◌-◌, ℕ, zero, suc, Bool, true, false, cond, List, [], ◌∷◌, take, Some, None, Contains, refl, sym, subst, arith}
use Rattle.std.specs.Cmp.{first_so, second_so}
use Rattle.std.specs.List.{All}
use Rattle.std.specs.Map.{lookup, lookup_entry}
use Rattle.std.proofs.lemmas.List.Elements.{All-cons, All-contains}
use Rattle.std.proofs.lemmas.Slice.Eq.{bytes_eq-Decides}
use Rattle.lc_model.proofs.ListLemmas.{All-from_contains}
use Rattle.lru.specs.LruCache.{LruCache, put_entries}
use Rattle.lru.proofs.CallerLemmas.{Contains-lookup, Contains-promoted, Contains-take}
use Rattle.lc_world.specs.Sides.Asked.{is_same}
use Rattle.page_relay.specs.Kept.{Kept, is_same_request, reply_for, with_kept, with_used}
use Rattle.page_relay.specs.declared.sent.SentRequest.{SentRequest}

-- requests that are one are equal
pub same_request : (a b : SentRequest) → is_same_request a b ≡ true → a ≡ b
same_request a b h =
    let authority : a.authority ≡ b.authority = (bytes_eq-Decides a.authority b.authority).0 (first_so (is_same a.authority b.authority) (is_same a.request b.request) h) in
    let request : a.request ≡ b.request = (bytes_eq-Decides a.request b.request).0 (second_so (is_same a.authority b.authority) (is_same a.request b.request) h) in
    λ i. record { authority = authority i; request = request i }

-- a reply that is found came to this very request
pub found_is_own : (kept : List Kept) (sent : SentRequest) (reply : List ℕ) → reply_for sent kept ≡ Some reply → Contains kept (sent, reply)
found_is_own kept sent reply e =
    let there = Contains-lookup (is_same_request sent) kept reply e in
    subst (λ (k : SentRequest). Contains kept (k, reply)) (sym (same_request sent there.0 there.2)) there.1

module _ (P : Kept → Type 0) where
  -- what holds of each kept reply holds of each after one was used
  pub All-with_used : (sent : SentRequest) (kept : List Kept) → All P kept → All P (with_used sent kept)
  All-with_used sent kept all =
      All-from_contains P (with_used sent kept) (λ k c. All-contains P kept k all (Contains-promoted (is_same_request sent) kept k c))

  -- and after one more was kept of which it holds
  pub All-with_kept : (entries : ℕ) (sent : SentRequest) (reply : List ℕ) (kept : List Kept) → P (sent, reply) → All P kept → All P (with_kept entries sent reply kept)
  All-with_kept entries sent reply kept here all =
      let front : List Kept = (sent, reply) ∷ kept in
      All-from_contains P (take entries front) (λ k c. All-contains P front k (All-cons P (sent, reply) kept here all) (Contains-take entries front k c))

-- where no value is found no entry is
none_there : (test : SentRequest → Bool) (kept : List Kept) → lookup test kept ≡ None → lookup_entry test kept ≡ None
none_there test [] h = refl
none_there test (k ∷ kept) h = (elim (test k.0) as (λ v. cond v (Some k.1) (lookup test kept) ≡ None → cond v (Some k) (lookup_entry test kept) ≡ None) [
  | true ↦ λ no. cc
  | false ↦ λ no. none_there test kept no
]) h

take_front : (n : ℕ) (k : Kept) (kept : List Kept) → 0 < n → take n (k ∷ kept) ≡ k ∷ take (n - 1) kept
take_front zero k kept h = absurd (omega arith)
take_front (suc n) k kept h = let e : suc n - 1 ≡ n = omega arith in rw e refl

-- what the cache has after a reply was put that was not there
pub put_is : (cache : LruCache SentRequest (List ℕ)) (sent : SentRequest) (reply : List ℕ) → 0 < cache.cap → reply_for sent cache.entries ≡ None
    → put_entries is_same_request cache sent reply ≡ with_kept cache.cap sent reply cache.entries
put_is cache sent reply some none =
    rw (none_there (is_same_request sent) cache.entries none) (sym (take_front cache.cap (sent, reply) cache.entries some))
