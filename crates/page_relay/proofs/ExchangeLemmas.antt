-- What is kept after exchanges is one, and so are those that were handed on.
use Rattle.std.proofs.Common.{◌≡◌, ◌∙◌, ◌⊎◌, ℕ, List, [], ◌∷◌, length, Option, Some, None, arith, inl, inr, refl, subst, sym}
use Rattle.connection_uri.specs.Base.{BaseParts}
use Rattle.lc_world.specs.declared.entry.Entry.{Entry}
use Rattle.lc_world.specs.declared.entry.RecordedReply.TheVariants.{Hidden}
use Rattle.page_relay.specs.Exchanges.{GoesOn, KeepsReply}
use Rattle.page_relay.specs.HandedOn.{AreRelayed, IsHandedOn, IsRecordedBelow, exchanged_of}
use Rattle.page_relay.specs.Kept.{Kept, reply_for}
use Rattle.page_relay.specs.Laws.{AreAlike, AreOne, IsAlike, OneMemory}
use Rattle.page_relay.specs.declared.sent.SentRequest.{SentRequest}

one_keeping : (base : BaseParts) (entries : ℕ) (kept : List Kept) (sent : SentRequest) (reply : List ℕ) (a b : List Kept) → KeepsReply base entries kept sent reply a → KeepsReply base entries kept sent reply b → a ≡ b
one_keeping base entries kept sent reply a b (inl (keep, is)) (inl (keep', is')) = is ∙ sym is'
one_keeping base entries kept sent reply a b (inl (keep, is)) (inr (not, is')) = absurd (not keep)
one_keeping base entries kept sent reply a b (inr (not, is)) (inl (keep, is')) = absurd (not keep)
one_keeping base entries kept sent reply a b (inr (not, is)) (inr (not', is')) = is ∙ sym is'

one_next : (base : BaseParts) (entries : ℕ) (kept : List Kept) (sent : SentRequest) (held reply : Option (List ℕ)) (a b : List Kept) → GoesOn base entries kept sent held reply a → GoesOn base entries kept sent held reply b → a ≡ b
one_next base entries kept sent (Some held) (Some reply) a b is is' = is.1 ∙ sym is'.1
one_next base entries kept sent None (Some reply) a b is is' = one_keeping base entries kept sent reply a b is is'
one_next base entries kept sent None None a b is is' = is ∙ sym is'
one_next base entries kept sent (Some held) None a b is is' = is ∙ sym is'

-- what was recorded below of one exchange
one_below : (entry a b : Entry) → IsRecordedBelow entry a → IsRecordedBelow entry b → IsAlike a b
one_below entry a b is other = record { authority_is = is.authority_is ∙ sym other.authority_is; request_is = is.request_is ∙ sym other.request_is; end_is = ends is.end_is other.end_is } where
  ends : (a.reply ≡ Hidden) ⊎ (a.reply ≡ entry.reply) → (b.reply ≡ Hidden) ⊎ (b.reply ≡ entry.reply) → (a.reply ≡ Hidden) ⊎ ((b.reply ≡ Hidden) ⊎ (a.reply ≡ b.reply))
  ends (inl hidden) second = inl hidden
  ends (inr first) (inl hidden) = inr (inl hidden)
  ends (inr first) (inr second) = inr (inr (first ∙ sym second))

-- and what was handed on from it on
one_handed : (held : Option (List ℕ)) (entry : Entry) (rest others handed_on other : List Entry) → IsHandedOn held entry rest handed_on → IsHandedOn held entry others other → AreAlike rest others → AreAlike handed_on other
one_handed (Some held) entry rest others handed_on other (said, is) (said', is') alike =
    subst (λ (m : List Entry). AreAlike m other) (sym is) (subst (AreAlike rest) (sym is') alike)
one_handed None entry rest others handed_on other (a, first, is) (b, second, is') alike =
    subst (λ (m : List Entry). AreAlike m other) (sym is) (subst (AreAlike (a ∷ rest)) (sym is') (one_below entry a b first second, alike))

alike_lengths : (a b : List Entry) → AreAlike a b → length a ≡ length b
alike_lengths [] [] alike = refl
alike_lengths [] (y ∷ b) alike = absurd alike
alike_lengths (x ∷ a) [] alike = absurd alike
alike_lengths (x ∷ a) (y ∷ b) (first, rest) = let same = alike_lengths a b rest in omega (arith, same)

no_exchange : (handed_on other : List Entry) → handed_on ≡ [] → other ≡ [] → AreAlike handed_on other
no_exchange handed_on other is is' = subst (λ (m : List Entry). AreAlike m other) (sym is) (subst (AreAlike []) (sym is') tt)

made_one : (a b : List Kept) (handed_on other : List Entry) → a ≡ b → AreAlike handed_on other → AreOne a b handed_on other
made_one a b handed_on other is alike = record { kept_is = is; alike = alike; count_is = alike_lengths handed_on other alike }

pub one_memory : OneMemory
one_memory base entries kept [] a b handed_on other is is' = made_one a b handed_on other (is.0 ∙ sym is'.0) (no_exchange handed_on other is.1 is'.1)
one_memory base entries kept (entry ∷ more) a b handed_on other (between, rest, step, after, handed) (between', others, step', after', handed') =
    let exchanged = exchanged_of entry in
    let held = reply_for exchanged.sent kept in
    let same : between ≡ between' = one_next base entries kept exchanged.sent held exchanged.reply between between' step step' in
    let one = one_memory base entries between more a b rest others after (subst (λ (k : List Kept). AreRelayed base entries k more b others) (sym same) after') in
    made_one a b handed_on other one.kept_is (one_handed held entry rest others handed_on other handed handed' one.alike)
