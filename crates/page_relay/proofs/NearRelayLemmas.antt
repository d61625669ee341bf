-- Near relays that the definitions refuse.
use Rattle.std.proofs.Common.{◌≡◌, ◌∙◌, ◌+◌, ◌-◌, ◌^◌, ◌<◌, ◌∷◌, ◌++◌, [], ℕ, Some, List, ap, arith, inr, length, length-append, min, refl, subst, sym}
use Rattle.std.proofs.lemmas.List.Elements.{All-contains, All-head}
use Rattle.connection_uri.specs.Base.{BaseParts}
use Rattle.lc_model.proofs.ListLemmas.{Contains-nil}
use Rattle.lc_world.specs.declared.entry.Entry.{Entry}
use Rattle.lc_world.specs.declared.entry.RecordedReply.TheVariants.{Reply}
use Rattle.page_relay.specs.HandedOn.{AreRelayed}
use Rattle.page_relay.specs.Kept.{Kept}
use Rattle.page_relay.specs.Near.{NoneIsGivenUnasked, NoneIsHidden, NoneIsKeptUnasked, NotHandedOnAgain, NotInOtherOrder, NotOneMore, NothingIsLost}
use Rattle.page_relay.specs.Recorded.{IsGiven, IsGivenOf, IsKeptOf, IsReplied}
use Rattle.page_relay.specs.Worked.{example, replied, stops}
use Rattle.page_relay.proofs.ExchangeLemmas.{one_memory}
use Rattle.page_relay.proofs.TranscriptLemmas.{lengths}
use Rattle.page_relay.proofs.WorkedLemmas.{follows}

same_list : (a b : List Entry) → Some a ≡ Some b → a ≡ b
same_list a b e = cc

-- what was recorded since is nothing where as much is recorded as before
none_since : (made more : List Entry) → made ≡ made ++ more → more ≡ []
none_since made [] is = refl
none_since made (entry ∷ more) is = let same : length made ≡ length made + length (entry ∷ more) = ap length is ∙ length-append made (entry ∷ more) in absurd (omega (arith, same))

no_reply : (authority request reply : List ℕ) → IsReplied [] authority request reply → ⊥
no_reply authority request reply is = Contains-nil is.entry is.there

pub none_is_kept_unasked : NoneIsKeptUnasked
none_is_kept_unasked made sent reply kept own relayed forwarded exact recorded =
    let none : recorded.handed_on ≡ [] = none_since made recorded.handed_on (same_list made (made ++ recorded.handed_on) recorded.is) in
    let first : Kept = (sent, reply) in
    let by = All-head (IsKeptOf recorded.handed_on) first kept recorded.kept_of in
    no_reply sent.authority sent.request reply (subst (λ (handed_on : List Entry). IsReplied handed_on sent.authority sent.request reply) none by)

pub none_is_given_unasked : NoneIsGivenUnasked
none_is_given_unasked made kept entry reply own relayed forwarded exact is recorded =
    let none : recorded.handed_on ≡ [] = none_since made recorded.handed_on (same_list made (made ++ recorded.handed_on) recorded.is) in
    let by : IsGiven recorded.handed_on entry.authority entry.request (Reply reply) =
    subst (IsGiven recorded.handed_on entry.authority entry.request) is (All-head (IsGivenOf recorded.handed_on) entry own recorded.given_of) in
    no_reply entry.authority entry.request reply (subst (λ (handed_on : List Entry). IsReplied handed_on entry.authority entry.request reply) none by)

pub nothing_is_lost : NothingIsLost
nothing_is_lost made entry kept own relayed forwarded exact recorded =
    let is : length made ≡ length (entry ∷ made) + length recorded.handed_on = ap length (same_list made ((entry ∷ made) ++ recorded.handed_on) recorded.is) ∙ length-append (entry ∷ made) recorded.handed_on in
    omega (arith, is)

one_more : (made now more most : ℕ) → now ≡ made + more → more < most → more + 1 ≡ min (now - made) most → ⊥
one_more made now more most is bound counts = omega (arith, is, bound, counts)

pub not_one_more : NotOneMore
not_one_more made handed_on kept own relayed bound recorded =
    one_more (length made) (length (made ++ handed_on)) (length handed_on) (2 ^ 64 - 1) (length-append made handed_on) bound
    (lengths made (made ++ handed_on) kept own relayed (length handed_on + 1) recorded).forwarded_is

two_is_one : (m n most : ℕ) → m ≡ n → 1 ≡ min m most → 2 ≡ min n most → ⊥
two_is_one m n most same one two = omega (arith, same, one, two)

pub not_handed_on_again : NotHandedOnAgain
not_handed_on_again reply kept made now keep again =
    let once = follows reply (Reply reply) (inr refl) [] keep in
    let one = one_memory example 1 [] (replied reply ∷ replied reply ∷ []) ((stops, reply) ∷ []) kept once.handed_on again.handed_on once.relayed again.relayed in
    two_is_one (length once.handed_on) (length again.handed_on) (2 ^ 64 - 1) one.count_is once.count_is again.count_is

pub none_is_hidden : NoneIsHidden
none_is_hidden made now kept own entry relayed forwarded exact there hidden recorded =
    subst (IsGiven recorded.handed_on entry.authority entry.request) hidden (All-contains (IsGivenOf recorded.handed_on) own entry recorded.given_of there)

-- THE ORDER

same_first : (a b : Entry) (xs ys : List Entry) → a ∷ xs ≡ b ∷ ys → a ≡ b
same_first a b xs ys e = cc

-- after an equal front lists are equal where the whole is
after_front : (front xs ys : List Entry) → front ++ xs ≡ front ++ ys → xs ≡ ys
after_front [] xs ys e = e
after_front (entry ∷ front) xs ys e = after_front front xs ys (cc)

-- the first exchange of a new relay is the first one that it handed on
first_handed_on : (base : BaseParts) (entries : ℕ) (first below : Entry) (own more : List Entry) (kept : List Kept) → AreRelayed base entries [] (first ∷ own) kept (below ∷ more) → below.request ≡ first.request
first_handed_on base entries first below own more kept (between, rest, step, relayed, (found, recorded, is)) =
    ap (λ (entry : Entry). entry.request) (same_first below found more rest is) ∙ recorded.request_is

pub not_in_other_order : NotInOtherOrder
not_in_other_order base entries made own more first second kept forwarded other follows =
    let turned : List Entry = second ∷ first ∷ more in
    let same : turned ≡ follows.handed_on = after_front made turned follows.handed_on (same_list (made ++ turned) (made ++ follows.handed_on) follows.is) in
    let relayed : AreRelayed base entries [] (first ∷ second ∷ own) kept turned = subst (AreRelayed base entries [] (first ∷ second ∷ own) kept) (sym same) follows.relayed in
    other (sym (first_handed_on base entries first second (second ∷ own) (first ∷ more) kept relayed))
