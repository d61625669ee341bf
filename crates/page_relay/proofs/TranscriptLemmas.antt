-- A transcript of a relay says how the relay was made, and what the link below had recorded then.
use Rattle.std.proofs.Common.{◌≡◌, ◌∙◌, ◌+◌, ◌-◌, ◌^◌, ℕ, Bool, min, List, [], ◌∷◌, ◌++◌, length, Option, Some, None, Result, Ok, Err, inl, inr, refl, sym, ap, subst, append-nil, append_assoc, length-append, arith}
use Rattle.connection_uri.specs.Base.{BaseParts}
use Rattle.lc_world.specs.Link.{LinkSeen, Tells}
use Rattle.lc_world.specs.ListLink.{entry_of}
use Rattle.lc_world.specs.declared.entry.Entry.{Entry}
use Rattle.lc_world.specs.declared.entry.RecordedReply.TheVariants as recorded_replies
use Rattle.lc_world.specs.declared.link.LinkFail.{LinkFail}
use Rattle.lc_world.specs.declared.link.LinkFail.TheVariants.{Failed, NoMemory}
use Rattle.page_relay.specs.HandedOn.{reply_in}
use Rattle.page_relay.specs.Kept.{Kept}
use Rattle.page_relay.specs.Laws.{AreOneRelay, CountsAreLengths, CountsAreSince, LeavesBelow, OneTranscript}
use Rattle.page_relay.specs.Relay.{RelayState, beginning_of, transcript_in, transcript_of}
use Rattle.page_relay.specs.Recorded.{HasRelayed, Records}
use Rattle.page_relay.proofs.HonestLemmas.{below_is, new_is}
use Rattle.std.specs.Prelude.{unwrap_or}

-- WHAT AN EXCHANGE ADDS

-- an exchange that a relay records is recorded at the end of its transcript
tells : {T : Type 0} (beginning before after : List Entry) (authority request reply : List ℕ) (result : Result T LinkFail) → Records before after authority request reply result
    → Tells (Some (beginning ++ before)) (Some (beginning ++ after)) authority request reply result
tells beginning before after authority request reply (Ok done) is = record {
  reply = recorded_replies.Reply reply;
  is_given = inr refl;
  is = ap Some (ap (λ (own : List Entry). beginning ++ own) is ∙ sym (append_assoc beginning before (entry_of authority request (recorded_replies.Reply reply) ∷ [])));
}
tells beginning before after authority request reply (Err Failed) is = record {
  reply = recorded_replies.Failed;
  is_given = inr refl;
  is = ap Some (ap (λ (own : List Entry). beginning ++ own) is ∙ sym (append_assoc beginning before (entry_of authority request recorded_replies.Failed ∷ [])));
}
tells beginning before after authority request reply (Err NoMemory) is = inl (ap (λ (own : List Entry). Some (beginning ++ own)) is)

-- how a relay was made
pub record IsMadeAs {X : Type 0} (was now : RelayState X) : Type 0 where
  pub base_is : now.exchanger.base ≡ was.exchanger.base
  pub entries_is : now.exchanger.memory.entries ≡ was.exchanger.memory.entries
  pub made_is : now.made ≡ was.made

-- calls leave it so
pub made_as : {X : Type 0} (was now : RelayState X) (inner : X) (kept : List Kept) (forwarded : ℕ) (own : List Entry) (relayed : ℕ) (exact : Bool)
    → now ≡ record was { exchanger = record was.exchanger { inner = inner; memory = record was.exchanger.memory { kept = kept }; forwarded = forwarded }; recorded = own; relayed = relayed; exact = exact }
    → IsMadeAs was now
made_as {X} was now inner kept forwarded own relayed exact is = record {
  base_is = ap (λ (r : RelayState X). r.exchanger.base) is;
  entries_is = ap (λ (r : RelayState X). r.exchanger.memory.entries) is;
  made_is = ap (λ (r : RelayState X). r.made) is;
}

-- and so in the transcripts of one relay
pub tells_by : {X T : Type 0} (seen : X → LinkSeen) (was now : RelayState X) (authority request reply : List ℕ) (result : Result T LinkFail) → IsMadeAs was now
    → Records was.recorded now.recorded authority request reply result → Tells (Some (transcript_in seen was)) (Some (transcript_in seen now)) authority request reply result
tells_by {X} seen was now authority request reply result same is =
    let begins : BaseParts → ℕ → X → List Entry = λ base entries made. beginning_of base entries (seen made).recorded in
    let beginning : begins was.exchanger.base was.exchanger.memory.entries was.made ≡ begins now.exchanger.base now.exchanger.memory.entries now.made =
    sym (λ i. begins (same.base_is i) (same.entries_is i) (same.made_is i)) in
    subst (λ (b : List Entry). Tells (Some (transcript_in seen was)) (Some (b ++ now.recorded)) authority request reply result) beginning
    (tells (begins was.exchanger.base was.exchanger.memory.entries was.made) was.recorded now.recorded authority request reply result is)

-- what is left of a reply after an error changes nothing of this
pub records_failed : (T : Type 0) (before after : List Entry) (authority request reply other : List ℕ) (fail : LinkFail) → Records {T = T} before after authority request reply (Err fail)
    → Records {T = T} before after authority request other (Err fail)
records_failed T before after authority request reply other Failed is = is
records_failed T before after authority request reply other NoMemory is = is

-- WHERE THE OWN EXCHANGES BEGIN

-- what the first entry says
abbrev base_in : List Entry → BaseParts
base_in [] = record { text = []; authority = []; path = [] }
base_in (entry ∷ more) = record { text = unwrap_or (reply_in entry.reply) []; authority = entry.authority; path = entry.request }

-- and the second one
abbrev numbers_in : List Entry → List ℕ
numbers_in [] = []
numbers_in (first ∷ []) = []
numbers_in (first ∷ second ∷ more) = second.request

-- and those after them
abbrev behind : List Entry → List Entry
behind [] = []
behind (first ∷ []) = []
behind (first ∷ second ∷ more) = more

abbrev first_or : Entry → List Entry → Entry
first_or other [] = other
first_or other (entry ∷ more) = entry

abbrev rest_of : List Entry → List Entry
rest_of [] = []
rest_of (entry ∷ more) = more

one_part : (a b xs ys : List Entry) → length a ≡ length b → a ++ xs ≡ b ++ ys → (a ≡ b) × (xs ≡ ys)
one_part [] [] xs ys same is = (refl, is)
one_part [] (y ∷ b) xs ys same is = absurd (omega (arith, same))
one_part (x ∷ a) [] xs ys same is = absurd (omega (arith, same))
one_part (x ∷ a) (y ∷ b) xs ys same is =
    let first : x ≡ y = ap (first_or x) is in
    let more = one_part a b xs ys (omega (arith, same)) (ap rest_of is) in
    (λ i. first i ∷ more.0 i, more.1)

no_none : (n : ℕ) → [] ≡ n ∷ [] → ⊥
no_none n e = cc

abbrev number_of : List ℕ → ℕ
number_of [] = 0
number_of (n ∷ more) = n

abbrev numbers_after : List ℕ → List ℕ
numbers_after [] = []
numbers_after (n ∷ more) = more

-- the relay is the one of before, and has more exchanges of its own
pub one_relay : (base other_base : BaseParts) (entries other_entries : ℕ) (made other_made : Option (List Entry)) (own other_own more : List Entry) → transcript_of other_base other_entries other_made other_own ≡ transcript_of base entries made own ++ more
    → AreOneRelay base other_base entries other_entries made other_made (own ++ more) other_own
one_relay base other_base entries other_entries None None own other_own more is = record {
  base_is = ap base_in is;
  entries_is = ap (λ (list : List Entry). number_of (numbers_in list)) is;
  made_is = refl;
  own_is = ap behind is;
}
one_relay base other_base entries other_entries None (Some now) own other_own more is = absurd (no_none (length now) (sym (ap (λ (list : List Entry). numbers_after (numbers_in list)) is)))
one_relay base other_base entries other_entries (Some made) None own other_own more is = absurd (no_none (length made) (ap (λ (list : List Entry). numbers_after (numbers_in list)) is))
one_relay base other_base entries other_entries (Some made) (Some now) own other_own more is =
    let same : length now ≡ length made = ap (λ (list : List Entry). number_of (numbers_after (numbers_in list))) is in
    let parts = one_part now made other_own (own ++ more) same (ap behind is ∙ append_assoc made own more) in
    record { base_is = ap base_in is; entries_is = ap (λ (list : List Entry). number_of (numbers_in list)) is; made_is = ap Some parts.0; own_is = parts.1 }

pub one_transcript : OneTranscript
one_transcript base other_base entries other_entries made other_made own other_own is =
    let transcript = transcript_of base entries made own in
    let one = one_relay base other_base entries other_entries made other_made own other_own [] (is ∙ sym (append-nil transcript)) in
    record { base_is = one.base_is; entries_is = one.entries_is; made_is = one.made_is; own_is = one.own_is ∙ append-nil own }

same_list : (a b : List Entry) → Some a ≡ Some b → a ≡ b
same_list a b e = cc

pub counts_since : {X : Type 0} (seen : X → LinkSeen) → CountsAreSince seen
counts_since seen inner base entries after has more =
    let made = (seen inner).recorded in
    let beginning = beginning_of base entries made in
    let is = same_list (transcript_in seen after) (transcript_of base entries made [] ++ more.more) more.is in
    let one = one_relay base after.exchanger.base entries after.exchanger.memory.entries made (seen after.made).recorded [] after.recorded more.more is in
    let Said : BaseParts → ℕ → Option (List Entry) → List Entry → Type 0 =
    λ b e m own. HasRelayed b e m (seen after.exchanger.inner).recorded after.exchanger.memory.kept own after.relayed after.exchanger.forwarded after.exact in
    record {
      own_is = one.own_is;
      recorded_is = ap Some (is ∙ ap (λ (list : List Entry). list ++ more.more) (append-nil beginning));
      has =
          subst (λ (b : BaseParts). Said b entries made more.more) one.base_is
          (subst (λ (e : ℕ). Said after.exchanger.base e made more.more) one.entries_is
          (subst (λ (m : Option (List Entry)). Said after.exchanger.base after.exchanger.memory.entries m more.more) one.made_is
          (subst (Said after.exchanger.base after.exchanger.memory.entries (seen after.made).recorded) one.own_is has)));
    }

pub leaves_below : {X : Type 0} (seen : X → LinkSeen) → LeavesBelow seen
leaves_below seen inner base entries after has left =
    let recorded = (counts_since seen inner base entries after has left.gone_on.recorded_more).has.recorded in
    record {
      gone_on = record { not_fallen = left.gone_on.not_fallen; recorded_more = record { more = recorded.handed_on; is = recorded.is }; clear = left.gone_on.clear };
      honest = λ under side honest.
          let l = left.honest under side (new_is under _ _ side honest) in
          record { left = l.left; honest = below_is under _ _ _ l.left l.honest; later = l.later; same = l.same; quiet = l.quiet };
      still = left.still;
      side = left.side;
    }

grown : (made now more count most : ℕ) → now ≡ made + more → count ≡ min more most → count ≡ min (now - made) most
grown made now more count most is counts = omega (arith, is, counts)

pub lengths : CountsAreLengths
lengths made now kept own relayed forwarded recorded =
    let is : now ≡ made ++ recorded.handed_on = same_list now (made ++ recorded.handed_on) recorded.is in
    record {
      relayed_is = recorded.relayed_is refl;
      forwarded_is = grown (length made) (length now) (length recorded.handed_on) forwarded (2 ^ 64 - 1) (ap length is ∙ length-append made recorded.handed_on) (recorded.forwarded_is refl);
    }
