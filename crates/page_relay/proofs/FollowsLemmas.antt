-- What a relay keeps and which exchanges it handed on follow from its own exchanges, from each call to the next.
use Rattle.std.proofs.Common.{◌≡◌, ◌∙◌, ℕ, Bool, true, false, IsTrue, List, [], ◌∷◌, ◌++◌, Option, Some, None, Result, Ok, Err, ap, append-nil, refl, subst, sym}
use Rattle.std.specs.Prelude.{◌&&◌}
use Rattle.connection_uri.specs.Base.{BaseParts}
use Rattle.lc_io.specs.Counts.{one_more}
use Rattle.lc_world.specs.Link.{LinkSeen, TellsMore, recorded_of}
use Rattle.lc_world.specs.ListLink.{entry_of}
use Rattle.lc_world.specs.declared.entry.Entry.{Entry}
use Rattle.lc_world.specs.declared.entry.RecordedReply.TheVariants as recorded_replies
use Rattle.lc_world.specs.declared.link.LinkFail.{LinkFail}
use Rattle.lc_world.specs.declared.link.LinkFail.TheVariants.{Failed, NoMemory}
use Rattle.page_relay.specs.Exchanges.{AsksBelow, GoesOn, IsKeptAfter, reply_of}
use Rattle.page_relay.specs.HandedOn.{AreRelayed, Follows, IsHandedOn, exchanged_of}
use Rattle.page_relay.specs.Kept.{Kept, reply_for, sent_to}
use Rattle.page_relay.specs.Recorded.{HasRelayed, Records, counted, known_of}
use Rattle.page_relay.proofs.RecordedLemmas.{RecordedMore, count_on, none_more, then_more, recorded_first}

-- what was handed on from an exchange on stands before what is handed on later
on_and_on : (held : Option (List ℕ)) (entry : Entry) (rest handed_on more : List Entry) → IsHandedOn held entry rest handed_on → IsHandedOn held entry (rest ++ more) (handed_on ++ more)
on_and_on (Some held) entry rest handed_on more (said, is) = (said, ap (λ (list : List Entry). list ++ more) is)
on_and_on None entry rest handed_on more (below, recorded, is) = (below, recorded, ap (λ (list : List Entry). list ++ more) is)

module _ (base : BaseParts) (entries : ℕ) where
  -- one exchange more after others
  then_one : (before kept now : List Kept) (own : List Entry) (entry : Entry) (handed_on more : List Entry) → AreRelayed base entries before own kept handed_on → IsKeptAfter base entries kept (exchanged_of entry) now
      → IsHandedOn (reply_for (sent_to entry.authority entry.request) kept) entry [] more → AreRelayed base entries before (own ++ entry ∷ []) now (handed_on ++ more)
  then_one before kept now [] entry handed_on more (is, none) step last =
      let Last : List Kept → List Entry → Type 0 = λ k list. IsHandedOn (reply_for (sent_to entry.authority entry.request) k) entry [] (list ++ more) in (
        now,
        [],
        subst (λ (k : List Kept). IsKeptAfter base entries k (exchanged_of entry) now) is step,
        (refl, refl),
        subst (λ (k : List Kept). Last k handed_on) is (subst (Last kept) (sym none) last),
      )
  then_one before kept now (first ∷ own) entry handed_on more (between, rest, first_step, after, handed) step last = (
    between,
    rest ++ more,
    first_step,
    then_one between kept now own entry rest more after step last,
    on_and_on (reply_for (sent_to first.authority first.request) before) first rest handed_on more handed,
  )

-- the count after an exchange, by the reply that was kept for its request
abbrev count_after : Option (List ℕ) → ℕ → ℕ
count_after None count = one_more count
count_after (Some held) count = count

counted_after : (held : Option (List ℕ)) (entry : Entry) (handed_on more : List Entry) (count now : ℕ) → count ≡ counted handed_on → IsHandedOn held entry [] more → now ≡ count_after held count → now ≡ counted (handed_on ++ more)
counted_after (Some held) entry handed_on more count now is (said, none) counts =
    counts ∙ is ∙ ap counted (sym (ap (λ (list : List Entry). handed_on ++ list) none ∙ append-nil handed_on))
counted_after None entry handed_on more count now is (below, recorded, one) counts =
    counts ∙ count_on handed_on below count is ∙ ap (λ (list : List Entry). counted (handed_on ++ list)) (sym one)

-- what one exchange of a relay hands on, which the link below records, and how it is counted
record HandsOn (held : Option (List ℕ)) (entry : Entry) (before after : Option (List Entry)) (count now_count : ℕ) : Type 0 where
  more : List Entry
  recorded : RecordedMore before after more
  handed : IsHandedOn held entry [] more
  counts : now_count ≡ count_after held count

-- what follows from one exchange more
one_follows : (base : BaseParts) (entries : ℕ) (made before after : Option (List Entry)) (own : List Entry) (entry : Entry) (kept now : List Kept) (count now_count : ℕ) → IsKeptAfter base entries kept (exchanged_of entry) now
    → HandsOn (reply_for (sent_to entry.authority entry.request) kept) entry before after count now_count → Follows base entries made before own kept count
    → Follows base entries made after (own ++ entry ∷ []) now now_count
one_follows base entries made before after own entry kept now count now_count step hands follows = record {
  handed_on = follows.handed_on ++ hands.more;
  relayed = then_one base entries [] kept now own entry follows.handed_on hands.more follows.relayed step hands.handed;
  is = then_more made before after follows.handed_on hands.more follows.is hands.recorded;
  count_is = counted_after (reply_for (sent_to entry.authority entry.request) kept) entry follows.handed_on hands.more count now_count follows.count_is hands.handed hands.counts;
}

-- where the link below was asked
by_link : (before after : Option (List Entry)) (count now_count : ℕ) (authority request : List ℕ) (given : Option (List ℕ)) → TellsMore before after authority request given → now_count ≡ one_more count
    → HandsOn None (entry_of authority request (recorded_of given)) before after count now_count
by_link before after count now_count authority request given tells counts = record {
  more = entry_of authority request tells.reply ∷ [];
  recorded = tells.is;
  handed = (entry_of authority request tells.reply, record { authority_is = refl; request_is = refl; end_is = tells.is_given }, refl);
  counts = counts;
}

module _ {X : Type 0} (seen : X → LinkSeen) (before after : X) (count now_count : ℕ) (authority request : List ℕ) where
  -- where it was not
  by_none : (held : List ℕ) (entry : Entry) → entry.reply ≡ recorded_replies.Reply held → after ≡ before → now_count ≡ count
      → HandsOn (Some held) entry (seen before).recorded (seen after).recorded count now_count
  by_none held entry said same counts = record {
    more = [];
    recorded = subst (λ (x : X). RecordedMore (seen before).recorded (seen x).recorded []) (sym same) (none_more (seen before).recorded);
    handed = (said, refl);
    counts = counts;
  }

  -- an exchange that was answered, and one that failed
  hands_ok : {T : Type 0} (base : BaseParts) (entries : ℕ) (kept now : List Kept) (held : Option (List ℕ)) (reply : List ℕ) (done : T)
      → GoesOn base entries kept (sent_to authority request) held (Some reply) now → AsksBelow seen before after count now_count authority request held reply (Ok done)
      → HandsOn held (entry_of authority request (recorded_replies.Reply reply)) (seen before).recorded (seen after).recorded count now_count
  hands_ok base entries kept now None reply done step (asks, counts) = by_link (seen before).recorded (seen after).recorded count now_count authority request (Some reply) asks.tells counts
  hands_ok base entries kept now (Some held) reply done (is, used) (same, counts) =
      by_none held (entry_of authority request (recorded_replies.Reply reply)) (ap recorded_replies.Reply is) same counts

  hands_err : (T : Type 0) (held : Option (List ℕ)) (reply : List ℕ) → AsksBelow {T = T} seen before after count now_count authority request held reply (Err Failed)
      → HandsOn held (entry_of authority request recorded_replies.Failed) (seen before).recorded (seen after).recorded count now_count
  hands_err T None reply (asks, counts) = by_link (seen before).recorded (seen after).recorded count now_count authority request None asks.tells counts
  hands_err T (Some held) reply never = absurd never

no_exact : IsTrue false → ⊥
no_exact exact = cc

module _ {X : Type 0} (seen : X → LinkSeen) (made : Option (List Entry)) (before after : X) (base : BaseParts) (entries : ℕ) (kept now : List Kept) (own own_now : List Entry) (forwarded forwarded_now : ℕ) (exact : Bool) (authority request : List ℕ) (follows : IsTrue exact → Follows base entries made (seen before).recorded own kept forwarded) where
  -- what follows after an exchange
  pub follows_after : {T : Type 0} (reply : List ℕ) (result : Result T LinkFail) → AsksBelow seen before after forwarded forwarded_now authority request (reply_for (sent_to authority request) kept) reply result
      → IsKeptAfter base entries kept (record { sent = sent_to authority request; reply = reply_of result reply }) now → Records own own_now authority request reply result
      → IsTrue (known_of result && exact) → Follows base entries made (seen after).recorded own_now now forwarded_now
  follows_after reply (Ok done) asks step records known =
      subst (λ (o : List Entry). Follows base entries made (seen after).recorded o now forwarded_now) (sym records)
      (one_follows base entries made (seen before).recorded (seen after).recorded own (entry_of authority request (recorded_replies.Reply reply)) kept now forwarded forwarded_now step
      (hands_ok seen before after forwarded forwarded_now authority request base entries kept now (reply_for (sent_to authority request) kept) reply done step asks) (follows known))
  follows_after {T} reply (Err Failed) asks step records known =
      subst (λ (o : List Entry). Follows base entries made (seen after).recorded o now forwarded_now) (sym records)
      (one_follows base entries made (seen before).recorded (seen after).recorded own (entry_of authority request recorded_replies.Failed) kept now forwarded forwarded_now step
      (hands_err seen before after forwarded forwarded_now authority request T (reply_for (sent_to authority request) kept) reply asks) (follows known))
  follows_after reply (Err NoMemory) asks step records known = absurd (no_exact known)

-- of a new relay
pub relayed_first : (base : BaseParts) (entries : ℕ) (made : Option (List Entry)) → HasRelayed base entries made made [] [] 0 0 true
relayed_first base entries made = record {
  recorded = recorded_first made;
  follows = λ exact. record { handed_on = []; relayed = (refl, refl); is = none_more made; count_is = refl };
}

-- counts that are not exact say nothing
pub follows_not : (base : BaseParts) (entries : ℕ) (made now : Option (List Entry)) (own : List Entry) (kept : List Kept) (forwarded : ℕ) → IsTrue false → Follows base entries made now own kept forwarded
follows_not base entries made now own kept forwarded exact = absurd (no_exact exact)
