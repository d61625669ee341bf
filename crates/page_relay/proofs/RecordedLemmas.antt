-- What a relay records says what the link below has recorded since the relay was made, from each call to the next.
use Rattle.std.proofs.Common.{◌≡◌, ◌⊎◌, ◌+◌, ◌-◌, ◌^◌, ℕ, Bool, true, false, IsTrue, min, List, [], ◌∷◌, ◌++◌, length, Option, Some, None, option_map, Result, Ok, Err, inl, inr, refl, sym, ap, subst, ◌∙◌, append-nil, append_assoc, length-append, arith}
use Rattle.std.specs.Prelude.{◌&&◌}
use Rattle.std.specs.List.{All}
use Rattle.std.proofs.lemmas.List.Elements.{All-append, All-contains, All-cons, All-nil, All-weaker, Contains-append_left, Contains-append_right}
use Rattle.connection_uri.specs.Base.{BaseParts}
use Rattle.lc_io.specs.Counts.{one_more}
use Rattle.lc_model.proofs.ListLemmas.{Contains-here}
use Rattle.lc_world.specs.Link.{LinkSeen, Tells, TellsMore}
use Rattle.lc_world.specs.ListLink.{entry_of}
use Rattle.lc_world.specs.declared.entry.Entry.{Entry}
use Rattle.lc_world.specs.declared.entry.RecordedReply.{RecordedReply}
use Rattle.lc_world.specs.declared.entry.RecordedReply.TheVariants as recorded_replies
use Rattle.lc_world.specs.declared.link.LinkFail.{LinkFail}
use Rattle.lc_world.specs.declared.link.LinkFail.TheVariants.{Failed, NoMemory}
use Rattle.page_relay.specs.Exchanges.{AsksBelow, GoesOn, KeepsReply, reply_of}
use Rattle.page_relay.specs.Kept.{Kept, reply_for, with_used}
use Rattle.page_relay.specs.Recorded.{IsGiven, IsGivenOf, IsKeptOf, IsReplied, IsRecorded, Records, counted, known_of}
use Rattle.page_relay.specs.declared.sent.SentRequest.{SentRequest}
use Rattle.page_relay.proofs.MemoryLemmas.{All-with_kept, All-with_used, found_is_own}

-- WHAT WAS RECORDED MORE

-- exchanges were recorded after the others, where any are
abbrev pub RecordedMore : Option (List Entry) → Option (List Entry) → List Entry → Type 0
RecordedMore before after more = after ≡ option_map (λ (list : List Entry). list ++ more) before

pub none_more : (recorded : Option (List Entry)) → RecordedMore recorded recorded []
none_more None = refl
none_more (Some list) = ap Some (sym (append-nil list))

joined : (made : Option (List Entry)) (one two : List Entry) →
    option_map (λ (list : List Entry). list ++ two) (option_map (λ (list : List Entry). list ++ one) made) ≡ option_map (λ (list : List Entry). list ++ (one ++ two)) made
joined None one two = refl
joined (Some made) one two = ap Some (append_assoc made one two)

pub then_more : (made before after : Option (List Entry)) (one two : List Entry) → RecordedMore made before one → RecordedMore before after two → RecordedMore made after (one ++ two)
then_more made before after one two first second = second ∙ ap (option_map (λ (list : List Entry). list ++ two)) first ∙ joined made one two

-- what an exchange recorded, whatever its result
more_recorded : {T : Type 0} (before after : Option (List Entry)) (authority request reply : List ℕ) (result : Result T LinkFail) → Tells before after authority request reply result
    → (more : List Entry) × RecordedMore before after more
more_recorded before after authority request reply (Ok done) tells = (entry_of authority request tells.reply ∷ [], tells.is)
more_recorded before after authority request reply (Err Failed) tells = (entry_of authority request tells.reply ∷ [], tells.is)
more_recorded before after authority request reply (Err NoMemory) (inl same) = ([], subst (λ (o : Option (List Entry)). RecordedMore before o []) (sym same) (none_more before))
more_recorded before after authority request reply (Err NoMemory) (inr tells) = (entry_of authority request tells.reply ∷ [], tells.is)

-- COUNTS

more_counted : (n m most : ℕ) → m ≡ n + 1 → min m most ≡ min (min n most + 1) most
more_counted n m most is = omega (arith, is)

-- one entry more is counted
pub counted_more : (entries : List Entry) (entry : Entry) → counted (entries ++ entry ∷ []) ≡ one_more (counted entries)
counted_more entries entry = more_counted (length entries) (length (entries ++ entry ∷ [])) (2 ^ 64 - 1) (length-append entries (entry ∷ []))

pub count_on : (entries : List Entry) (entry : Entry) (count : ℕ) → count ≡ counted entries → one_more count ≡ counted (entries ++ entry ∷ [])
count_on entries entry count is = ap one_more is ∙ sym (counted_more entries entry)

-- REPLIES

replied_more : (handed_on more : List Entry) (authority request reply : List ℕ) → IsReplied handed_on authority request reply → IsReplied (handed_on ++ more) authority request reply
replied_more handed_on more authority request reply is = record {
  entry = is.entry;
  there = Contains-append_left handed_on more is.entry is.there;
  authority_is = is.authority_is;
  request_is = is.request_is;
  reply_is = is.reply_is;
}

kept_more : (handed_on more : List Entry) (kept : List Kept) → All (IsKeptOf handed_on) kept → All (IsKeptOf (handed_on ++ more)) kept
kept_more handed_on more kept all =
    All-weaker (IsKeptOf handed_on) (IsKeptOf (handed_on ++ more)) (λ k is. replied_more handed_on more k.0.authority k.0.request k.1 is) kept all

given_one : (handed_on more : List Entry) (authority request : List ℕ) (recorded : RecordedReply) → IsGiven handed_on authority request recorded
    → IsGiven (handed_on ++ more) authority request recorded
given_one handed_on more authority request recorded_replies.Hidden is = absurd is
given_one handed_on more authority request recorded_replies.Failed is = tt
given_one handed_on more authority request (recorded_replies.Reply reply) is = replied_more handed_on more authority request reply is

given_more : (handed_on more own : List Entry) → All (IsGivenOf handed_on) own → All (IsGivenOf (handed_on ++ more)) own
given_more handed_on more own all =
    All-weaker (IsGivenOf handed_on) (IsGivenOf (handed_on ++ more)) (λ entry is. given_one handed_on more entry.authority entry.request entry.reply is) own all

-- one exchange more gave this reply
given_then : (handed_on own : List Entry) (authority request reply : List ℕ) → IsReplied handed_on authority request reply → All (IsGivenOf handed_on) own
    → All (IsGivenOf handed_on) (own ++ entry_of authority request (recorded_replies.Reply reply) ∷ [])
given_then handed_on own authority request reply is all =
    let last = entry_of authority request (recorded_replies.Reply reply) in
    All-append (IsGivenOf handed_on) own (last ∷ []) all
    (All-cons (IsGivenOf handed_on) last [] is (All-nil (IsGivenOf handed_on)))

-- one exchange more failed
failed_then : (handed_on own : List Entry) (authority request : List ℕ) → All (IsGivenOf handed_on) own
    → All (IsGivenOf handed_on) (own ++ entry_of authority request recorded_replies.Failed ∷ [])
failed_then handed_on own authority request all =
    let last = entry_of authority request recorded_replies.Failed in
    All-append (IsGivenOf handed_on) own (last ∷ []) all
    (All-cons (IsGivenOf handed_on) last [] tt (All-nil (IsGivenOf handed_on)))

-- the last exchange that was handed on gave this reply
replied_last : (handed_on : List Entry) (authority request reply : List ℕ) (recorded : RecordedReply) → (recorded ≡ recorded_replies.Hidden) ⊎ (recorded ≡ recorded_replies.Reply reply)
    → IsReplied (handed_on ++ entry_of authority request recorded ∷ []) authority request reply
replied_last handed_on authority request reply recorded is =
    let last = entry_of authority request recorded in
    record {
      entry = last;
      there = Contains-append_right handed_on (last ∷ []) last (Contains-here last []);
      authority_is = refl;
      request_is = refl;
      reply_is = is;
    }

-- FROM EACH CALL TO THE NEXT

no_exact : IsTrue false → ⊥
no_exact exact = cc

-- of a new relay
pub recorded_first : (made : Option (List Entry)) → IsRecorded made made [] [] 0 0 true
recorded_first made = record {
  handed_on = [];
  is = none_more made;
  kept_of = All-nil (IsKeptOf []);
  given_of = All-nil (IsGivenOf []);
  relayed_is = λ exact. refl;
  forwarded_is = λ exact. refl;
}

-- of a relay whose counts may not be exact any more
recorded_less : (made now after : Option (List Entry)) (kept : List Kept) (own : List Entry) (relayed forwarded other_relayed other_forwarded : ℕ) (exact : Bool)
    → (more : List Entry) × RecordedMore now after more → IsRecorded made now kept own relayed forwarded exact → IsRecorded made after kept own other_relayed other_forwarded false
recorded_less made now after kept own relayed forwarded other_relayed other_forwarded exact (more, is) recorded = record {
  handed_on = recorded.handed_on ++ more;
  is = then_more made now after recorded.handed_on more recorded.is is;
  kept_of = kept_more recorded.handed_on more kept recorded.kept_of;
  given_of = given_more recorded.handed_on more own recorded.given_of;
  relayed_is = λ exact. absurd (no_exact exact);
  forwarded_is = λ exact. absurd (no_exact exact);
}

-- after a reply that was kept
recorded_kept : (made now : Option (List Entry)) (kept : List Kept) (own : List Entry) (relayed forwarded : ℕ) (exact : Bool) (sent : SentRequest) (reply : List ℕ) → reply_for sent kept ≡ Some reply
    → IsRecorded made now kept own relayed forwarded exact
    → IsRecorded made now (with_used sent kept) (own ++ entry_of sent.authority sent.request (recorded_replies.Reply reply) ∷ []) (one_more relayed) forwarded exact
recorded_kept made now kept own relayed forwarded exact sent reply found recorded =
    let by : IsReplied recorded.handed_on sent.authority sent.request reply =
    All-contains (IsKeptOf recorded.handed_on) kept (sent, reply) recorded.kept_of (found_is_own kept sent reply found) in
    record {
      handed_on = recorded.handed_on;
      is = recorded.is;
      kept_of = All-with_used (IsKeptOf recorded.handed_on) sent kept recorded.kept_of;
      given_of = given_then recorded.handed_on own sent.authority sent.request reply by recorded.given_of;
      relayed_is = λ exact. count_on own (entry_of sent.authority sent.request (recorded_replies.Reply reply)) relayed (recorded.relayed_is exact);
      forwarded_is = recorded.forwarded_is;
    }

keeps_of : (base : BaseParts) (entries : ℕ) (handed_on : List Entry) (kept now : List Kept) (sent : SentRequest) (reply : List ℕ) → IsReplied handed_on sent.authority sent.request reply
    → All (IsKeptOf handed_on) kept → KeepsReply base entries kept sent reply now → All (IsKeptOf handed_on) now
keeps_of base entries handed_on kept now sent reply by all (inl (keep, is)) =
    subst (All (IsKeptOf handed_on)) (sym is) (All-with_kept (IsKeptOf handed_on) entries sent reply kept by all)
keeps_of base entries handed_on kept now sent reply by all (inr (not, is)) = subst (All (IsKeptOf handed_on)) (sym is) all

-- after a reply that came by the link below
recorded_came : (made now after : Option (List Entry)) (base : BaseParts) (entries : ℕ) (kept kept_now : List Kept) (own : List Entry) (relayed forwarded : ℕ) (exact : Bool) (sent : SentRequest) (reply : List ℕ)
    → TellsMore now after sent.authority sent.request (Some reply) → KeepsReply base entries kept sent reply kept_now → IsRecorded made now kept own relayed forwarded exact
    → IsRecorded made after kept_now (own ++ entry_of sent.authority sent.request (recorded_replies.Reply reply) ∷ []) (one_more relayed) (one_more forwarded) exact
recorded_came made now after base entries kept kept_now own relayed forwarded exact sent reply tells keeps recorded =
    let last : Entry = entry_of sent.authority sent.request tells.reply in
    let handed_on : List Entry = recorded.handed_on ++ last ∷ [] in
    let by : IsReplied handed_on sent.authority sent.request reply = replied_last recorded.handed_on sent.authority sent.request reply tells.reply tells.is_given in
    record {
      handed_on = handed_on;
      is = then_more made now after recorded.handed_on (last ∷ []) recorded.is tells.is;
      kept_of = keeps_of base entries handed_on kept kept_now sent reply by (kept_more recorded.handed_on (last ∷ []) kept recorded.kept_of) keeps;
      given_of = given_then handed_on own sent.authority sent.request reply by (given_more recorded.handed_on (last ∷ []) own recorded.given_of);
      relayed_is = λ exact. count_on own (entry_of sent.authority sent.request (recorded_replies.Reply reply)) relayed (recorded.relayed_is exact);
      forwarded_is = λ exact. count_on recorded.handed_on last forwarded (recorded.forwarded_is exact);
    }

-- after a failure, of the link below or not
recorded_failed : (made now after : Option (List Entry)) (kept : List Kept) (own : List Entry) (relayed forwarded : ℕ) (exact : Bool) (sent : SentRequest)
    → TellsMore now after sent.authority sent.request None → IsRecorded made now kept own relayed forwarded exact
    → IsRecorded made after kept (own ++ entry_of sent.authority sent.request recorded_replies.Failed ∷ []) (one_more relayed) (one_more forwarded) exact
recorded_failed made now after kept own relayed forwarded exact sent tells recorded =
    let last : Entry = entry_of sent.authority sent.request tells.reply in
    let handed_on : List Entry = recorded.handed_on ++ last ∷ [] in
    record {
      handed_on = handed_on;
      is = then_more made now after recorded.handed_on (last ∷ []) recorded.is tells.is;
      kept_of = kept_more recorded.handed_on (last ∷ []) kept recorded.kept_of;
      given_of = failed_then handed_on own sent.authority sent.request (given_more recorded.handed_on (last ∷ []) own recorded.given_of);
      relayed_is = λ exact. count_on own (entry_of sent.authority sent.request recorded_replies.Failed) relayed (recorded.relayed_is exact);
      forwarded_is = λ exact. count_on recorded.handed_on last forwarded (recorded.forwarded_is exact);
    }

module _ {X : Type 0} (seen : X → LinkSeen) (made : Option (List Entry)) (before after : X) (base : BaseParts) (entries : ℕ) (kept now : List Kept) (own : List Entry) (relayed forwarded forwarded_now : ℕ) (exact : Bool) (sent : SentRequest) where
  -- an answered exchange
  recorded_ok : {T : Type 0} (held : Option (List ℕ)) (reply : List ℕ) (done : T) → reply_for sent kept ≡ held
      → AsksBelow seen before after forwarded forwarded_now sent.authority sent.request held reply (Ok done) → GoesOn base entries kept sent held (Some reply) now
      → IsRecorded made (seen before).recorded kept own relayed forwarded exact
      → IsRecorded made (seen after).recorded now (own ++ entry_of sent.authority sent.request (recorded_replies.Reply reply) ∷ []) (one_more relayed) forwarded_now exact
  recorded_ok (Some held) reply done found (same, count) (is, used) recorded =
      let Was : X → List Kept → ℕ → Type 0 =
      λ x k n. IsRecorded made (seen x).recorded k (own ++ entry_of sent.authority sent.request (recorded_replies.Reply reply) ∷ []) (one_more relayed) n exact in
      subst (λ (x : X). Was x now forwarded_now) (sym same) (subst (λ (k : List Kept). Was before k forwarded_now) (sym used) (subst (λ (n : ℕ). Was before (with_used sent kept) n) (sym count)
      (recorded_kept made (seen before).recorded kept own relayed forwarded exact sent reply (found ∙ ap Some (sym is)) recorded)))
  recorded_ok None reply done found (asks, count) keeps recorded =
      subst (λ (n : ℕ). IsRecorded made (seen after).recorded now (own ++ entry_of sent.authority sent.request (recorded_replies.Reply reply) ∷ []) (one_more relayed) n exact) (sym count)
      (recorded_came made (seen before).recorded (seen after).recorded base entries kept now own relayed forwarded exact sent reply asks.tells keeps recorded)

  -- one that failed
  recorded_err : (T : Type 0) (held : Option (List ℕ)) (reply : List ℕ)
      → AsksBelow {T = T} seen before after forwarded forwarded_now sent.authority sent.request held reply (Err Failed) → GoesOn base entries kept sent held None now
      → IsRecorded made (seen before).recorded kept own relayed forwarded exact
      → IsRecorded made (seen after).recorded now (own ++ entry_of sent.authority sent.request recorded_replies.Failed ∷ []) (one_more relayed) forwarded_now exact
  recorded_err T (Some held) reply never is recorded = absurd never
  recorded_err T None reply (asks, count) is recorded =
      let Was : List Kept → ℕ → Type 0 =
      λ k n. IsRecorded made (seen after).recorded k (own ++ entry_of sent.authority sent.request recorded_replies.Failed ∷ []) (one_more relayed) n exact in
      subst (λ (k : List Kept). Was k forwarded_now) (sym is) (subst (λ (n : ℕ). Was kept n) (sym count)
      (recorded_failed made (seen before).recorded (seen after).recorded kept own relayed forwarded exact sent asks.tells recorded))

  -- one in which memory ran out
  recorded_out : (T : Type 0) (held : Option (List ℕ)) (reply : List ℕ) (other : ℕ)
      → AsksBelow {T = T} seen before after forwarded forwarded_now sent.authority sent.request held reply (Err NoMemory) → GoesOn base entries kept sent held None now
      → IsRecorded made (seen before).recorded kept own relayed forwarded exact
      → IsRecorded made (seen after).recorded now own other forwarded_now false
  recorded_out T (Some held) reply other (same, count) is recorded =
      let Was : X → List Kept → Type 0 = λ x k. IsRecorded made (seen x).recorded k own other forwarded_now false in
      subst (λ (x : X). Was x now) (sym same) (subst (λ (k : List Kept). Was before k) (sym is)
      (recorded_less made (seen before).recorded (seen before).recorded kept own relayed forwarded other forwarded_now exact ([], none_more (seen before).recorded) recorded))
  recorded_out T None reply other (inl (same, count)) is recorded =
      let Was : X → List Kept → Type 0 = λ x k. IsRecorded made (seen x).recorded k own other forwarded_now false in
      subst (λ (x : X). Was x now) (sym same) (subst (λ (k : List Kept). Was before k) (sym is)
      (recorded_less made (seen before).recorded (seen before).recorded kept own relayed forwarded other forwarded_now exact ([], none_more (seen before).recorded) recorded))
  recorded_out T None reply other (inr (asked, count)) is recorded =
      let more = more_recorded (seen before).recorded (seen after).recorded sent.authority sent.request asked.0 asked.1 asked.2.tells in
      subst (λ (k : List Kept). IsRecorded made (seen after).recorded k own other forwarded_now false) (sym is)
      (recorded_less made (seen before).recorded (seen after).recorded kept own relayed forwarded other forwarded_now exact more recorded)

  -- and each
  pub recorded_after : {T : Type 0} (held : Option (List ℕ)) (reply : List ℕ) (result : Result T LinkFail) (own_now : List Entry) → reply_for sent kept ≡ held
      → AsksBelow seen before after forwarded forwarded_now sent.authority sent.request held reply result → GoesOn base entries kept sent held (reply_of result reply) now
      → Records own own_now sent.authority sent.request reply result → IsRecorded made (seen before).recorded kept own relayed forwarded exact
      → IsRecorded made (seen after).recorded now own_now (one_more relayed) forwarded_now (known_of result && exact)
  recorded_after held reply (Ok done) own_now found asks goes records recorded =
      subst (λ (o : List Entry). IsRecorded made (seen after).recorded now o (one_more relayed) forwarded_now exact) (sym records) (recorded_ok held reply done found asks goes recorded)
  recorded_after {T} held reply (Err Failed) own_now found asks goes records recorded =
      subst (λ (o : List Entry). IsRecorded made (seen after).recorded now o (one_more relayed) forwarded_now exact) (sym records) (recorded_err T held reply asks goes recorded)
  recorded_after {T} held reply (Err NoMemory) own_now found asks goes records recorded =
      subst (λ (o : List Entry). IsRecorded made (seen after).recorded now o (one_more relayed) forwarded_now false) (sym records) (recorded_out T held reply (one_more relayed) asks goes recorded)

inexact : (made now : Option (List Entry)) (kept : List Kept) (own : List Entry) (relayed forwarded : ℕ) (exact : Bool) → IsRecorded made now kept own relayed forwarded exact
    → IsRecorded made now kept own relayed forwarded false
inexact made now kept own relayed forwarded exact recorded = recorded_less made now now kept own relayed forwarded relayed forwarded exact ([], none_more now) recorded

-- an answer that was handed on
passed_ok : (made now after : Option (List Entry)) (kept : List Kept) (own : List Entry) (relayed forwarded : ℕ) (authority request reply : List ℕ) → TellsMore now after authority request (Some reply)
    → IsRecorded made now kept own relayed forwarded false
    → IsRecorded made after kept (own ++ entry_of authority request (recorded_replies.Reply reply) ∷ []) relayed forwarded false
passed_ok made now after kept own relayed forwarded authority request reply tells recorded =
    let last : Entry = entry_of authority request tells.reply in
    let handed_on : List Entry = recorded.handed_on ++ last ∷ [] in
    let by : IsReplied handed_on authority request reply = replied_last recorded.handed_on authority request reply tells.reply tells.is_given in
    record {
      handed_on = handed_on;
      is = then_more made now after recorded.handed_on (last ∷ []) recorded.is tells.is;
      kept_of = kept_more recorded.handed_on (last ∷ []) kept recorded.kept_of;
      given_of = given_then handed_on own authority request reply by (given_more recorded.handed_on (last ∷ []) own recorded.given_of);
      relayed_is = λ exact. absurd (no_exact exact);
      forwarded_is = λ exact. absurd (no_exact exact);
    }

-- one of which that failed
passed_err : (made now after : Option (List Entry)) (kept : List Kept) (own : List Entry) (relayed forwarded : ℕ) (authority request : List ℕ) → TellsMore now after authority request None
    → IsRecorded made now kept own relayed forwarded false → IsRecorded made after kept (own ++ entry_of authority request recorded_replies.Failed ∷ []) relayed forwarded false
passed_err made now after kept own relayed forwarded authority request tells recorded =
    let last : Entry = entry_of authority request tells.reply in
    let handed_on : List Entry = recorded.handed_on ++ last ∷ [] in
    record {
      handed_on = handed_on;
      is = then_more made now after recorded.handed_on (last ∷ []) recorded.is tells.is;
      kept_of = kept_more recorded.handed_on (last ∷ []) kept recorded.kept_of;
      given_of = failed_then handed_on own authority request (given_more recorded.handed_on (last ∷ []) own recorded.given_of);
      relayed_is = λ exact. absurd (no_exact exact);
      forwarded_is = λ exact. absurd (no_exact exact);
    }

-- and one in which memory ran out
passed_out : (T : Type 0) (made now after : Option (List Entry)) (kept : List Kept) (own : List Entry) (relayed forwarded : ℕ) (authority request reply : List ℕ) → Tells {T = T} now after authority request reply (Err NoMemory)
    → IsRecorded made now kept own relayed forwarded false → IsRecorded made after kept own relayed forwarded false
passed_out T made now after kept own relayed forwarded authority request reply tells recorded =
    recorded_less made now after kept own relayed forwarded relayed forwarded false (more_recorded {T = T} now after authority request reply (Err NoMemory) tells) recorded

-- and each, after which no count is exact
pub passed_after : {T : Type 0} (made now after : Option (List Entry)) (kept : List Kept) (own own_now : List Entry) (relayed forwarded : ℕ) (exact : Bool) (authority request reply : List ℕ) (result : Result T LinkFail) → Tells now after authority request reply result
    → Records own own_now authority request reply result → IsRecorded made now kept own relayed forwarded exact → IsRecorded made after kept own_now relayed forwarded false
passed_after made now after kept own own_now relayed forwarded exact authority request reply (Ok done) tells records recorded =
    subst (λ (o : List Entry). IsRecorded made after kept o relayed forwarded false) (sym records)
    (passed_ok made now after kept own relayed forwarded authority request reply tells (inexact made now kept own relayed forwarded exact recorded))
passed_after made now after kept own own_now relayed forwarded exact authority request reply (Err Failed) tells records recorded =
    subst (λ (o : List Entry). IsRecorded made after kept o relayed forwarded false) (sym records)
    (passed_err made now after kept own relayed forwarded authority request tells (inexact made now kept own relayed forwarded exact recorded))
passed_after {T} made now after kept own own_now relayed forwarded exact authority request reply (Err NoMemory) tells records recorded =
    subst (λ (o : List Entry). IsRecorded made after kept o relayed forwarded false) (sym records)
    (passed_out T made now after kept own relayed forwarded authority request reply tells (inexact made now kept own relayed forwarded exact recorded))
