-- Bytes are one reply, or have one first fault.
use Rattle.std.proofs.Common.{◌≡◌, ◌≢◌, ℕ, ◌⊎◌, inl, inr, List, [], Option, Some, None, Result, Ok, Err, sym, ap, subst, ◌∙◌}
use Rattle.std.specs.Prelude.{IfOk, IfErr}
use Rattle.httparse.specs.declared.Error.{Error}
use Rattle.httparse.specs.declared.Error.TheVariants.{TooManyHeaders}
use Rattle.httparse.specs.Grammar.{ResponseHead, NeverHasResponse, MayBecomeResponse}
use Rattle.httparse.specs.Spans.{ResponseExceeds}
use Rattle.http_text.specs.declared.reply.Reply.{Reply}
use Rattle.http_text.specs.declared.reply_fault.ReplyFault.{ReplyFault}
use Rattle.http_text.specs.declared.reply_fault.ReplyFault.TheVariants.{NoMemory}
use Rattle.http_text.specs.Fields.{texts_of}
use Rattle.http_text.specs.Reply.{fault_of, behind, HasReplyHead, IsReply, HasFault}
use Rattle.http_text.specs.Request.{front_of}
use Rattle.http_text.proofs.HeadLemmas.{one_reply_head, reply_hope, no_response_exceeds}

-- the fault of the head and what follows it
abbrev fault_at : List ℕ → ResponseHead → Option ReplyFault
fault_at bytes h = fault_of (texts_of h.fields) (behind bytes h)

same_fault : (bytes : List ℕ) (h k : ResponseHead) → HasReplyHead bytes h → HasReplyHead bytes k → fault_at bytes h ≡ fault_at bytes k
same_fault bytes h k a b = ap (fault_at bytes) (one_reply_head bytes h k a b)

open_hope : (bytes : List ℕ) → MayBecomeResponse (front_of bytes) → NeverHasResponse (front_of bytes) → ⊥
open_hope bytes (more, h, reads) never = never more h [] reads

pub faultless : (bytes : List ℕ) (reply : Reply) (fault : ReplyFault) → IsReply bytes reply → HasFault bytes fault → ⊥
faultless bytes reply fault (h, has, none, says) (inl (inl (never, is))) = reply_hope bytes h has never
faultless bytes reply fault (h, has, none, says) (inl (inr (nothing, may, is))) = nothing h has.0 has.1
faultless bytes reply fault (h, has, none, says) (inr (k, has', is)) =
    let same = same_fault bytes h k has has' in
    let both : None ≡ Some fault = sym none ∙ same ∙ is in
    cc

pub one_fault : (bytes : List ℕ) (f g : ReplyFault) → HasFault bytes f → HasFault bytes g → f ≡ g
one_fault bytes f g (inl (inl (never, is))) (inl (inl (never', is'))) = is ∙ sym is'
one_fault bytes f g (inl (inl (never, is))) (inl (inr (nothing, may, is'))) = absurd (open_hope bytes may never)
one_fault bytes f g (inl (inl (never, is))) (inr (k, has, is')) = absurd (reply_hope bytes k has never)
one_fault bytes f g (inl (inr (nothing, may, is))) (inl (inl (never, is'))) = absurd (open_hope bytes may never)
one_fault bytes f g (inl (inr (nothing, may, is))) (inl (inr (nothing', may', is'))) = is ∙ sym is'
one_fault bytes f g (inl (inr (nothing, may, is))) (inr (k, has, is')) = absurd (nothing k has.0 has.1)
one_fault bytes f g (inr (h, has, is)) (inl (inl (never, is'))) = absurd (reply_hope bytes h has never)
one_fault bytes f g (inr (h, has, is)) (inl (inr (nothing, may, is'))) = absurd (nothing h has.0 has.1)
one_fault bytes f g (inr (h, has, is)) (inr (k, has', is')) =
    let same = same_fault bytes h k has has' in
    let both : Some f ≡ Some g = sym is ∙ same ∙ is' in
    cc

pub only_fault : (bytes : List ℕ) (r : Result Reply ReplyFault) (fault : ReplyFault) → IfOk r (IsReply bytes) → IfErr r (λ f. (f ≡ NoMemory) ⊎ HasFault bytes f) → HasFault bytes fault → (r ≡ Err fault) ⊎ (r ≡ Err NoMemory)
only_fault bytes (Ok reply) fault is failed has = absurd (faultless bytes reply fault is has)
only_fault bytes (Err f) fault is (inl memory) has = inr (ap Err memory)
only_fault bytes (Err f) fault is (inr has') has = inl (ap Err (one_fault bytes f fault has' has))

-- ---- what the parser refuses

pub refused_is : (bytes front : List ℕ) (e : Error) → front ≡ front_of bytes → (e ≢ TooManyHeaders → NeverHasResponse front) → (e ≡ TooManyHeaders → ResponseExceeds 5_500 front) → NeverHasResponse (front_of bytes)
refused_is bytes front e is invalid many =
    subst NeverHasResponse is (invalid (λ same. no_response_exceeds bytes (subst (ResponseExceeds 5_500) is (many same))))
