-- To which requests replies are kept, and which: those of clients for pages and for the stops document, with the status 200.
use Rattle.std.proofs.Common.{◌≡◌, ◌≢◌, ◌↔◌, ◌⊎◌, ◌≤◌, ℕ, Bool, IsTrue, Result, Ok, Err, List, [], ◌∷◌, ◌++◌, codes, length, take, inl, inr, sym, ap, subst, ◌∙◌, arith}
use Rattle.std.proofs.Math.Seq.{take-length}
use Rattle.std.specs.Prelude.{IfOk, OnOk}
use Rattle.connection_uri.specs.Base.{BaseParts}
use Rattle.http_text.specs.Reply.{HasFault, IsReply}
use Rattle.http_text.specs.Request.{IsWhole, IsWholeRequest}
use Rattle.http_text.specs.declared.reply.Reply.{Reply}
use Rattle.http_text.specs.declared.reply_fault.ReplyFault.{ReplyFault}
use Rattle.http_text.specs.declared.reply_fault.ReplyFault.TheVariants as faults
use Rattle.http_text.specs.declared.request.Request.{Request}
use Rattle.http_text.specs.declared.taken.Taken.{Taken}
use Rattle.http_text.specs.declared.taken.Taken.TheVariants.{Whole}
use Rattle.http_text.proofs.MessageLemmas.{one_request}
use Rattle.http_text.proofs.QueryLemmas.{targets_are_read}
use Rattle.http_text.proofs.ReplyLemmas.{faultless}
use Rattle.page_relay.specs.Keeping.{IsKeepable, IsLastingPath, IsLastingReply}
use Rattle.page_relay.specs.Laws.{ClientsAreKept}
use Rattle.page_relay.proofs.DocumentLemmas.{one_status}

-- a request is one whole one
pub is_whole : (bytes : List ℕ) (request : Request) → IsWholeRequest bytes request → IsWhole bytes
is_whole bytes request (h, body, whole, is) = (h, body, whole)

-- what is said of one whole request
pub keepable : (base : BaseParts) (bytes : List ℕ) (request : Request) → IsWholeRequest bytes request → (request.method ≡ codes "GET") × IsLastingPath base request.path → IsKeepable base bytes
keepable base bytes request whole is = record { request = request; whole = whole; method_is = is.0; lasting = is.1 }

pub said_so : (base : BaseParts) (bytes : List ℕ) (request : Request) → IsWholeRequest bytes request → IsKeepable base bytes → (request.method ≡ codes "GET") × IsLastingPath base request.path
said_so base bytes request whole k =
    let same : k.request ≡ request = one_request bytes k.request request k.whole whole in
    subst (λ (r : Request). (r.method ≡ codes "GET") × IsLastingPath base r.path) same (k.method_is, k.lasting)

-- texts after an equal front are equal where the whole is
pub after_front : (front xs ys : List ℕ) → front ++ xs ≡ front ++ ys → xs ≡ ys
after_front [] xs ys e = e
after_front (b ∷ front) xs ys e = after_front front xs ys (cc)

-- the path of the time gate is none of these two
pub no_time_gate : (base : BaseParts) (path : List ℕ) → path ≡ base.path ++ codes "connections" → IsLastingPath base path → ⊥
no_time_gate base path is (inl page) = let clash = after_front base.path (codes "connections") (codes "memento/connections") (sym is ∙ page) in cc
no_time_gate base path is (inr stops) = let clash = after_front base.path (codes "connections") (codes "stops") (sym is ∙ stops) in cc

pub clients_are_kept : ClientsAreKept
clients_are_kept base bytes known said is_base whole =
    let say = targets_are_read base is_base in
    record {
      page = λ name version departs says. record { request = said; whole = whole; method_is = says.method_is; lasting = inl (says.path_is ∙ (say.page name version departs).path_is) };
      stops = λ says. record { request = said; whole = whole; method_is = says.method_is; lasting = inr (says.path_is ∙ say.stops.path_is) };
      gate = λ departs bound says k. no_time_gate base said.path (says.path_is ∙ (say.gate departs bound).path_is) (said_so base bytes said whole k).1;
    }

-- a path is lasting by what follows the base's
pub by_tail : (base : BaseParts) (path tail : List ℕ) → path ≡ base.path ++ tail → (tail ≡ codes "memento/connections") ⊎ (tail ≡ codes "stops") → IsLastingPath base path
by_tail base path tail is (inl page) = inl (is ∙ ap (λ (t : List ℕ). base.path ++ t) page)
by_tail base path tail is (inr stops) = inr (is ∙ ap (λ (t : List ℕ). base.path ++ t) stops)

pub tail_of : (base : BaseParts) (path tail : List ℕ) → path ≡ base.path ++ tail → IsLastingPath base path → (tail ≡ codes "memento/connections") ⊎ (tail ≡ codes "stops")
tail_of base path tail is (inl page) = inl (after_front base.path tail (codes "memento/connections") (sym is ∙ page))
tail_of base path tail is (inr stops) = inr (after_front base.path tail (codes "stops") (sym is ∙ stops))

-- where nothing follows the base's path in this way it is not lasting
pub no_tail : (base : BaseParts) (path : List ℕ) → ((tail : List ℕ) → path ≡ base.path ++ tail → ⊥) → IsLastingPath base path → ⊥
no_tail base path none (inl page) = none (codes "memento/connections") page
no_tail base path none (inr stops) = none (codes "stops") stops

-- what is taken from the front of bytes that are one whole request is all of them
pub all_is_whole : (bytes : List ℕ) (taken : Taken) → ((n : ℕ) → taken ≡ Whole n → (n ≤ length bytes) × IsWhole (take n bytes)) → taken ≡ Whole (length bytes) → IsWhole bytes
all_is_whole bytes taken whole is = subst IsWhole (take-length bytes) (whole (length bytes) is).1

pub whole_is_all : (bytes : List ℕ) (taken : Taken) → ((n : ℕ) → n ≤ length bytes → IsWhole (take n bytes) → taken ≡ Whole n) → IsWhole bytes → taken ≡ Whole (length bytes)
whole_is_all bytes taken every_whole whole = every_whole (length bytes) (omega arith) (subst IsWhole (sym (take-length bytes)) whole)

-- what a lasting reply says
pub lasting : (bytes : List ℕ) (reply : Reply) → length bytes ≤ 1_048_576 → IsReply bytes reply → reply.status ≡ 200 → IsLastingReply bytes
lasting bytes reply most says ok = record { most = most; reply = reply; says = says; status_is = ok }

pub status_of : (bytes : List ℕ) (reply : Reply) → IsReply bytes reply → IsLastingReply bytes → reply.status ≡ 200
status_of bytes reply says is = one_status bytes reply is.reply says is.says ∙ is.status_is

-- and bytes with a fault are none
pub no_fault : (bytes : List ℕ) (fault : ReplyFault) → HasFault bytes fault → IsLastingReply bytes → ⊥
no_fault bytes fault has is = faultless bytes is.reply fault is.says has

pub not_lasting : {E : Type 0} (bytes : List ℕ) (fault : ReplyFault) (r : Result Bool E) → IfOk r (λ (lasting : Bool). ¬ (IsTrue lasting)) → OnOk r (fault ≢ faults.NoMemory) → (fault ≡ faults.NoMemory) ⊎ HasFault bytes fault
    → IfOk r (λ (lasting : Bool). IsTrue lasting ↔ IsLastingReply bytes)
not_lasting bytes fault (Ok it) not known (inl memory) = absurd (known memory)
not_lasting bytes fault (Ok it) not known (inr has) = (λ lasting. absurd (not lasting), λ is. absurd (no_fault bytes fault has is))
not_lasting bytes fault (Err e) not known has = tt
