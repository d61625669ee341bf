-- A reply says one thing, or has one first fault.
use Rattle.std.proofs.Common.{◌≡◌, ℕ, List, Option, Some, None, Result, Ok, Err, inl, inr, sym, ◌∙◌, ap, subst}
use Rattle.url.specs.Parser.{parse_url}
use Rattle.url.specs.Parts.{Parts, serialize}
use Rattle.lc_model.specs.declared.doc.StopsDoc.{StopsDoc}
use Rattle.lc_model.specs.declared.page.PageName.{PageName}
use Rattle.connection_uri.specs.Base.{BaseParts}
use Rattle.connection_uri.proofs.PageLemmas.{page_urls_differ}
use Rattle.http_text.specs.declared.reply.Reply.{Reply}
use Rattle.http_text.proofs.MessageLemmas.{one_read}
use Rattle.page_json.specs.declared.page.Page.{Page}
use Rattle.page_json.proofs.OneResultLemmas.{one_page_of_bytes, one_doc_of_bytes}
use Rattle.page_client.specs.Fault.{Tested}
use Rattle.page_client.specs.Gate.{IsGateReply, IsSent, LeadsTo}
use Rattle.page_client.specs.Page.{IsPageReply, SaysPage as SaysThePage, tested_body}
use Rattle.page_client.specs.Replied.{IsAnswered, IsTested, body_of, tested_further}
use Rattle.page_client.specs.Stops.{IsStopsReply, SaysStops, tested_doc}
use Rattle.page_client.specs.declared.fault.PeerFault.{PeerFault}
use Rattle.page_client.specs.declared.fault.PeerFault.TheVariants as peers

-- what bytes are as a reply of a status is one
one_answer : (bytes : List ℕ) (status : ℕ) (a b : Result Reply PeerFault) → IsAnswered bytes status a → IsAnswered bytes status b → a ≡ b
one_answer bytes status (Ok a) (Ok b) (says, at) (says', at') = let e = one_read bytes (Ok a) (Ok b) says says' in let f : a ≡ b = cc in ap Ok f
one_answer bytes status (Ok a) (Err g) (says, at) (inl unread) = let e = one_read bytes (Ok a) (Err unread.first) says unread.has in absurd (cc)
one_answer bytes status (Ok a) (Err g) (says, at) (inr other) = let e = one_read bytes (Ok a) (Ok other.reply) says other.says in let f : a ≡ other.reply = cc in absurd (other.other (sym (ap (λ (r : Reply). r.status) f) ∙ at))
one_answer bytes status (Err g) (Ok b) (inl unread) (says, at) = let e = one_read bytes (Ok b) (Err unread.first) says unread.has in absurd (cc)
one_answer bytes status (Err g) (Ok b) (inr other) (says, at) = let e = one_read bytes (Ok b) (Ok other.reply) says other.says in let f : b ≡ other.reply = cc in absurd (other.other (sym (ap (λ (r : Reply). r.status) f) ∙ at))
one_answer bytes status (Err g) (Err h) (inl a) (inl b) = let e = one_read bytes (Err a.first) (Err b.first) a.has b.has in let f : a.first ≡ b.first = cc in ap Err (a.is ∙ ap peers.Reply f ∙ sym b.is)
one_answer bytes status (Err g) (Err h) (inl a) (inr b) = let e = one_read bytes (Err a.first) (Ok b.reply) a.has b.says in absurd (cc)
one_answer bytes status (Err g) (Err h) (inr a) (inl b) = let e = one_read bytes (Ok a.reply) (Err b.first) a.says b.has in absurd (cc)
one_answer bytes status (Err g) (Err h) (inr a) (inr b) =
    let e = one_read bytes (Ok a.reply) (Ok b.reply) a.says b.says in
    let f : a.reply ≡ b.reply = cc in
    ap Err (a.is ∙ ap (λ (r : Reply). peers.Status r.status) f ∙ sym b.is)

-- where what is tested further is one, all of it is
one_tested : {X : Type 0} (bytes : List ℕ) (status : ℕ) (next : Reply → Tested X) → ((reply : Reply) (a b : Result X PeerFault) → next reply a → next reply b → a ≡ b) →
    (a b : Result X PeerFault) → IsTested bytes status next a → IsTested bytes status next b → a ≡ b
one_tested {X} bytes status next one a b (reply, is, further) (reply', is', further') =
    let T : Result Reply PeerFault → Type 0 = λ r. tested_further next r b in
    both reply further (subst T (sym (one_answer bytes status reply reply' is is')) further') where
      both : (r : Result Reply PeerFault) → tested_further next r a → tested_further next r b → a ≡ b
      both (Ok said) x y = one said a b x y
      both (Err fault) x y = x ∙ sym y

-- a reference leads to one page
one_led : (base : BaseParts) (leave : ℕ) (reference : List ℕ) (a b : PageName) → LeadsTo base leave reference a → LeadsTo base leave reference b → a ≡ b
one_led base leave reference a b x y =
    let x_gate = x.gate_is in
    let y_gate = y.gate_is in
    let gate : y.gate ≡ x.gate = cc in
    let P : Parts → Type 0 = λ g. parse_url (Some g) reference ≡ Ok y.led.url in
    let y_joined = subst P gate y.led.joined in
    let x_joined = x.led.joined in
    let url : x.led.url ≡ y.led.url = cc in
    let p = x.led.says in
    let q = y.led.says in
    page_urls_differ base a b p.version_fits p.departs_fits q.version_fits q.departs_fits (sym p.written ∙ ap serialize url ∙ q.written)

one_sent : (base : BaseParts) (leave : ℕ) (location : Option (List ℕ)) (a b : Result PageName PeerFault) → IsSent base leave location a → IsSent base leave location b → a ≡ b
one_sent base leave None a b x y = x ∙ sym y
one_sent base leave (Some reference) (Ok a) (Ok b) x y = ap Ok (one_led base leave reference a b x y)
one_sent base leave (Some reference) (Ok a) (Err f) x y = absurd (y.1 a x)
one_sent base leave (Some reference) (Err f) (Ok b) x y = absurd (x.1 b y)
one_sent base leave (Some reference) (Err f) (Err g) x y = ap Err (x.0 ∙ sym y.0)

pub one_gate_reply : (base : BaseParts) (leave : ℕ) (bytes : List ℕ) (a b : Result PageName PeerFault) → IsGateReply base leave bytes a → IsGateReply base leave bytes b → a ≡ b
one_gate_reply base leave bytes = one_tested bytes 302 (λ (reply : Reply). IsSent base leave reply.location) (λ reply. one_sent base leave reply.location)

pub one_stops_reply : (bytes : List ℕ) (a b : Result StopsDoc PeerFault) → IsStopsReply bytes a → IsStopsReply bytes b → a ≡ b
one_stops_reply bytes =
    one_tested bytes 200 (SaysStops bytes)
    (λ reply a b x y. x.is ∙ ap tested_doc ((one_doc_of_bytes (body_of bytes reply)).same x.body y.body x.read y.read) ∙ sym y.is)

pub one_page_reply : (base : BaseParts) (name : PageName) (bytes : List ℕ) (a b : Result Page PeerFault) → IsPageReply base name bytes a → IsPageReply base name bytes b → a ≡ b
one_page_reply base name bytes =
    one_tested bytes 200 (SaysThePage base name bytes)
    (λ reply a b x y. x.is ∙ ap (tested_body name reply.memento) ((one_page_of_bytes base (body_of bytes reply)).same x.body y.body x.read y.read) ∙ sym y.is)
