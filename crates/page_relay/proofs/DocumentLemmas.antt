-- Of the replies of a side to GETs only documents have the status 200, whatever the base.
use Rattle.std.proofs.Common.{◌≡◌, ◌∙◌, ℕ, List, drop, get_or, codes, Bool, true, false, Option, Some, None, Result, Ok, Err, ap, arith, sym, subst}
use Rattle.std.specs.Prelude.{◌&&◌, if◌then◌else◌}
use Rattle.http_text.specs.Reply.{IsReply}
use Rattle.http_text.specs.declared.reply.Reply.{Reply}
use Rattle.http_text.specs.declared.reply_fault.ReplyFault.{ReplyFault}
use Rattle.http_text.specs.declared.reply_parts.Allow.TheVariants.{Posting}
use Rattle.http_text.specs.declared.request.Request.{Request}
use Rattle.http_text.proofs.MessageLemmas.{one_read, one_request}
use Rattle.lc_world.specs.Sides.Asked.{asked_by_posting, asked_by_reading, is_head, is_under}
use Rattle.lc_world.specs.Sides.Reply.{parts_of, sent_parts, text_said}
use Rattle.lc_world.specs.Sides.Response.{IsDocument, IsGateResponse, IsPageResponse, IsResponseTo, IsSentOf, asked_at}
use Rattle.lc_world.specs.Sides.Side.{Side, has_version}
use Rattle.lc_world.specs.declared.sides.asked.Asked.{Asked}
use Rattle.lc_world.specs.declared.sides.asked.Asked.TheVariants as kinds
use Rattle.lc_world.specs.declared.sides.response.Response.{Response}
use Rattle.lc_world.specs.declared.sides.response.Response.TheVariants as responses
use Rattle.page_relay.specs.Keeping.{IsLastingReply}
use Rattle.page_relay.specs.Laws.{OnlyDocuments}
use Rattle.page_relay.proofs.StatusLemmas.{bad, digit, found, missing, other_method, tenth, written}

-- what was read, or another
abbrev read_or : Result Reply ReplyFault → Reply → Reply
read_or (Ok reply) other = reply
read_or (Err fault) other = other

-- bytes have one status
pub one_status : (bytes : List ℕ) (a b : Reply) → IsReply bytes a → IsReply bytes b → a.status ≡ b.status
one_status bytes a b is is' = ap (λ (r : Result Reply ReplyFault). (read_or r a).status) (one_read bytes (Ok a) (Ok b) is is')

-- what a GET asks for, by the tests of its path
abbrev by_tests : Bool → Bool → Bool → Bool → Asked
by_tests gate page stops updates =
    if gate then asked_by_reading (codes "GET") kinds.Gate
    else (if page then asked_by_reading (codes "GET") kinds.Page
    else (if stops then asked_by_reading (codes "GET") kinds.Stops
    else (if updates then asked_by_posting (codes "GET") kinds.Update
    else kinds.Nothing)))

module _ (side : Side) (request : Request) (reply : List ℕ) (response : Response) (lasting : IsLastingReply reply) (text : reply ≡ text_said side request response) where
  -- the text of the response begins with a 2
  two : digit (text_said side request response) ≡ 50
  two =
      let first : get_or reply 0 0 ≡ 72 = ap (λ (t : List ℕ). get_or t 0 0) text ∙ written (sent_parts (is_head request.method) (parts_of side.base side.doc request.close response)) in
      ap digit (sym text) ∙ tenth reply lasting.reply lasting.says lasting.status_is first

  -- and is that of none which begins with another digit
  none : (other : Response) (n : ℕ) → response ≡ other → digit (text_said side request other) ≡ n → n ≡ 50
  none other n is begins = sym begins ∙ ap (λ (r : Response). digit (text_said side request r)) (sym is) ∙ two

  not_bad : response ≡ responses.Status 400 → ⊥
  not_bad is = let clash = none (responses.Status 400) 52 is (bad (is_head request.method) request.close) in omega (arith, clash)

  not_missing : response ≡ responses.Status 404 → ⊥
  not_missing is = let clash = none (responses.Status 404) 52 is (missing (is_head request.method) request.close) in omega (arith, clash)

  not_other : response ≡ responses.OtherMethod Posting → ⊥
  not_other is = let clash = none (responses.OtherMethod Posting) 52 is (other_method (is_head request.method) request.close Posting) in omega (arith, clash)

  gate_is : (departs version : Option ℕ) → IsGateResponse side departs version response → IsDocument response
  gate_is None version is = absurd (not_bad is)
  gate_is (Some departs) None is = absurd (not_bad is)
  gate_is (Some departs) (Some version) is =
      let clash = none (responses.Found is.page.name departs) 51 is.is (found (is_head request.method) request.close side.base is.page.name departs) in
      absurd (omega (arith, clash))

  sent_is : (there : Bool) (version departs : ℕ) → IsSentOf side there version departs response → IsDocument response
  sent_is true version departs sent = subst IsDocument (sym sent.is) tt
  sent_is false version departs sent = absurd (not_missing sent)

  page_is : (version departs : Option ℕ) → IsPageResponse side version departs response → IsDocument response
  page_is version None is = absurd (not_bad is)
  page_is None (Some departs) is = absurd (not_bad is)
  page_is (Some version) (Some departs) is = sent_is (has_version side version) version departs is

  to_get : (gate page stops updates : Bool) (body : List ℕ) → IsResponseTo side request body (by_tests gate page stops updates) response → IsDocument response
  to_get true page stops updates body (departs, version, departs_is, version_is, is) = gate_is departs version is
  to_get false true stops updates body (departs, version, departs_is, version_is, is) = page_is version departs is
  to_get false false true updates body is = subst IsDocument (sym is.is) tt
  to_get false false false true body is = absurd (not_other is)
  to_get false false false false body is = absurd (not_missing is)

asks : (side : Side) (request : Request) → request.method ≡ codes "GET" → asked_at side request
    ≡ by_tests (is_under side.base (codes "connections") request.path) (is_under side.base (codes "memento/connections") request.path) (is_under side.base (codes "stops") request.path) (side.accepts_updates && is_under side.base (codes "updates") request.path)
asks side request method_is = ap (λ (m : List ℕ). asked_at side (record request { method = m })) method_is

pub only_documents : OnlyDocuments
only_documents side base request reply response keep has =
    let k = keep.keepable in
    let same : k.request ≡ has.request = one_request request k.request has.request k.whole has.whole in
    let method_is : has.request.method ≡ codes "GET" = ap (λ (r : Request). r.method) (sym same) ∙ k.method_is in
    to_get side has.request reply response keep.lasting has.text_is
    (is_under side.base (codes "connections") has.request.path) (is_under side.base (codes "memento/connections") has.request.path)
    (is_under side.base (codes "stops") has.request.path) (side.accepts_updates && is_under side.base (codes "updates") has.request.path)
    (drop has.request.body_from request)
    (subst (λ (a : Asked). IsResponseTo side has.request (drop has.request.body_from request) a response) (asks side has.request method_is) has.said)
