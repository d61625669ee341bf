-- The reply at the stops document says the document.
use Rattle.std.proofs.Common.{◌≡◌, ℕ, List, codes, true, None, Ok, refl, sym, ap, subst, ◌∙◌}
use Rattle.connection_uri.specs.Page.{stops_target_of}
use Rattle.http_text.specs.ReplyText.{reply_said, reply_text_of}
use Rattle.http_text.proofs.QueryLemmas.{targets_are_read}
use Rattle.page_json.specs.StopsReading.{doc_of_bytes}
use Rattle.page_json.specs.Tree.{stops_text_of}
use Rattle.page_json.proofs.StopsLemmas.{reads_stops_text}
use Rattle.page_json.proofs.Utf8Lemmas.{stops_text_is_utf8}
use Rattle.page_client.specs.Replied.{body_of}
use Rattle.lc_world.specs.Sides.Asked.{asked_of}
use Rattle.lc_world.specs.Sides.Reply.{parts_of, stops_parts}
use Rattle.lc_world.specs.Sides.Short.{StandsUnder}
use Rattle.lc_world.specs.Sides.Side.{Side}
use Rattle.lc_world.specs.declared.sides.asked.Asked.TheVariants as kinds
use Rattle.lc_world.specs.declared.sides.response.Response.{Response}
use Rattle.convoy.specs.ClientLaws.Stated.{StopsAreStated}
use Rattle.convoy.proofs.ClientLawsLemmas.AskedLemmas.{answers, stops_asked}
use Rattle.convoy.proofs.ClientLawsLemmas.TextLemmas.{CanBeRead, body_said, ok_len, says_parts}

can_be_read : (side : Side) → StandsUnder side.base side → CanBeRead (stops_parts side.base true side.doc)
can_be_read side stands = record {
  has_reason = λ e. cc;
  status_len = ok_len;
  location = tt;
  original = tt;
  memento = tt;
  allows = refl;
  length_is = refl;
  body_fits = stands.short.doc;
}

pub stops_are_stated : StopsAreStated
stops_are_stated side reply stands recorded =
    let base = side.base in
    let doc = side.doc in
    let path = (targets_are_read base stands.valid.base).stops.path_is in
    let a = answers side (stops_target_of base) None kinds.Stops reply (ap (λ (p : List ℕ). asked_of base side.accepts_updates p (codes "GET")) path ∙ stops_asked base side.accepts_updates) recorded in
    let parts = stops_parts base true doc in
    let text : reply ≡ reply_text_of parts = a.text_is ∙ ap (λ (r : Response). reply_text_of (parts_of base doc true r)) a.said.is in
    let body : body_of reply (reply_said parts reply) ≡ stops_text_of base doc = body_said parts reply text in
    let reads = reads_stops_text base doc (stops_text_of base doc) stands.valid.doc a.said.sound (stops_text_is_utf8 base doc stands.valid.base a.said.sound) refl in (
      Ok (reply_said parts reply),
      (says_parts parts reply text (can_be_read side stands), refl),
      record { body = Ok doc; read = subst (λ (bytes : List ℕ). doc_of_bytes bytes (Ok doc)) (sym body) reads.is; is = refl },
    )
