-- The time gate's reply sends to the page for the moment at which the question leaves.
use Rattle.std.proofs.Common.{◌≡◌, ℕ, ◌<◌, List, codes, true, Option, Some, Ok, refl, sym, ap, subst, ◌∙◌, arith}
use Rattle.lc_model.specs.declared.page.PageName.{PageName}
use Rattle.lc_model.specs.declared.query.Query.{Query}
use Rattle.lc_time.proofs.IsoLemmas.{says_text}
use Rattle.connection_uri.specs.Base.{BaseParts, IsBase}
use Rattle.connection_uri.specs.Page.{gate_target_of, page_url_of}
use Rattle.connection_uri.proofs.JoinLemmas.{page_urls_join}
use Rattle.http_text.specs.Reply.{IsMomentOf}
use Rattle.http_text.specs.ReplyText.{reply_said, reply_text_of}
use Rattle.http_text.proofs.QueryLemmas.{targets_are_read}
use Rattle.memento.specs.Negotiation.{Negotiates}
use Rattle.page_json.specs.Sound.{IsSoundName}
use Rattle.page_client.specs.Gate.{LeadsTo}
use Rattle.lc_world.specs.Sides.Asked.{asked_of, field_value, member_value}
use Rattle.lc_world.specs.Sides.Reply.{found_parts, parts_of}
use Rattle.lc_world.specs.Sides.Response.{IsGateResponse, IsMovedTo, SaysDeparture}
use Rattle.lc_world.specs.Sides.Side.{Side, versions_of}
use Rattle.lc_world.specs.declared.sides.asked.Asked.TheVariants as kinds
use Rattle.lc_world.specs.declared.sides.response.Response.{Response}
use Rattle.lc_world.proofs.SidesLemmas.OneReplyLemmas.{one_departure, one_negotiated, the_one}
use Rattle.convoy.specs.ClientLaws.Stated.{GateIsStated, IsSentTo, version_at}
use Rattle.convoy.proofs.ClientLawsLemmas.AskedLemmas.{answers, gate_asked, version_is_meant}
use Rattle.convoy.proofs.ClientLawsLemmas.TextLemmas.{CanBeRead, found_len, gate_url_fits, page_url_fits, says_parts}

-- a question leaves at a moment
leaves_in_range : (query : Query) → query.leave < 253_402_128_000
leaves_in_range query = omega (arith, query.not_after)

can_be_read : (base : BaseParts) (name : PageName) (departs : ℕ) → IsBase base → IsSoundName name → departs < 253_402_128_000 → CanBeRead (found_parts base true name departs)
can_be_read base name departs is sound bound = record {
  has_reason = λ e. cc;
  status_len = found_len;
  location = page_url_fits base name is sound;
  original = gate_url_fits base departs is bound;
  memento = tt;
  allows = refl;
  length_is = refl;
  body_fits = omega arith;
}

-- the page's URL leads to the page
leads : (base : BaseParts) (departs : ℕ) (name : PageName) → IsBase base → departs < 253_402_128_000 → IsSoundName name → LeadsTo base departs (page_url_of base name) name
leads base departs name is bound sound =
    let joins = page_urls_join base departs name is bound sound.version sound.departs in
    record {
      gate = joins.base;
      gate_is = joins.base_said;
      led = record {
        url = joins.url;
        joined = joins.joined;
        says = record { version_fits = sound.version; departs_fits = sound.departs; written = joins.url_is };
      };
    }

-- a response that moves says the page in its reply
moved_is_stated : (side : Side) (query : Query) (reply : List ℕ) (response : Response) → IsBase side.base → reply ≡ reply_text_of (parts_of side.base side.doc true response)
    → IsMovedTo side (version_at side query.known) query.leave response → IsSentTo side query reply
moved_is_stated side query reply response is text_is moved =
    let base = side.base in
    let name = moved.page.name in
    let bound = leaves_in_range query in
    let parts = found_parts base true name query.leave in
    let text : reply ≡ reply_text_of parts = text_is ∙ ap (λ (r : Response). reply_text_of (parts_of base side.doc true r)) moved.is in
    record {
      name = name;
      is_gate_page = record { page = moved.page; is_page = moved.page_is; is = refl; sound = moved.sound };
      said = (
        Ok (reply_said parts reply),
        (says_parts parts reply text (can_be_read base name query.leave is moved.sound bound), refl),
        leads base query.leave name is bound moved.sound,
      );
    }

pub gate_is_stated : GateIsStated
gate_is_stated side query reply stands recorded =
    let base = side.base in
    let leave = query.leave in
    let known = query.known in
    let bound = leaves_in_range query in
    let says = (targets_are_read base stands.valid.base).gate leave bound in
    let a = answers side (gate_target_of base leave) known kinds.Gate reply (ap (λ (p : List ℕ). asked_of base side.accepts_updates p (codes "GET")) says.path_is ∙ gate_asked base side.accepts_updates) recorded in
    let (departs, version, is_departs, is_version, response) = a.said in
    let member = member_value (codes "departureTime") a.request.query in
    let at = ap (member_value (codes "departureTime")) (a.query_is ∙ says.query_is) in
    let same_departs : departs ≡ Some leave = the_one (SaysDeparture member) (one_departure member) departs (Some leave) is_departs (subst (λ (v : Option (List ℕ)). SaysDeparture v leave) (sym at) (says_text leave bound)) in
    let value = field_value (codes "accept-datetime") a.request.fields in
    let read : IsMomentOf value known = subst (λ (v : Option (List ℕ)). IsMomentOf v known) (sym a.known_is) a.known_read in
    let same_version : version ≡ Some (version_at side known) =
    the_one (Negotiates (versions_of side) value) (one_negotiated (versions_of side) value) version (Some (version_at side known)) is_version (version_is_meant side value known a.known_is read) in
    moved_is_stated side query reply a.response stands.valid.base a.text_is
    (subst (λ (v : Option ℕ). IsGateResponse side (Some leave) v a.response) same_version (subst (λ (d : Option ℕ). IsGateResponse side d version a.response) same_departs response))
