-- What a side says to the GET of a client.
use Rattle.std.proofs.Common.{◌≡◌, ℕ, List, [], ◌∷◌, ◌++◌, drop, codes, map, Bool, true, false, Option, Some, None, cond, refl, ap, ap₂, subst, ◌∙◌}
use Rattle.std.specs.List.{filter, find}
use Rattle.std.specs.Str.{str_eq_ignore_ascii_case}
use Rattle.std.specs.Prelude.{option_map}
use Rattle.connection_uri.specs.Base.{BaseParts}
use Rattle.http_text.specs.Fields.{FieldText, is_named, values_of}
use Rattle.http_text.specs.Reply.{IsMomentOf, first_of}
use Rattle.http_text.specs.ReplyText.{reply_text_of}
use Rattle.http_text.specs.RequestText.{dates_of, field_text}
use Rattle.http_text.specs.Target.{members_of, path_of, query_of}
use Rattle.http_text.specs.declared.field.Field.{Field}
use Rattle.http_text.specs.declared.request.Request.{Request}
use Rattle.http_text.proofs.MessageLemmas.{one_request}
use Rattle.lc_world.specs.Sides.Asked.{asked_of, field_value, is_head}
use Rattle.lc_world.specs.Sides.Reply.{parts_of, sent_parts, text_said}
use Rattle.lc_world.specs.Sides.Response.{IsResponse, IsResponseTo}
use Rattle.lc_world.specs.Sides.Side.{Side, versions_of}
use Rattle.lc_world.specs.declared.sides.asked.Asked.{Asked}
use Rattle.lc_world.specs.declared.sides.asked.Asked.TheVariants as kinds
use Rattle.lc_world.specs.declared.sides.response.Response.{Response}
use Rattle.lc_world.proofs.SidesLemmas.AskedLemmas.{same_behind}
use Rattle.convoy.specs.ClientLaws.Stated.{IsStatedTo, version_at}
use Rattle.memento.specs.Negotiation.{Negotiates}

-- ---- what the paths ask for

pub gate_asked : (base : BaseParts) (accepts : Bool) → asked_of base accepts (base.path ++ codes "connections") (codes "GET") ≡ kinds.Gate
gate_asked base accepts = rw (same_behind base.path (codes "connections") (codes "connections")) refl

pub page_asked : (base : BaseParts) (accepts : Bool) → asked_of base accepts (base.path ++ codes "memento/connections") (codes "GET") ≡ kinds.Page
page_asked base accepts =
    rw (same_behind base.path (codes "memento/connections") (codes "connections"), same_behind base.path (codes "memento/connections") (codes "memento/connections")) refl

pub stops_asked : (base : BaseParts) (accepts : Bool) → asked_of base accepts (base.path ++ codes "stops") (codes "GET") ≡ kinds.Stops
stops_asked base accepts =
    rw (same_behind base.path (codes "stops") (codes "connections"), same_behind base.path (codes "stops") (codes "memento/connections"), same_behind base.path (codes "stops") (codes "stops")) refl

-- ---- the value of a field

value_by : (named : Bool) (field : Field) (found : Option Field) (rest : List FieldText) → option_map (λ (f : Field). f.value) found ≡ first_of (map (λ (f : FieldText). f.1) rest)
    → option_map (λ (f : Field). f.value) (cond named (Some field) found) ≡ first_of (map (λ (f : FieldText). f.1) (cond named (field_text field ∷ rest) rest))
value_by true field found rest e = refl
value_by false field found rest e = e

value_is_first : (name : List ℕ) (fields : List Field) → field_value name fields ≡ first_of (values_of name (map field_text fields))
value_is_first name [] = refl
value_is_first name (field ∷ fields) =
    value_by (str_eq_ignore_ascii_case field.name name) field (find (λ (f : Field). str_eq_ignore_ascii_case f.name name) fields)
    (filter (is_named name) (map field_text fields)) (value_is_first name fields)

-- ---- what is said

-- The side says this to a GET of the target by one who knows up to this moment. It asks for this, and the text is its reply.
pub record Answers (side : Side) (target : List ℕ) (known : Option ℕ) (asked : Asked) (reply : List ℕ) : Type 0 where
  pub request : Request
  pub body : List ℕ
  pub query_is : request.query ≡ members_of (query_of target)
  pub known_is : field_value (codes "accept-datetime") request.fields ≡ first_of (dates_of known)
  pub known_read : IsMomentOf (first_of (dates_of known)) known
  pub response : Response
  pub said : IsResponseTo side request body asked response
  pub text_is : reply ≡ reply_text_of (parts_of side.base side.doc true response)

pub answers : (side : Side) (target : List ℕ) (known : Option ℕ) (asked : Asked) (reply : List ℕ) → asked_of side.base side.accepts_updates (path_of target) (codes "GET") ≡ asked
    → IsStatedTo side target known reply → Answers side target known asked reply
answers side target known asked reply is recorded =
    let request = recorded.asks.request in
    let says = recorded.asks.says in
    let response = recorded.replies.0 in
    let has = recorded.replies.1 in
    let same : has.request ≡ request = one_request recorded.request has.request request has.whole recorded.asks.is_whole in
    let body = drop request.body_from recorded.request in
    let asks : asked_of side.base side.accepts_updates request.path request.method ≡ asked =
    ap₂ (λ (path method : List ℕ). asked_of side.base side.accepts_updates path method) says.path_is says.method_is ∙ is in
    let said : IsResponse side request body response = subst (λ (r : Request). IsResponse side r (drop r.body_from recorded.request) response) same has.said in
    let text : reply ≡ text_said side request response = subst (λ (r : Request). reply ≡ text_said side r response) same has.text_is in
    record {
      request = request;
      body = body;
      query_is = says.query_is;
      known_is = value_is_first (codes "accept-datetime") request.fields ∙ ap first_of says.known_is;
      known_read = subst (λ (values : List (List ℕ)). IsMomentOf (first_of values) known) says.known_is says.known_read;
      response = response;
      said = subst (λ (a : Asked). IsResponseTo side request body a response) asks said;
      text_is =
          text
          ∙ ap₂ (λ (method : List ℕ) (close : Bool). reply_text_of (sent_parts (is_head method) (parts_of side.base side.doc close response))) says.method_is says.close_is;
    }

-- the version that is meant by a known moment is negotiated
pub version_is_meant : (side : Side) (value : Option (List ℕ)) (known : Option ℕ) → value ≡ first_of (dates_of known) → IsMomentOf value known → Negotiates (versions_of side) value (version_at side known)
version_is_meant side None None e is = refl
version_is_meant side None (Some moment) e is = absurd (cc)
version_is_meant side (Some text) None e is = absurd (cc)
version_is_meant side (Some text) (Some moment) e is = (moment, is, refl)
