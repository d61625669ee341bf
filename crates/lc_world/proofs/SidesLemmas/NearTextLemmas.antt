-- Near texts of replies that the definitions of a side refuse.
use Rattle.std.proofs.Common.{◌≡◌, ℕ, List, [], ◌++◌, drop, get_or, Bool, true, false, Option, Some, None, refl, ap, sym, subst, ◌∙◌, arith}
use Rattle.std.specs.Prelude.{codes}
use Rattle.std.specs.Fmt.{digits}
use Rattle.std.proofs.lemmas.List.{append-nil}
use Rattle.lc_model.specs.declared.page.PageName.{PageName}
use Rattle.httparse.specs.Ascii.{crlf_bytes}
use Rattle.http_text.specs.ReplyText.{allow_line, body_lines, close_line, reply_text_of, status_line, target_lines}
use Rattle.http_text.specs.declared.reply_parts.ReplyParts.{ReplyParts}
use Rattle.http_text.specs.declared.request.Request.{Request}
use Rattle.http_text.proofs.MessageLemmas.{one_request}
use Rattle.page_json.specs.declared.page.Page.{Page}
use Rattle.lc_world.specs.Sides.Asked.{field_value, is_head, member_value}
use Rattle.lc_world.specs.Sides.Near.{AsksPage, HeadsHaveNoBody, MovedToTheMeant, NoneIsEmpty, NotFoundWhereNot, PagesAreFound, SentWhereThere}
use Rattle.lc_world.specs.Sides.Reply.{IsReply, bare_parts, page_parts, parts_of, sent_parts, text_said}
use Rattle.lc_world.specs.Sides.Response.{IsDeparture, IsGateResponse, IsNegotiated, IsPageResponse, IsResponse, IsResponseTo, IsSentOf, IsVersion, asked_at}
use Rattle.lc_world.specs.Sides.Side.{Side, has_version, versions_of}
use Rattle.lc_world.specs.declared.sides.asked.Asked.{Asked}
use Rattle.lc_world.specs.declared.sides.asked.Asked.TheVariants as kinds
use Rattle.lc_world.specs.declared.sides.response.Response.{Response}
use Rattle.lc_world.specs.declared.sides.response.Response.TheVariants as responses
use Rattle.lc_world.proofs.SidesLemmas.OneReplyLemmas.{one_departure, one_negotiated, one_version, the_one}

-- a byte of a text
abbrev byte_at : ℕ → List ℕ → ℕ
byte_at place text = get_or text place 0

begins_with_h : (head : Bool) (parts : ReplyParts) → byte_at 0 (reply_text_of (sent_parts head parts)) ≡ 72
begins_with_h true parts = refl
begins_with_h false parts = refl

pub none_is_empty : NoneIsEmpty
none_is_empty side bytes (response, has) =
    let f : 0 ≡ 72 = ap (byte_at 0) has.text_is ∙ begins_with_h (is_head has.request.method) (parts_of side.base side.doc has.request.close response) in
    omega (arith, f)

two : (head : Bool) (side : Side) (close : Bool) (page : Page) → byte_at 9 (reply_text_of (sent_parts head (page_parts side.base close page))) ≡ 50
unfolding digits
two true side close page = refl
two false side close page = refl

four : (head close : Bool) → byte_at 9 (reply_text_of (sent_parts head (bare_parts close 404))) ≡ 52
unfolding digits
four true close = refl
four false close = refl

pub pages_are_found : PagesAreFound
pages_are_found side request page e =
    let f : 50 ≡ 52 = sym (two (is_head request.method) side request.close page) ∙ ap (byte_at 9) e ∙ four (is_head request.method) request.close in
    omega (arith, f)

-- what is said at a memento whose version and moment are read
page_said : (side : Side) (request : Request) (body : List ℕ) (version departs : ℕ) (response : Response) → IsVersion request (Some version) → IsDeparture request (Some departs)
    → IsResponseTo side request body kinds.Page response → IsSentOf side (has_version side version) version departs response
page_said side request body version departs response is_version is_departs (said_departs, said_version, departs_is, version_is, is) =
    let same_departs : said_departs ≡ Some departs = the_one _ (one_departure (member_value (codes "departureTime") request.query)) said_departs (Some departs) departs_is is_departs in
    let same_version : said_version ≡ Some version = the_one _ (one_version (member_value (codes "version") request.query)) said_version (Some version) version_is is_version in
    subst (λ (v : Option ℕ). IsPageResponse side v (Some departs) response) same_version (subst (λ (d : Option ℕ). IsPageResponse side said_version d response) same_departs is)

-- a reply says what is sent of the version
pub record IsSaid (side : Side) (version departs : ℕ) (request : Request) (text : List ℕ) : Type 0 where
  pub response : Response
  pub said : IsSentOf side (has_version side version) version departs response
  pub text_is : text ≡ text_said side request response

reply_said : (side : Side) (bytes text : List ℕ) (version departs : ℕ) (asks : AsksPage side bytes version departs) → IsReply side bytes text → IsSaid side version departs asks.request text
reply_said side bytes text version departs asks (response, has) =
    let r = asks.request in
    let same : has.request ≡ r = one_request bytes has.request r has.whole asks.whole in
    let said : IsResponse side r (drop r.body_from bytes) response = subst (λ (q : Request). IsResponse side q (drop q.body_from bytes) response) same has.said in
    record {
      response = response;
      said = page_said side r (drop r.body_from bytes) version departs response asks.version_said asks.departs_said
          (subst (λ (a : Asked). IsResponseTo side r (drop r.body_from bytes) a response) asks.asks said);
      text_is = subst (λ (q : Request). text ≡ text_said side q response) same has.text_is;
    }

pub sent_where_there : SentWhereThere
sent_where_there side bytes text version departs asks there reply =
    let is = reply_said side bytes text version departs asks reply in
    let sent = subst (λ (b : Bool). IsSentOf side b version departs is.response) there is.said in
    record { page = sent.page; page_is = sent.page_is; text_is = is.text_is ∙ ap (text_said side asks.request) sent.is }

pub not_found_where_not : NotFoundWhereNot
not_found_where_not side bytes text version departs asks there reply =
    let is = reply_said side bytes text version departs asks reply in
    let sent = subst (λ (b : Bool). IsSentOf side b version departs is.response) there is.said in
    is.text_is ∙ ap (text_said side asks.request) sent

-- THE TIME GATE

name_in : Response → PageName → PageName
name_in (responses.Status status) other = other
name_in (responses.OtherMethod allow) other = other
name_in (responses.Found page departs) other = page
name_in (responses.Page page) other = other
name_in responses.Stops other = other

is_found : Response → Bool
is_found (responses.Status status) = false
is_found (responses.OtherMethod allow) = false
is_found (responses.Found page departs) = true
is_found (responses.Page page) = false
is_found responses.Stops = false

not_found : (name : PageName) (departs : ℕ) (other : Response) → responses.Found name departs ≡ other → is_found other ≡ false → ⊥
unfolding is_found
not_found name departs other e none = let f : true ≡ false = ap is_found e ∙ none in cc

meant_at : (side : Side) (name : PageName) (departs : ℕ) (said version : Option ℕ) → IsGateResponse side said version (responses.Found name departs) → version ≡ Some name.version
unfolding is_found name_in
meant_at side name departs None version is = absurd (not_found name departs _ is refl)
meant_at side name departs (Some said) None is = absurd (not_found name departs _ is refl)
meant_at side name departs (Some said) (Some version) is =
    let same : name ≡ is.page.name = ap (λ (r : Response). name_in r name) is.is in
    let of_version : is.page.name.version ≡ version = ap (λ (p : Page). p.name.version) is.page_is.is in
    ap Some (sym (ap (λ (n : PageName). n.version) same ∙ of_version))

no_found_page : (side : Side) (name : PageName) (departs : ℕ) (there : Bool) (version moment : ℕ) → IsSentOf side there version moment (responses.Found name departs) → ⊥
unfolding is_found
no_found_page side name departs true version moment is = not_found name departs _ is.is refl
no_found_page side name departs false version moment is = not_found name departs _ is refl

no_found_at_memento : (side : Side) (name : PageName) (departs : ℕ) (version moment : Option ℕ) → IsPageResponse side version moment (responses.Found name departs) → ⊥
unfolding is_found
no_found_at_memento side name departs version None is = not_found name departs _ is refl
no_found_at_memento side name departs None (Some moment) is = not_found name departs _ is refl
no_found_at_memento side name departs (Some version) (Some moment) is = no_found_page side name departs (has_version side version) version moment is

meant_by : (side : Side) (request : Request) (body : List ℕ) (name : PageName) (departs version : ℕ) (asked : Asked) → IsNegotiated side request (Some version)
    → IsResponseTo side request body asked (responses.Found name departs) → name.version ≡ version
unfolding is_found
meant_by side request body name departs version kinds.Gate meant (said_departs, said_version, departs_is, version_is, is) =
    let same : said_version ≡ Some version = the_one _ (one_negotiated (versions_of side) (field_value (codes "accept-datetime") request.fields)) said_version (Some version) version_is meant in
    some_is_one (sym (meant_at side name departs said_departs said_version is) ∙ same)
  where
    some_is_one : Some name.version ≡ Some version → name.version ≡ version
    some_is_one e = cc
meant_by side request body name departs version kinds.Page meant (said_departs, said_version, departs_is, version_is, is) = absurd (no_found_at_memento side name departs said_version said_departs is)
meant_by side request body name departs version kinds.Stops meant is = absurd (not_found name departs _ is.is refl)
meant_by side request body name departs version kinds.Update meant (update, is_update, is) = absurd (not_found name departs _ is refl)
meant_by side request body name departs version (kinds.OtherMethod allow) meant is = absurd (not_found name departs _ is refl)
meant_by side request body name departs version kinds.Nothing meant is = absurd (not_found name departs _ is refl)

pub moved_to_the_meant : MovedToTheMeant
moved_to_the_meant side bytes text name departs version has meant =
    meant_by side has.request (drop has.request.body_from bytes) name departs version (asked_at side has.request) meant has.said

-- HEADS

-- the text without the body
abbrev head_of : ReplyParts → List ℕ
head_of parts = status_line parts.status ++ body_lines parts ++ target_lines parts ++ allow_line parts.allow ++ close_line parts.close ++ crlf_bytes

body_behind : (front body : List ℕ) → front ++ body ≡ (front ++ []) ++ body
body_behind front body = ap (λ (l : List ℕ). l ++ body) (sym (append-nil front))

body_behind_head : (parts : ReplyParts) → reply_text_of parts ≡ reply_text_of (record parts { body = [] }) ++ parts.body
body_behind_head parts = body_behind (head_of parts) parts.body

pub heads_have_no_body : HeadsHaveNoBody
heads_have_no_body side request response other =
    ap (λ (h : Bool). reply_text_of (sent_parts h (parts_of side.base side.doc request.close response))) other
    ∙ body_behind_head (parts_of side.base side.doc request.close response)
