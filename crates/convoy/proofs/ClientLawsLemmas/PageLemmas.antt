-- The reply at a page says the page.
use Rattle.std.proofs.Common.{◌≡◌, ℕ, List, codes, Bool, true, not, Option, Some, None, Ok, Err, refl, sym, ap, subst, ◌∙◌}
use Rattle.std.specs.Prelude.{if◌then◌else◌}
use Rattle.std.proofs.lemmas.Bool.{eq-eqb}
use Rattle.lc_time.proofs.IsoLemmas.{says_text}
use Rattle.lc_model.specs.Versions.Pages.{departures_of}
use Rattle.connection_uri.specs.Page.{page_target_of}
use Rattle.http_text.specs.ReplyText.{reply_said, reply_text_of}
use Rattle.http_text.proofs.QueryLemmas.{targets_are_read}
use Rattle.page_json.specs.PageReading.{page_of_bytes}
use Rattle.page_json.specs.Sound.{IsSoundPage}
use Rattle.page_json.specs.Tree.{page_text_of}
use Rattle.page_json.specs.Valid.{IsValidPage}
use Rattle.page_json.specs.declared.page.Page.{Page}
use Rattle.page_json.proofs.PageLemmas.{reads_page_text}
use Rattle.page_json.proofs.Utf8Lemmas.{page_text_is_utf8}
use Rattle.page_client.specs.Page.{IsPageReply, advances, is_asked}
use Rattle.page_client.specs.Replied.{body_of}
use Rattle.page_client.specs.declared.fault.PeerFault.TheVariants.{Advance, Identity}
use Rattle.lc_world.specs.Sides.Asked.{asked_of, member_value}
use Rattle.lc_world.specs.Sides.Reply.{page_parts, parts_of}
use Rattle.lc_world.specs.Sides.Response.{IsPageOf, IsPageResponse, IsSent, IsSentOf, SaysDeparture, SaysVersion}
use Rattle.lc_world.specs.Sides.Short.{StandsUnder}
use Rattle.lc_world.specs.Sides.Side.{IsValidSide, Side, has_version}
use Rattle.lc_world.specs.declared.sides.asked.Asked.TheVariants as kinds
use Rattle.lc_world.specs.declared.sides.response.Response.{Response}
use Rattle.lc_world.specs.declared.sides.response.Response.TheVariants as responses
use Rattle.lc_world.proofs.SidesLemmas.OneReplyLemmas.{one_departure, one_page, one_version, the_one}
use Rattle.convoy.specs.ClientLaws.Stated.{PageIsStated}
use Rattle.convoy.proofs.ClientLawsLemmas.AskedLemmas.{answers, page_asked}
use Rattle.convoy.proofs.ClientLawsLemmas.CutPageLemmas.{page_advances, page_is_valid}
use Rattle.convoy.proofs.ClientLawsLemmas.TextLemmas.{CanBeRead, body_said, gate_url_fits, ok_len, says_parts}
use Rattle.convoy.proofs.ClientLawsLemmas.TimetableLemmas.{cuts_are_lawful, none_arrives_early}

-- a page of a side is valid
pub side_page_is_valid : (side : Side) (version departs : ℕ) (page : Page) → IsValidSide side → IsPageOf side version departs page → IsValidPage page
side_page_is_valid side version departs page valid is =
    subst IsValidPage (sym is.is)
    (page_is_valid version (side.cuts_of (departures_of is.list)) is.list departs (cuts_are_lawful side version is.list valid is.timetable) is.timetable.are_connections.in_order
    (none_arrives_early side version is.list valid is.timetable))

-- and advances
pub side_page_advances : (side : Side) (version departs : ℕ) (page : Page) → IsValidSide side → IsPageOf side version departs page → advances page ≡ true
side_page_advances side version departs page valid is =
    ap advances is.is
    ∙ page_advances version (side.cuts_of (departures_of is.list)) is.list departs (cuts_are_lawful side version is.list valid is.timetable) is.timetable.are_connections.in_order

can_be_read : (side : Side) (version departs : ℕ) (page : Page) → StandsUnder side.base side → has_version side version ≡ true → IsPageOf side version departs page → IsSoundPage page → CanBeRead (page_parts side.base true page)
can_be_read side version departs page stands has is sound = record {
  has_reason = λ e. cc;
  status_len = ok_len;
  location = tt;
  original = gate_url_fits side.base page.name.departs stands.valid.base sound.name.departs;
  memento = sound.name.version;
  allows = refl;
  length_is = refl;
  body_fits = stands.short.pages version departs page has is;
}

-- a page passes the tests of the one who asked for it
passes : (asked on : Bool) (page : Page) → asked ≡ true → on ≡ true → Ok page ≡ (if not asked then Err Identity else (if not on then Err Advance else Ok page))
passes asked on page e f = rw (e, f) refl

is_as_asked : (page : Page) → is_asked page.name (Some page.name.version) page ≡ true
is_as_asked page = rw (eq-eqb page.name.version page.name.version refl, eq-eqb page.name.departs page.name.departs refl) refl

-- a response that sends a page says it in its reply
sent_is_stated : (side : Side) (page : Page) (reply : List ℕ) (response : Response) → StandsUnder side.base side → has_version side page.name.version ≡ true
    → IsPageOf side page.name.version page.name.departs page → reply ≡ reply_text_of (parts_of side.base side.doc true response) → IsSent side page.name.version page.name.departs response
    → IsPageReply side.base page.name reply (Ok page) × IsSoundPage page
sent_is_stated side page reply response stands has is text_is sent =
    let base = side.base in
    let version = page.name.version in
    let departs = page.name.departs in
    let same : sent.page ≡ page = one_page side version departs sent.page page sent.page_is is in
    let sound : IsSoundPage page = subst IsSoundPage same sent.sound in
    let parts = page_parts base true page in
    let text : reply ≡ reply_text_of parts = text_is ∙ ap (λ (r : Response). reply_text_of (parts_of base side.doc true r)) (sent.is ∙ ap responses.Page same) in
    let body : body_of reply (reply_said parts reply) ≡ page_text_of base page = body_said parts reply text in
    let reads = reads_page_text base page (page_text_of base page) (side_page_is_valid side version departs page stands.valid is) sound (page_text_is_utf8 base page stands.valid.base sound) refl in (
      (
        Ok (reply_said parts reply),
        (says_parts parts reply text (can_be_read side version departs page stands has is sound), refl),
        record {
          body = Ok page;
          read = subst (λ (bytes : List ℕ). page_of_bytes base bytes (Ok page)) (sym body) reads.is;
          is = passes (is_asked page.name (Some version) page) (advances page) page (is_as_asked page) (side_page_advances side version departs page stands.valid is);
        },
      ),
      sound,
    )

pub page_is_stated : PageIsStated
page_is_stated side page reply stands has sound is recorded =
    let base = side.base in
    let name = page.name in
    let says = (targets_are_read base stands.valid.base).page name sound.version sound.departs in
    let a = answers side (page_target_of base name) None kinds.Page reply (ap (λ (p : List ℕ). asked_of base side.accepts_updates p (codes "GET")) says.path_is ∙ page_asked base side.accepts_updates) recorded in
    let (departs, version, is_departs, is_version, response) = a.said in
    let query = a.query_is ∙ says.query_is in
    let moment = member_value (codes "departureTime") a.request.query in
    let at_moment = ap (member_value (codes "departureTime")) query in
    let same_departs : departs ≡ Some name.departs =
    the_one (SaysDeparture moment) (one_departure moment) departs (Some name.departs) is_departs (subst (λ (v : Option (List ℕ)). SaysDeparture v name.departs) (sym at_moment) (says_text name.departs sound.departs)) in
    let of = member_value (codes "version") a.request.query in
    let at_version = ap (member_value (codes "version")) query in
    let same_version : version ≡ Some name.version =
    the_one (SaysVersion of) (one_version of) version (Some name.version) is_version (subst (λ (v : Option (List ℕ)). SaysVersion v name.version) (sym at_version) (says_text name.version sound.version)) in
    let sent_of : IsSentOf side (has_version side name.version) name.version name.departs a.response =
    subst (λ (v : Option ℕ). IsPageResponse side v (Some name.departs) a.response) same_version (subst (λ (d : Option ℕ). IsPageResponse side version d a.response) same_departs response) in
    sent_is_stated side page reply a.response stands has is a.text_is (subst (λ (b : Bool). IsSentOf side b name.version name.departs a.response) has sent_of)
