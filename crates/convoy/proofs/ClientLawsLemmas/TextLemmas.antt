-- The texts of replies are short enough to be read back, and say what they were made of.
use Rattle.std.proofs.Common.{◌≡◌, ℕ, ◌+◌, ◌-◌, ◌<◌, ◌≤◌, Bool, true, false, List, ◌++◌, length, drop, codes, decimal, Option, Some, None, refl, sym, ap, subst, ◌∙◌, arith, length-append, length-drop}
use Rattle.std.specs.Fmt.{digits}
use Rattle.std.specs.Option.{IfSome}
use Rattle.std.specs.Str.{IsUtf8}
use Rattle.std.proofs.lemmas.Fmt.{length-decimal-le}
use Rattle.std.proofs.lemmas.List.{take_all}
use Rattle.std.proofs.lemmas.List.Elements.{All-weaker}
use Rattle.std.proofs.lemmas.List.Sums.{AllPass-from_list_all}
use Rattle.httparse.specs.Ascii.{crlf_bytes}
use Rattle.httparse.specs.Grammar.{AllPass, is_uri_byte, is_value_byte}
use Rattle.lc_model.specs.declared.page.PageName.{PageName}
use Rattle.lc_time.specs.Http.{http_date_of}
use Rattle.lc_time.specs.Iso.{iso_text_of}
use Rattle.connection_uri.specs.Base.{BaseParts, IsBase, IsWrittenBase, is_visible}
use Rattle.connection_uri.specs.Page.{gate_url_of, page_url_of}
use Rattle.connection_uri.proofs.BaseLemmas.{written}
use Rattle.http_text.specs.Line.{line, moment_line}
use Rattle.http_text.specs.Reply.{IsReply}
use Rattle.http_text.specs.ReplyText.{HasReason, IsReadable, allow_line, body_lines, close_line, kind_line, length_line, link_line, location_lines, reply_said, reply_text_of, status_line, target_lines}
use Rattle.http_text.specs.declared.reply_parts.BodyKind.{BodyKind}
use Rattle.http_text.specs.declared.reply_parts.BodyKind.TheVariants as bodies
use Rattle.http_text.specs.declared.reply_parts.ReplyParts.{ReplyParts}
use Rattle.http_text.proofs.AnswerLemmas.{answers, body_is}
use Rattle.http_text.proofs.ByteLemmas.{value_bytes}
use Rattle.http_text.proofs.TargetLemmas.{both, date_len, iso_visible, literal, path_bytes}
use Rattle.page_json.specs.Sound.{IsSoundName}
use Rattle.page_json.proofs.Utf8Lemmas.{page_url_is_utf8}
use Rattle.page_client.specs.Replied.{body_of}

-- ---- how long the lines are

together : (s b t a c e body : List ℕ) → length s ≤ 100 → length b ≤ 100 → length t ≤ 9_000 → length a ≤ 100 → length c ≤ 100 → length e ≤ 100 → length (s ++ b ++ t ++ a ++ c ++ e ++ body) ≤ 16_384 + length body
together s b t a c e body hs hb ht ha hc he = simp length-append (omega arith)

three : (a b c : List ℕ) → length (a ++ b ++ c) ≡ length a + length b + length c
three a b c = simp length-append (omega arith)

line_len : (front text : List ℕ) → length (line (front ++ text)) ≡ length front + length text + 2
line_len front text = simp length-append (omega arith)

kind_len : (kind : Option BodyKind) → length (kind_line kind) ≤ 50
kind_len None = omega arith
kind_len (Some bodies.Page) = omega arith
kind_len (Some bodies.Stops) = omega arith

said_len : (n : Option ℕ) → IfSome n (λ n. n < 10_000_000_000) → length (length_line n) ≤ 50
said_len None h = omega arith
said_len (Some n) h = omega (arith, line_len (codes "Content-Length: ") (decimal n), length-decimal-le 10 n (omega arith) (omega arith) (omega arith))

location_len : (o : Option (List ℕ)) → IfSome o (λ url. length url ≤ 4_300) → length (location_lines o) ≤ 4_400
location_len None h = omega arith
location_len (Some url) h =
    omega (arith, line_len (codes "Location: ") url, length-append (line (codes "Location: " ++ url)) (line (codes "Vary: accept-datetime")))

moment_len : (m : Option ℕ) → length (moment_line (codes "Memento-Datetime: ") m) ≤ 50
moment_len None = omega arith
moment_len (Some m) = omega (arith, line_len (codes "Memento-Datetime: ") (http_date_of m), date_len m)

link_len : (o : Option (List ℕ)) → IfSome o (λ url. length url ≤ 4_300) → length (link_line o) ≤ 4_400
link_len None h = omega arith
link_len (Some url) h =
    omega (arith, line_len (codes "Link: <" ++ url) (codes ">; rel=\"original timegate\""), length-append (codes "Link: <") url)

close_len : (close : Bool) → length (close_line close) ≤ 50
close_len true = omega arith
close_len false = omega arith

-- ---- what can be read back

-- a URL can be in a field, and is short
pub record IsFieldUrl (url : List ℕ) : Type 0 where
  pub visible : AllPass is_uri_byte url
  pub short : length url ≤ 4_300

-- a URL can be a location too
pub record IsLocation (url : List ℕ) : Type 0 where
  pub in_field : IsFieldUrl url
  pub utf8 : IsUtf8 url

-- what the parts of a reply need so that its text can be read back
pub record CanBeRead (p : ReplyParts) : Type 0 where
  pub has_reason : HasReason p.status
  pub status_len : length (status_line p.status) ≤ 100
  pub location : IfSome p.location IsLocation
  pub original : IfSome p.original IsFieldUrl
  pub memento : IfSome p.memento (λ m. m < 253_402_128_000)
  pub allows : p.allow ≡ None
  pub length_is : IfSome p.length (λ n. n ≡ length p.body)
  pub body_fits : length p.body < 10_000_000_000

if_some : {X : Type 0} (P Q : X → Type 0) (o : Option X) → ((x : X) → P x → Q x) → IfSome o P → IfSome o Q
if_some P Q None weaker h = tt
if_some P Q (Some x) weaker h = weaker x h

head_fits : (p : ReplyParts) → CanBeRead p → length (reply_text_of p) ≤ 16_384 + length p.body
head_fits p can =
    let short : (n : ℕ) → n ≡ length p.body → n < 10_000_000_000 = λ n e. omega (arith, can.body_fits) in
    let kind = kind_len p.kind in
    let said = said_len p.length (if_some (λ n. n ≡ length p.body) (λ n. n < 10_000_000_000) p.length short can.length_is) in
    let location = location_len p.location (if_some IsLocation (λ url. length url ≤ 4_300) p.location (λ url h. h.in_field.short) can.location) in
    let link = link_len p.original (if_some IsFieldUrl (λ url. length url ≤ 4_300) p.original (λ url h. h.short) can.original) in
    let allow : length (allow_line p.allow) ≤ 100 = rw can.allows (omega arith) in
    together (status_line p.status) (body_lines p) (target_lines p) (allow_line p.allow) (close_line p.close) crlf_bytes p.body can.status_len
    (omega (arith, kind, said, length-append (kind_line p.kind) (length_line p.length)))
    (omega (arith, location, moment_len p.memento, link, three (location_lines p.location) (moment_line (codes "Memento-Datetime: ") p.memento) (link_line p.original)))
    allow (omega (arith, close_len p.close)) (omega arith)

readable : (p : ReplyParts) (text : List ℕ) → text ≡ reply_text_of p → CanBeRead p → IsReadable p text
readable p text e can = record {
  location_bytes = if_some IsLocation (λ url. AllPass is_uri_byte url × IsUtf8 url) p.location (λ url h. (h.in_field.visible, h.utf8)) can.location;
  original_bytes = if_some IsFieldUrl (AllPass is_value_byte) p.original (λ url h. value_bytes url h.visible) can.original;
  length_is = can.length_is;
  body_fits = can.body_fits;
  head_fits = subst (λ (t : List ℕ). length t ≤ 16_384 + length p.body) (sym e) (head_fits p can);
}

-- the text of a reply says its parts
pub says_parts : (p : ReplyParts) (text : List ℕ) → text ≡ reply_text_of p → CanBeRead p → IsReply text (reply_said p text)
says_parts p text e can = answers p text e can.has_reason can.memento (readable p text e can)

-- and its body is theirs
pub body_said : (p : ReplyParts) (text : List ℕ) → text ≡ reply_text_of p → body_of text (reply_said p text) ≡ p.body
body_said p text e =
    let rest : drop (length text - length p.body) text ≡ p.body = body_is p text e in
    let long : length (drop (length text - length p.body) text) ≡ length p.body = ap length rest in
    take_all (length text - (length text - length p.body)) (drop (length text - length p.body) text) (omega (arith, length-drop (length text - length p.body) text)) ∙ rest

-- ---- the statuses and the URLs

pub ok_len : length (status_line 200) ≤ 100
unfolding digits
ok_len = omega arith

pub found_len : length (status_line 302) ≤ 100
unfolding digits
found_len = omega arith

authority_visible : (b : ℕ) → is_visible b ≡ true → is_uri_byte b ≡ true
authority_visible b h = grind arith

base_visible : (base : BaseParts) → IsWrittenBase base → AllPass is_uri_byte base.text
base_visible base is =
    let authority : AllPass is_uri_byte base.authority =
    All-weaker (λ b. is_visible b ≡ true) (λ b. is_uri_byte b ≡ true) authority_visible base.authority (AllPass-from_list_all is_visible base.authority is.authority) in
    subst (AllPass is_uri_byte) (sym is.text_is) (both (codes "http://" ++ base.authority) base.path (both (codes "http://") base.authority (literal (codes "http://") refl) authority) (path_bytes base is))

gate_len : (base departs : List ℕ) → length base ≤ 4_096 → length departs ≡ 24 → length (base ++ codes "connections?departureTime=" ++ departs) ≤ 4_300
gate_len base departs h k = simp length-append (omega arith)

page_len : (base version departs : List ℕ) → length base ≤ 4_096 → length version ≡ 24 → length departs ≡ 24
    → length (base ++ codes "memento/connections?version=" ++ version ++ codes "&departureTime=" ++ departs) ≤ 4_300
page_len base version departs h k l = simp length-append (omega arith)

pub gate_url_fits : (base : BaseParts) (departs : ℕ) → IsBase base → departs < 253_402_128_000 → IsFieldUrl (gate_url_of base departs)
gate_url_fits base departs is bound =
    let so = written base is in
    record {
      visible = both (base.text ++ codes "connections?departureTime=") (iso_text_of departs) (both base.text (codes "connections?departureTime=") (base_visible base so) (literal (codes "connections?departureTime=") refl)) (iso_visible departs bound);
      short = gate_len base.text (iso_text_of departs) so.text_len refl;
    }

pub page_url_fits : (base : BaseParts) (name : PageName) → IsBase base → IsSoundName name → IsLocation (page_url_of base name)
page_url_fits base name is sound =
    let so = written base is in
    let version = iso_text_of name.version in
    let departs = iso_text_of name.departs in
    let first = codes "memento/connections?version=" in
    let second = codes "&departureTime=" in
    record {
      in_field = record {
        visible =
            both (base.text ++ first ++ version ++ second) departs
            (both (base.text ++ first ++ version) second
            (both (base.text ++ first) version (both base.text first (base_visible base so) (literal first refl)) (iso_visible name.version sound.version))
            (literal second refl))
            (iso_visible name.departs sound.departs);
        short = page_len base.text version departs so.text_len refl refl;
      };
      utf8 = page_url_is_utf8 base name is sound;
    }
