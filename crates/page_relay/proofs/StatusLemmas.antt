-- The status of a reply by its tenth byte: that of the status 200 is a 2, and that of no other reply of a side is.
use Rattle.std.proofs.Common.{◌≡◌, ◌∙◌, ◌+◌, ◌*◌, ◌≤◌, ◌<◌, ℕ, Bool, true, false, List, [], ◌∷◌, ◌++◌, length, get_or, ap, arith, refl, sym}
use Rattle.std.specs.Char.{digit_value, is_ascii_digit}
use Rattle.std.specs.Fmt.{digits}
use Rattle.std.specs.Str.Parse.{digits_value}
use Rattle.std.proofs.lemmas.List.{get_or-take}
use Rattle.std.proofs.lemmas.Str.{digit_value_digit}
use Rattle.httparse.specs.Grammar.{AllPass, LineEnd, crlf, lf, print_blank, print_end, print_reason, print_section, print_version}
use Rattle.httparse.proofs.GrammarLemmas.{print_response-append}
use Rattle.connection_uri.specs.Base.{BaseParts}
use Rattle.http_text.specs.Reply.{IsReply}
use Rattle.http_text.specs.ReplyText.{reply_text_of}
use Rattle.http_text.specs.Request.{front_of}
use Rattle.http_text.specs.declared.reply.Reply.{Reply}
use Rattle.http_text.specs.declared.reply_parts.Allow.{Allow}
use Rattle.http_text.specs.declared.reply_parts.ReplyParts.{ReplyParts}
use Rattle.lc_model.specs.declared.doc.StopsDoc.{StopsDoc}
use Rattle.lc_model.specs.declared.page.PageName.{PageName}
use Rattle.lc_world.specs.Sides.Reply.{bare_parts, found_parts, method_parts, parts_of, sent_parts}
use Rattle.lc_world.specs.Sides.Response.{IsDocument}
use Rattle.lc_world.specs.declared.sides.response.Response.{Response}
use Rattle.lc_world.specs.declared.sides.response.Response.TheVariants as responses

-- the first digit of a reply's status
abbrev pub digit : List ℕ → ℕ
digit text = get_or text 9 0

-- WHAT IS READ

in_range : (c : ℕ) → is_ascii_digit c ≡ true → (48 ≤ c) × (c ≤ 57)
in_range c is = (grind arith, grind arith)

weigh : (x y z a b c : ℕ) → x + 48 ≡ a → y + 48 ≡ b → z + 48 ≡ c → b ≤ 57 → c ≤ 57 → ((0 * 10 + x) * 10 + y) * 10 + z ≡ 200 → a ≡ 50
weigh x y z a b c is_a is_b is_c most_b most_c is = omega arith

-- three digits that give 200 begin with a 2
hundreds : (a b c : ℕ) → is_ascii_digit a ≡ true → is_ascii_digit b ≡ true → is_ascii_digit c ≡ true → digits_value 10 (a ∷ b ∷ c ∷ []) ≡ 200 → a ≡ 50
hundreds a b c is_a is_b is_c is =
    weigh (digit_value a) (digit_value b) (digit_value c) a b c
    (digit_value_digit a (in_range a is_a)) (digit_value_digit b (in_range b is_b)) (digit_value_digit c (in_range c is_c))
    (in_range b is_b).1 (in_range c is_c).1 is

begins : (minor : ℕ) (digits more : List ℕ) → length digits ≡ 3 → AllPass is_ascii_digit digits → digits_value 10 digits ≡ 200 → digit (print_version minor ++ 32 ∷ (digits ++ more)) ≡ 50
begins minor [] more three all is = absurd (omega arith)
begins minor (a ∷ []) more three all is = absurd (omega arith)
begins minor (a ∷ b ∷ []) more three all is = absurd (omega arith)
begins minor (a ∷ b ∷ c ∷ []) more three all is = hundreds a b c (all 0 0 (omega arith)) (all 1 0 (omega arith)) (all 2 0 (omega arith)) is
begins minor (a ∷ b ∷ c ∷ d ∷ rest) more three all is = absurd (omega arith)

-- with no empty line before it
by_blank : (blank : List LineEnd) (text : List ℕ) → digit text ≡ 50 → get_or (print_blank blank ++ text) 0 0 ≡ 72 → digit (print_blank blank ++ text) ≡ 50
by_blank [] text is first = is
by_blank (crlf ∷ blank) text is first = let clash : 13 ≡ 72 = first in absurd (omega (arith, clash))
by_blank (lf ∷ blank) text is first = let clash : 10 ≡ 72 = first in absurd (omega (arith, clash))

in_front : (bytes : List ℕ) (place : ℕ) → place < 16_384 → get_or (front_of bytes) place 0 ≡ get_or bytes place 0
unfolding front_of
in_front bytes place bound = get_or-take 16_384 bytes place 0 bound

-- a reply with the status 200 that begins with an H
pub tenth : (bytes : List ℕ) (reply : Reply) → IsReply bytes reply → reply.status ≡ 200 → get_or bytes 0 0 ≡ 72 → digit bytes ≡ 50
tenth bytes reply (h, has, none, says) ok first =
    let text = print_version h.minor ++ 32 ∷ (h.digits ++ (print_reason h.reason ++ (print_end h.line_end ++ (print_section h.fields h.last ++ has.0)))) in
    let whole : front_of bytes ≡ print_blank h.blank ++ text = has.1.1 ∙ print_response-append h has.0 in
    let begin : get_or (print_blank h.blank ++ text) 0 0 ≡ 72 = ap (λ (t : List ℕ). get_or t 0 0) (sym whole) ∙ in_front bytes 0 (omega arith) ∙ first in
    let two = begins h.minor h.digits (print_reason h.reason ++ (print_end h.line_end ++ (print_section h.fields h.last ++ has.0))) has.1.0.digits.0 has.1.0.digits.1 (sym says.status_is ∙ ok) in
    sym (in_front bytes 9 (omega arith)) ∙ ap digit whole ∙ by_blank h.blank text two begin

-- WHAT IS WRITTEN

-- each text of a reply begins with an H
pub written : (parts : ReplyParts) → get_or (reply_text_of parts) 0 0 ≡ 72
written parts = refl

pub bad : (head close : Bool) → digit (reply_text_of (sent_parts head (bare_parts close 400))) ≡ 52
unfolding digits
bad true close = refl
bad false close = refl

pub missing : (head close : Bool) → digit (reply_text_of (sent_parts head (bare_parts close 404))) ≡ 52
unfolding digits
missing true close = refl
missing false close = refl

pub other_method : (head close : Bool) (allow : Allow) → digit (reply_text_of (sent_parts head (method_parts close allow))) ≡ 52
unfolding digits
other_method true close allow = refl
other_method false close allow = refl

pub found : (head close : Bool) (base : BaseParts) (name : PageName) (departs : ℕ) → digit (reply_text_of (sent_parts head (found_parts base close name departs))) ≡ 51
unfolding digits
found true close base name departs = refl
found false close base name departs = refl

pub document : (head close : Bool) (base : BaseParts) (doc : StopsDoc) (response : Response) → IsDocument response → digit (reply_text_of (sent_parts head (parts_of base doc close response))) ≡ 50
unfolding digits
document head close base doc (responses.Status status) is = absurd is
document head close base doc (responses.OtherMethod allow) is = absurd is
document head close base doc (responses.Found page departs) is = absurd is
document true close base doc (responses.Page page) is = refl
document false close base doc (responses.Page page) is = refl
document true close base doc responses.Stops is = refl
document false close base doc responses.Stops is = refl
