-- The text of a reply is read back with its status, location, memento and body.
use Rattle.std.proofs.Common.{◌≡◌, ℕ, ◌+◌, ◌-◌, ◌/◌, ◌^◌, ◌<◌, ◌≤◌, inl, inr, Bool, true, false, cond, List, [], ◌∷◌, ◌++◌, length, take, drop, codes, decimal, Option, Some, None, refl, sym, ap, ap₂, subst, ◌∙◌, arith, append_assoc, append-nil, length-append}
use Rattle.std.specs.Prelude.{IfSome, IsUtf8, nat_lt}
use Rattle.std.specs.List.{list_all, AllByRecursion}
use Rattle.std.specs.Char.{is_ascii_digit}
use Rattle.std.specs.Str.Parse.{digits_value}
use Rattle.std.proofs.lemmas.Bool.{cases_eq, ne_eqb, cond-true, le-ltb}
use Rattle.std.proofs.lemmas.List.{length-map}
use Rattle.std.proofs.lemmas.List.Sums.{AllPass-from_list_all}
use Rattle.std.proofs.lemmas.Fmt.{decimal_digit, decimal_step, decimal_is_IsNumeral}
use Rattle.std.proofs.lemmas.List.Elements.{All-append}
use Rattle.std.proofs.Math.Seq.{take-append-add, drop-append_seam}
use Rattle.httparse.specs.Spans.{name_and_value}
use Rattle.httparse.specs.Ascii.{crlf_bytes}
use Rattle.httparse.specs.Grammar.{crlf, print_version, IsToken, is_token_byte, AllPass, is_uri_byte, is_value_byte, ResponseHead, print_response, IsResponseHead}
use Rattle.httparse.proofs.GrammarLemmas.{print_response-append}
use Rattle.lc_time.specs.Http.{SaysHttpDate}
use Rattle.lc_time.proofs.HttpLemmas.{says_date}
use Rattle.http_text.specs.declared.length.Length.{Length}
use Rattle.http_text.specs.declared.length.Length.TheVariants.{Missing, Said}
use Rattle.http_text.specs.declared.reply_fault.ReplyFault.{ReplyFault}
use Rattle.http_text.specs.declared.reply_parts.Allow.{Allow}
use Rattle.http_text.specs.declared.reply_parts.Allow.TheVariants.{Reading, Posting}
use Rattle.http_text.specs.declared.reply_parts.BodyKind.{BodyKind}
use Rattle.http_text.specs.declared.reply_parts.BodyKind.TheVariants.{Page, Stops}
use Rattle.http_text.specs.declared.reply_parts.ReplyParts.{ReplyParts}
use Rattle.http_text.specs.Fields.{texts_of}
use Rattle.http_text.specs.Length.{length_of, length_in, length_at, is_wrong, said_or}
use Rattle.http_text.specs.Line.{moment_line}
use Rattle.http_text.specs.Reply.{first_of, IsTextOf, IsMomentOf, fault_of, SaysOf, HasReplyHead, behind, IsReply}
use Rattle.http_text.specs.ReplyText.{reason_of, HasReason, status_line, media_type, kind_line, length_line, location_lines, link_line, methods, allow_line, close_line, reply_text_of, IsReadable, reply_said}
use Rattle.http_text.specs.Request.{front_of, has_field}
use Rattle.http_text.proofs.AskLemmas.{date_of, token, connection_token, close_bytes, dates_bytes}
use Rattle.http_text.proofs.ByteLemmas.{trimmed, value_bytes, decimal_visible, decimal_digits, decimal_length}
use Rattle.http_text.proofs.DateLemmas.{date_trimmed}
use Rattle.http_text.proofs.EntryLemmas.{Entry, fields_from, line_at, lines_from, printed, IsEntry, valid, few, cons_value, values_from}

-- ---- statuses

-- a status in use has three digits, and a reason that can be in the line
record IsStatus (s : ℕ) : Type 0 where
  low : 100 ≤ s
  high : s < 1000
  reason : list_all is_value_byte (reason_of s) ≡ true

by_status : (s : ℕ) → HasReason s → IsStatus s
by_status s has =
    elim (cases_eq s 200) [
      | inl e ↦ subst IsStatus (sym e) (record { low = omega arith; high = omega arith; reason = refl })
      | inr n200 ↦
          elim (cases_eq s 204) [
            | inl e ↦ subst IsStatus (sym e) (record { low = omega arith; high = omega arith; reason = refl })
            | inr n204 ↦
                elim (cases_eq s 302) [
                  | inl e ↦ subst IsStatus (sym e) (record { low = omega arith; high = omega arith; reason = refl })
                  | inr n302 ↦
                      elim (cases_eq s 400) [
                        | inl e ↦ subst IsStatus (sym e) (record { low = omega arith; high = omega arith; reason = refl })
                        | inr n400 ↦
                            elim (cases_eq s 404) [
                              | inl e ↦ subst IsStatus (sym e) (record { low = omega arith; high = omega arith; reason = refl })
                              | inr n404 ↦
                                  elim (cases_eq s 405) [
                                    | inl e ↦ subst IsStatus (sym e) (record { low = omega arith; high = omega arith; reason = refl })
                                    | inr n405 ↦
                                        elim (cases_eq s 409) [
                                          | inl e ↦ subst IsStatus (sym e) (record { low = omega arith; high = omega arith; reason = refl })
                                          | inr n409 ↦
                                              elim (cases_eq s 411) [
                                                | inl e ↦ subst IsStatus (sym e) (record { low = omega arith; high = omega arith; reason = refl })
                                                | inr n411 ↦
                                                    elim (cases_eq s 413) [
                                                      | inl e ↦ subst IsStatus (sym e) (record { low = omega arith; high = omega arith; reason = refl })
                                                      | inr n413 ↦
                                                          elim (cases_eq s 431) [
                                                            | inl e ↦ subst IsStatus (sym e) (record { low = omega arith; high = omega arith; reason = refl })
                                                            | inr n431 ↦
                                                                elim (cases_eq s 507) [
                                                                  | inl e ↦ subst IsStatus (sym e) (record { low = omega arith; high = omega arith; reason = refl })
                                                                  | inr n507 ↦
                                                                      absurd (has (rw (ne_eqb s 200 n200, ne_eqb s 204 n204, ne_eqb s 302 n302, ne_eqb s 400 n400, ne_eqb s 404 n404, ne_eqb s 405 n405, ne_eqb s 409 n409, ne_eqb s 411 n411, ne_eqb s 413 n413, ne_eqb s 431 n431, ne_eqb s 507 n507) refl))
                                                                ]
                                                          ]
                                                    ]
                                              ]
                                        ]
                                  ]
                            ]
                      ]
                ]
          ]
    ]

three : (s : ℕ) → 100 ≤ s → s < 1000 → length (decimal s) ≡ 3
three s low high =
    let first : s / 10 / 10 < 10 = omega arith in
    let tens : 10 ≤ s / 10 = omega arith in
    rw (decimal_step s (omega arith) (omega arith), decimal_step (s / 10) tens (omega arith), decimal_digit (s / 10 / 10) first) refl

-- ---- the fields

abbrev kind_value : Option BodyKind → Option (List ℕ)
kind_value None = None
kind_value (Some kind) = Some (media_type kind)

abbrev length_value : Option ℕ → Option (List ℕ)
length_value None = None
length_value (Some n) = Some (decimal n)

abbrev vary_value : Option (List ℕ) → Option (List ℕ)
vary_value None = None
vary_value (Some url) = Some (codes "accept-datetime")

abbrev link_value : Option (List ℕ) → Option (List ℕ)
link_value None = None
link_value (Some url) = Some (codes "<" ++ url ++ codes ">; rel=\"original timegate\"")

abbrev allow_value : Option Allow → Option (List ℕ)
allow_value None = None
allow_value (Some allow) = Some (methods allow)

abbrev close_value : Bool → Option (List ℕ)
close_value false = None
close_value true = Some (codes "close")

abbrev entries : ReplyParts → List Entry
entries r =
    (codes "Content-Type", kind_value r.kind) ∷ ((codes "Content-Length", length_value r.length)
    ∷ ((codes "Location", r.location) ∷ ((codes "Vary", vary_value r.location)
    ∷ ((codes "Memento-Datetime", date_of r.memento) ∷ ((codes "Link", link_value r.original)
    ∷ ((codes "Allow", allow_value r.allow) ∷ ((codes "Connection", close_value r.close) ∷ [])))))))

abbrev head : ReplyParts → ResponseHead
head r = record {
  blank = [];
  minor = 1;
  digits = decimal r.status;
  reason = Some (reason_of r.status);
  line_end = crlf;
  fields = fields_from (entries r);
  last = crlf;
}

-- ---- the text

kind_is : (k : Option BodyKind) → kind_line k ≡ line_at (codes "Content-Type") (kind_value k)
kind_is None = refl
kind_is (Some Page) = refl
kind_is (Some Stops) = refl

length_line_is : (n : Option ℕ) → length_line n ≡ line_at (codes "Content-Length") (length_value n)
length_line_is None = refl
length_line_is (Some n) = refl

location_is : (o : Option (List ℕ)) → location_lines o ≡ line_at (codes "Location") o ++ line_at (codes "Vary") (vary_value o)
location_is None = refl
location_is (Some url) = refl

moment_is : (m : Option ℕ) → moment_line (codes "Memento-Datetime: ") m ≡ line_at (codes "Memento-Datetime") (date_of m)
moment_is None = refl
moment_is (Some m) = refl

link_is : (o : Option (List ℕ)) → link_line o ≡ line_at (codes "Link") (link_value o)
link_is None = refl
link_is (Some url) = refl

allow_is : (a : Option Allow) → allow_line a ≡ line_at (codes "Allow") (allow_value a)
allow_is None = refl
allow_is (Some Reading) = refl
allow_is (Some Posting) = refl

close_is : (c : Bool) → close_line c ≡ line_at (codes "Connection") (close_value c)
close_is false = refl
close_is true = refl

grouped : (s k l o v m n a c e b : List ℕ) → s ++ (k ++ l) ++ (o ++ v ++ m ++ n) ++ a ++ c ++ e ++ b ≡ s ++ (((k ++ (l ++ (o ++ (v ++ (m ++ (n ++ (a ++ (c ++ [])))))))) ++ e) ++ b)
grouped s k l o v m n a c e b = simp (append_assoc, append-nil)

lines_are : (r : ReplyParts) → reply_text_of r ≡ status_line r.status ++ ((lines_from (entries r) ++ crlf_bytes) ++ r.body)
lines_are r =
    rw (kind_is r.kind, length_line_is r.length, location_is r.location, moment_is r.memento, link_is r.original, allow_is r.allow, close_is r.close)
    (grouped (status_line r.status) _ _ (line_at (codes "Location") r.location) (line_at (codes "Vary") (vary_value r.location)) _ _ _ _ crlf_bytes r.body)

five : (d s r e x : List ℕ) → d ++ s ++ r ++ e ++ x ≡ d ++ ((s ++ r) ++ (e ++ x))
five d s r e x = simp append_assoc

status_is : (s : ℕ) (rest : List ℕ) → status_line s ++ rest ≡ print_version 1 ++ 32 ∷ (decimal s ++ (32 ∷ reason_of s ++ (crlf_bytes ++ rest)))
status_is s rest = ap (λ (x : List ℕ). codes "HTTP/1.1 " ++ x) (five (decimal s) (codes " ") (reason_of s) crlf_bytes rest)

text_is : (r : ReplyParts) → reply_text_of r ≡ print_response (head r) ++ r.body
text_is r =
    lines_are r
    ∙ status_is r.status ((lines_from (entries r) ++ crlf_bytes) ++ r.body)
    ∙ ap (λ (lines : List ℕ). print_version 1 ++ 32 ∷ (decimal r.status ++ (32 ∷ reason_of r.status ++ (crlf_bytes ++ ((lines ++ crlf_bytes) ++ r.body))))) (sym (printed (entries r)))
    ∙ sym (print_response-append (head r) r.body)

-- ---- it is a head of the grammar

tokens : (IsToken (codes "Content-Type")) × (IsToken (codes "Content-Length")) × (IsToken (codes "Location")) × (IsToken (codes "Vary")) × (IsToken (codes "Memento-Datetime")) × (IsToken (codes "Link")) × (IsToken (codes "Allow"))
unfolding is_token_byte
tokens = (
  token (codes "Content-Type") (omega arith) refl,
  token (codes "Content-Length") (omega arith) refl,
  token (codes "Location") (omega arith) refl,
  token (codes "Vary") (omega arith) refl,
  token (codes "Memento-Datetime") (omega arith) refl,
  token (codes "Link") (omega arith) refl,
  token (codes "Allow") (omega arith) refl,
)

value_list : (xs : List ℕ) → list_all is_value_byte xs ≡ true → AllPass is_value_byte xs
value_list xs all = AllPass-from_list_all is_value_byte xs all

kind_bytes : (k : Option BodyKind) → IfSome (kind_value k) (AllPass is_value_byte)
kind_bytes None = tt
kind_bytes (Some Page) = value_list (codes "application/ld+json") refl
kind_bytes (Some Stops) = value_list (codes "application/json") refl

length_bytes : (o : Option ℕ) (body : List ℕ) → IfSome o (λ n. n ≡ length body) → length body < 10_000_000_000 → IfSome (length_value o) (AllPass is_value_byte)
length_bytes None body is fits = tt
length_bytes (Some n) body is fits = value_bytes (decimal n) (decimal_visible n (omega arith))

location_bytes : (o : Option (List ℕ)) → IfSome o (λ url. AllPass is_uri_byte url × IsUtf8 url) → IfSome o (AllPass is_value_byte)
location_bytes None is = tt
location_bytes (Some url) is = value_bytes url is.0

vary_bytes : (o : Option (List ℕ)) → IfSome (vary_value o) (AllPass is_value_byte)
vary_bytes None = tt
vary_bytes (Some url) = value_list (codes "accept-datetime") refl

link_bytes : (o : Option (List ℕ)) → IfSome o (AllPass is_value_byte) → IfSome (link_value o) (AllPass is_value_byte)
link_bytes None is = tt
link_bytes (Some url) is =
    All-append (λ b. is_value_byte b ≡ true) (codes "<" ++ url) (codes ">; rel=\"original timegate\"")
    (All-append (λ b. is_value_byte b ≡ true) (codes "<") url (value_list (codes "<") refl) is) (value_list (codes ">; rel=\"original timegate\"") refl)

allow_bytes : (a : Option Allow) → IfSome (allow_value a) (AllPass is_value_byte)
allow_bytes None = tt
allow_bytes (Some Reading) = value_list (codes "GET, HEAD") refl
allow_bytes (Some Posting) = value_list (codes "POST") refl

closing_bytes : (c : Bool) → IfSome (close_value c) (AllPass is_value_byte)
closing_bytes false = tt
closing_bytes true = close_bytes

are_entries : (r : ReplyParts) (text : List ℕ) → IsReadable r text → IfSome r.memento (λ m. m < 253_402_128_000) → AllByRecursion IsEntry (entries r)
are_entries r text can bound = (
  record { name = tokens.0; value = kind_bytes r.kind },
  (
    record { name = tokens.1; value = length_bytes r.length r.body can.length_is can.body_fits },
    (
      record { name = tokens.2; value = location_bytes r.location can.location_bytes },
      (
        record { name = tokens.3; value = vary_bytes r.location },
        (
          record { name = tokens.4; value = dates_bytes r.memento bound },
          (
            record { name = tokens.5; value = link_bytes r.original can.original_bytes },
            (
              record { name = tokens.6; value = allow_bytes r.allow },
              (record { name = connection_token; value = closing_bytes r.close }, tt),
            ),
          ),
        ),
      ),
    ),
  ),
)

is_head : (r : ReplyParts) (text : List ℕ) → HasReason r.status → IsReadable r text → IfSome r.memento (λ m. m < 253_402_128_000) → IsResponseHead (head r)
is_head r text has can bound =
    let status = by_status r.status has in
    record {
      minor = omega arith;
      digits = (three r.status status.low status.high, AllPass-from_list_all is_ascii_digit (decimal r.status) (decimal_digits r.status (omega (arith, status.high))));
      reason = value_list (reason_of r.status) status.reason;
      fields = valid (entries r) (are_entries r text can bound);
    }

-- ---- what it says

-- the length that the head says
abbrev length_meant : Option ℕ → Length
length_meant None = Missing
length_meant (Some n) = Said n

meant : (o : Option ℕ) (body : List ℕ) → IfSome o (λ n. n ≡ length body) → length body < 10_000_000_000 → length_in (cons_value (length_value o) []) ≡ length_meant o
meant None body is fits = refl
meant (Some n) body is fits =
    let small : n < 10 ^ 10 = omega arith in
    let number = decimal_length n small in
    ap length_at (trimmed (decimal n) (decimal_visible n (omega arith)))
    ∙ cond-true _ _ _ number.0 ∙ ap Said number.1

length_is : (r : ReplyParts) (text : List ℕ) → IsReadable r text → length_of (texts_of (head r).fields) ≡ length_meant r.length
length_is r text can = ap length_in (values_from (codes "content-length") (entries r)) ∙ meant r.length r.body can.length_is can.body_fits

right : (o : Option ℕ) → is_wrong (length_meant o) ≡ false
right None = refl
right (Some n) = refl

-- the body is as long as the head says
whole : (o : Option ℕ) (body : List ℕ) → IfSome o (λ n. n ≡ length body) → said_or (length_meant o) (length body) ≡ length body
whole None body is = refl
whole (Some n) body is = is

chain : (many chunked wrong cut : Bool) (w x y z : ReplyFault) → many ≡ false → chunked ≡ false → wrong ≡ false → cut ≡ false → cond many (Some w) (cond chunked (Some x) (cond wrong (Some y) (cond cut (Some z) None))) ≡ None
chain many chunked wrong cut w x y z m c r k = rw (m, c, r, k) refl

-- how many bytes the head has
head_len : (r : ReplyParts) (text : List ℕ) → text ≡ reply_text_of r → length text ≡ length (print_response (head r)) + length r.body
head_len r text e = ap length (e ∙ text_is r) ∙ length-append (print_response (head r)) r.body

behind_is : (r : ReplyParts) (text : List ℕ) → text ≡ reply_text_of r → behind text (head r) ≡ length r.body
behind_is r text e = omega (arith, head_len r text e)

faultless : (r : ReplyParts) (text : List ℕ) → IsReadable r text → fault_of (texts_of (head r).fields) (length r.body) ≡ None
faultless r text can =
    let fields = texts_of (head r).fields in
    let count : length fields ≤ 100 = omega (arith, few (entries r), length-map (head r).fields name_and_value) in
    let chunked : has_field (codes "transfer-encoding") fields ≡ false = ap (λ (vs : List (List ℕ)). nat_lt 0 (length vs)) (values_from (codes "transfer-encoding") (entries r)) in
    let wrong : is_wrong (length_of fields) ≡ false = ap is_wrong (length_is r text can) ∙ right r.length in
    let said : said_or (length_of fields) (length r.body) ≡ length r.body = ap (λ (l : Length). said_or l (length r.body)) (length_is r text can) ∙ whole r.length r.body can.length_is in
    let cut : nat_lt (length r.body) (said_or (length_of fields) (length r.body)) ≡ false = ap (nat_lt (length r.body)) said ∙ le-ltb (length r.body) (length r.body) (omega arith) in
    chain (nat_lt 100 (length fields)) (has_field (codes "transfer-encoding") fields) (is_wrong (length_of fields)) (nat_lt (length r.body) (said_or (length_of fields) (length r.body))) _ _ _ _
    (le-ltb 100 (length fields) count) chunked wrong cut

located : (o : Option (List ℕ)) → IfSome o (λ url. AllPass is_uri_byte url × IsUtf8 url) → IsTextOf (first_of (cons_value o [])) o
located None is = refl
located (Some url) is = let bare = trimmed url is.0 in (subst IsUtf8 (sym bare) is.1, sym bare)

dated : (m : Option ℕ) → IfSome m (λ m. m < 253_402_128_000) → IsMomentOf (first_of (cons_value (date_of m) [])) m
dated None bound = refl
dated (Some m) bound = subst (λ (v : List ℕ). SaysHttpDate v m) (sym (date_trimmed m)) (says_date m bound)

says : (r : ReplyParts) (text : List ℕ) → text ≡ reply_text_of r → HasReason r.status → IsReadable r text → IfSome r.memento (λ m. m < 253_402_128_000) → SaysOf (digits_value 10 (decimal r.status)) (length (print_response (head r))) (length r.body) (texts_of (head r).fields) (reply_said r text)
says r text e has can bound =
    let status = by_status r.status has in
    let len = head_len r text e in
    let said : said_or (length_of (texts_of (head r).fields)) (length r.body) ≡ length r.body = ap (λ (l : Length). said_or l (length r.body)) (length_is r text can) ∙ whole r.length r.body can.length_is in
    record {
      status_is = sym (decimal_is_IsNumeral r.status (omega (arith, status.high))).1;
      location_is = subst (λ (vs : List (List ℕ)). IsTextOf (first_of vs) r.location) (sym (values_from (codes "location") (entries r))) (located r.location can.location_bytes);
      memento_is = subst (λ (vs : List (List ℕ)). IsMomentOf (first_of vs) r.memento) (sym (values_from (codes "memento-datetime") (entries r))) (dated r.memento bound);
      body_from_is = omega (arith, len);
      body_to_is = omega (arith, len, said);
    }

in_front : (r : ReplyParts) (text : List ℕ) → text ≡ reply_text_of r → HasReason r.status → IsReadable r text → IfSome r.memento (λ m. m < 253_402_128_000) → HasReplyHead text (head r)
unfolding front_of
in_front r text e has can bound =
    let len = head_len r text e in
    let fits = can.head_fits in
    let n = length (print_response (head r)) in
    let k : 16_384 ≡ n + (16_384 - n) = omega (arith, len, fits) in
    (take (16_384 - n) r.body, (is_head r text has can bound, ap₂ take k (e ∙ text_is r) ∙ take-append-add (print_response (head r)) r.body (16_384 - n)))

pub answers : (r : ReplyParts) (text : List ℕ) → text ≡ reply_text_of r → HasReason r.status → IfSome r.memento (λ m. m < 253_402_128_000) → IsReadable r text → IsReply text (reply_said r text)
answers r text e has bound can =
    let got = behind_is r text e in (
      head r,
      in_front r text e has can bound,
      ap (fault_of (texts_of (head r).fields)) got ∙ faultless r text can,
      subst (λ (n : ℕ). SaysOf (digits_value 10 (decimal r.status)) (length (print_response (head r))) n (texts_of (head r).fields) (reply_said r text)) (sym got) (says r text e has can bound),
    )

-- the body is after the head
pub body_is : (r : ReplyParts) (text : List ℕ) → text ≡ reply_text_of r → drop (length text - length r.body) text ≡ r.body
body_is r text e =
    let n : length text - length r.body ≡ length (print_response (head r)) = omega (arith, head_len r text e) in
    ap₂ drop n (e ∙ text_is r) ∙ drop-append_seam (print_response (head r)) r.body
