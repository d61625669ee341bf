-- The text of a GET request is one whole request, which says its target.
use Rattle.std.proofs.Common.{◌≡◌, ℕ, ◌<◌, true, List, [], ◌∷◌, ◌++◌, length, map, codes, Option, Some, None, refl, sym, ap, subst, ◌∙◌, arith, append_assoc, append-nil}
use Rattle.std.specs.Prelude.{IfSome, IsUtf8}
use Rattle.std.specs.List.{list_all, AllByRecursion}
use Rattle.std.proofs.lemmas.List.Sums.{AllPass-from_list_all}
use Rattle.httparse.specs.Ascii.{crlf_bytes}
use Rattle.httparse.specs.Grammar.{crlf, print_version, IsToken, is_token_byte, AllPass, is_value_byte, trim_ows, RequestHead, print_request, IsRequestHead}
use Rattle.httparse.proofs.GrammarLemmas.{print_request-append}
use Rattle.lc_time.specs.Http.{http_date_of, SaysHttpDate}
use Rattle.lc_time.proofs.HttpLemmas.{says_date}
use Rattle.http_text.specs.declared.request.Request.{Request}
use Rattle.http_text.specs.Fields.{texts_of, values_of, closes}
use Rattle.http_text.specs.Line.{moment_line}
use Rattle.http_text.specs.Elements.{elements}
use Rattle.http_text.specs.Reply.{first_of, IsMomentOf}
use Rattle.http_text.specs.Request.{field_said, refusal_of_head, body_len, request_of, IsWholeRequest}
use Rattle.http_text.specs.RequestText.{request_text_of, CanAsk, field_text, dates_of, known_values, SaysGet}
use Rattle.http_text.specs.Target.{is_origin_form}
use Rattle.http_text.proofs.DateLemmas.{date_bytes, date_trimmed}
use Rattle.http_text.proofs.EntryLemmas.{Entry, fields_from, line_at, lines_from, printed, IsEntry, valid}

abbrev pub date_of : Option ℕ → Option (List ℕ)
date_of None = None
date_of (Some m) = Some (http_date_of m)

-- the fields of the request
abbrev entries : List ℕ → Option ℕ → List Entry
entries authority known =
    (codes "Host", Some authority) ∷ ((codes "Accept-Datetime", date_of known) ∷ ((codes "Connection", Some (codes "close")) ∷ []))

abbrev head : List ℕ → List ℕ → Option ℕ → RequestHead
head authority target known = record {
  blank = [];
  method = codes "GET";
  target = target;
  minor = 1;
  line_end = crlf;
  fields = fields_from (entries authority known);
  last = crlf;
}

-- ---- its text

moment_is : (k : Option ℕ) → moment_line (codes "Accept-Datetime: ") k ≡ line_at (codes "Accept-Datetime") (date_of k)
moment_is None = refl
moment_is (Some m) = refl

first_line : (target rest : List ℕ) → (codes "GET " ++ target ++ codes " HTTP/1.1" ++ crlf_bytes) ++ rest ≡ codes "GET" ++ 32 ∷ (target ++ 32 ∷ (print_version 1 ++ (crlf_bytes ++ rest)))
first_line target rest =
    ap (λ (x : List ℕ). codes "GET " ++ x) (append_assoc (target ++ codes " HTTP/1.1") crlf_bytes rest ∙ append_assoc target (codes " HTTP/1.1") (crlf_bytes ++ rest))

others : (first host moment close end : List ℕ) → first ++ host ++ moment ++ close ++ end ≡ first ++ (((host ++ (moment ++ (close ++ []))) ++ end) ++ [])
others first host moment close end = simp (append_assoc, append-nil)

regroup : (authority target : List ℕ) (k : Option ℕ) → request_text_of authority target k ≡ codes "GET" ++ 32 ∷ (target ++ 32 ∷ (print_version 1 ++ (crlf_bytes ++ ((lines_from (entries authority k) ++ crlf_bytes) ++ []))))
regroup authority target k =
    others (codes "GET " ++ target ++ codes " HTTP/1.1" ++ crlf_bytes) (codes "Host: " ++ authority ++ crlf_bytes) (moment_line (codes "Accept-Datetime: ") k) (codes "Connection: close" ++ crlf_bytes) crlf_bytes
    ∙ ap (λ (m : List ℕ). (codes "GET " ++ target ++ codes " HTTP/1.1" ++ crlf_bytes) ++ ((((codes "Host: " ++ authority ++ crlf_bytes) ++ (m ++ ((codes "Connection: close" ++ crlf_bytes) ++ []))) ++ crlf_bytes) ++ [])) (moment_is k)
    ∙ first_line target ((lines_from (entries authority k) ++ crlf_bytes) ++ [])

text_is : (authority target : List ℕ) (k : Option ℕ) → request_text_of authority target k ≡ print_request (head authority target k) ++ []
text_is authority target k =
    regroup authority target k
    ∙ ap (λ (lines : List ℕ). codes "GET" ++ 32 ∷ (target ++ 32 ∷ (print_version 1 ++ (crlf_bytes ++ ((lines ++ crlf_bytes) ++ []))))) (sym (printed (entries authority k)))
    ∙ sym (print_request-append (head authority target k) [])

-- ---- it is a head of the grammar

pub token : (name : List ℕ) → 0 < length name → list_all is_token_byte name ≡ true → IsToken name
token name some all = (some, AllPass-from_list_all is_token_byte name all)

host_token : IsToken (codes "Host")
unfolding is_token_byte
host_token = token (codes "Host") (omega arith) refl

known_token : IsToken (codes "Accept-Datetime")
unfolding is_token_byte
known_token = token (codes "Accept-Datetime") (omega arith) refl

pub connection_token : IsToken (codes "Connection")
unfolding is_token_byte
connection_token = token (codes "Connection") (omega arith) refl

get_token : IsToken (codes "GET")
unfolding is_token_byte
get_token = token (codes "GET") (omega arith) refl

pub close_bytes : AllPass is_value_byte (codes "close")
close_bytes = AllPass-from_list_all is_value_byte (codes "close") refl

pub dates_bytes : (k : Option ℕ) → IfSome k (λ m. m < 253_402_128_000) → IfSome (date_of k) (AllPass is_value_byte)
dates_bytes None bound = tt
dates_bytes (Some m) bound = date_bytes m bound

are_entries : (authority : List ℕ) (k : Option ℕ) → AllPass is_value_byte authority → IfSome k (λ m. m < 253_402_128_000) → AllByRecursion IsEntry (entries authority k)
are_entries authority k bytes bound =
    (record { name = host_token; value = bytes }, (record { name = known_token; value = dates_bytes k bound }, (record { name = connection_token; value = close_bytes }, tt)))

nonempty : (target : List ℕ) → is_origin_form target ≡ true → 0 < length target
nonempty [] e = absurd (cc)
nonempty (b ∷ target) e = omega arith

is_head : (authority target text : List ℕ) (k : Option ℕ) → AllPass is_value_byte authority → CanAsk target text → IsUtf8 target → IfSome k (λ m. m < 253_402_128_000) → IsRequestHead (head authority target k)
is_head authority target text k bytes can utf8 bound = record {
  method = get_token;
  target = (nonempty target can.origin, can.visible);
  target_text = utf8;
  minor = omega arith;
  fields = valid (entries authority k) (are_entries authority k bytes bound);
}

-- ---- it is not refused, and has no body

accepted : (authority target : List ℕ) (k : Option ℕ) → is_origin_form target ≡ true → refusal_of_head (head authority target k) ≡ None
accepted authority target None e = rw e refl
accepted authority target (Some m) e = rw e refl

bodiless : (authority target : List ℕ) (k : Option ℕ) → 0 ≡ body_len (head authority target k)
bodiless authority target None = refl
bodiless authority target (Some m) = refl

-- ---- what it says

ends : (authority target : List ℕ) (k : Option ℕ) → closes 1 (texts_of (fields_from (entries authority k))) ≡ true
unfolding trim_ows elements
ends authority target None = refl
ends authority target (Some m) = refl

dated : (authority target : List ℕ) (k : Option ℕ) → known_values (request_of (head authority target k)) ≡ dates_of k
dated authority target None = refl
dated authority target (Some m) = ap (λ (v : List ℕ). v ∷ []) (date_trimmed m)

knows : (authority target : List ℕ) (k : Option ℕ) → IfSome k (λ m. m < 253_402_128_000) → IsMomentOf (first_of (values_of (codes "accept-datetime") (map field_text (map field_said (texts_of (fields_from (entries authority k))))))) k
knows authority target None bound = refl
knows authority target (Some m) bound = subst (λ (v : List ℕ). SaysHttpDate v m) (sym (date_trimmed m)) (says_date m bound)

pub asks : (authority target text : List ℕ) (k : Option ℕ) → text ≡ request_text_of authority target k → AllPass is_value_byte authority → CanAsk target text → IsUtf8 target → IfSome k (λ m. m < 253_402_128_000) → (request : Request) × IsWholeRequest text request × SaysGet target k text request
asks authority target text k e bytes can utf8 bound =
    let h = head authority target k in
    let reads : text ≡ print_request h ++ [] = e ∙ text_is authority target k in
    let len : length text ≡ length (print_request h) = ap length (reads ∙ append-nil (print_request h)) in (
      request_of h,
      (
        h,
        [],
        record {
          reads = (is_head authority target text k bytes can utf8 bound, reads);
          head_fits = omega (arith, len, can.head_fits);
          accepted = accepted authority target k can.origin;
          body_is = bodiless authority target k;
        },
        refl,
      ),
      record {
        method_is = refl;
        path_is = refl;
        query_is = refl;
        known_is = dated authority target k;
        known_read = knows authority target k bound;
        body_from_is = sym len;
        close_is = ends authority target k;
      },
    )
