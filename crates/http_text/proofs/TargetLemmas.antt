-- The targets under a base begin with a slash, are visible, and leave room for the other lines of a request.
use Rattle.std.proofs.Common.{◌≡◌, ℕ, zero, suc, ◌+◌, ◌-◌, ◌<◌, ◌≤◌, true, List, [], ◌∷◌, ◌++◌, length, codes, Option, Some, None, refl, sym, ap, subst, arith, append_assoc, length-append}
use Rattle.std.specs.Prelude.{slice_get, slice_index_or}
use Rattle.std.specs.List.{list_all}
use Rattle.std.proofs.lemmas.Bool.Decides.{nat_tests}
use Rattle.std.proofs.lemmas.List.Elements.{All-append, All-weaker}
use Rattle.std.proofs.lemmas.List.Sums.{AllPass-from_list_all}
use Rattle.httparse.specs.Ascii.{crlf_bytes}
use Rattle.httparse.specs.Grammar.{AllPass, is_uri_byte}
use Rattle.httpdate.specs.Text.{day_name, month_name}
use Rattle.lc_model.specs.declared.page.PageName.{PageName}
use Rattle.lc_time.specs.Http.{http_parts_of, http_date_of}
use Rattle.lc_time.specs.Iso.{iso_text_of}
use Rattle.connection_uri.specs.Base.{BaseParts, is_path_byte, IsWrittenBase}
use Rattle.connection_uri.specs.Page.{gate_target_of, page_target_of}
use Rattle.connection_uri.proofs.BaseLemmas.{written}
use Rattle.connection_uri.proofs.MomentLemmas.{IsMomentByte, moment_bytes}
use Rattle.http_text.specs.Line.{moment_line}
use Rattle.http_text.specs.RequestText.{request_text_of}
use Rattle.http_text.specs.Target.{is_origin_form}
use Rattle.http_text.specs.Targets.{CanAskFor, CanAskUnder, TargetsAreGood}

-- ---- how long a request is

day_len : (k : ℕ) → length (slice_index_or (codes "Mon" ∷ codes "Tue" ∷ codes "Wed" ∷ codes "Thu" ∷ codes "Fri" ∷ codes "Sat" ∷ codes "Sun" ∷ []) k []) ≤ 3
day_len zero = omega arith
day_len (suc zero) = omega arith
day_len (suc (suc zero)) = omega arith
day_len (suc (suc (suc zero))) = omega arith
day_len (suc (suc (suc (suc zero)))) = omega arith
day_len (suc (suc (suc (suc (suc zero))))) = omega arith
day_len (suc (suc (suc (suc (suc (suc zero)))))) = omega arith
day_len (suc (suc (suc (suc (suc (suc (suc k))))))) = omega arith

early_len : (k : ℕ) (rest : List (List ℕ)) → ((n : ℕ) → length (slice_index_or rest n []) ≤ 3) → length (slice_index_or (codes "Jan" ∷ codes "Feb" ∷ codes "Mar" ∷ codes "Apr" ∷ codes "May" ∷ codes "Jun" ∷ rest) k []) ≤ 3
early_len zero rest h = omega arith
early_len (suc zero) rest h = omega arith
early_len (suc (suc zero)) rest h = omega arith
early_len (suc (suc (suc zero))) rest h = omega arith
early_len (suc (suc (suc (suc zero)))) rest h = omega arith
early_len (suc (suc (suc (suc (suc zero))))) rest h = omega arith
early_len (suc (suc (suc (suc (suc (suc k)))))) rest h = h k

late_len : (k : ℕ) → length (slice_index_or (codes "Jul" ∷ codes "Aug" ∷ codes "Sep" ∷ codes "Oct" ∷ codes "Nov" ∷ codes "Dec" ∷ []) k []) ≤ 3
late_len zero = omega arith
late_len (suc zero) = omega arith
late_len (suc (suc zero)) = omega arith
late_len (suc (suc (suc zero))) = omega arith
late_len (suc (suc (suc (suc zero)))) = omega arith
late_len (suc (suc (suc (suc (suc zero))))) = omega arith
late_len (suc (suc (suc (suc (suc (suc k)))))) = omega arith

pub date_len : (m : ℕ) → length (http_date_of m) ≤ 29
date_len m =
    let p = http_parts_of m in
    let day : length (day_name p.wday) ≤ 3 = day_len (p.wday - 1) in
    let month : length (month_name p.mon) ≤ 3 = early_len (p.mon - 1) (codes "Jul" ∷ codes "Aug" ∷ codes "Sep" ∷ codes "Oct" ∷ codes "Nov" ∷ codes "Dec" ∷ []) late_len in
    simp length-append (omega (arith, day, month))

line_len : (date : List ℕ) → length date ≤ 29 → length ((codes "Accept-Datetime: " ++ date) ++ crlf_bytes) ≤ 48
line_len date short = simp length-append (omega arith)

known_len : (known : Option ℕ) → length (moment_line (codes "Accept-Datetime: ") known) ≤ 48
known_len None = omega arith
known_len (Some m) = line_len (http_date_of m) (date_len m)

request_len : (authority target : List ℕ) (known : Option ℕ) → length (request_text_of authority target known) ≤ length authority + length target + 92
request_len authority target known = let line = known_len known in simp length-append (omega (arith, line))

-- ---- its bytes

path_visible : (b : ℕ) → is_path_byte b ≡ true → is_uri_byte b ≡ true
path_visible b h = grind arith

pub moment_visible : (b : ℕ) → IsMomentByte b → is_uri_byte b ≡ true
moment_visible b h = grind (arith, nat_tests)

pub path_bytes : (base : BaseParts) → IsWrittenBase base → AllPass is_uri_byte base.path
path_bytes base is =
    All-weaker (λ b. is_path_byte b ≡ true) (λ b. is_uri_byte b ≡ true) path_visible base.path (AllPass-from_list_all is_path_byte base.path is.path.plain)

pub iso_visible : (m : ℕ) → m < 253_402_128_000 → AllPass is_uri_byte (iso_text_of m)
iso_visible m bound = All-weaker IsMomentByte (λ b. is_uri_byte b ≡ true) moment_visible (iso_text_of m) (moment_bytes m bound)

origin : (path tail : List ℕ) → slice_get path 0 ≡ Some 47 → is_origin_form (path ++ tail) ≡ true
origin [] tail first = absurd (cc)
origin (b ∷ path) tail first = let slash : b ≡ 47 = cc in rw slash refl

-- ---- each target

can_ask : (base : BaseParts) → IsWrittenBase base → CanAskUnder base
can_ask base is tail visible short = λ known.
    let len = request_len base.authority (base.path ++ tail) known in
    let text = simp length-append at (ap length is.text_is) in
    let both = length-append base.path tail in
    record {
      origin = origin base.path tail is.begins;
      visible = All-append (λ b. is_uri_byte b ≡ true) base.path tail (path_bytes base is) visible;
      head_fits = omega (arith, len, text, both, is.text_len);
    }

pub both : (xs ys : List ℕ) → AllPass is_uri_byte xs → AllPass is_uri_byte ys → AllPass is_uri_byte (xs ++ ys)
both xs ys h k = All-append (λ b. is_uri_byte b ≡ true) xs ys h k

pub literal : (xs : List ℕ) → list_all is_uri_byte xs ≡ true → AllPass is_uri_byte xs
literal xs e = AllPass-from_list_all is_uri_byte xs e

can_gate : (base : BaseParts) → IsWrittenBase base → (departs : ℕ) → departs < 253_402_128_000 → CanAskFor base (gate_target_of base departs)
can_gate base is departs bound =
    let tail = codes "connections?departureTime=" ++ iso_text_of departs in
    subst (CanAskFor base) (sym (append_assoc base.path (codes "connections?departureTime=") (iso_text_of departs)))
    (can_ask base is tail (both (codes "connections?departureTime=") (iso_text_of departs) (literal (codes "connections?departureTime=") refl) (iso_visible departs bound)) (omega arith))

can_page : (base : BaseParts) → IsWrittenBase base → (name : PageName) → name.version < 253_402_128_000 → name.departs < 253_402_128_000 → CanAskFor base (page_target_of base name)
can_page base is name first second =
    let version = iso_text_of name.version in
    let departs = iso_text_of name.departs in
    let tail = codes "memento/connections?version=" ++ (version ++ (codes "&departureTime=" ++ departs)) in
    let whole : page_target_of base name ≡ base.path ++ tail = simp append_assoc in
    subst (CanAskFor base) (sym whole)
    (can_ask base is tail
    (both (codes "memento/connections?version=") (version ++ (codes "&departureTime=" ++ departs)) (literal (codes "memento/connections?version=") refl)
    (both version (codes "&departureTime=" ++ departs) (iso_visible name.version first)
    (both (codes "&departureTime=") departs (literal (codes "&departureTime=") refl) (iso_visible name.departs second))))
    (omega arith))

pub targets_are_good : TargetsAreGood
targets_are_good base is =
    let so = written base is in (
      can_ask base so,
      record {
        gate = can_gate base so;
        stops = can_ask base so (codes "stops") (literal (codes "stops") refl) (omega arith);
        page = can_page base so;
      },
    )
