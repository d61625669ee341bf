-- The parts of a name are cut at its slashes, and each says what it was written from.
use Rattle.std.proofs.Common.{◌≡◌, ◌≢◌, ℕ, zero, suc, ◌+◌, ◌/◌, ◌<◌, inl, inr, true, false, List, [], ◌∷◌, ◌++◌, length, take, drop, get_or, codes, decimal, Option, Some, None, All, refl, sym, ap, ap₂, subst, ◌∙◌, arith, append_assoc, ◌-◌, add-one, length-drop}
use Rattle.std.proofs.lemmas.List.{take_all}
use Rattle.std.proofs.Props.{props}
use Rattle.std.specs.Option.{ForSome, MatchOption, IsSomeAnd, IfSome}
use Rattle.std.specs.Borrow.{Bor}
use Rattle.std.proofs.lemmas.Bool.{cases_order, true≢false}
use Rattle.std.proofs.lemmas.List.Elements.{All-head, All-tail}
use Rattle.std.proofs.lemmas.Fmt.{decimal_injective}
use Rattle.lc_model.specs.Text.{IsIdText}
use Rattle.lc_model.specs.declared.date.ServiceDate.{ServiceDate}
use Rattle.lc_model.specs.declared.key.RunKey.{RunKey}
use Rattle.lc_time.specs.Clock.{start_text_of}
use Rattle.lc_time.specs.Date.{date_text_of}
use Rattle.lc_time.proofs.OneTextLemmas.{one_date, one_start}
use Rattle.percent_encoding.specs.AsciiSet.{should_percent_encode}
use Rattle.percent_encoding.specs.Percent.{percent_decode}
use Rattle.percent_encoding.proofs.PercentLemmas.{All-percent_encode, IsEscapeByte}
use Rattle.connection_uri.specs.declared.encoding.TheConstants.{RESERVED}
use Rattle.connection_uri.specs.Base.{BaseParts}
use Rattle.connection_uri.specs.Encoding.{encoded}
use Rattle.connection_uri.specs.declared.parts.NameParts.{NameParts}
use Rattle.connection_uri.specs.Parts.{joined, ArePartsOf}
use Rattle.connection_uri.specs.Name.{HasNoSlash, start_part_of, name_of, NamesDiffer}
use Rattle.connection_uri.proofs.ByteLemmas.{IsByte, text_bytes}
use Rattle.connection_uri.proofs.EncodingLemmas.{percent_encode_is, decoded}

-- ---- cutting at a slash

no_slash_append : (x y : List ℕ) → HasNoSlash x → HasNoSlash y → HasNoSlash (x ++ y)
no_slash_append [] y h k = k
no_slash_append (b ∷ x) y h k = (h.0, no_slash_append x y h.1 k)

no_slash_from_all : (x : List ℕ) → All (λ b. b ≢ 47) x → HasNoSlash x
no_slash_from_all [] h = tt
no_slash_from_all (b ∷ x) h = (All-head (λ b. b ≢ 47) b x h, no_slash_from_all x (All-tail (λ b. b ≢ 47) b x h))

-- a text is cut in one way
pub cut : (x x' y y' : List ℕ) → HasNoSlash x → HasNoSlash x' → x ++ 47 ∷ y ≡ x' ++ 47 ∷ y' → (x ≡ x') × (y ≡ y')
cut [] [] y y' h h' e = (refl, cc)
cut [] (b ∷ x') y y' h h' e = absurd (h'.0 (cc))
cut (b ∷ x) [] y y' h h' e = absurd (h.0 (cc))
cut (b ∷ x) (b' ∷ x') y y' h h' e =
    let head : b ≡ b' = cc in
    let tail : x ++ 47 ∷ y ≡ x' ++ 47 ∷ y' = cc in
    let rest = cut x x' y y' h.1 h'.1 tail in
    (ap₂ (λ (c : ℕ) (t : List ℕ). c ∷ t) head rest.0, rest.1)

-- no slash is in the front
in_front : (front rest : List ℕ) (k : ℕ) → HasNoSlash front → k < length front → get_or (front ++ rest) k 0 ≢ 47
in_front [] rest k h lt = absurd (omega arith)
in_front (b ∷ front) rest zero h lt = h.0
in_front (b ∷ front) rest (suc k) h lt = in_front front rest k h.1 (omega arith)

at_seam : (front rest : List ℕ) → get_or (front ++ 47 ∷ rest) (length front) 0 ≡ 47
at_seam [] rest = refl
at_seam (b ∷ front) rest = at_seam front rest

taken : (front rest : List ℕ) → take (length front) (front ++ rest) ≡ front
taken [] rest = refl
taken (b ∷ front) rest = ap (λ (t : List ℕ). b ∷ t) (taken front rest)

cancel : (p x y : List ℕ) → p ++ x ≡ p ++ y → x ≡ y
cancel [] x y e = e
cancel (b ∷ p) x y e = let tail : p ++ x ≡ p ++ y = cc in cancel p x y tail

left : (front rest : List ℕ) → drop (length front) (front ++ rest) ≡ rest
left [] rest = refl
left (b ∷ front) rest = left front rest

dropped : (front rest : List ℕ) → drop (suc (length front)) (front ++ 47 ∷ rest) ≡ rest
dropped [] rest = refl
dropped (b ∷ front) rest = dropped front rest

-- the first slash is the one after the front
pub first_slash : (text front rest : List ℕ) (at : ℕ) → HasNoSlash front → text ≡ front ++ 47 ∷ rest → get_or text at 0 ≡ 47 → ((k : ℕ) → k < at → get_or text k 0 ≢ 47) → at ≡ length front
first_slash text front rest at h e here before =
    elim (cases_order at (length front)) [
      | inl same ↦ same
      | inr (inl lt) ↦ absurd (in_front front (47 ∷ rest) at h lt (ap (λ (t : List ℕ). get_or t at 0) (sym e) ∙ here))
      | inr (inr gt) ↦ absurd (before (length front) gt (ap (λ (t : List ℕ). get_or t (length front) 0) e ∙ at_seam front rest))
    ]

seam_inside : (front rest : List ℕ) → length front < length (front ++ 47 ∷ rest)
seam_inside [] rest = omega arith
seam_inside (b ∷ front) rest = let inside = seam_inside front rest in omega arith

-- a text that is cut has a slash
pub some_slash : (text front rest : List ℕ) → text ≡ front ++ 47 ∷ rest → ((k : ℕ) → k < length text → get_or text k 0 ≢ 47) → ⊥
some_slash text front rest e none =
    let inside : length front < length text = subst (λ (t : List ℕ). length front < length t) (sym e) (seam_inside front rest) in
    none (length front) inside (ap (λ (t : List ℕ). get_or t (length front) 0) e ∙ at_seam front rest)

-- what a cut at the first slash gives
pub cut_at : (text front rest : List ℕ) (at : ℕ) → HasNoSlash front → text ≡ front ++ 47 ∷ rest → get_or text at 0 ≡ 47 → ((k : ℕ) → k < at → get_or text k 0 ≢ 47) → (take at text ≡ front) × (drop (suc at) text ≡ rest)
cut_at text front rest at h e here before =
    let place = first_slash text front rest at h e here before in
    (ap₂ take place e ∙ taken front (47 ∷ rest), ap₂ (λ (n : ℕ) (t : List ℕ). drop (suc n) t) place e ∙ dropped front rest)

pub cut_here : (text front rest : List ℕ) (at : ℕ) → HasNoSlash front → text ≡ front ++ 47 ∷ rest → get_or text at 0 ≡ 47 → ((k : ℕ) → k < at → get_or text k 0 ≢ 47) → (take at text ≡ front) × (take (length text - (at + 1)) (drop (at + 1) text) ≡ rest)
cut_here text front rest at h e here before =
    let parts = cut_at text front rest at h e here before in
    (parts.0, rw add-one (take_all _ _ (omega (arith, length-drop {A = ℕ})) ∙ parts.1))

pub front_said : (r : Option (Bor (List ℕ))) (text front : List ℕ) → MatchOption r ((rest : List ℕ) → text ≢ front ++ rest) (λ x. text ≡ front ++ x.now) → IfSome r (λ x. text ≡ front ++ x.now)
front_said None text front is = tt
front_said (Some x) text front is = is

-- what begins with 24 bytes is parted after them
pub parted : (text front rest : List ℕ) → length front ≡ 24 → text ≡ front ++ rest → (take 24 text ≡ front) × (drop 24 text ≡ rest)
parted text front rest len e =
    (ap₂ take (sym len) e ∙ taken front rest, ap₂ drop (sym len) e ∙ left front rest)

-- where the front is stripped, the rest is left
pub stripped : (r : Option (Bor (List ℕ))) (text front rest : List ℕ) → MatchOption r ((rest : List ℕ) → text ≢ front ++ rest) (λ x. text ≡ front ++ x.now) → text ≡ front ++ rest → IsSomeAnd r (λ x. x.now ≡ rest)
stripped None text front rest is e = absurd (is rest e)
stripped (Some x) text front rest is e = cancel front x.now rest (sym is ∙ e)

-- what a text says that is not the mark of no start
pub start_of_text : (text : List ℕ) (r : Option ℕ) → text ≢ codes "-" → ((s : ℕ) → s < 360_000 → text ≡ start_text_of s → r ≡ Some s) → (start : Option ℕ) → ForSome start (λ s. s < 360_000) → text ≡ start_part_of start → (s : ℕ) × (start ≡ Some s) × (r ≡ Some s)
start_of_text text r marked exact None h e = absurd (marked e)
start_of_text text r marked exact (Some s) h e = (s, refl, exact s (h s refl) e)

-- ---- the parts of a name have no slash

slash_reserved : should_percent_encode RESERVED 47 ≡ true
unfolding should_percent_encode
slash_reserved = refl

kept_no_slash : (b : ℕ) → should_percent_encode RESERVED b ≡ false → b ≢ 47
kept_no_slash b e is = true≢false (sym slash_reserved ∙ ap (should_percent_encode RESERVED) (sym is) ∙ e)

escape_no_slash : (b : ℕ) → IsEscapeByte b → b ≢ 47
escape_no_slash b h e = grind arith

pub encoded_no_slash : (bytes : List ℕ) → All IsByte bytes → HasNoSlash (encoded bytes)
encoded_no_slash bytes small =
    subst HasNoSlash (percent_encode_is bytes small)
    (no_slash_from_all _ (All-percent_encode (λ b. b ≢ 47) RESERVED bytes kept_no_slash escape_no_slash))

pub date_no_slash : (year month day : ℕ) → HasNoSlash (date_text_of year month day)
date_no_slash year month day =
    (λ e. omega arith, (λ e. omega arith, (λ e. omega arith, (λ e. omega arith, (λ e. omega arith, (λ e. omega arith, (λ e. omega arith, (λ e. omega arith, tt))))))))

pub start_no_slash : (start : Option ℕ) → HasNoSlash (start_part_of start)
start_no_slash None = (λ e. omega arith, tt)
start_no_slash (Some s) =
    (λ e. omega arith, (λ e. omega arith, (λ e. omega arith, (λ e. omega arith, (λ e. omega arith, (λ e. omega arith, tt))))))

-- ---- each part says one value

same_start : (a b : Option ℕ) → ForSome a (λ s. s < 360_000) → ForSome b (λ s. s < 360_000) → start_part_of a ≡ start_part_of b → a ≡ b
same_start None None h k e = refl
same_start None (Some s) h k e = let first : 45 ≡ 48 + s / 3600 / 10 = ap (λ (t : List ℕ). get_or t 0 0) e in absurd (omega arith)
same_start (Some s) None h k e = let first : 48 + s / 3600 / 10 ≡ 45 = ap (λ (t : List ℕ). get_or t 0 0) e in absurd (omega arith)
same_start (Some a) (Some b) h k e = ap Some (one_start a b (h a refl) (k b refl) e)

-- ---- runs

abbrev key : (trip : List ℕ) (date : ServiceDate) (start : Option ℕ) → ForSome start (λ seconds. seconds < 360_000) → RunKey
key trip date start in_range = record { trip = trip; date = date; start = start; start_in_range = in_range }

in_range_prop : (start : Option ℕ) → IsProp (ForSome start (λ seconds. seconds < 360_000))
in_range_prop start = hlevel props

same_key_start : (t : List ℕ) (d : ServiceDate) (s s' : Option ℕ) (h : ForSome s (λ seconds. seconds < 360_000)) (h' : ForSome s' (λ seconds. seconds < 360_000)) → s ≡ s' → key t d s h ≡ key t d s' h'
same_key_start t d s s' h h' e =
    subst (λ (v : Option ℕ). (q : ForSome v (λ seconds. seconds < 360_000)) → key t d s h ≡ key t d v q) e (λ q. ap (key t d s) (in_range_prop s h q)) h'

-- runs with the same parts are the same
pub same_key : (a b : RunKey) → a.trip ≡ b.trip → a.date ≡ b.date → a.start ≡ b.start → a ≡ b
same_key a b e f g =
    ap₂ (λ (t : List ℕ) (d : ServiceDate). key t d a.start a.start_in_range) e f ∙ same_key_start b.trip b.date a.start b.start a.start_in_range b.start_in_range g

-- a run and a number
abbrev pub pair : RunKey → ℕ → Option (RunKey × ℕ)
pair k n = Some (k, n)

pub same_pair : (a b : RunKey) (m n : ℕ) → a ≡ b → m ≡ n → pair a m ≡ pair b n
same_pair a b m n e f = ap₂ pair e f

-- ---- different runs and sequences have different names

-- the parts of a name after the base, grouped from the right
abbrev pub parts_of : RunKey → ℕ → List ℕ
parts_of k n =
    encoded k.trip ++ 47 ∷ (date_text_of k.date.year k.date.month k.date.day ++ 47 ∷ (start_part_of k.start ++ 47 ∷ decimal n))

pub name_is : (base : BaseParts) (k : RunKey) (n : ℕ) → name_of base k n ≡ base.text ++ (codes "connections/" ++ parts_of k n)
name_is base k n = simp append_assoc

-- the parts of a name, with a slash between each two
pub joined_is : (k : RunKey) (n : ℕ) (p : NameParts) → ArePartsOf k n p → joined p ≡ parts_of k n
joined_is k n p is = rw (is.trip_is, is.date_is, is.start_is, is.sequence_is) refl

-- what has the parts of a name is made of them
pub made_of : (k : RunKey) (n : ℕ) (r : Option NameParts) → IsSomeAnd r (λ p. (p.trip.now ≡ encoded k.trip) × (p.date.now ≡ date_text_of k.date.year k.date.month k.date.day) × (p.start.now ≡ start_part_of k.start) × (p.sequence.now ≡ decimal n)) → IsSomeAnd r (ArePartsOf k n)
made_of k n None h = h
made_of k n (Some p) h = record { trip_is = h.0; date_is = h.1; start_is = h.2; sequence_is = h.3 }

same_trip : (a b : List ℕ) → IsIdText a → IsIdText b → encoded a ≡ encoded b → a ≡ b
same_trip a b ia ib e = sym (decoded a (text_bytes a ia.1)) ∙ ap percent_decode e ∙ decoded b (text_bytes b ib.1)

pub names_differ : NamesDiffer
names_differ base a b m n ia ib small small' e =
    let whole = sym (name_is base a m) ∙ e ∙ name_is base b n in
    let parts = cancel (codes "connections/") _ _ (cancel base.text _ _ whole) in
    let trip = cut _ _ _ _ (encoded_no_slash a.trip (text_bytes a.trip ia.1)) (encoded_no_slash b.trip (text_bytes b.trip ib.1)) parts in
    let date = cut _ _ _ _ (date_no_slash a.date.year a.date.month a.date.day) (date_no_slash b.date.year b.date.month b.date.day) trip.1 in
    let start = cut _ _ _ _ (start_no_slash a.start) (start_no_slash b.start) date.1 in (
      same_key a b (same_trip a.trip b.trip ia ib trip.0) (one_date a.date b.date date.0) (same_start a.start b.start a.start_in_range b.start_in_range start.0),
      decimal_injective m n (omega arith) (omega arith) start.1,
    )
