-- Fields by their places in a message.
use Rattle.std.proofs.Common.{◌≡◌, ◌≢◌, ℕ, ◌+◌, ◌-◌, ◌<◌, ◌≤◌, List, [], ◌++◌, length, take, drop, Ok, Err, refl, sym, ap, subst, ◌∙◌, append_assoc, arith}
use Rattle.std.specs.Prelude.{slice_range, Option}
use Rattle.rt_protobuf.specs.declared.field.Field.{Field}
use Rattle.std.proofs.lemmas.List.{length-append, length-take, length-drop, take-take, take_at, drop_at, drop-drop, drop-take}
use Rattle.rt_protobuf.specs.declared.fault.WireFault.{WireFault}
use Rattle.rt_protobuf.specs.Grammar.{Content, varint, eight, text, four, WireField, IsField, IsBroken}
use Rattle.rt_protobuf.specs.Parts.{whole, broken, field, PartsInto}
use Rattle.rt_protobuf.specs.Reading.{field_at, parts_of}
use Rattle.rt_protobuf.specs.declared.field.Value.{Value}
use Rattle.rt_protobuf.specs.Message.{content_of, EndsField, IsFieldAt}
use Rattle.rt_protobuf.specs.Held.{value_before, FitsBefore}
use Rattle.rt_protobuf.proofs.StepsLemmas.{failed, err_is}
use Rattle.rt_protobuf.proofs.FieldsLemmas.{field_takes, field_fails, broken_again}
use Rattle.rt_protobuf.proofs.OneWayLemmas.{tag_some, parts_are, only_parts}

-- where a part of a message is cut in two, at the place of the cut
pub record Split (message : List ℕ) (from cut to : ℕ) (front behind : List ℕ) : Type 0 where
  pub before : slice_range message from cut ≡ front
  pub after : slice_range message cut to ≡ behind

pub split : (message : List ℕ) (from cut to : ℕ) (front behind : List ℕ) → from ≤ to → to ≤ length message → slice_range message from to ≡ front ++ behind → cut ≡ from + length front → Split message from cut to front behind
split message from cut to front behind order within parts at =
    let size : length (slice_range message from to) ≡ to - from = omega (arith, length-take (to - from) (drop from message), length-drop from message) in
    let counted : length front + length behind ≡ to - from = sym (length-append front behind) ∙ ap length (sym parts) ∙ size in
    let k : cut - from ≡ length front = omega (arith, at) in
    let less : length front ≤ to - from = omega (arith, counted) in
    let left : length front + (to - cut) ≡ to - from = omega (arith, counted, at) in
    record {
      before = ap (λ (n : ℕ). take n (drop from message)) k ∙ sym (take-take (length front) (to - from) (drop from message) less) ∙ ap (take (length front)) parts ∙ take_at front behind (length front) refl;
      after = ap (λ (n : ℕ). take (to - cut) (drop n message)) at ∙ ap (take (to - cut)) (sym (drop-drop (length front) from message)) ∙ sym (drop-take (length front) (to - cut) (drop from message)) ∙ ap (λ (n : ℕ). drop (length front) (take n (drop from message))) left ∙ ap (drop (length front)) parts ∙ drop_at front behind (length front) refl;
    }

pub record Lands (message : List ℕ) (from to next : ℕ) (f : WireField) (behind : List ℕ) : Type 0 where
  pub forward : from < next
  pub within : next ≤ to
  pub spelled : IsField (slice_range message from next) f
  pub parts : parts_of from (slice_range message from to) ≡ field from next f (parts_of next (slice_range message next to))

pub lands : (message : List ℕ) (from to next : ℕ) (f : WireField) (behind : List ℕ) → from ≤ to → to ≤ length message → next ≡ to - length behind → field_at from (slice_range message from to) ≡ Ok (f, behind) → Lands message from to next f behind
lands message from to next f behind order within at e =
    let t = field_takes from (slice_range message from to) f behind e in
    let size : length (slice_range message from to) ≡ to - from = omega (arith, length-take (to - from) (drop from message), length-drop from message) in
    let counted : length t.front + length behind ≡ to - from = sym (length-append t.front behind) ∙ ap length (sym t.parts) ∙ size in
    let next_is : next ≡ from + length t.front = omega (arith, counted, at) in
    let s = split message from next to t.front behind order within t.parts next_is in
    record {
      forward = omega (arith, next_is, t.some);
      within = omega (arith, at);
      spelled = subst (λ (x : List ℕ). IsField x f) (sym s.before) t.spelled;
      parts = sym (only_parts from (slice_range message from to) (field from next f (parts_of next (slice_range message next to)))
          (refl, t.front, behind, t.parts, t.spelled, next_is, subst (λ (x : List ℕ). PartsInto next x (parts_of next (slice_range message next to))) s.after (parts_are next (slice_range message next to))));
    }

-- what comes after a field is no longer than the bytes
pub behind_within : (message : List ℕ) (from to : ℕ) (f : WireField) (behind : List ℕ) → from ≤ to → to ≤ length message → field_at from (slice_range message from to) ≡ Ok (f, behind) → length behind ≤ to
behind_within message from to f behind order within e =
    let t = field_takes from (slice_range message from to) f behind e in
    let size : length (slice_range message from to) ≡ to - from = omega (arith, length-take (to - from) (drop from message), length-drop from message) in
    omega (arith, length-append t.front behind, ap length t.parts, size)

-- no field, and a broken one
pub no_parts : (message : List ℕ) (from to : ℕ) → from ≡ to → parts_of from (slice_range message from to) ≡ whole
no_parts message from to e = sym (only_parts from (slice_range message from to) whole (nothing message from to e))
  where
    nothing : (message : List ℕ) (from to : ℕ) → from ≡ to → slice_range message from to ≡ []
    nothing message from to e = ap (λ (n : ℕ). take n (drop from message)) (let z : to - from ≡ 0 = omega (arith, e) in z)

pub breaks : (message : List ℕ) (from to : ℕ) (fault : WireFault) → from < to → to ≤ length message → field_at from (slice_range message from to) ≡ Err fault → parts_of from (slice_range message from to) ≡ broken fault
breaks message from to fault order within e =
    let size : length (slice_range message from to) ≡ to - from = omega (arith, length-take (to - from) (drop from message), length-drop from message) in
    let some : slice_range message from to ≢ [] = λ none. omega (arith, ap length none, size, order) in
    sym (only_parts from (slice_range message from to) (broken fault) (some, field_fails from (slice_range message from to) fault e))

-- ---- what a field holds, by its places

pub record Holds (message : List ℕ) (from next : ℕ) (c : Content) : Type 0 where
  pub fits : FitsBefore next c
  pub ends : EndsField from next (value_before next c)
  pub content : content_of message (value_before next c) ≡ c

pub holds : (message : List ℕ) (from next number : ℕ) (c : Content) → from < next → next ≤ length message → IsField (slice_range message from next) (record { number = number; content = c }) → Holds message from next c
holds message from next number (varint n) order within s = record { fits = tt; ends = tt; content = refl }
holds message from next number (eight n) order within s = record { fits = tt; ends = tt; content = refl }
holds message from next number (text inner) order within s =
    let tag = s.0 in
    let count = s.5.0 in
    let parts : slice_range message from next ≡ (tag ++ count) ++ inner = s.2 ∙ ap (λ (x : List ℕ). tag ++ x) s.5.1 ∙ sym (append_assoc tag count inner) in
    let size : length (slice_range message from next) ≡ next - from = omega (arith, length-take (next - from) (drop from message), length-drop from message) in
    let counted : length (tag ++ count) + length inner ≡ next - from = sym (length-append (tag ++ count) inner) ∙ ap length (sym parts) ∙ size in
    let start : next - length inner ≡ from + length (tag ++ count) = omega (arith, counted, order) in
    record {
      fits = omega (arith, counted);
      ends = (omega (arith, start, length-append tag count, tag_some tag number 2 s.3), omega arith, refl);
      content = ap text (split message from (next - length inner) next (tag ++ count) inner (omega (arith, order)) within parts start).after;
    }
holds message from next number (four n) order within s = record { fits = tt; ends = tt; content = refl }

-- ---- the field that a call gives

pub is_field_at : (message : List ℕ) (from to next number : ℕ) (value : Value) (c : Content) (behind : List ℕ) → to ≤ length message → Lands message from to next (record { number = number; content = c }) behind → value ≡ value_before next c
    → IsFieldAt message from to (record { number = number; value = value; next = next })
is_field_at message from to next number value c behind within l is =
    let h = holds message from next number c l.forward (omega (arith, l.within, within)) l.spelled in
    let content : content_of message value ≡ c = ap (content_of message) is ∙ h.content in
    record {
      forward = l.forward;
      within = l.within;
      spelled = subst (λ (x : Content). IsField (slice_range message from next) (record { number = number; content = x })) (sym content) l.spelled;
      span = subst (λ (x : Value). EndsField from next x) (sym is) h.ends;
    }

pub begins_with : (message : List ℕ) (from to next number : ℕ) (value : Value) (c : Content) (behind : List ℕ) → to ≤ length message → Lands message from to next (record { number = number; content = c }) behind → value ≡ value_before next c
    → parts_of from (slice_range message from to) ≡ field from next (record { number = number; content = content_of message value }) (parts_of next (slice_range message next to))
begins_with message from to next number value c behind within l is =
    let h = holds message from next number c l.forward (omega (arith, l.within, within)) l.spelled in
    let content : content_of message value ≡ c = ap (content_of message) is ∙ h.content in
    l.parts ∙ ap (λ (x : Content). field from next (record { number = number; content = x }) (parts_of next (slice_range message next to))) (sym content)

pub fits_before : (message : List ℕ) (from to next number : ℕ) (c : Content) (behind : List ℕ) → to ≤ length message → Lands message from to next (record { number = number; content = c }) behind → FitsBefore next c
fits_before message from to next number c behind within l = (holds message from next number c l.forward (omega (arith, l.within, within)) l.spelled).fits

-- the fault that was read is the one that the bytes have
pub one_fault : (place : ℕ) (bytes : List ℕ) (fault other : WireFault) → field_at place bytes ≡ Err fault → IsBroken place bytes other → failed (Option Field) fault ≡ failed (Option Field) other
one_fault place bytes fault other e b = ap (failed (Option Field)) (err_is (WireField × List ℕ) fault other (sym e ∙ broken_again place bytes other b))
