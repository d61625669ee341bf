-- How a session goes on after a reply, and where memory runs out.
use Rattle.std.proofs.Common.{◌≡◌, ℕ, ◌+◌, ◌<◌, ◌≤◌, ◌⊎◌, inl, inr, Bool, true, false, cond, eqb, List, ◌++◌, take, drop, refl, sym, ap, subst, ◌∙◌, arith, append_assoc, length}
use Rattle.std.proofs.lemmas.Bool.{eqb-false, eqb-true}
use Rattle.http_text.specs.declared.taken.Taken.TheVariants.{Whole}
use Rattle.http_text.specs.Taken.{Takes}
use Rattle.lc_world.specs.Sides.Reply.{IsNextSide}
use Rattle.lc_world.specs.Sides.Side.{Side}
use Rattle.wire_session.specs.SessionOut.{refusal_text}
use Rattle.wire_session.specs.Stands.{HasAnswered, IsCutShort, IsLeftByFirst, IsOutput, IsWaiting}
use Rattle.wire_session.specs.Steps.{Counts, IsLeft, IsReplied, IsWithin, next_after}
use Rattle.wire_session.specs.declared.next.Next.TheVariants.{Answered, Ends}
use Rattle.wire_session.proofs.StandLemmas.{answered_more, answered_under, closed, hundredth, waits_on}

-- the text with the reply, as the output has it
with_output : (sent output reply after : List ℕ) → after ≡ output ++ reply → (sent ++ output) ++ reply ≡ sent ++ after
with_output sent output reply after is = append_assoc sent output reply ∙ ap (λ (x : List ℕ). sent ++ x) (sym is)

-- ---- after a reply

ends_after : (start : Side) (fed sent output : List ℕ) (count : ℕ) (reply after : List ℕ) (next : Side) (counted : ℕ) → after ≡ output ++ reply
    → counted ≡ count + 1 → IsOutput start fed ((sent ++ output) ++ reply) (count + 1) next true → IsOutput start fed (sent ++ after) counted next true
ends_after start fed sent output count reply after next counted is one out =
    subst (λ (n : ℕ). IsOutput start fed (sent ++ after) n next true) (sym one)
    (subst (λ (x : List ℕ). IsOutput start fed x (count + 1) next true) (with_output sent output reply after is) out)

goes_on_after : (start : Side) (fed sent output : List ℕ) (count : ℕ) (reply after : List ℕ) (next : Side) (rest : List ℕ) (counted : ℕ)
    → after ≡ output ++ reply → counted ≡ count + 1 → HasAnswered start fed ((sent ++ output) ++ reply) (count + 1) next rest
    → HasAnswered start fed (sent ++ after) counted next rest
goes_on_after start fed sent output count reply after next rest counted is one was =
    subst (λ (n : ℕ). HasAnswered start fed (sent ++ after) n next rest) (sym one)
    (subst (λ (x : List ℕ). HasAnswered start fed x (count + 1) next rest) (with_output sent output reply after is) was)

pub left_after : (start : Side) (fed sent output : List ℕ) (count : ℕ) (side : Side) (bytes : List ℕ) (long : ℕ) (next : Side) (closes : Bool)
    (after : List ℕ) (counted most : ℕ) → HasAnswered start fed (sent ++ output) count side bytes → Takes bytes (Whole long)
    → IsReplied side (take long bytes) output next closes after → counted ≡ count + 1
    → IsLeft (next_after closes counted long) start fed (sent ++ after) counted next bytes most
left_after start fed sent output count side bytes long next true after counted most was whole replied one =
    ends_after start fed sent output count replied.reply after next counted replied.after_is one
    (closed start fed (sent ++ output) count side bytes replied.reply next long was whole replied.answered)
left_after start fed sent output count side bytes long next false after counted most was whole replied one = by (eqb counted 100) refl
  where
    by : (full : Bool) → eqb counted 100 ≡ full → IsLeft (cond full Ends (Answered long)) start fed (sent ++ after) counted next bytes most
    by true e =
        let all : count + 1 ≡ 100 = sym one ∙ eqb-true counted 100 e in
        ends_after start fed sent output count replied.reply after next counted replied.after_is one
        (hundredth start fed (sent ++ output) count side bytes replied.reply next long was whole replied.answered all)
    by false e =
        let others : counted ≡ 100 → ⊥ = eqb-false counted 100 e in
        let few = was.fewer in
        let fewer : count + 1 < 100 = omega (arith, others, one, few) in
        goes_on_after start fed sent output count replied.reply after next (drop long bytes) counted replied.after_is one
        (answered_more start fed (sent ++ output) count side bytes replied.reply next long was whole replied.answered fewer)

pub counted_after : (closes : Bool) (before after long : ℕ) → before < 100 → after ≡ before + 1 → Counts before after (next_after closes after long)
counted_after true before after long few one = tt
counted_after false before after long few one = by (eqb after 100) refl
  where
    by : (full : Bool) → eqb after 100 ≡ full → Counts before after (cond full Ends (Answered long))
    by true e = tt
    by false e = let others : after ≡ 100 → ⊥ = eqb-false after 100 e in (one, omega (arith, others, one, few))

pub within_after : (closes : Bool) (count long all : ℕ) → long ≤ all → IsWithin all (next_after closes count long)
within_after true count long all le = tt
within_after false count long all le = by (eqb count 100)
  where
    by : (full : Bool) → IsWithin all (cond full Ends (Answered long))
    by true = tt
    by false = le

-- a refused head
pub ends_refused : (start : Side) (fed sent output : List ℕ) (count : ℕ) (side : Side) (status : ℕ) (after : List ℕ) (counted : ℕ)
    → after ≡ output ++ refusal_text status → counted ≡ count + 1 → IsOutput start fed ((sent ++ output) ++ refusal_text status) (count + 1) side true
    → IsOutput start fed (sent ++ after) counted side true
ends_refused start fed sent output count side status after counted is one out =
    ends_after start fed sent output count (refusal_text status) after side counted is one out

-- ---- where memory runs out

pub cut_short : (start : Side) (fed text : List ℕ) (count : ℕ) (before : Side) (rest : List ℕ) (side : Side) → HasAnswered start fed text count before rest
    → (side ≡ before) ⊎ IsLeftByFirst before rest side → IsCutShort start fed text count side
cut_short start fed text count before rest side was left = record { before = before; rest = rest; answered = was; left = left }

pub cut_short_by : (start : Side) (fed text : List ℕ) (count : ℕ) (before : Side) (rest : List ℕ) (side : Side) (long : ℕ)
    → HasAnswered start fed text count before rest → Takes rest (Whole long) → (side ≡ before) ⊎ IsNextSide before (take long rest) side
    → IsCutShort start fed text count side
cut_short_by start fed text count before rest side long was whole (inl same) = cut_short start fed text count before rest side was (inl same)
cut_short_by start fed text count before rest side long was whole (inr next) =
    cut_short start fed text count before rest side was (inr (long, whole, next))

-- before a piece is looked at
pub cut_short_at : (start : Side) (fed text : List ℕ) (count : ℕ) (side : Side) (rest : List ℕ) (most : ℕ) (piece : List ℕ)
    → IsWaiting start fed text count side rest most → IsCutShort start (fed ++ piece) text count side
cut_short_at start fed text count side rest most piece was =
    cut_short start (fed ++ piece) text count side (rest ++ piece) side (answered_under start fed text count side rest piece was.answered) (inl refl)

-- ---- a piece after what waits

-- the requests that were answered are before the bytes with the piece
pub answered_with : (start : Side) (fed text : List ℕ) (count : ℕ) (side : Side) (rest : List ℕ) (most : ℕ) (piece all : List ℕ) → all ≡ rest ++ piece
    → IsWaiting start fed text count side rest most → HasAnswered start (fed ++ piece) text count side all
answered_with start fed text count side rest most piece all is was =
    subst (HasAnswered start (fed ++ piece) text count side) (sym is) (answered_under start fed text count side rest piece was.answered)

pub waits_with : (start : Side) (fed text : List ℕ) (count : ℕ) (side : Side) (rest : List ℕ) (most : ℕ) (piece all : List ℕ) → all ≡ rest ++ piece
    → length all < most → IsWaiting start fed text count side rest most → IsWaiting start (fed ++ piece) text count side all most
waits_with start fed text count side rest most piece all is short was =
    subst (λ (x : List ℕ). IsWaiting start (fed ++ piece) text count side x most) (sym is)
    (waits_on start fed text count side rest most piece was (subst (λ (x : List ℕ). length x < most) is short))

-- a slice of the bytes with the piece
pub all_of : (slice all parts : List ℕ) → slice ≡ all → all ≡ parts → slice ≡ parts
all_of slice all parts same is = same ∙ is
