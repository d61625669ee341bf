-- What is said to more bytes begins with what is said to fewer.
use Rattle.std.proofs.Common.{refl, ◌≡◌, ℕ, zero, suc, Bool, true, false, List, [], ◌∷◌, ◌++◌, drop, sym, ap, subst, ◌∙◌, append-nil, ◌≤◌, length, arith}
use Rattle.std.specs.List.{concat}
use Rattle.http_text.specs.declared.taken.Taken.{Taken}
use Rattle.http_text.specs.declared.taken.Taken.TheVariants.{Whole, NotYet, Refused}
use Rattle.http_text.specs.Taken.{Takes}
use Rattle.http_text.proofs.StayLemmas.{same_bytes, stays}
use Rattle.http_text.proofs.TakenLemmas.{one_answer}
use Rattle.lc_world.specs.Sides.Side.{Side}
use Rattle.wire_session.specs.Laws.{BeginsWith}
use Rattle.wire_session.specs.SessionOut.{IsAnswered, IsSaidAfter, IsSaidBy, IsSaidFirst, Said, Says, silent, with_reply}
use Rattle.wire_session.specs.Stands.{IsCutShort}
use Rattle.wire_session.specs.Walks.{Walks}
use Rattle.wire_session.proofs.OneSaidLemmas.{same_after, same_reply}
use Rattle.wire_session.proofs.WalkLemmas.{refused_is_some, rest_grows, whole_is_some}

-- where more bytes are answered, fewer were answered by a front of these replies
abbrev pub Grows : (Side → List ℕ → Said → Type 0) → List ℕ → Type 0
Grows Goes more = (side : Side) (bytes : List ℕ) (a b : Said) → Goes side bytes a → Goes side (bytes ++ more) b → BeginsWith b.replies a.replies

silence_grows : (side : Side) (ended : Bool) (a b : Said) → a ≡ silent side ended → BeginsWith b.replies a.replies
silence_grows side ended a b is = (b.replies, ap (λ (s : Said). s.replies ++ b.replies) (sym is))

same_grows : (a b : Said) → a ≡ b → BeginsWith b.replies a.replies
same_grows a b is = ([], ap (λ (s : Said). s.replies) (sym is) ∙ sym (append-nil a.replies))

-- what is said to a rest and more bytes after it
abbrev pub Longer : (Side → List ℕ → Said → Type 0) → List ℕ → Side → List ℕ → Said → Type 0
Longer Goes more side rest said = Goes side (rest ++ more) said

after_is_longer : (Goes : Side → List ℕ → Said → Type 0) (more : List ℕ) (closes : Bool) (side : Side) (rest : List ℕ) (said : Said)
    → IsSaidAfter Goes closes side (rest ++ more) said → IsSaidAfter (Longer Goes more) closes side rest said
after_is_longer Goes more true side rest said is = is
after_is_longer Goes more false side rest said is = is

after_grows : (Goes : Side → List ℕ → Said → Type 0) (more : List ℕ) → Grows Goes more → (closes : Bool) (side : Side) (rest : List ℕ) (a b : Said)
    → IsSaidAfter Goes closes side rest a → IsSaidAfter (Longer Goes more) closes side rest b → BeginsWith b.replies a.replies
after_grows Goes more grows true side rest a b first second = same_grows a b (first ∙ sym second)
after_grows Goes more grows false side rest a b first second = grows side rest a b first second

-- the first answer is the same under more bytes
shorter : (Goes : Side → List ℕ → Said → Type 0) (side : Side) (count : ℕ) (bytes more : List ℕ) (b : Said) → Takes bytes (Whole count)
    → IsSaidFirst Goes side count (bytes ++ more) b → IsSaidFirst (Longer Goes more) side count bytes b
shorter Goes side count bytes more b whole first = record {
  reply = first.reply;
  next = first.next;
  closes = first.closes;
  answered = subst (λ (x : List ℕ). IsAnswered side x first.reply first.next first.closes) (same_bytes bytes more count whole) first.answered;
  after = first.after;
  after_is =
      after_is_longer Goes more first.closes first.next (drop count bytes) first.after
      (subst (λ (x : List ℕ). IsSaidAfter Goes first.closes first.next x first.after) (rest_grows bytes more count whole) first.after_is);
  is = first.is;
}

first_grows : (Goes : Side → List ℕ → Said → Type 0) (more : List ℕ) → Grows Goes more → (side : Side) (count : ℕ) (bytes : List ℕ) (a b : Said)
    → IsSaidFirst Goes side count bytes a → IsSaidFirst (Longer Goes more) side count bytes b → BeginsWith b.replies a.replies
first_grows Goes more grows side count bytes a b first second =
    let (tail, is) =
    after_grows Goes more grows first.closes first.next (drop count bytes) first.after second.after first.after_is
    (same_after Goes (Longer Goes more) side count bytes a b first second) in (
      tail,
      ap (λ (s : Said). s.replies) second.is
          ∙ ap (λ (reply : List ℕ). reply ∷ second.after.replies) (sym (same_reply Goes (Longer Goes more) side count bytes a b first second))
          ∙ ap (λ (x : List (List ℕ)). first.reply ∷ x) is
          ∙ ap (λ (s : Said). s.replies ++ tail) (sym first.is),
    )

by_grows : (Goes : Side → List ℕ → Said → Type 0) (more : List ℕ) → Grows Goes more → (taken other : Taken) (side : Side) (bytes : List ℕ) (a b : Said)
    → Takes bytes taken → Takes (bytes ++ more) other → IsSaidBy Goes taken side bytes a → IsSaidBy Goes other side (bytes ++ more) b
    → BeginsWith b.replies a.replies
by_grows Goes more grows (Whole count) other side bytes a b takes takes' first second =
    let same : other ≡ Whole count = one_answer (bytes ++ more) other (Whole count) takes' (stays bytes more (Whole count) takes (whole_is_some count)) in
    first_grows Goes more grows side count bytes a b first
    (shorter Goes side count bytes more b takes (subst (λ (t : Taken). IsSaidBy Goes t side (bytes ++ more) b) same second))
by_grows Goes more grows NotYet other side bytes a b takes takes' first second = silence_grows side false a b first
by_grows Goes more grows (Refused status) other side bytes a b takes takes' first second =
    let same : other ≡ Refused status = one_answer (bytes ++ more) other (Refused status) takes' (stays bytes more (Refused status) takes (refused_is_some status)) in
    let again : IsSaidBy Goes (Refused status) side (bytes ++ more) b = subst (λ (t : Taken). IsSaidBy Goes t side (bytes ++ more) b) same second in
    same_grows a b (first ∙ sym again)

pub grows : (most : ℕ) (more : List ℕ) (side : Side) (bytes : List ℕ) (a b : Said) → Says most side bytes a → Says most side (bytes ++ more) b
    → BeginsWith b.replies a.replies
unfolding Says
grows zero more side bytes a b first second = same_grows a b (first ∙ sym second)
grows (suc most) more side bytes a b (taken, takes, first) (other, takes', second) =
    by_grows (Says most) more (grows most more) taken other side bytes a b takes takes' first second

-- ---- what a walk answers is said first

abbrev Anything : Side → List ℕ → Said → Type 0
Anything side bytes said = Unit {0}

walk_begins : (replies : List (List ℕ)) (most : ℕ) (side : Side) (bytes : List ℕ) (next : Side) (rest : List ℕ) (said : Said)
    → Walks replies side bytes next rest → Says most side bytes said → length replies ≤ most → BeginsWith said.replies replies
unfolding Says
walk_begins [] most side bytes next rest said walks says few = (said.replies, refl)
walk_begins (reply ∷ replies) zero side bytes next rest said walks says few = absurd (omega (arith, few))
walk_begins (reply ∷ replies) (suc most) side bytes next rest said (middle, behind, goes, walks) (taken, takes, is) few =
    let same : taken ≡ Whole goes.count = one_answer bytes taken (Whole goes.count) takes goes.whole in
    let first : IsSaidFirst (Says most) side goes.count bytes said = subst (λ (t : Taken). IsSaidBy (Says most) t side bytes said) same is in
    let known : IsSaidFirst Anything side goes.count bytes (with_reply reply (silent middle false)) = record {
      reply = reply;
      next = middle;
      closes = false;
      answered = goes.answered;
      after = silent middle false;
      after_is = tt;
      is = refl;
    } in
    let after : Says most middle (drop goes.count bytes) first.after =
    same_after Anything (Says most) side goes.count bytes (with_reply reply (silent middle false)) said known first in
    let one : reply ≡ first.reply = same_reply Anything (Says most) side goes.count bytes (with_reply reply (silent middle false)) said known first in
    let (more, begins) =
    walk_begins replies most middle behind next rest first.after walks
    (subst (λ (x : List ℕ). Says most middle x first.after) (sym goes.rest_is) after) (omega (arith, few)) in (
      more,
      ap (λ (s : Said). s.replies) first.is ∙ ap (λ (x : List ℕ). x ∷ first.after.replies) (sym one)
          ∙ ap (λ (x : List (List ℕ)). reply ∷ x) begins,
    )

pub cut_short_is_front : (start : Side) (fed text : List ℕ) (count : ℕ) (side : Side) (said : Said) → IsCutShort start fed text count side
    → Says 100 start fed said → (replies : List (List ℕ)) × (text ≡ concat replies) × (count ≡ length replies) × BeginsWith said.replies replies
cut_short_is_front start fed text count side said was says =
    let count_is = was.answered.count_is in
    let fewer = was.answered.fewer in (
      was.answered.replies,
      was.answered.text_is,
      count_is,
      walk_begins was.answered.replies 100 start fed was.before was.rest said was.answered.walks says (omega (arith, count_is, fewer)),
    )
