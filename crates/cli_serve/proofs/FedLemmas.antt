-- How many bytes a session was fed that goes on.
use Rattle.std.proofs.Common.{◌≡◌, ◌≢◌, ◌∙◌, ℕ, ◌+◌, List, [], ◌++◌, length, length-append, refl, sym, ap, arith}
use Rattle.publisher.specs.Held.{Held, side_of}
use Rattle.lc_world.specs.Sides.Side.{Side}
use Rattle.cli_serve.specs.Serving.{WasFed}
use Rattle.wire_session.specs.Stands.{Stands}
use Rattle.wire_session.specs.Stands as stands
use Rattle.wire_session.specs.declared.phase.Phase.{Phase}
use Rattle.wire_session.specs.declared.phase.Phase.TheVariants.{Open, Ended, Spent}

-- a session that goes on after a piece went on before it
open_before : (phase : Phase) (before after : stands.Held) → before.phase ≡ phase → after.phase ≡ Open → (before.phase ≢ Open → after ≡ before) → before.phase ≡ Open
open_before Open before after is goes_on same = is
open_before Ended before after is goes_on same =
    let not_open : before.phase ≢ Open = λ h. let no : Ended ≡ Open = sym is ∙ h in absurd (cc) in
    let still : after.phase ≡ before.phase = ap (λ (h : stands.Held). h.phase) (same not_open) in
    absurd (not_open (sym still ∙ goes_on))
open_before Spent before after is goes_on same =
    let not_open : before.phase ≢ Open = λ h. let no : Spent ≡ Open = sym is ∙ h in absurd (cc) in
    let still : after.phase ≡ before.phase = ap (λ (h : stands.Held). h.phase) (same not_open) in
    absurd (not_open (sym still ∙ goes_on))

-- a session that goes on was fed a piece more
pub fed_more : {G : Type 0} (cuts_of : G → List ℕ → List ℕ) (before after : stands.Held) (publisher left : Held G) (count : ℕ) (piece : List ℕ)
    → (before.phase ≡ Open → WasFed cuts_of before publisher count) → (before.phase ≢ Open → (after ≡ before) × (left ≡ publisher))
    → ((start : Side) (fed sent : List ℕ) → Stands before start fed sent (side_of cuts_of publisher) → Stands after start (fed ++ piece) sent (side_of cuts_of left))
    → after.phase ≡ Open → WasFed cuts_of after left (count + length piece)
fed_more cuts_of before after publisher left count piece was dropped stands goes_on =
    let w : WasFed cuts_of before publisher count = was (open_before before.phase before after refl goes_on (λ no. (dropped no).0)) in
    record {
      start = w.start;
      fed = w.fed ++ piece;
      sent = w.sent;
      stands = stands w.start w.fed w.sent w.stands;
      count_is = let long : length w.fed ≡ count = w.count_is in let all : length (w.fed ++ piece) ≡ length w.fed + length piece = length-append w.fed piece in omega arith;
    }

-- what was sent changes nothing of what was fed
pub fed_still : {G : Type 0} (cuts_of : G → List ℕ → List ℕ) (before after : stands.Held) (publisher : Held G) (count : ℕ) (bytes : List ℕ)
    → (before.phase ≡ Open → WasFed cuts_of before publisher count) → after.phase ≡ before.phase
    → ((start : Side) (fed sent : List ℕ) (side : Side) → Stands before start fed sent side → Stands after start fed (sent ++ bytes) side)
    → after.phase ≡ Open → WasFed cuts_of after publisher count
fed_still cuts_of before after publisher count bytes was same stands goes_on =
    let w : WasFed cuts_of before publisher count = was (sym same ∙ goes_on) in
    record {
      start = w.start;
      fed = w.fed;
      sent = w.sent ++ bytes;
      stands = stands w.start w.fed w.sent (side_of cuts_of publisher) w.stands;
      count_is = w.count_is;
    }

-- it was fed nothing at its start
pub fed_none : {G : Type 0} (cuts_of : G → List ℕ → List ℕ) (session : stands.Held) (publisher : Held G)
    → ((side : Side) → Stands session side [] [] side) → session.phase ≡ Open → WasFed cuts_of session publisher 0
fed_none cuts_of session publisher stands goes_on = record { start = side_of cuts_of publisher; fed = []; sent = []; stands = stands (side_of cuts_of publisher); count_is = refl }
