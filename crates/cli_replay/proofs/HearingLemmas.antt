-- What a publisher at home receives.
use Rattle.std.proofs.Common.{◌≡◌, ◌∙◌, ◌+◌, ℕ, List, Some, ap, arith, length, refl, subst, sym}
use Rattle.cli_ask.specs.Admission.{IsBehind}
use Rattle.convoy.specs.Finish.{IsStep}
use Rattle.convoy.specs.State.{ConvoyState}
use Rattle.convoy.specs.declared.turn.Turn.{Turn}
use Rattle.fragmenter.specs.Cutting.{chosen_cuts}
use Rattle.fragmenter.specs.declared.cutting.Cutting.{Cutting}
use Rattle.lc_links.specs.HomeLink.{HomeLinkState}
use Rattle.lc_io.specs.declared.file.File.{File}
use Rattle.lc_world.specs.Link.{LinkSeen}
use Rattle.publisher.specs.Held.{Held, side_of}
use Rattle.lc_world.specs.Sides.Side.{IsValidSide, Side}
use Rattle.cli_replay.proofs.ReplayLawsLemmas.HeardLemmas.{turn_stays}
use Rattle.cli_replay.specs.ReplayLaws.Played.{IsGiven}
use Rattle.cli_replay.specs.Course.{HasAdmitted}
use Rattle.cli_replay.specs.Home.{admitted_at, home_seen}

-- a link at home whose publisher has become another one
abbrev pub with_publisher : {L : Type 0} → HomeLinkState Cutting L → Held Cutting → HomeLinkState Cutting L
with_publisher home held = record { local = record { publisher = held; recorded = home.local.recorded; asked = home.local.asked }; outer = home.outer }

-- what the publisher received came over the link
pub given : {L : Type 0} (seen : L → LinkSeen) (home : HomeLinkState Cutting L) (was now : Held Cutting) (file : File) (line : List ℕ) → was ≡ home.local.publisher
    → now ≡ record was { store = now.store } → IsBehind (Some file) was.store now.store line → was.store.stops ≡ was.doc.stops → IsValidSide (side_of chosen_cuts now)
    → IsGiven (home_seen seen home) (home_seen seen (with_publisher home now)) file line
given seen home was now file line is same behind stops valid = record {
  held = was;
  side_was = ap (λ (h : Held Cutting). Some (side_of chosen_cuts h)) (sym is);
  same_stops = stops;
  store = now.store;
  behind = behind;
  side_is = ap (λ (h : Held Cutting). Some (side_of chosen_cuts h)) same;
  valid = subst (λ (h : Held Cutting). IsValidSide (side_of chosen_cuts h)) same valid;
  recorded = refl;
  honest = λ base honest. honest;
  quiet = λ base quiet. quiet;
  clear = λ clear. clear;
  still = λ still. still;
  faults = refl;
}

-- a turn of a client over a link at home admits no message
pub turn_admits_none : {L : Type 0} (seen : L → LinkSeen) (client : ℕ) (turn : Turn) (old new : ConvoyState) (before after : HomeLinkState Cutting L) → IsStep (home_seen seen) client old new before after turn
    → admitted_at after ≡ admitted_at before + 0
turn_admits_none seen client turn old new before after step =
    let stays = turn_stays (home_seen seen) client turn old new before after step tt in
    let both : Some (side_of chosen_cuts after.local.publisher) ≡ Some (side_of chosen_cuts before.local.publisher) = stays.0 in
    let same : side_of chosen_cuts after.local.publisher ≡ side_of chosen_cuts before.local.publisher = cc in
    let long : admitted_at after ≡ admitted_at before = ap (λ (s : Side). length s.history) same in
    omega (arith, long)

-- the history of the side of a link at home is that of its publisher
pub sides_admitted : {L : Type 0} (seen : L → LinkSeen) (before after : HomeLinkState Cutting L) (admitted : ℕ) → admitted_at after ≡ admitted_at before + admitted
    → HasAdmitted (home_seen seen before) (home_seen seen after) admitted
sides_admitted seen before after admitted grown = λ old new is_old is_new.
    let some_old : Some (side_of chosen_cuts before.local.publisher) ≡ Some old = is_old in
    let some_new : Some (side_of chosen_cuts after.local.publisher) ≡ Some new = is_new in
    let was : side_of chosen_cuts before.local.publisher ≡ old = cc in
    let is : side_of chosen_cuts after.local.publisher ≡ new = cc in
    sym (ap (λ (s : Side). length s.history) is) ∙ grown ∙ ap (λ (s : Side). length s.history + admitted) was
