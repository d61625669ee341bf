-- What an event sequence results in that was played to a publisher at home.
use Rattle.std.proofs.Common.{◌≡◌, ℕ, List, Some, ap, arith, subst, sym}
use Rattle.cli_ask.specs.Publishing.{held_with, side_with, store_of}
use Rattle.cli_ask.specs.declared.end.ClientEnd.{ClientEnd}
use Rattle.cli_words.specs.declared.command.Publishing.{Publishing}
use Rattle.fragmenter.specs.Cutting.{chosen_cuts}
use Rattle.fragmenter.specs.declared.cutting.Cutting.{Cutting}
use Rattle.lc_links.specs.HomeLink.{HomeLinkState}
use Rattle.lc_world.specs.GoneOn.{IsLeftByPasses}
use Rattle.lc_world.specs.Link.{LinkSeen}
use Rattle.publisher.specs.Held.{Held, side_of}
use Rattle.lc_world.specs.Sides.Side.{IsValidSide}
use Rattle.cli_replay.specs.ReplayLaws.Laws.{AreHeardAt, IsQuietAt, IsStillAt, PlaysCaused, PlaysHeard, PlaysRight}
use Rattle.cli_replay.specs.ReplayLaws.Events.{TurnsAreOfClients}
use Rattle.cli_replay.specs.ReplayLaws.Replayed.{IsReplayed}
use Rattle.cli_replay.specs.ReplayLaws.Versions.{HaveAdmitted}
use Rattle.cli_replay.specs.declared.replay_laws.event.Event.{Event}
use Rattle.timetable.specs.declared.timetable.Timetable.{Timetable}
use Rattle.cli_replay.specs.Course.{IsPlayed}
use Rattle.cli_replay.specs.Home.{home_seen}

module _ {L : Type 0} (seen : L → LinkSeen) (plays_heard : PlaysHeard (home_seen seen)) (plays_right : PlaysRight (home_seen seen)) (plays_caused : PlaysCaused (home_seen seen)) (made : Timetable) (publishing : Publishing)
    (all : List Event) (cache : ℕ) (before after : HomeLinkState Cutting L) (admitted : ℕ) (text : List ℕ) (ends : List ClientEnd) (turns : TurnsAreOfClients all)
    (held : before.local.publisher ≡ held_with made publishing (store_of made publishing.base_moment)) (valid : IsValidSide (side_with made publishing (store_of made publishing.base_moment)))
    (x : IsPlayed (home_seen seen) publishing.base all cache before after admitted text ends) where
  -- a link at home keeps its side whatever the outer one is
  still_at : IsStillAt made publishing (home_seen seen before)
  still_at = record { tells = ap (λ (h : Held Cutting). Some (side_of chosen_cuts h)) held; still = tt }

  -- a link at home is quiet where the outer one is clear
  quiet_at : (seen before.outer).clear → IsQuietAt made publishing (home_seen seen before)
  quiet_at clear = record {
    tells = ap (λ (h : Held Cutting). Some (side_of chosen_cuts h)) held;
    valid = valid;
    honest = clear;
    quiet = clear;
  }

  heard_at : AreHeardAt made publishing all x.lines (home_seen seen x.behind)
  heard_at = plays_heard made publishing all cache x.played before x.behind x.lines still_at x.plays

  pub admits : HaveAdmitted made publishing all admitted
  admits = record {
    store = heard_at.heard.store;
    lines = x.lines;
    heard = heard_at.heard.heard;
    is =
        let grown = x.admits (side_with made publishing (store_of made publishing.base_moment)) (side_with made publishing heard_at.heard.store) still_at.tells heard_at.tells in
        omega (arith, grown);
  }

  replayed : IsReplayed made publishing all cache (seen before.outer) (seen after.outer) text ends
  replayed =
      let caused = plays_caused publishing.base all cache x.played x.ended before x.behind after x.lines ends turns x.plays x.rounds x.have_ended in
      record {
        lines = x.lines;
        heard = heard_at.heard;
        text_is = x.text_is;
        one_each = caused.one_each;
        caused = caused.caused;
        clear = caused.clear;
        not_fallen = caused.not_fallen;
        right = λ clear short.
            plays_right made publishing all cache x.played x.ended before x.behind after x.lines ends caused.caused.met turns (quiet_at clear) short x.plays x.rounds x.have_ended caused.met_in;
      }

  -- the event sequence is replayed over the link that was handed in and the one that is given back
  pub replayed_over : (link back : L) → before.outer ≡ link → back ≡ after.outer → IsReplayed made publishing all cache (seen link) (seen back) text ends
  replayed_over link back was is =
      subst (λ (l : L). IsReplayed made publishing all cache (seen l) (seen back) text ends) was
      (subst (λ (l : L). IsReplayed made publishing all cache (seen before.outer) (seen l) text ends) (sym is) replayed)

-- what is left of the outer link is left of the one that was handed in
pub left_outside : {L : Type 0} (seen : L → LinkSeen) (outer left link back : L) → outer ≡ link → back ≡ left → IsLeftByPasses (seen outer) (seen left) → IsLeftByPasses (seen link) (seen back)
left_outside {L} seen outer left link back was is passes =
    subst (λ (l : L). IsLeftByPasses (seen l) (seen back)) was (subst (λ (l : L). IsLeftByPasses (seen outer) (seen l)) (sym is) passes)
