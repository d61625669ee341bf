-- The counts of a fault of the link are those around the last exchange.
use Rattle.std.proofs.Common.{◌≡◌, ◌∙◌, ℕ, zero, suc, ◌+◌, ◌-◌, ◌^◌, ◌<◌, ◌≤◌, List, [], ◌∷◌, Some, ap, arith, length, refl, sym}
use Rattle.std.specs.List.{slice_get}
use Rattle.std.proofs.lemmas.List.{length-map}
use Rattle.lc_io.specs.Counts.{Rose}
use Rattle.lc_world.specs.Link.{LinkSeen}
use Rattle.convoy.specs.Replies.Made.{Made}
use Rattle.convoy.specs.Replies.Met.{CountAlong, Met}
use Rattle.back_client.specs.Ends.ReplyLaws.{LatestFaultsAreAroundLast, NoLatestFaultIsShrunken}

-- before the only one the count is that at first
first_low : (all : List Met) (faults now place : ℕ) (one : Met) → length all ≡ 1 → CountAlong faults now all → slice_get all place ≡ Some one → one.low ≡ faults
first_low [] faults now place one is along there = absurd (cc)
first_low (m ∷ []) faults now zero one is along there = let same : m ≡ one = cc in ap (λ (x : Met). x.low) (sym same) ∙ along.0
first_low (m ∷ []) faults now (suc place) one is along there = absurd (cc)
first_low (m ∷ x ∷ all) faults now place one is along there = absurd (omega (arith, is))

-- a count that increased by one in all increased in the last exchange alone
only_rise : (before now low high : ℕ) → before ≤ low → Rose low high → high ≡ now → now ≡ before + 1 → now < 2 ^ 64 - 1 → low ≡ before
only_rise before now low high from rose is one less = omega (arith, from, rose, is, one, less)

pub latest_faults_are_around_last : {X : Type 0} (seen : X → LinkSeen) → LatestFaultsAreAroundLast seen
latest_faults_are_around_last seen base question before after version exchanges low high asked =
    let cut = asked.ends in
    let counted = asked.along in
    let f = counted.fault low high refl in
    let all = counted.met in
    record {
      now_is = cut.now_is;
      before_is = λ one. sym f.low_is
          ∙ first_low all (seen before).faults (seen after).faults f.place f.exchange
          (sym (length-map all (λ (met : Met). met.made)) ∙ ap (λ (l : List Made). length l) (sym counted.are) ∙ sym asked.counted ∙ one) counted.along f.there;
      by_one = λ one less. only_rise (seen before).faults (seen after).faults low high cut.from cut.rose cut.now_is one less;
    }

no_less_at_once : (now low high : ℕ) → Rose low high → high ≡ now → high - 1 ≡ now → ⊥
no_less_at_once now low high rose is less = omega (arith, rose, is, less)

pub no_latest_fault_is_shrunken : {X : Type 0} (seen : X → LinkSeen) → NoLatestFaultIsShrunken seen
no_latest_fault_is_shrunken seen base question before after version exchanges low high asked shrunken = no_less_at_once (seen after).faults low high asked.ends.rose asked.ends.now_is shrunken.ends.now_is
