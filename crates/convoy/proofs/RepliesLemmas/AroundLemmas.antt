-- The counts of a fault of the link are those around the last exchange.
use Rattle.std.proofs.Common.{◌≡◌, ◌∙◌, ℕ, zero, suc, ◌+◌, ◌-◌, ◌^◌, ◌<◌, ◌≤◌, List, [], ◌∷◌, ◌++◌, Option, Some, None, ap, arith, length, map, refl, subst, sym}
use Rattle.std.specs.List.{All, slice_get}
use Rattle.std.proofs.lemmas.List.Elements.{All-cons, All-head, All-nil, All-tail}
use Rattle.std.proofs.lemmas.List.{length-map}
use Rattle.connection_uri.specs.Base.{BaseParts}
use Rattle.lc_io.specs.Counts.{Rose}
use Rattle.lc_model.specs.declared.page.PageName.{PageName}
use Rattle.lc_model.specs.declared.query.Query.{Query}
use Rattle.lc_world.specs.Link.{LinkSeen}
use Rattle.page_client.specs.declared.want.Want.{Want}
use Rattle.page_client.specs.declared.want.Want.TheVariants as wants
use Rattle.page_json.specs.declared.page.Page.{Page}
use Rattle.convoy.specs.Replies.Course.{WantsAfter, ReadsPages}
use Rattle.convoy.specs.Replies.Laws.{FaultsAreAroundLast, NoFaultIsShrunken}
use Rattle.convoy.specs.Replies.Made.{Made, failure_of, reply_to}
use Rattle.convoy.specs.Replies.Met.{CountAlong, Met}

-- the exchange was replied to
abbrev IsReplied : Made → Type 0
IsReplied made = made.got ≡ None → ⊥

replied : (made : Made) (want : Want) (reply : List ℕ) → made ≡ reply_to want reply → IsReplied made
replied made want reply is none = let e : Some reply ≡ None = sym (ap (λ (m : Made). m.got) is) ∙ none in cc

pages_replied : (base : BaseParts) (link : Option PageName) (made : List Made) (pages : List Page) → ReadsPages base link made pages → All IsReplied made
pages_replied base link [] pages reads = All-nil IsReplied
pages_replied base link (m ∷ made) [] reads = absurd reads
pages_replied base None (m ∷ made) (page ∷ pages) reads = absurd reads
pages_replied base (Some name) (m ∷ made) (page ∷ pages) reads =
    All-cons IsReplied m made (replied m (wants.Page name) reads.0.reply reads.0.is) (pages_replied base page.next made pages reads.1)

-- whatever a client wants, all before was replied to
come_replied : (base : BaseParts) (query : Query) (version : Option ℕ) (earlier : List Made) (want : Want) → WantsAfter base query version earlier want → All IsReplied earlier
come_replied base query version earlier wants.Gate came = subst (All IsReplied) (sym came.nothing_made) (All-nil IsReplied)
come_replied base query version earlier wants.Stops came =
    subst (All IsReplied) (sym came.was_made) (All-cons IsReplied (reply_to wants.Gate came.gate) [] (replied (reply_to wants.Gate came.gate) wants.Gate came.gate refl) (All-nil IsReplied))
come_replied base query version earlier (wants.Page name) came =
    let gate : Made = reply_to wants.Gate came.gate in
    let stops : Made = reply_to wants.Stops came.stops in
    subst (All IsReplied) (sym came.was_made)
    (All-cons IsReplied gate (stops ∷ came.for_pages) (replied gate wants.Gate came.gate refl)
    (All-cons IsReplied stops came.for_pages (replied stops wants.Stops came.stops refl) (pages_replied base (Some came.first) came.for_pages came.pages came.reads)))
come_replied base query version earlier wants.Finished came = absurd came

-- it was made as this
abbrev made_in : List Met → List Made
made_in all = map (λ (met : Met). met.made) all

-- the one that failed is the last, after which the count is that of now
last_high : (all : List Met) (earlier : List Made) (last : Made) (faults now place : ℕ) (one : Met) → made_in all ≡ earlier ++ last ∷ [] → All IsReplied earlier → CountAlong faults now all
    → slice_get all place ≡ Some one → one.made.got ≡ None → one.high ≡ now
last_high [] earlier last faults now place one is before along there failed = absurd (cc)
last_high (m ∷ []) [] last faults now zero one is before along there failed = let same : m ≡ one = cc in ap (λ (x : Met). x.high) (sym same) ∙ along.3
last_high (m ∷ []) [] last faults now (suc place) one is before along there failed = absurd (cc)
last_high (m ∷ x ∷ all) [] last faults now place one is before along there failed = absurd (cc)
last_high (m ∷ all) (e ∷ earlier) last faults now zero one is before along there failed =
    let same : m ≡ one = cc in
    let first : m.made ≡ e = cc in
    absurd (All-head IsReplied e earlier before (ap (λ (x : Made). x.got) (sym first) ∙ ap (λ (x : Met). x.made.got) same ∙ failed))
last_high (m ∷ all) (e ∷ earlier) last faults now (suc place) one is before along there failed =
    let rest : made_in all ≡ earlier ++ last ∷ [] = cc in
    last_high all earlier last m.high now place one rest (All-tail IsReplied e earlier before) along.3 there failed

-- before the only one the count is that at first
first_low : (all : List Met) (faults now place : ℕ) (one : Met) → length all ≡ 1 → CountAlong faults now all → slice_get all place ≡ Some one → one.low ≡ faults
first_low [] faults now place one is along there = absurd (cc)
first_low (m ∷ []) faults now zero one is along there = let same : m ≡ one = cc in ap (λ (x : Met). x.low) (sym same) ∙ along.0
first_low (m ∷ []) faults now (suc place) one is along there = absurd (cc)
first_low (m ∷ x ∷ all) faults now place one is along there = absurd (omega (arith, is))

-- a count that increased by one in all increased in the last exchange alone
only_rise : (before now low high : ℕ) → before ≤ low → Rose low high → high ≡ now → now ≡ before + 1 → now < 2 ^ 64 - 1 → low ≡ before
only_rise before now low high from rose is one less = omega (arith, from, rose, is, one, less)

pub faults_are_around_last : {X : Type 0} (seen : X → LinkSeen) → FaultsAreAroundLast seen
faults_are_around_last seen base query before after version exchanges low high asked =
    let cut = asked.ends in
    let counted = asked.along in
    let f = counted.fault low high refl in
    let all = counted.met in
    let now_is : high ≡ (seen after).faults =
    sym f.high_is
    ∙ last_high all cut.earlier (failure_of cut.want) (seen before).faults (seen after).faults f.place f.exchange (sym counted.are ∙ cut.was_made)
    (come_replied base query version cut.earlier cut.want cut.came) counted.along f.there f.failed in
    record {
      now_is = now_is;
      before_is = λ one. sym f.low_is
          ∙ first_low all (seen before).faults (seen after).faults f.place f.exchange
          (sym (length-map all (λ (met : Met). met.made)) ∙ ap (λ (l : List Made). length l) (sym counted.are) ∙ sym asked.counted ∙ one) counted.along f.there;
      by_one = λ one less. only_rise (seen before).faults (seen after).faults low high cut.from cut.rose now_is one less;
    }

pub no_fault_is_shrunken : {X : Type 0} (seen : X → LinkSeen) → NoFaultIsShrunken seen
no_fault_is_shrunken seen base query before after version exchanges low high asked shrunken =
    let is = faults_are_around_last seen base query before after version exchanges low high asked in
    let other = faults_are_around_last seen base query before after version exchanges (low + 1) (high - 1) shrunken in
    let same : high ≡ high - 1 = is.now_is ∙ sym other.now_is in
    let rose = asked.ends.rose in
    omega (arith, same, rose)
