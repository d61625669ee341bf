use Rattle.std.proofs.Common.{◌≡◌, ◌<◌, ◌∙◌, None, ap, arith, length, rules}
use Rattle.std.proofs.lemmas.Int.{to_z-of_z}
use Rattle.std.proofs.lemmas.List.{get_or_read}
use Rattle.std.specs.Option.{option_copied}
use mir.Syntax.{w128}
use mir.Val.{SFits}
use Rattle.lc_model.specs.Versions.Naming.{namings, news_at_place}
use Rattle.live_calls.proofs.LiveLemmas.{live_more}
use Rattle.live_calls.proofs.run_calls.calls_with.Goals as goal

pub calls-preserved : goal.calls-preserved
calls-preserved c =
    let calls = c.args.calls.now in
    let all = namings calls 0 c.args.stops.now in
    let place = c.calls.place in
    let named = c.in_ok-named.named.items in
    let telling = c.stated_call-telling in
    let inside : place < length calls = search rules in
    let there : place < length named = omega (arith, c.in_ok-named.ensures.one_each) in
    let of_news : option_copied c.index.result.now ≡ news_at_place all place =
    ap option_copied (get_or_read named place c.index.result.now there c.index.ensures None) ∙ c.in_ok-named.ensures.last place inside in
    let fits : SFits w128 telling.result.late = search rules in
    rw (to_z-of_z w128 telling.result.late fits)
    (record {
      late = telling.ensures.bounded;
      walk = live_more all calls place _ _ _ _ _ _ _ _ _ _ inside c.index-calls-place.is of_news telling.ensures.stated c.in_ok-before.ensures c.calls.invariant.walk;
    })
