-- What calls leave of a link is left by no call, by one, and by more calls after it.
use Rattle.std.proofs.Common.{◌≡◌, ℕ, ◌≤◌, List, [], ◌∷◌, ◌++◌, Option, Some, None, option_map, Result, Ok, Err, inl, inr, refl, ap, ◌∙◌, sym, subst, append-nil, append_assoc, arith}
use Rattle.connection_uri.specs.Base.{BaseParts}
use Rattle.lc_world.specs.Sides.Side.{Side}
use Rattle.lc_world.proofs.SidesLemmas.LaterLemmas.{later_itself, later_on}
use Rattle.lc_world.specs.GoneOn.{HasGoneOn, IsLeftByPasses, IsLeftByGets, IsLeftHonest, RecordsMore}
use Rattle.lc_world.specs.Link.{Exchanges, IsGet, IsHonestWith, LinkSeen, Tells, TellsMore}
use Rattle.lc_world.specs.declared.entry.Entry.{Entry}
use Rattle.lc_world.specs.declared.link.LinkFail.{LinkFail}
use Rattle.lc_world.specs.declared.link.LinkFail.TheVariants.{Failed, NoMemory}

no_more : (recorded : Option (List Entry)) → RecordsMore recorded recorded
no_more None = record { more = []; is = refl }
no_more (Some recorded) = record { more = []; is = ap Some (sym (append-nil recorded)) }

joined : (recorded : Option (List Entry)) (one two : List Entry) →
    option_map (λ (t : List Entry). t ++ two) (option_map (λ (t : List Entry). t ++ one) recorded) ≡ option_map (λ (t : List Entry). t ++ (one ++ two)) recorded
joined None one two = refl
joined (Some recorded) one two = ap Some (append_assoc recorded one two)

more_then : (a b c : Option (List Entry)) → RecordsMore a b → RecordsMore b c → RecordsMore a c
more_then a b c one two = record {
  more = one.more ++ two.more;
  is = two.is ∙ ap (option_map (λ (t : List Entry). t ++ two.more)) one.is ∙ joined a one.more two.more;
}

one_more : (before after : Option (List Entry)) (authority request : List ℕ) (given : Option (List ℕ)) → TellsMore before after authority request given → RecordsMore before after
one_more before after authority request given tells = record { more = record { authority = authority; request = request; reply = tells.reply } ∷ []; is = tells.is }

-- an exchange is recorded behind the others, if it is
recorded_by : {T : Type 0} (before after : Option (List Entry)) (authority request reply : List ℕ) (result : Result T LinkFail) → Tells before after authority request reply result → RecordsMore before after
recorded_by before after authority request reply (Ok done) tells = one_more before after authority request (Some reply) tells
recorded_by before after authority request reply (Err Failed) tells = one_more before after authority request None tells
recorded_by before after authority request reply (Err NoMemory) (inl same) = subst (RecordsMore before) (sym same) (no_more before)
recorded_by before after authority request reply (Err NoMemory) (inr tells) = one_more before after authority request None tells

no_less : (n : ℕ) → n ≤ n
no_less n = omega arith

no_less_then : (a b c : ℕ) → a ≤ b → b ≤ c → a ≤ c
no_less_then a b c first second = omega arith

pub goes_on_itself : (link : LinkSeen) → HasGoneOn link link
goes_on_itself link = record { not_fallen = no_less link.faults; recorded_more = no_more link.recorded; clear = λ clear. clear }

pub goes_on_then : (a b c : LinkSeen) → HasGoneOn a b → HasGoneOn b c → HasGoneOn a c
goes_on_then a b c first second = record {
  not_fallen = no_less_then a.faults b.faults c.faults first.not_fallen second.not_fallen;
  recorded_more = more_then a.recorded b.recorded c.recorded first.recorded_more second.recorded_more;
  clear = λ clear. second.clear (first.clear clear);
}

-- no answer was handed on, and then more
pub no_passes : (link : LinkSeen) → IsLeftByPasses link link
no_passes link = record { gone_on = goes_on_itself link; side = refl }

pub passes_then : (a b c : LinkSeen) → IsLeftByPasses a b → IsLeftByPasses b c → IsLeftByPasses a c
passes_then a b c first second = record { gone_on = goes_on_then a b c first.gone_on second.gone_on; side = second.side ∙ first.side }

-- there was no GET, and then more
pub no_gets : (link : LinkSeen) → IsLeftByGets link link
no_gets link = record {
  gone_on = goes_on_itself link;
  honest = λ base side honest. record { left = side; honest = honest; later = later_itself side; same = λ quiet. refl; quiet = λ quiet. quiet };
  still = λ still. still;
  side = λ still. refl;
}

-- more GETs
left_then : (a b c : LinkSeen) (base : BaseParts) (side : Side) (first : IsLeftHonest a b base side) → IsLeftHonest b c base first.left → IsLeftHonest a c base side
left_then a b c base side first second = record {
  left = second.left;
  honest = second.honest;
  later = later_on side first.left second.left first.later second.later;
  same = λ quiet. second.same (first.quiet quiet) ∙ first.same quiet;
  quiet = λ quiet. second.quiet (first.quiet quiet);
}

pub gets_then : (a b c : LinkSeen) → IsLeftByGets a b → IsLeftByGets b c → IsLeftByGets a c
gets_then a b c first second = record {
  gone_on = goes_on_then a b c first.gone_on second.gone_on;
  honest = λ base side honest. let left = first.honest base side honest in left_then a b c base side left (second.honest base left.left left.honest);
  still = λ still. second.still (first.still still);
  side = λ still. second.side (first.still still) ∙ first.side still;
}

-- one exchange was made, however it ended
pub one_get :
    {T : Type 0} (before after : LinkSeen) (authority request reply : List ℕ) (result : Result T LinkFail) → IsGet request →
    ((base : BaseParts) (side : Side) → IsGet request → IsHonestWith before base side → Exchanges before after base side request reply result) →
    (before.clear → after.clear) → (before.still → after.still) → (before.still → IsGet request → after.side ≡ before.side) →
    Tells before.recorded after.recorded authority request reply result → before.faults ≤ after.faults → IsLeftByGets before after
one_get before after authority request reply result get honest clear still side tells not_fallen = record {
  gone_on = record { not_fallen = not_fallen; recorded_more = recorded_by before.recorded after.recorded authority request reply result tells; clear = clear };
  honest = λ base at is. let x = honest base at get is in record { left = x.side; honest = x.honest; later = x.later; same = x.same; quiet = x.quiet };
  still = still;
  side = λ was. side was get;
}
