-- Honest links: one whose side stays, and one after which an answer is handed on.
use Rattle.std.proofs.Common.{◌≡◌, ◌∙◌, ℕ, List, Option, Some, refl, sym, ap, subst}
use Rattle.std.specs.Prelude.{OnOk, Result, Ok, Err, unwrap_or}
use Rattle.connection_uri.specs.Base.{BaseParts}
use Rattle.lc_world.specs.Link.{IsGet, IsHonest, StaysHonest}
use Rattle.lc_world.specs.declared.link.LinkFail.{LinkFail}
use Rattle.lc_world.specs.Sides.Reply.{IsNextSide, IsReply}
use Rattle.lc_world.specs.Sides.Short.{StandsUnder}
use Rattle.lc_world.specs.Sides.Side.{Side}
use Rattle.lc_world.proofs.SidesLemmas.LaterLemmas.{later_itself}
use Rattle.lc_links.proofs.GetLemmas.{get_leaves}

-- a link of which nothing has to be said but its side
abbrev pub Stays : {T : Type 0} → BaseParts → Side → Side → List ℕ → List ℕ → Result T LinkFail → Type 0
Stays base before after request reply result = StaysHonest base before (Unit {0}) (Some after) (Unit {0}) (Unit {0}) request reply result

abbrev pub Honest : BaseParts → Side → Side → Type 0
Honest base recorded side = IsHonest (Some recorded) (Unit {0}) base side

-- the side that is recorded is the one with which the link is honest
recorded_side : (base : BaseParts) (recorded side : Side) → Honest base recorded side → recorded ≡ side
recorded_side base recorded side honest = ap (λ (o : Option Side). unwrap_or o recorded) honest.tells

-- a link whose side stays is honest with it
pub side_stays : {T : Type 0} (base : BaseParts) (side before after : Side) (request reply : List ℕ) (result : Result T LinkFail) → Honest base before side
    → after ≡ before → OnOk result (IsReply before request reply) → Stays base side after request reply result
side_stays {T} base side before after request reply result honest same replied =
    let recorded : before ≡ side = recorded_side base before side honest in
    let P : Side → Type 0 = λ s. Stays base side s request reply result in
    let Q : Side → Type 0 = λ s. OnOk result (IsReply s request reply) in
    subst P (sym (same ∙ recorded)) record {
      side = side;
      honest = record { tells = refl; stands = honest.stands; honest = tt };
      later = later_itself side;
      replied = subst Q recorded replied;
      same = λ _. refl;
      quiet = λ _. tt;
    }

-- which is so after a GET
pub get_stays : {T : Type 0} (base : BaseParts) (side before after : Side) (request reply : List ℕ) (result : Result T LinkFail) → IsGet request
    → Honest base before side → IsNextSide before request after → OnOk result (IsReply before request reply) → Stays base side after request reply result
get_stays base side before after request reply result get honest next replied =
    side_stays base side before after request reply result honest (get_leaves before request after get next) replied

-- the reply is the answer where the link to which it was handed on is clear
handed : {T : Type 0} (side : Side) (clear : Type 0) (request answer reply : List ℕ) (result : Result T LinkFail)
    → clear → OnOk result (clear → reply ≡ answer) → IsReply side request answer → OnOk result (IsReply side request reply)
handed side clear request answer reply (Ok done) is same replied = subst (λ (bytes : List ℕ). IsReply side request bytes) (sym (same is)) replied
handed side clear request answer reply (Err fail) is same replied = tt

-- a link that hands its answers on to a clear one is as honest as the one that answers
pub handed_on : {T : Type 0} (base : BaseParts) (side after : Side) (clear now_clear : Type 0) (request answer reply : List ℕ) (answered : T) (result : Result T LinkFail)
    → Stays base side after request answer (Ok answered) → clear → (clear → now_clear) → OnOk result (clear → reply ≡ answer)
    → StaysHonest base side clear (Some after) now_clear now_clear request reply result
handed_on base side after clear now_clear request answer reply answered result stays is stays_clear same = record {
  side = stays.side;
  honest = record { tells = stays.honest.tells; stands = stays.honest.stands; honest = stays_clear is };
  later = stays.later;
  replied = handed stays.side clear request answer reply result is same stays.replied;
  same = λ _. stays.same tt;
  quiet = stays_clear;
}

-- a link at which nothing was answered is as honest as before
pub not_handed_on : {T : Type 0} (base : BaseParts) (side after : Side) (clear : Type 0) (request reply : List ℕ) (fail other : LinkFail)
    → Stays {T = T} base side after request reply (Err fail) → clear
    → StaysHonest {T = T} base side clear (Some after) clear clear request reply (Err other)
not_handed_on base side after clear request reply fail other stays is = record {
  side = stays.side;
  honest = record { tells = stays.honest.tells; stands = stays.honest.stands; honest = is };
  later = stays.later;
  replied = tt;
  same = λ _. stays.same tt;
  quiet = λ _. is;
}

-- a link that a call has not reached is as honest as before
pub not_reached : {T : Type 0} (base : BaseParts) (side : Side) (recorded : Option Side) (said quiet : Type 0) (request reply : List ℕ) (fail : LinkFail)
    → IsHonest recorded said base side → StaysHonest {T = T} base side quiet recorded said quiet request reply (Err fail)
not_reached base side recorded said quiet request reply fail honest = record {
  side = side;
  honest = honest;
  later = later_itself side;
  replied = tt;
  same = λ _. refl;
  quiet = λ is. is;
}

-- after an error nothing is in the reply
pub without_reply : {T : Type 0} (base : BaseParts) (side : Side) (was_quiet : Type 0) (recorded : Option Side) (said quiet : Type 0) (request reply other : List ℕ) (fail now : LinkFail)
    → StaysHonest {T = T} base side was_quiet recorded said quiet request reply (Err fail) → StaysHonest {T = T} base side was_quiet recorded said quiet request other (Err now)
without_reply base side was_quiet recorded said quiet request reply other fail now stays = record {
  side = stays.side;
  honest = stays.honest;
  later = stays.later;
  replied = tt;
  same = stays.same;
  quiet = stays.quiet;
}
