-- What is left of an honest link, step after step.
use Rattle.std.proofs.Common.{ℕ, ◌≤◌, List, Option, refl, ◌∙◌, arith}
use Rattle.connection_uri.specs.Base.{BaseParts}
use Rattle.lc_world.specs.Link.{IsGet, IsHonestWith, LinkSeen}
use Rattle.page_client.specs.Request.{Asks}
use Rattle.lc_world.specs.Sides.Side.{Side}
use Rattle.lc_world.proofs.SidesLemmas.LaterLemmas.{later_itself, later_on}
use Rattle.convoy.specs.Agreement.Leaves.{LeavesHonest}

-- who asks makes a GET
pub is_get : (base : BaseParts) (target : List ℕ) (known : Option ℕ) (request : List ℕ) → Asks base target known request → IsGet request
is_get base target known request asks = record { request = asks.request; whole = asks.is_whole; method_is = asks.says.method_is }

pub no_less : (n : ℕ) → n ≤ n
no_less n = omega arith

pub no_less_then : (a b c : ℕ) → a ≤ b → b ≤ c → a ≤ c
no_less_then a b c first second = omega arith

-- a link that is left alone
pub leaves_alone : (base : BaseParts) (side : Side) (link : LinkSeen) → IsHonestWith link base side → LeavesHonest base side side link link
leaves_alone base side link honest = record {
  honest = honest;
  later = later_itself side;
  same = λ quiet. refl;
  quiet = λ quiet. quiet;
  clear = λ clear. clear;
  not_fallen = no_less link.faults;
}

-- one step and then another
pub leaves_then : (base : BaseParts) (side mid left : Side) (a b c : LinkSeen) → LeavesHonest base side mid a b → LeavesHonest base mid left b c → LeavesHonest base side left a c
leaves_then base side mid left a b c first second = record {
  honest = second.honest;
  later = later_on side mid left first.later second.later;
  same = λ quiet. second.same (first.quiet quiet) ∙ first.same quiet;
  quiet = λ quiet. second.quiet (first.quiet quiet);
  clear = λ clear. second.clear (first.clear clear);
  not_fallen = no_less_then a.faults b.faults c.faults first.not_fallen second.not_fallen;
}
