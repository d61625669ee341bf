-- The turns of one client: what they leave of the others, and how many exchanges are left to it.
use Rattle.std.proofs.Common.{◌≡◌, ◌≢◌, ℕ, ◌≤◌, ◌-◌, true, List, [], ◌∷◌, Option, Some, None, is_some, IfSome, Bor, length, refl, ap, ◌∙◌, subst, arith}
use Rattle.std.specs.List.{slice_get, slice_index_or}
use Rattle.std.specs.Option.{option_copied}
use Rattle.std.proofs.lemmas.List.{get_or-set_other, length-set}
use Rattle.csa_scan.proofs.ListPlacesLemmas.{item_within}
use Rattle.lc_world.specs.Link.{LinkSeen}
use Rattle.page_client.specs.Client.{shown}
use Rattle.page_client.specs.Shown.{exchanges_left}
use Rattle.page_client.specs.declared.outcome.Outcome.{Outcome}
use Rattle.convoy.specs.Finish.{Ends, IsStep, Keeps, Step, TurnsOf}
use Rattle.convoy.specs.State.{ConvoyState}
use Rattle.convoy.specs.declared.member.Member.{Member}
use Rattle.convoy.specs.declared.turn.Turn.{Turn}

-- client k alone had turns so far
pub record SoFar {X : Type 0} (seen : X → LinkSeen) (k : ℕ) (old new : ConvoyState) (before after : X) : Type 0 where
  pub steps : List (Step X)
  pub turns : TurnsOf seen k steps old new before after
  pub others : (j : ℕ) (d : Member) → j ≢ k - 1 → slice_index_or new.members j d ≡ slice_index_or old.members j d
  pub keeps : Keeps old new

-- it had none yet
pub no_turns : {X : Type 0} (seen : X → LinkSeen) (k : ℕ) (convoy : ConvoyState) (link : X) → SoFar seen k convoy convoy link link
no_turns seen k convoy link = record {
  steps = [];
  turns = (refl, refl);
  others = λ j d other. refl;
  keeps = record { clients = refl; base = refl; spent = refl };
}

-- and has one more
pub one_more :
    {X : Type 0} (seen : X → LinkSeen) (k : ℕ) (old mid new : ConvoyState) (before link after : X) (turn : Turn) →
    SoFar seen k old mid before link → IsStep seen k mid new link after turn → SoFar seen k old new before after
one_more seen k old mid new before link after turn so_far step =
    let t = step.turned in
    record {
      steps = record { convoy = mid; link = link; turn = turn } ∷ so_far.steps;
      turns = (step, so_far.turns);
      others = λ j d other. ap (λ (members : List Member). slice_index_or members j d) t.members ∙ get_or-set_other mid.members (k - 1) j t.is d other ∙ so_far.others j d other;
      keeps = record {
        clients = ap length t.members ∙ length-set mid.members (k - 1) t.is ∙ so_far.keeps.clients;
        base = t.base ∙ so_far.keeps.base;
        spent = t.spent ∙ so_far.keeps.spent;
      };
    }

-- how many exchanges are left to a member, if there is one
abbrev pub left_of : Option Member → ℕ
left_of None = 0
left_of (Some m) = exchanges_left (shown m.client)

-- how many exchanges are left to client k
abbrev pub left_to : List Member → ℕ → ℕ
left_to members k = left_of (slice_get members (k - 1))

-- an outcome that is handed out is there
there : (o : Option (Bor Outcome)) (outcome : Option Outcome) → option_copied o ≡ outcome → is_some o ≡ true → is_some outcome ≡ true
there None outcome is some = absurd (cc)
there (Some r) outcome is some = subst (λ (o : Option Outcome). is_some o ≡ true) is refl

-- where the client has its outcome it needs no turn more
pub ends :
    {X : Type 0} (seen : X → LinkSeen) (k : ℕ) (old new : ConvoyState) (before after : X) (o : Option (Bor Outcome)) →
    SoFar seen k old new before after → 1 ≤ k → k ≤ length old.members →
    IfSome (slice_get new.members (k - 1)) (λ m. option_copied o ≡ (shown m.client).outcome) → is_some o ≡ true → Ends seen k old new before after
ends seen k old new before after o so_far from_one clients is some =
    let same = so_far.keeps.clients in
    let m = item_within new.members (k - 1) (omega arith) in
    record {
      steps = so_far.steps;
      turns = so_far.turns;
      member = m.0;
      is = m.1;
      ended = there o (shown m.0.client).outcome (subst (λ (at : Option Member). IfSome at (λ m. option_copied o ≡ (shown m.client).outcome)) m.1 is) some;
    }
