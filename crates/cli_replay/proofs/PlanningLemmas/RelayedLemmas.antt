-- What clients that planned over a relay say of the link below it.
use Rattle.std.proofs.Common.{◌≡◌, ◌∙◌, ◌+◌, ◌-◌, ◌^◌, ◌++◌, ◌∷◌, [], ℕ, zero, suc, Bool, true, List, Option, Some, Result, Ok, Err, ap, ap₂, append-nil, arith, length, min, refl, subst, sym}
use Rattle.std.specs.Prelude.{IfOk, OnOk, slice_get}
use Rattle.cli_ask.specs.declared.end.ClientEnd.{ClientEnd}
use Rattle.cli_replay.specs.Planning.Laws.{CountsAreGrowth, RelaysPlanRight}
use Rattle.cli_replay.specs.Planning.Relayed.{IsRelayed, counts_line_of, exchanges_in, relay_over}
use Rattle.cli_replay.specs.Planning.RelayedBy.{IsLeftBelow, IsRelayedBy}
use Rattle.cli_replay.proofs.PlanningLemmas.SumLemmas.{all_asked, ends_summed, recorded_len, sum_after}
use Rattle.connection_uri.specs.Base.{BaseParts}
use Rattle.cli_replay.specs.PlanLaws.Planned.{IsPlanned}
use Rattle.cli_replay.specs.ReplayLaws.Caused.{AreCaused}
use Rattle.cli_replay.specs.ReplayLaws.Events.{questions_in}
use Rattle.cli_replay.specs.declared.replay_laws.event.Event.{Event}
use Rattle.convoy.specs.Replies.Met.{asked_in, exchanges_by}
use Rattle.lc_world.specs.GoneOn.{IsLeftByGets}
use Rattle.lc_world.specs.Link.{LinkSeen}
use Rattle.lc_world.specs.declared.entry.Entry.{Entry}
use Rattle.page_relay.specs.Laws.{CountsAreLengths, CountsAreSince, LeavesBelow, NewIsHonest}
use Rattle.page_relay.specs.Relay.{HasRelayedOf, RelayState, beginning_of, new_relay, relay_seen, relayed_seen, transcript_in, transcript_of}
use Rattle.page_relay.specs.Recorded.{HasRelayed, IsRecorded}

same_list : (a b : List Entry) → Some a ≡ Some b → a ≡ b
same_list a b e = cc

-- after an equal front lists are equal where the whole is
after_front : (front xs ys : List Entry) → front ++ xs ≡ front ++ ys → xs ≡ ys
after_front [] xs ys e = e
after_front (entry ∷ front) xs ys e = after_front front xs ys (cc)

-- what has as many places is there too
some_at : {A B : Type 0} (a : List A) (b : List B) (place : ℕ) (x : A) → length a ≡ length b → slice_get a place ≡ Some x → (y : B) × (slice_get b place ≡ Some y)
some_at [] b place x same is = absurd (none place is) where
  none : (n : ℕ) → slice_get [] n ≡ Some x → ⊥
  none n e = cc
some_at (first ∷ a) [] place x same is = absurd (cc)
some_at (first ∷ a) (second ∷ b) zero x same is = (second, refl)
some_at (first ∷ a) (second ∷ b) (suc n) x same is = some_at a b n x (cc) is

-- the exchanges of the clients are those that a relay recorded
made_count : (base : BaseParts) (all : List Event) (cache entries : ℕ) (made : Option (List Entry)) (own : List Entry) (faults now_faults : ℕ) (ends : List ClientEnd) → length ends ≡ length (questions_in all)
    → AreCaused base all cache (Some (transcript_of base entries made [])) (Some (transcript_of base entries made own)) faults now_faults ends → exchanges_in ends ≡ length own
made_count base all cache entries made own faults now_faults ends one_each caused =
    let met = caused.met in
    let recorded = caused.by_replies.recorded in
    let front = beginning_of base entries made in
    let grown : front ++ own ≡ front ++ recorded.entries = same_list (front ++ own) ((front ++ []) ++ recorded.entries) recorded.is ∙ ap (λ (list : List Entry). list ++ recorded.entries) (append-nil front) in
    let by_client : (place number : ℕ) (end : ClientEnd) → number ≡ (0 + place) + 1 → slice_get ends place ≡ Some end → end.exchanges ≡ exchanges_by number met =
    λ place number end e is.
    let query = some_at ends (questions_in all) place end one_each is in
    let same : number ≡ place + 1 = omega (arith, e) in
    subst (λ (n : ℕ). end.exchanges ≡ exchanges_by n met) (sym same) (caused.clients place query.0 end query.1 is).exchanges in
    ends_summed (λ k. exchanges_by k met) 0 ends by_client
    ∙ ap (λ (n : ℕ). sum_after (λ k. exchanges_by k met) 0 n) one_each
    ∙ all_asked (length (questions_in all)) met caused.by_replies.by_clients
    ∙ recorded_len base (questions_in all) (asked_in met) recorded.entries recorded.are
    ∙ ap length (sym (after_front front own recorded.entries grown))

module _ {X : Type 0} (seen : X → LinkSeen) where
  -- what was planned over a new relay of a link, as it is said of the link
  pub is_relayed : CountsAreSince seen → (base own_base : BaseParts) (all : List Event) (cache entries : ℕ) (before after : X) (text : List ℕ) (ends : List ClientEnd) → own_base ≡ base
      → IsRelayedBy seen base all cache (new_relay before own_base entries) after text ends → IsRelayed base all cache entries (seen before) (seen after) text ends
  is_relayed counts_since base own_base all cache entries before after text ends same x =
      by (subst (λ (b : BaseParts). IsRelayedBy seen base all cache (new_relay before b entries) after text ends) same x) where
        by : IsRelayedBy seen base all cache (new_relay before base entries) after text ends → IsRelayed base all cache entries (seen before) (seen after) text ends
        by x =
            let relay = x.left.after in
            let own = x.left.left.gone_on.recorded_more.more in
            let made = (seen before).recorded in
            let kept = relay.exchanger.memory.kept in
            let since = counts_since before base entries relay x.left.has x.left.left.gone_on.recorded_more in
            let transcript = same_list (transcript_in seen relay) (transcript_of base entries made own) since.recorded_is in
            let Plans : X → List Entry → Type 0 = λ link list. IsPlanned base all cache (relay_over base entries (seen before)) (relayed_seen (seen link) list kept) x.blocks ends in
            let planned : Plans after (transcript_of base entries made own) = subst (λ (link : X). Plans link (transcript_of base entries made own)) (sym x.left.below) (subst (Plans relay.exchanger.inner) transcript x.planned) in
            let Has : X → Bool → Type 0 = λ link exact. HasRelayed base entries made (seen link).recorded kept own relay.relayed relay.exchanger.forwarded exact in
            let has : Has after true = subst (λ (link : X). Has link true) (sym x.left.below) (subst (Has relay.exchanger.inner) x.exact since.has) in
            record {
              blocks = x.blocks;
              own = own;
              kept = kept;
              planned = planned;
              relayed = relay.relayed;
              forwarded = relay.exchanger.forwarded;
              has = has;
              relayed_is = has.recorded.relayed_is refl ∙ ap (λ (n : ℕ). min n (2 ^ 64 - 1)) (sym (made_count base all cache entries made own (seen before).faults (seen after).faults ends planned.one_each planned.caused));
              text_is = x.text_is;
            }

  -- what was planned over a relay that is left so, with the line of its counts
  pub relayed_by : (base : BaseParts) (all : List Event) (cache : ℕ) (before after : RelayState X) (link : X) (blocks text : List ℕ) (ends printed : List ClientEnd) (exact : Bool) (relayed forwarded : ℕ) → link ≡ after.exchanger.inner
      → HasRelayedOf seen after → IsLeftByGets (relay_seen seen before) (relay_seen seen after) → IsPlanned base all cache (relay_seen seen before) (relay_seen seen after) blocks ends → exact ≡ after.exact
      → relayed ≡ after.relayed → forwarded ≡ after.exchanger.forwarded → exact ≡ true → text ≡ blocks ++ counts_line_of relayed forwarded → printed ≡ ends → IsRelayedBy seen base all cache before link text printed
  relayed_by base all cache before after link blocks text ends printed exact relayed forwarded below has left planned exact_is relayed_is forwarded_is is_exact text_is same = record {
    left = record { after = after; below = below; has = has; left = left };
    blocks = blocks;
    planned = subst (IsPlanned base all cache (relay_seen seen before) (relay_seen seen after) blocks) (sym same) planned;
    exact = sym exact_is ∙ is_exact;
    text_is = text_is ∙ ap₂ (λ (r f : ℕ). blocks ++ counts_line_of r f) relayed_is forwarded_is;
  }

  -- and what is left of it
  pub is_left : LeavesBelow seen → (base : BaseParts) (entries : ℕ) (before after : X) → IsLeftBelow seen (new_relay before base entries) after → IsLeftByGets (seen before) (seen after)
  is_left leaves_below base entries before after x =
      subst (λ (link : X). IsLeftByGets (seen before) (seen link)) (sym x.below) (leaves_below before base entries x.after x.has x.left)

  pub plans_right : NewIsHonest seen → RelaysPlanRight seen
  plans_right new_is_honest base first all cache entries before after text ends x honest =
      let relay_honest = new_is_honest before base base first entries honest in
      let planned = x.planned.right first relay_honest in
      record {
        planned = planned;
        honest = record { tells = planned.leaves.honest.tells; stands = planned.leaves.honest.stands; honest = planned.leaves.honest.honest.below_honest };
        replies = x.planned.replies first relay_honest;
      }

  pub counts_growth : CountsAreLengths → CountsAreGrowth seen
  counts_growth lengths base all cache entries before after text ends made now x made_is now_is =
      (lengths made now x.kept x.own x.relayed x.forwarded
      (subst (λ (o : Option (List Entry)). IsRecorded o (Some now) x.kept x.own x.relayed x.forwarded true) made_is
      (subst (λ (o : Option (List Entry)). IsRecorded (seen before).recorded o x.kept x.own x.relayed x.forwarded true) now_is x.has.recorded))).forwarded_is

-- facts of a result that come together
pub all_three : {T E : Type 0} (r : Result T E) (A : Type 0) (P Q R : T → Type 0) → (A → (v : T) → P v → Q v → R v) → OnOk r A → IfOk r P → IfOk r Q → IfOk r R
all_three (Ok v) A P Q R join a p q = join a v p q
all_three (Err e) A P Q R join a p q = tt

-- what holds of a value that is there
pub held_at : {T E : Type 0} (r : Result T E) (v : T) (P : T → Type 0) → r ≡ Ok v → IfOk r P → P v
held_at {T} {E} r v P is held = subst (λ (x : Result T E). IfOk x P) is held
