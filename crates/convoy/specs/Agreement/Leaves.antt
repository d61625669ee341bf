-- What turns over an honest link leave: of the link, of a client, and of a convoy that agreed with the link's side.
use Rattle.std.specs.Prelude.{◌≡◌, ◌≢◌, ◌⊎◌, ℕ, ◌+◌, ◌-◌, ◌<◌, ◌≤◌, List, [], ◌∷◌, ◌++◌, length, Option, Some, None, slice_get, slice_set}
use Rattle.lc_io.specs.Counts.{Rose, RoseBy}
use Rattle.connection_uri.specs.Base.{BaseParts}
use Rattle.lc_world.specs.Link.{IsHonestWith, LinkSeen}
use Rattle.page_client.specs.Kept.{Kept}
use Rattle.page_client.specs.Client.{shown}
use Rattle.page_client.specs.Shown.{Shown, want_of}
use Rattle.page_client.specs.declared.outcome.Outcome.{Outcome}
use Rattle.page_client.specs.declared.outcome.Outcome.TheVariants.{LinkFault}
use Rattle.page_client.specs.declared.want.Want.{Want}
use Rattle.page_client.specs.declared.want.Want.TheVariants as wants
use Rattle.lc_world.specs.Sides.Side.{IsLater, Side}
use Rattle.convoy.specs.ClientLaws.Stated.{version_at}
use Rattle.convoy.specs.ClientLaws.Fits.{FitsSide}
use Rattle.convoy.specs.ClientLaws.Wants.{AreWants}
use Rattle.convoy.specs.Finish.{HasOutcome}
use Rattle.convoy.specs.State.{ConvoyState}
use Rattle.convoy.specs.declared.member.Member.{Member}
use Rattle.convoy.specs.declared.turn.Turn.{Turn}
use Rattle.convoy.specs.declared.turn.Turn.TheVariants.{Cached, Exchanged, Finished}
use Rattle.convoy.specs.Agreement.Agreement.{FitsConvoy}
use Rattle.convoy.specs.Agreement.Names.{AskByNames, Round, asked_of, failures_in, names_after, names_behind, names_of}
use Rattle.convoy.specs.Agreement.Requests.{TellsAsked, TellsRequests, requests_of}
use Rattle.convoy.specs.Agreement.Rounds.{round_with}

-- A link that was honest with the side is honest with a later one. Where it was quiet, it is honest with the same one, and quiet still. A
-- clear one is clear, and its count has not fallen.
pub record LeavesHonest (base : BaseParts) (side left : Side) (before after : LinkSeen) : Type 0 where
  pub honest : IsHonestWith after base left
  pub later : IsLater side left
  pub same : before.quiet base → left ≡ side
  pub quiet : before.quiet base → after.quiet base
  pub clear : before.clear → after.clear
  pub not_fallen : before.faults ≤ after.faults

-- the version is the one that is meant by the known moment at a side between these two
pub record IsNamedBetween (side left : Side) (known version : Option ℕ) : Type 0 where
  pub at : Side
  pub later : IsLater side at
  pub before : IsLater at left
  pub is : version ≡ Some (version_at at known)

-- the version after these were received: where they begin with the time gate's reply, one of which this holds, and else as before
abbrev pub VersionBy : (Option ℕ → Type 0) → Option ℕ → List Want → Option ℕ → Type 0
VersionBy IsSo before [] version = version ≡ before
VersionBy IsSo before (wants.Gate ∷ more) version = IsSo version
VersionBy IsSo before (wants.Stops ∷ more) version = version ≡ before
VersionBy IsSo before (wants.Page name ∷ more) version = version ≡ before
VersionBy IsSo before (wants.Finished ∷ more) version = version ≡ before

-- after a turn: the one that is meant at the side that is left
abbrev pub VersionThen : Side → Shown → List Want → Option ℕ → Type 0
VersionThen left old given version = VersionBy (λ (v : Option ℕ). v ≡ Some (version_at left old.query.known)) old.version given version

-- after turns: the one that was meant when the time gate replied
abbrev pub VersionAfter : Side → Side → Shown → List Want → Option ℕ → Type 0
VersionAfter side left old given version = VersionBy (IsNamedBetween side left old.query.known) old.version given version

-- it ended by a fault of the link, with these counts
pub record HasFault (s : Shown) : Type 0 where
  pub low : ℕ
  pub high : ℕ
  pub is : s.outcome ≡ Some (LinkFault low high)

-- the count increased from the one to the other of these two, while it went from before to after
pub record RoseWithin (before after low high : ℕ) : Type 0 where
  pub from : before ≤ low
  pub to : high ≤ after
  pub rose : Rose low high

-- What became of a client that received these wants. Its question stays, and its outcome once it has one. Its version is the one of the
-- time gate's reply. Where it ended by a fault of the link, the link's count increased meanwhile.
pub record HasMoved (side left : Side) (old new : Shown) (before after : LinkSeen) (given : List Want) : Type 0 where
  pub query : new.query ≡ old.query
  pub outcome : (ended : Outcome) → old.outcome ≡ Some ended → new.outcome ≡ Some ended
  pub version : VersionAfter side left old given new.version
  pub fault : (low high : ℕ) → old.outcome ≡ None → new.outcome ≡ Some (LinkFault low high) → RoseWithin before.faults after.faults low high

-- it alone asked, and for these wants: it has moved, and each exchange is counted, and recorded where the link records exchanges
pub record HasGone (base : BaseParts) (side left : Side) (old new : Member) (before after : LinkSeen) (given asked : List Want) : Type 0 where
  pub moved : HasMoved side left (shown old.client) (shown new.client) before after given
  pub count : new.exchanges ≡ old.exchanges + length asked
  pub recorded : TellsAsked before.recorded after.recorded base (shown old.client).query asked

-- it received nothing and asked for nothing: it had its outcome
pub record IsIdle (old new : Member) (given asked : List Want) : Type 0 where
  pub had : HasOutcome old
  pub same : new ≡ old
  pub none_given : given ≡ []
  pub none_asked : asked ≡ []

-- it received what it wanted, and asked for nothing
pub record WasKept (old new : Member) (given asked : List Want) : Type 0 where
  pub waited : want_of (shown old.client).phase ≢ wants.Finished
  pub is_given : given ≡ want_of (shown old.client).phase ∷ []
  pub none_asked : asked ≡ []
  pub no_fault : ¬ HasFault (shown new.client)

-- it received what it wanted, for which it asked
pub record WasReplied (old new : Member) (given asked : List Want) : Type 0 where
  pub waited : want_of (shown old.client).phase ≢ wants.Finished
  pub is_given : given ≡ want_of (shown old.client).phase ∷ []
  pub is_asked : asked ≡ want_of (shown old.client).phase ∷ []
  pub no_fault : ¬ HasFault (shown new.client)

-- what it wanted was asked for, and the link failed
pub record HadNoReply (old new : Member) (given asked : List Want) : Type 0 where
  pub waited : want_of (shown old.client).phase ≢ wants.Finished
  pub none_given : given ≡ []
  pub is_asked : asked ≡ want_of (shown old.client).phase ∷ []
  pub by_fault : HasFault (shown new.client)

-- what a turn gave to its client and asked for it
abbrev pub Gave : Turn → Member → Member → List Want → List Want → Type 0
Gave Finished old new given asked = IsIdle old new given asked
Gave Cached old new given asked = WasKept old new given asked
Gave Exchanged old new given asked = WasReplied old new given asked ⊎ HadNoReply old new given asked

-- no exchange of the client failed
pub record NoneFailed (was is : Shown) (failed : List Want) : Type 0 where
  pub none : failed ≡ []
  pub before : HasFault is → HasFault was

-- its last exchange failed: that was for what it wanted after all that it received
pub record OneFailed (side : Side) (was is : Shown) (all_given failed : List Want) : Type 0 where
  pub waited : was.outcome ≡ None
  pub by_fault : HasFault is
  pub want : Want
  pub one : failed ≡ want ∷ []
  pub gate : all_given ≡ [] → want ≡ wants.Gate
  pub next : (version : ℕ) (all : List Want) → is.version ≡ Some version → AreWants side version is.query all → (more : List Want) × (all ≡ all_given ++ want ∷ more)

-- The names of the cached pages determine what it asked for. It asked for what it received and for what failed after it, but not for pages that
-- were cached then. What failed is not cached.
pub record AsksByNames (side : Side) (was is : Shown) (before after : Kept) (own given failed asked : List Want) : Type 0 where
  pub capacity : after.capacity ≡ before.capacity
  pub names : names_of after.pages ≡ names_after before.capacity (names_of before.pages) given
  pub are : asked ≡ asked_of before.capacity (names_of before.pages) (given ++ failed)
  pub not_kept : asked_of before.capacity (names_of after.pages) failed ≡ failed
  pub how : NoneFailed was is failed ⊎ OneFailed side was is (own ++ given) failed

-- The convoy agreed with the link's side, and its clients had received this. Then only client k had turns. The convoy agrees with the side that
-- is left, client k received these wants besides, and every other client stays as it was. It receives nothing where it had
-- its outcome, and the time gate's reply only where it had received nothing before.
pub record AgreesAfterTurnsOf (side : Side) (old new : ConvoyState) (so_far : List (List Want)) (k : ℕ) (before after : LinkSeen) : Type 0 where
  pub left : Side
  pub honest : LeavesHonest old.base side left before after
  pub base : new.base ≡ old.base
  pub was : Member
  pub had : slice_get old.members (k - 1) ≡ Some was
  pub is : Member
  pub has : slice_get new.members (k - 1) ≡ Some is
  pub others : (j : ℕ) → j ≢ k - 1 → slice_get new.members j ≡ slice_get old.members j
  pub own : List Want
  pub own_is : slice_get so_far (k - 1) ≡ Some own
  pub given : List Want
  pub failed : List Want
  pub asked : List Want
  pub idle : HasOutcome was → given ≡ []
  pub gate_once : own ≢ [] → (more : List Want) → given ≢ wants.Gate ∷ more
  pub gone : HasGone old.base side left was is before after given asked
  pub by_names : AsksByNames left (shown was.client) (shown is.client) old.kept new.kept own given failed asked
  pub client : FitsSide left is.client (own ++ given)
  pub fits : FitsConvoy left new (slice_set so_far (k - 1) (own ++ given))

-- the convoy agrees after one turn, which is this round, with what the turn gave, and the version at the side that it left
pub record AgreesAfterTurn (side : Side) (old new : ConvoyState) (so_far : List (List Want)) (k : ℕ) (before after : LinkSeen) (turn : Turn) (round : Round) : Type 0 where
  pub agrees : AgreesAfterTurnsOf side old new so_far k before after
  pub round_is : round_with agrees.given agrees.failed agrees.asked ≡ round
  pub gave : Gave turn agrees.was agrees.is agrees.given agrees.asked
  pub version : VersionThen agrees.left (shown agrees.was.client) agrees.given (shown agrees.is.client).version

-- the convoy agrees after the turns of client k until it had its outcome, in this round
pub record AgreesAfterOutcome (side : Side) (old new : ConvoyState) (so_far : List (List Want)) (k : ℕ) (before after : LinkSeen) (round : Round) : Type 0 where
  pub agrees : AgreesAfterTurnsOf side old new so_far k before after
  pub round_is : round_with agrees.given agrees.failed agrees.asked ≡ round
  pub ended : HasOutcome agrees.is

-- The client at a place reached its outcome in its round. It receives nothing there if it had one before, and the time gate's reply only if it
-- had received nothing before. All that it received is at its place now, and each exchange is counted.
pub record HasReachedOutcome (side left : Side) (was : Member) (new : ConvoyState) (so_far now : List (List Want)) (rounds : List Round) (place : ℕ) (before after : LinkSeen) : Type 0 where
  pub is : Member
  pub has : slice_get new.members place ≡ Some is
  pub ended : HasOutcome is
  pub own : List Want
  pub own_is : slice_get so_far place ≡ Some own
  pub round : Round
  pub round_is : slice_get rounds place ≡ Some round
  pub all_is : slice_get now place ≡ Some (own ++ round.given)
  pub idle : HasOutcome was → round.given ≡ []
  pub gate_once : own ≢ [] → (more : List Want) → round.given ≢ wants.Gate ∷ more
  pub count : is.exchanges ≡ was.exchanges + length round.asked
  pub how : NoneFailed (shown was.client) (shown is.client) round.failed ⊎ OneFailed left (shown was.client) (shown is.client) (own ++ round.given) round.failed
  pub moved : HasMoved side left (shown was.client) (shown is.client) before after round.given
  pub client : FitsSide left is.client (own ++ round.given)

-- What these rounds of the first n clients leave of a convoy that agreed with the link's side. It agrees with the side that is left, and each of
-- these clients reached its outcome. The names of the cached pages determine what they asked for, one after the other. The link records it
-- where it records exchanges. Its count increased as often as an exchange failed.
pub record AgreesAfterRounds (side : Side) (old new : ConvoyState) (so_far : List (List Want)) (n : ℕ) (before after : LinkSeen) (rounds : List Round) : Type 0 where
  pub left : Side
  pub honest : LeavesHonest old.base side left before after
  pub base : new.base ≡ old.base
  pub now : List (List Want)
  pub fits : FitsConvoy left new now
  pub one_each : length rounds ≡ n
  pub by_names : AskByNames old.kept.capacity (names_of old.kept.pages) rounds
  pub capacity : new.kept.capacity ≡ old.kept.capacity
  pub names : names_of new.kept.pages ≡ names_behind old.kept.capacity (names_of old.kept.pages) rounds
  pub recorded : TellsRequests before.recorded after.recorded old.base.authority (requests_of old.base old.members rounds)
  pub faults : RoseBy (failures_in rounds) before.faults after.faults
  pub came : (place : ℕ) (was : Member) → place < n → slice_get old.members place ≡ Some was → HasReachedOutcome side left was new so_far now rounds place before after
  pub others : (place : ℕ) → n ≤ place → slice_get new.members place ≡ slice_get old.members place
  pub same : (place : ℕ) → n ≤ place → slice_get now place ≡ slice_get so_far place
