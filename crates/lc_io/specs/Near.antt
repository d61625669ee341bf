-- Near values that the definitions of doors and of serving refuse.
use Rattle.std.specs.Prelude.{◌≡◌, ℕ, ◌<◌, ◌≤◌, Bool, true, false, List, [], ◌∷◌, ◌++◌, length, Option, Some, Ok}
use Rattle.lc_io.specs.Door.{Comes, DoorRecorded, Opens, Takes, Wire, fresh}
use Rattle.lc_io.specs.EchoTalk.{EchoTalkState, Echoes, HasEchoed, echo_seen}
use Rattle.lc_io.specs.Serving.{IsServed, Serves}
use Rattle.lc_io.specs.Talk.{TalkSeen}
use Rattle.lc_io.specs.declared.door.Next.TheVariants.{Closed}

-- a read of no bytes, while bytes are to come
abbrev pub NoneUnread : Type 0
NoneUnread = (piece : List ℕ) (before after : Wire) (byte : ℕ) (rest : List ℕ) → 0 < length piece → before.to_come ≡ byte ∷ rest → Takes piece 0 before after → ⊥

-- a next connection, where the first one that waited is skipped
abbrev pub NoneSkipped : Type 0
NoneSkipped = (before after : DoorRecorded) (first second : List ℕ) → before.waiting ≡ first ∷ second ∷ [] → after.waiting ≡ [] → Opens before after → ⊥

-- no further connection, while one waits
abbrev pub NoneTurnedAway : Type 0
NoneTurnedAway = (before after : DoorRecorded) (first : List ℕ) (rest : List (List ℕ)) → before.waiting ≡ first ∷ rest → Comes (Ok Closed) before after → ⊥

-- a connection that is served, while bytes of it are to come and the talk goes on
abbrev pub NoneCutOff : Type 0
NoneCutOff = (talk : TalkSeen) (recorded : DoorRecorded) (wire : Wire) (byte : ℕ) (rest : List ℕ) → talk.ended ≡ false → recorded.current ≡ Some wire → wire.to_come ≡ byte ∷ rest
    → IsServed talk (Some recorded) → ⊥

-- a connection that is served, while something is not sent
abbrev pub NoneUnsent : Type 0
NoneUnsent = (talk : TalkSeen) (recorded : Option DoorRecorded) (byte : ℕ) (rest : List ℕ) → talk.pending ≡ byte ∷ rest → IsServed talk recorded → ⊥

-- a talk that gives back what it is fed, where a read failed while something was not given back
abbrev pub NoneHeldBack : Type 0
NoneHeldBack =
    (failed : Bool) (limit : ℕ) (talk after : EchoTalkState) (bytes : List ℕ) (recorded_before recorded_after : DoorRecorded) (wire : Wire) (byte : ℕ) (rest : List ℕ)
    → HasEchoed talk limit [] [] → length wire.read ≤ limit → recorded_before.current ≡ Some (fresh bytes) → recorded_after.current ≡ Some wire
    → wire.read_failed ≡ true → wire.read ≡ wire.sent ++ byte ∷ rest
    → Serves HasEchoed Echoes failed talk after (echo_seen after) (Some recorded_before) (Some recorded_after) → ⊥
