-- A walk over the files of a feed: what was found of the first, so many, and what the next step adds.
use Rattle.std.proofs.Common.{◌≡◌, ◌∙◌, ℕ, zero, suc, ◌+◌, ◌-◌, ◌≤◌, Bool, true, false, cond, List, [], ◌∷◌, ◌++◌, Option, Some, None, Result, Ok, Err, IsNone, take, append_assoc, get_or, ap, inl, inr, map, refl, subst, sym, arith}
use Rattle.std.specs.Prelude.{eqb, is_none, option_map, IfSome}
use Rattle.std.specs.List.{All, slice_get, sum_by}
use Rattle.std.proofs.lemmas.Bool.{eqb-true}
use Rattle.std.proofs.lemmas.List.{append-nil, map-append}
use Rattle.std.proofs.lemmas.List.Elements.{All-cons, All-nil}
use Rattle.std.proofs.lemmas.List.Sums.{sum_by-append}
use Rattle.lc_io.specs.Counts.{Rose, RoseBy}
use Rattle.lc_io.specs.Folder.{FolderSeen, asked_after}
use Rattle.lc_io.specs.declared.file.File.{File}
use Rattle.gtfs_tables.specs.declared.fields.fault.FileFault.{FileFault}
use Rattle.gtfs_tables.specs.Feed.{IsFaultAt, IsRightAt, named_at}
use Rattle.gtfs_tables.specs.Files.{Found, feed_files, files_of, first_paths, path_of}
use Rattle.gtfs_tables.specs.Reading.{Keeps, Reads, absent_among}
use Rattle.gtfs_tables.specs.Steps.{Finds, IsStep, IsWalk, StepEnds, WalkEnds}
use Rattle.gtfs_tables.specs.declared.end.End.{End}
use Rattle.gtfs_tables.specs.declared.end.End.TheVariants.{Failed, NoMemory, Wrong}
use Rattle.gtfs_tables.specs.declared.feed_file.FeedFile.{FeedFile}
use Rattle.gtfs_tables.specs.declared.feed_file.FeedFile.TheVariants as file
use Rattle.gtfs_tables.specs.declared.tables.Tables.{Tables}
use Rattle.gtfs_tables.specs.Parts.{Each, GoesOn, PartEnds, SoFar, Recorded, Walked}
use Rattle.gtfs_tables.proofs.CountLemmas.{rose_and_kept, rose_before, rose_none, rose_once_more}

-- the place of a file in the order of reading
abbrev pub place_of : FeedFile → ℕ
place_of file.Stops = 0
place_of file.Trips = 1
place_of file.StopTimes = 2
place_of file.Calendar = 3
place_of file.CalendarDates = 4
place_of file.Frequencies = 5
place_of file.Transfers = 6

-- a place has its file
file_there : (at : FeedFile) → get_or feed_files (place_of at) file.Stops ≡ at
file_there file.Stops = refl
file_there file.Trips = refl
file_there file.StopTimes = refl
file_there file.Calendar = refl
file_there file.CalendarDates = refl
file_there file.Frequencies = refl
file_there file.Transfers = refl

same_file : (a b : FeedFile) → place_of a ≡ place_of b → a ≡ b
same_file a b same = sym (file_there a) ∙ ap (λ (place : ℕ). get_or feed_files place file.Stops) same ∙ file_there b

-- what was found, with this of one file
abbrev pub put : Found → FeedFile → Option (List ℕ) → Found
put found at x other = cond (eqb (place_of at) (place_of other)) x (found other)

put_is : (all found : Found) (at other : FeedFile) (x : Option (List ℕ)) (same : Bool) → eqb (place_of at) (place_of other) ≡ same
    → x ≡ all at → found other ≡ all other → cond same x (found other) ≡ all other
put_is all found at other x true same here there = here ∙ ap all (same_file at other (eqb-true (place_of at) (place_of other) same))
put_is all found at other x false same here there = there

put_recorded : (recorded : Option (List File)) (feed : List ℕ) (found : Found) (at : FeedFile) (x : Option (List ℕ)) → Recorded recorded feed found
    → IfSome recorded (λ files. x ≡ files_of files feed at) → Recorded recorded feed (put found at x)
put_recorded None feed found at x there here = tt
put_recorded (Some files) feed found at x there here =
    λ other. put_is (files_of files feed) found at other x (eqb (place_of at) (place_of other)) refl here (there other)

-- what is found before anything was asked
abbrev pub found_first : Option (List File) → List ℕ → Found
found_first None feed at = None
found_first (Some files) feed at = files_of files feed at

recorded_first : (recorded : Option (List File)) (feed : List ℕ) → Recorded recorded feed (found_first recorded feed)
recorded_first None feed = tt
recorded_first (Some files) feed = λ at. refl

each_all : {X : Type 0} (P : X → Type 0) (xs : List X) → Each P xs → All P xs
each_all P [] each = All-nil P
each_all P (x ∷ xs) each = All-cons P x xs each.0 (each_all P xs each.1)

each_more : {X : Type 0} (P : X → Type 0) (xs : List X) (x : X) → Each P xs → P x → Each P (xs ++ x ∷ [])
each_more P [] x each here = (here, tt)
each_more P (y ∷ xs) x each here = (each.0, each_more P xs x each.1 here)

-- the file is at this place, and what is found of it changes nothing of the files before it
pub record Stands (place : ℕ) (at : FeedFile) : Type 0 where
  pub low : suc place ≤ 7
  pub stands : slice_get feed_files place ≡ Some at
  pub next : take (suc place) feed_files ≡ take place feed_files ++ at ∷ []
  pub absent_before : (found : Found) (x : Option (List ℕ)) → absent_among (put found at x) place ≡ absent_among found place
  pub right_before : (found : Found) (x : Option (List ℕ)) → Each (IsRightAt found) (take place feed_files) → Each (IsRightAt (put found at x)) (take place feed_files)
  pub here : (found : Found) (x : Option (List ℕ)) → put found at x at ≡ x
  pub named : (found : Found) (x : Option (List ℕ)) → named_at (λ _. x) at ≡ named_at (put found at x) at

keeps_all : (old mid new : FolderSeen) → Keeps old mid → Keeps mid new → Keeps old new
keeps_all old mid new first then =
    record { files = then.files ∙ first.files; faults = omega (arith, first.faults, then.faults); absences = omega (arith, first.absences, then.absences) }

names_after : (asked : Option (List (List ℕ))) (names : List (List ℕ)) (name : List ℕ)
    → asked_after (option_map (λ first. first ++ names) asked) name ≡ option_map (λ first. first ++ (names ++ name ∷ [])) asked
names_after None names name = refl
names_after (Some first) names name = ap (λ (all : List (List ℕ)). Some all) (append_assoc first names (name ∷ []))

-- one more was asked for
asked_more : (old mid new : Option (List (List ℕ))) (feed : List ℕ) (place : ℕ) (at : FeedFile) → Stands place at
    → mid ≡ option_map (λ names. names ++ first_paths feed place) old → new ≡ asked_after mid (path_of feed at)
    → new ≡ option_map (λ names. names ++ first_paths feed (suc place)) old
asked_more old mid new feed place at stands before now =
    let paths : first_paths feed (suc place) ≡ first_paths feed place ++ path_of feed at ∷ [] =
    ap (map (path_of feed)) stands.next ∙ map-append (path_of feed) (take place feed_files) (at ∷ []) in
    now ∙ ap (λ asked. asked_after asked (path_of feed at)) before ∙ names_after old (first_paths feed place) (path_of feed at)
    ∙ ap (λ (all : List (List ℕ)). option_map (λ names. names ++ all) old) (sym paths)

-- one more was found, and counted where it is absent
absent_more : (found : Found) (place : ℕ) (at : FeedFile) (x : Option (List ℕ)) → Stands place at
    → absent_among (put found at x) (suc place) ≡ absent_among found place + cond (is_none x) 1 0
absent_more found place at x stands =
    let test : FeedFile → ℕ = λ a. cond (is_none (put found at x a)) 1 0 in
    let parts : absent_among (put found at x) (suc place) ≡ absent_among (put found at x) place + cond (is_none (put found at x at)) 1 0 =
    (let sum = ap (sum_by test) stands.next ∙ sum_by-append test (take place feed_files) (at ∷ []) in omega arith) in
    parts ∙ ap (λ (n : ℕ). n + cond (is_none (put found at x at)) 1 0) (stands.absent_before found x)
    ∙ ap (λ (y : Option (List ℕ)). absent_among found place + cond (is_none y) 1 0) (stands.here found x)

counted : (times a b c : ℕ) (x : Option (List ℕ)) → RoseBy times a b → b ≤ c → (IsNone x → Rose b c) → RoseBy (times + cond (is_none x) 1 0) a c
counted times a b c None before kept rose = rose_once_more times a b c before (rose refl)
counted times a b c (Some bytes) before kept rose = omega arith

recorded_more : (old mid : FolderSeen) (feed : List ℕ) (found : Found) (at : FeedFile) (x : Option (List ℕ)) → Keeps old mid
    → Recorded old.files feed found → IfSome mid.files (λ files. x ≡ files_of files feed at) → Recorded old.files feed (put found at x)
recorded_more old mid feed found at x kept recorded there =
    put_recorded old.files feed found at x recorded (subst (λ (recorded : Option (List File)). IfSome recorded (λ files. x ≡ files_of files feed at)) kept.files there)

absences_more : (a b c : ℕ) (found : Found) (place : ℕ) (at : FeedFile) (x : Option (List ℕ)) → Stands place at → RoseBy (absent_among found place) a b
    → b ≤ c → (IsNone x → Rose b c) → RoseBy (absent_among (put found at x) (suc place)) a c
absences_more a b c found place at x stands before kept rose =
    subst (λ (times : ℕ). RoseBy times a c) (sym (absent_more found place at x stands)) (counted (absent_among found place) a b c x before kept rose)

-- a file more was found as it has to be
walked_more : (old mid new : FolderSeen) (feed : List ℕ) (found : Found) (place : ℕ) (at : FeedFile) (x : Option (List ℕ)) → Stands place at
    → Walked old mid feed found place → Keeps mid new → Finds mid new feed at x → IsRightAt (put found at x) at
    → Walked old new feed (put found at x) (suc place)
walked_more old mid new feed found place at x stands walked kept finds is = record {
  kept = keeps_all old mid new walked.kept kept;
  recorded = recorded_more old mid feed found at x walked.kept walked.recorded finds.there;
  in_turn = asked_more old.asked mid.asked new.asked feed place at stands walked.in_turn finds.asked;
  right = subst (Each (IsRightAt (put found at x))) (sym stands.next) (each_more (IsRightAt (put found at x)) (take place feed_files) at (stands.right_before found x walked.right) is);
  absences = absences_more old.absences mid.absences new.absences found place at x stands walked.absences kept.absences finds.counted;
}

each_fewer : {X : Type 0} (P : X → Type 0) (xs : List X) (few many : ℕ) → few ≤ many → Each P (take many xs) → Each P (take few xs)
each_fewer P xs zero many less each = tt
each_fewer P [] (suc few) many less each = tt
each_fewer P (x ∷ xs) (suc few) zero less each = absurd (omega arith)
each_fewer P (x ∷ xs) (suc few) (suc many) less each = (each.0, each_fewer P xs few many (omega arith) each.1)

-- the files before the last that was asked for are as they have to be
right_to : (found : Found) (few many : ℕ) → few ≤ many → Each (IsRightAt found) (take many feed_files) → All (IsRightAt found) (take few feed_files)
right_to found few many less each = each_all (IsRightAt found) (take few feed_files) (each_fewer (IsRightAt found) feed_files few many less each)

pub reads_walked : (old new : FolderSeen) (feed : List ℕ) (found : Found) (count : ℕ) → count ≤ 7 → Walked old new feed found count
    → Reads old new feed found count count
reads_walked old new feed found count low walked = record {
  found_there = walked.recorded;
  in_turn = walked.in_turn;
  right_before = right_to found (count - 1) count (omega arith) walked.right;
  absences_counted = walked.absences;
  at_most = low;
  not_more = omega arith;
  all_but_the_last = omega arith;
}

-- nothing more was asked for
reads_unasked : (old mid new : FolderSeen) (feed : List ℕ) (found : Found) (place : ℕ) (at : FeedFile) → Stands place at
    → Walked old mid feed found place → Keeps mid new → new.asked ≡ mid.asked → Reads old new feed found place place
reads_unasked old mid new feed found place at stands walked kept same = record {
  found_there = walked.recorded;
  in_turn = same ∙ walked.in_turn;
  right_before = right_to found (place - 1) place (omega arith) walked.right;
  absences_counted = rose_and_kept (absent_among found place) old.absences mid.absences new.absences walked.absences kept.absences;
  at_most = omega (arith, stands.low);
  not_more = omega arith;
  all_but_the_last = omega arith;
}

-- a file more was asked for, and nothing was answered
reads_unanswered : (old mid new : FolderSeen) (feed : List ℕ) (found : Found) (place : ℕ) (at : FeedFile) → Stands place at
    → Walked old mid feed found place → Keeps mid new → new.asked ≡ asked_after mid.asked (path_of feed at)
    → Reads old new feed found (suc place) place
reads_unanswered old mid new feed found place at stands walked kept asked = record {
  found_there = walked.recorded;
  in_turn = asked_more old.asked mid.asked new.asked feed place at stands walked.in_turn asked;
  right_before = right_to found (suc place - 1) place (omega arith) walked.right;
  absences_counted = rose_and_kept (absent_among found place) old.absences mid.absences new.absences walked.absences kept.absences;
  at_most = stands.low;
  not_more = omega arith;
  all_but_the_last = omega arith;
}

-- a file more was asked for, and this was found
reads_found : (old mid new : FolderSeen) (feed : List ℕ) (found : Found) (place : ℕ) (at : FeedFile) (x : Option (List ℕ)) → Stands place at
    → Walked old mid feed found place → Keeps mid new → Finds mid new feed at x → Reads old new feed (put found at x) (suc place) (suc place)
reads_found old mid new feed found place at x stands walked kept finds = record {
  found_there = recorded_more old mid feed found at x walked.kept walked.recorded finds.there;
  in_turn = asked_more old.asked mid.asked new.asked feed place at stands walked.in_turn finds.asked;
  right_before = right_to (put found at x) (suc place - 1) place (omega arith) (stands.right_before found x walked.right);
  absences_counted = absences_more old.absences mid.absences new.absences found place at x stands walked.absences kept.absences finds.counted;
  at_most = stands.low;
  not_more = omega arith;
  all_but_the_last = omega arith;
}

-- a step that ended ends the walk
ends_so : {T : Type 0} (old mid new : FolderSeen) (feed : List ℕ) (found : Found) (place : ℕ) (at : FeedFile)
    (Says : Option (List ℕ) → T → Type 0) (IsWrong : Option (List ℕ) → FileFault → Type 0) (end : End) → Stands place at → Walked old mid feed found place
    → ((x : Option (List ℕ)) (fault : FileFault) → IsWrong x fault → IsFaultAt (put found at x) at fault) → Keeps mid new → StepEnds {T = T} mid new feed at Says IsWrong (Err end)
    → WalkEnds old new feed (Err end)
ends_so old mid new feed found place at Says IsWrong (Wrong named fault) stands walked tells kept (x, finds, wrong, names) = (
  put found at x,
  place,
  at,
  reads_found old mid new feed found place at x stands walked kept finds,
  record {
    stands = stands.stands;
    before = each_all (IsRightAt (put found at x)) (take place feed_files) (stands.right_before found x walked.right);
    broken = tells x fault wrong;
  },
  names ∙ stands.named found x,
)
ends_so old mid new feed found place at Says IsWrong Failed stands walked tells kept fails = (
  rose_before old.faults mid.faults new.faults walked.kept.faults fails.counted,
  (found, place, reads_unanswered old mid new feed found place at stands walked kept fails.asked),
)
ends_so old mid new feed found place at Says IsWrong NoMemory stands walked tells kept (inl same) =
    (found, place, place, reads_unasked old mid new feed found place at stands walked kept same)
ends_so old mid new feed found place at Says IsWrong NoMemory stands walked tells kept (inr asked) =
    (found, suc place, place, reads_unanswered old mid new feed found place at stands walked kept asked)

same_asked : (asked : Option (List (List ℕ))) → asked ≡ option_map (λ names. names ++ []) asked
same_asked None = refl
same_asked (Some names) = ap (λ (all : List (List ℕ)). Some all) (sym (append-nil names))

-- nothing was asked for yet
pub begun : {old : FolderSeen} {feed : List ℕ} → SoFar old old feed 0 (λ found. Unit {0})
begun {old} {feed} = record {
  found = found_first old.files feed;
  walked = record {
    kept = record { files = refl; faults = omega arith; absences = omega arith };
    recorded = recorded_first old.files feed;
    in_turn = same_asked old.asked;
    right = tt;
    absences = rose_none old.absences old.absences (omega arith);
  };
  knows = tt;
}

-- what the step of a file teaches of what was found, and that it ends only at what is wrong first with the file
pub record Turn {T : Type 0} (place : ℕ) (at : FeedFile) (Says : Option (List ℕ) → T → Type 0) (IsWrong : Option (List ℕ) → FileFault → Type 0)
    (Knows : Found → Type 0) (Learns : T → Found → Type 0) : Type 0 where
  pub stands : Stands place at
  pub right : (found : Found) (x : Option (List ℕ)) (value : T) → Knows found → Says x value → IsRightAt (put found at x) at
  pub learns : (found : Found) (x : Option (List ℕ)) (value : T) → Knows found → Says x value → Learns value (put found at x)
  pub tells : (found : Found) (x : Option (List ℕ)) (fault : FileFault) → Knows found → IsWrong x fault → IsFaultAt (put found at x) at fault

-- a step that gave a value
pub next : {T : Type 0} {old mid new : FolderSeen} {feed : List ℕ} {place : ℕ} {at : FeedFile} {Says : Option (List ℕ) → T → Type 0}
    {IsWrong : Option (List ℕ) → FileFault → Type 0} {Knows : Found → Type 0} {Learns : T → Found → Type 0} {step : Result T End} {value : T}
    → Turn place at Says IsWrong Knows Learns → SoFar old mid feed place Knows → step ≡ Ok value → IsStep mid new feed at Says IsWrong step
    → SoFar old new feed (suc place) (Learns value)
next {T} {old} {mid} {new} {feed} {place} {at} {Says} {IsWrong} {Knows} {Learns} {step} {value} turn far was is =
    let ends = subst (λ (r : Result T End). StepEnds mid new feed at Says IsWrong r) was is.ends in
    record {
      found = put far.found at ends.0;
      walked = walked_more old mid new feed far.found place at ends.0 turn.stands far.walked is.kept ends.1 (turn.right far.found ends.0 value far.knows ends.2);
      knows = turn.learns far.found ends.0 value far.knows ends.2;
    }

-- a step that ended
pub stop : {T : Type 0} {old mid new : FolderSeen} {feed : List ℕ} {place : ℕ} {at : FeedFile} {Says : Option (List ℕ) → T → Type 0}
    {IsWrong : Option (List ℕ) → FileFault → Type 0} {Knows : Found → Type 0} {Learns : T → Found → Type 0} {step : Result T End} {end : End}
    {whole : Result Tables End} → Turn place at Says IsWrong Knows Learns → SoFar old mid feed place Knows → step ≡ Err end
    → IsStep mid new feed at Says IsWrong step → whole ≡ Err end → IsWalk old new feed whole
stop {T} {old} {mid} {new} {feed} {place} {at} {Says} {IsWrong} {Knows} {Learns} {step} {end} {whole} turn far was is same =
    let ends = subst (λ (r : Result T End). StepEnds mid new feed at Says IsWrong r) was is.ends in
    record {
      kept = keeps_all old mid new far.walked.kept is.kept;
      ends = subst (λ (r : Result Tables End). WalkEnds old new feed r) (sym same)
          (ends_so old mid new feed far.found place at Says IsWrong end turn.stands far.walked (λ x fault. turn.tells far.found x fault far.knows) is.kept ends);
    }

-- a step that ended ends its part of the walk
pub part_stop : {T U : Type 0} {old mid new : FolderSeen} {feed : List ℕ} {place count : ℕ} {at : FeedFile} {Says : Option (List ℕ) → T → Type 0}
    {IsWrong : Option (List ℕ) → FileFault → Type 0} {Knows : Found → Type 0} {Learns : T → Found → Type 0} {Gives : U → Found → Type 0}
    {step : Result T End} {end : End} {whole : Result U End} → Turn place at Says IsWrong Knows Learns → SoFar old mid feed place Knows
    → step ≡ Err end → IsStep mid new feed at Says IsWrong step → whole ≡ Err end → GoesOn old new feed whole count Gives
part_stop {T} {U} {old} {mid} {new} {feed} {place} {count} {at} {Says} {IsWrong} {Knows} {Learns} {Gives} {step} {end} {whole} turn far was is same =
    let ended : IsWalk old new feed (Err end) = stop turn far was is refl in
    record { ends = subst (λ (r : Result U End). PartEnds old new feed r count Gives) (sym same) ended }

-- a part that ended ends the walk
pub walk_ends : {T : Type 0} {old new : FolderSeen} {feed : List ℕ} {few : ℕ} {Learns : T → Found → Type 0} {part : Result T End} {end : End}
    {whole : Result Tables End} → part ≡ Err end → GoesOn old new feed part few Learns → whole ≡ Err end → IsWalk old new feed whole
walk_ends {T} {old} {new} {feed} {few} {Learns} {part} {end} {whole} was goes same =
    let ended : IsWalk old new feed (Err end) = subst (λ (r : Result T End). PartEnds old new feed r few Learns) was goes.ends in
    subst (λ (r : Result Tables End). IsWalk old new feed r) (sym same) ended

-- a part that ended ends the part that it belongs to
pub part_ends : {T U : Type 0} {old new : FolderSeen} {feed : List ℕ} {few count : ℕ} {Learns : T → Found → Type 0} {Gives : U → Found → Type 0}
    {part : Result T End} {end : End} {whole : Result U End} → part ≡ Err end → GoesOn old new feed part few Learns → whole ≡ Err end
    → GoesOn old new feed whole count Gives
part_ends {T} {U} {old} {new} {feed} {few} {count} {Learns} {Gives} {part} {end} {whole} was goes same =
    let ended : IsWalk old new feed (Err end) = walk_ends was goes refl in
    record { ends = subst (λ (r : Result U End). PartEnds old new feed r count Gives) (sym same) ended }

-- a part that gave a value
pub part_gives : {T : Type 0} {old new : FolderSeen} {feed : List ℕ} {count : ℕ} {Learns : T → Found → Type 0} {part : Result T End} {value : T}
    → part ≡ Ok value → GoesOn old new feed part count Learns → SoFar old new feed count (Learns value)
part_gives {T} {old} {new} {feed} {count} {Learns} {part} {value} was goes =
    subst (λ (r : Result T End). PartEnds old new feed r count Learns) was goes.ends
