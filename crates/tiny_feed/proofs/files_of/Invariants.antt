-- There are the files that were passed.
use Rattle.std.proofs.Common.{◌≡◌, map, take}
use Rattle.tiny_feed.specs.Files.{name_and_text, recorded}
use Rattle.tiny_feed.proofs.files_of.Given as goal

abbrev pub invariant-loop-name : goal.invariant-loop-name
invariant-loop-name l = map name_and_text l.files.items ≡ map recorded (take l.name-index l.texts)
