use Rattle.std.proofs.Common.{◌≡◌, ◌++◌, map}
use Rattle.form_urlencoded.specs.Parse.{raw_pairs_left}
use Rattle.http_text.specs.Target.{member_of, members_of}
use Rattle.http_text.proofs.reading.members_of.Given as goal

abbrev pub invariant-loop-name : goal.invariant-loop-name
invariant-loop-name l = l.members.items ++ map member_of (raw_pairs_left l.name-iterator) ≡ members_of l.fn.query
