-- No rule before this one is broken.
use Rattle.std.proofs.Common.{◌≡◌, drop}
use Rattle.gtfs_tables.specs.Fields.Rules.{first_of}
use Rattle.gtfs_tables.proofs.fields.first_rule.first_rule.Given as goal

abbrev pub invariant-rules : goal.invariant-rules
invariant-rules l = first_of l.rules ≡ first_of (drop l.rule-index l.rules)
