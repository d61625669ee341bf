use Rattle.std.proofs.Common.{◌≡◌, [], map, take}
use Rattle.clap.specs.Simple.{app_of}
use Rattle.cli_words.specs.Line.{line}
use Rattle.cli_words.proofs.line.line_of.Given as goal

abbrev pub invariant-places : goal.invariant-places
invariant-places l = app_of l.command ≡ line l.name (map (λ s. s.now) (take l.place-index l.places)) [] []

abbrev pub invariant-options : goal.invariant-options
invariant-options l = app_of l.command ≡ line l.name (map (λ s. s.now) l.places) (map (λ s. s.now) (take l.option-index l.options)) []

abbrev pub invariant-flags : goal.invariant-flags
invariant-flags l = app_of l.command ≡ line l.name (map (λ s. s.now) l.places) (map (λ s. s.now) l.options) (map (λ s. s.now) (take l.flag-index l.flags))
