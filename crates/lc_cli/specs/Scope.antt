-- What a command asks of its feed.
use Rattle.cli_words.specs.declared.command.FeedWindow.{FeedWindow}
use Rattle.timetable.specs.declared.scope.Scope.{Scope}

-- its timetable in this window
abbrev pub scope_of : FeedWindow → Scope
scope_of window = record { feed = window.feed; zone = window.zone; first = window.first; days = window.days; change = window.change }
