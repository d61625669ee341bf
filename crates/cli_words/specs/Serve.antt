-- The arguments of `serve`.
use Rattle.std.specs.Prelude.{◌≡◌, ℕ, Bool, List, ◌++◌, codes, decimal, Some}
use Rattle.cli_words.specs.FeedWindow.{SaysFeedWindow}
use Rattle.cli_words.specs.Line.{IsLine, serve_line, value_at}
use Rattle.cli_words.specs.Options.{flag_said, required_said}
use Rattle.cli_words.specs.Published.{SaysPublished}
use Rattle.cli_words.specs.declared.command.Serve.{Serve}

-- the address of a server at this port of the same machine, the base where `--base` is not there
abbrev pub address_at : ℕ → List ℕ
address_at port = codes "http://localhost:" ++ decimal port ++ codes "/"

-- `--port` and `--connections`, which have to be there, and whether `--accept-updates` is
pub record SaysDoor (words : List (List ℕ)) (port connections : ℕ) (accepts : Bool) : Type 0 where
  pub port_is : required_said 1 65_535 (value_at serve_line words (codes "port")) ≡ Some port
  pub connections_are : required_said 1 1_000_000 (value_at serve_line words (codes "connections")) ≡ Some connections
  pub accepts_is : accepts ≡ flag_said (value_at serve_line words (codes "accept-updates"))

-- the arguments after `serve` say this
pub record SaysServe (words : List (List ℕ)) (serve : Serve) : Type 0 where
  pub is_line : IsLine serve_line words
  pub window : SaysFeedWindow serve_line words serve.published.window
  pub published : SaysPublished (address_at serve.port) serve_line words serve.published
  pub door : SaysDoor words serve.port serve.connections serve.accept_updates
