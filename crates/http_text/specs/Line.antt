-- The lines of a head (RFC 9112, section 2.1).
use Rattle.std.specs.Prelude.{ℕ, List, [], ◌++◌, Option, Some, None}
use Rattle.httparse.specs.Ascii.{crlf_bytes}
use Rattle.lc_time.specs.Http.{http_date_of}

-- a text as a line, which CR LF ends
abbrev pub line : List ℕ → List ℕ
line text = text ++ crlf_bytes

-- the date of the moment after this front, if there is a moment
abbrev pub moment_line : List ℕ → Option ℕ → List ℕ
moment_line front None = []
moment_line front (Some moment) = line (front ++ http_date_of moment)
