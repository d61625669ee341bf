-- What serving writes.
use Rattle.std.specs.Prelude.{ℕ, List, ◌++◌, codes, decimal, length}
use Rattle.cli_serve.specs.Visit.{Visit, faults_of, requests_of}

-- the line of a door that listens
abbrev pub listening_line : ℕ → List ℕ
listening_line port = codes "listening " ++ decimal port ++ codes "\n"

-- the line of so many connections, requests and faults
abbrev pub served_line : ℕ → ℕ → ℕ → List ℕ
served_line connections requests faults = codes "served " ++ decimal connections ++ codes " requests " ++ decimal requests ++ codes " faults " ++ decimal faults ++ codes "\n"

-- the line at the end: the connections, the requests that were answered, and the connections with a fault
abbrev pub line_of : List Visit → List ℕ
line_of visits = served_line (length visits) (requests_of visits) (faults_of visits)
