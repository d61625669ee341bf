-- The tokens of JSON values, and what a writer of tokens has written.
use Rattle.std.specs.Prelude.{◌≡◌, List, [], ◌∷◌, ◌++◌}
use Rattle.json.specs.Token.{Token}
use Rattle.json.specs.Tree.{json_tokens}
use Rattle.json.specs.Written.{Written}
use Rattle.serde_json.specs.Data.{Data, Members, no_members, member}
use Rattle.serde_json.specs.Written.{outline}

-- the tokens of a value
abbrev pub tokens_of : Data → List Token
tokens_of tree = json_tokens (outline tree)

-- the tokens of members, without the brackets of their object
abbrev pub member_tokens : Members → List Token
member_tokens no_members = []
member_tokens (member name tree rest) = Token.key name ∷ (tokens_of tree ++ member_tokens rest)

-- the text goes on with these tokens
pub record Appends (old new : Written) (more : List Token) : Type 0 where
  pub before : new.before ≡ old.before
  pub tokens : new.tokens ≡ old.tokens ++ more
