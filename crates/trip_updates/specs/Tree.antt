-- The fields that are read of a message, those of its embedded messages included.
use Rattle.std.specs.Prelude.{ℕ, List, [], ◌∷◌, ◌++◌, Option, Some, None, ◌==◌, if◌then◌else◌}

-- nothing yet, or what came before and then one field: a varint, a text or a message, with its number
pub data Tree : Type 0 where
  empty : Tree
  and_varint : (before : Tree) (number : ℕ) (n : ℕ) → Tree
  and_text : (before : Tree) (number : ℕ) (bytes : List ℕ) → Tree
  and_message : (before : Tree) (number : ℕ) (inner : Tree) → Tree

-- the last of the varints with this number
abbrev pub last_varint : ℕ → Tree → Option ℕ
last_varint number empty = None
last_varint number (and_varint before k n) = if k == number then Some n else last_varint number before
last_varint number (and_text before k bytes) = last_varint number before
last_varint number (and_message before k inner) = last_varint number before

-- the last of the texts with this number
abbrev pub last_text : ℕ → Tree → Option (List ℕ)
last_text number empty = None
last_text number (and_varint before k n) = last_text number before
last_text number (and_text before k bytes) = if k == number then Some bytes else last_text number before
last_text number (and_message before k inner) = last_text number before

-- the last of the messages with this number
abbrev pub last_message : ℕ → Tree → Option Tree
last_message number empty = None
last_message number (and_varint before k n) = last_message number before
last_message number (and_text before k bytes) = last_message number before
last_message number (and_message before k inner) = if k == number then Some inner else last_message number before

-- all of the messages with this number, in their order
abbrev pub messages : ℕ → Tree → List Tree
messages number empty = []
messages number (and_varint before k n) = messages number before
messages number (and_text before k bytes) = messages number before
messages number (and_message before k inner) = if k == number then messages number before ++ inner ∷ [] else messages number before
