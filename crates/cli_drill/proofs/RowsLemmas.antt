-- One row more, and one file more.
use Rattle.std.proofs.Common.{◌≡◌, ◌∙◌, ℕ, suc, ◌+◌, List, [], ◌∷◌, ◌++◌, ap, append_assoc, arith, refl, sym}
use Rattle.std.proofs.lemmas.List.{append-nil}
use Rattle.lc_io.specs.declared.file.File.{File}
use Rattle.cli_drill.specs.Files.{file_of, message_files}
use Rattle.cli_drill.specs.Rows.{rows_of}

next_row : (row : ℕ → List ℕ) (count : ℕ) → rows_of row (count + 1) ≡ rows_of row count ++ row count
unfolding rows_of
next_row row count = let next : count + 1 ≡ suc count = omega arith in ap (rows_of row) next

no_rows : (row : ℕ → List ℕ) → rows_of row 0 ≡ []
unfolding rows_of
no_rows row = refl

next_file : (seed count : ℕ) → message_files seed (count + 1) ≡ message_files seed count ++ file_of seed count ∷ []
unfolding message_files
next_file seed count = let next : count + 1 ≡ suc count = omega arith in ap (message_files seed) next

no_files : (seed : ℕ) → message_files seed 0 ≡ []
unfolding message_files
no_files seed = refl

-- what a text has after no row, after one more, and after all
pub first_rows : (row : ℕ → List ℕ) (front text : List ℕ) → text ≡ front → text ≡ front ++ rows_of row 0
first_rows row front text e = e ∙ sym (append-nil front) ∙ ap (λ (rows : List ℕ). front ++ rows) (sym (no_rows row))

pub more_rows : (row : ℕ → List ℕ) (front old new : List ℕ) (count : ℕ) → old ≡ front ++ rows_of row count → new ≡ old ++ row count → new ≡ front ++ rows_of row (count + 1)
more_rows row front old new count before e =
    e ∙ ap (λ (text : List ℕ). text ++ row count) before ∙ append_assoc front (rows_of row count) (row count)
    ∙ ap (λ (rows : List ℕ). front ++ rows) (sym (next_row row count))

pub all_rows : (row : ℕ → List ℕ) (front text : List ℕ) (count end : ℕ) → text ≡ front ++ rows_of row count → count ≡ end → text ≡ front ++ rows_of row end
all_rows row front text count end e same = e ∙ ap (λ (n : ℕ). front ++ rows_of row n) same

-- and files after no message and after one more
pub first_files : (seed : ℕ) (front : List File) → front ≡ front ++ message_files seed 0
first_files seed front = sym (append-nil front) ∙ ap (λ (files : List File). front ++ files) (sym (no_files seed))

pub more_files : (seed : ℕ) (front old new : List File) (count : ℕ) → old ≡ front ++ message_files seed count → new ≡ old ++ file_of seed count ∷ []
    → new ≡ front ++ message_files seed (count + 1)
more_files seed front old new count before e =
    e ∙ ap (λ (files : List File). files ++ file_of seed count ∷ []) before ∙ append_assoc front (message_files seed count) (file_of seed count ∷ [])
    ∙ ap (λ (files : List File). front ++ files) (sym (next_file seed count))

-- a file of these bytes is one of this text
pub one_file : (old new : List File) (name bytes text : List ℕ) → new ≡ old ++ record { name = name; bytes = bytes } ∷ [] → bytes ≡ text
    → new ≡ old ++ record { name = name; bytes = text } ∷ []
one_file old new name bytes text e same = e ∙ ap (λ (b : List ℕ). old ++ record { name = name; bytes = b } ∷ []) same

-- four files, one after the other
pub four_files : (old a b c d : List File) (f g h k : File) → a ≡ old ++ f ∷ [] → b ≡ a ++ g ∷ [] → c ≡ b ++ h ∷ [] → d ≡ c ++ k ∷ [] → d ≡ old ++ (f ∷ g ∷ h ∷ k ∷ [])
four_files old a b c d f g h k p q r s =
    s ∙ ap (λ (x : List File). x ++ k ∷ []) (r ∙ ap (λ (x : List File). x ++ h ∷ []) (q ∙ ap (λ (x : List File). x ++ g ∷ []) p)) ∙ simp append_assoc
