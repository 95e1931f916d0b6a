-- Which transactions fit the paths.
--   writing_shape   an access of this kind and word writes
--   write_count     how many accesses write
--   with_new        a word more, unless it is there
--   with_shape      the words written after an access: it adds its word, if it writes one that is not there
--   written_words   the different words written, in order of first writing
use Rattle.std.specs.Prelude.{ℕ, Bool, cond, List, [], ◌∷◌, ◌++◌, count_by, fold, ◌==◌}
use Rattle.std.specs.List.{list_any}
use Rattle.stock.specs.Access.{writing}
use Rattle.stock.specs.Kind.{kind_of}

abbrev pub writing_shape : ℕ × ℕ → Bool
writing_shape x = writing (kind_of x.0)

abbrev pub write_count : List (ℕ × ℕ) → ℕ
write_count s = count_by writing_shape s

abbrev pub with_new : ℕ → List ℕ → List ℕ
with_new word ws = cond (list_any (λ w. w == word) ws) ws (ws ++ word ∷ [])

abbrev pub with_shape : List ℕ → ℕ × ℕ → List ℕ
with_shape ws x = cond (writing_shape x) (with_new x.1 ws) ws

abbrev pub written_words : List (ℕ × ℕ) → List ℕ
written_words s = fold with_shape [] s
