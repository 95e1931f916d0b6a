-- A write set: the words written, in order of first writing.
--   has       the word is in the list
--   place     its place, and the list's length where it is not there
--   with      the list after a writing access to the word
use Rattle.std.specs.Prelude.{ℕ, suc, Bool, cond, List, [], ◌∷◌, ◌==◌}
use Rattle.std.specs.List.{list_any}
use Rattle.hardware.specs.Limits.{with_new}

abbrev pub has : ℕ → List ℕ → Bool
has b ws = list_any (λ w. w == b) ws

abbrev pub place : ℕ → List ℕ → ℕ
place b [] = 0
place b (w ∷ ws) = cond (w == b) 0 (suc (place b ws))

abbrev pub with : ℕ → List ℕ → List ℕ
with b ws = with_new b ws
