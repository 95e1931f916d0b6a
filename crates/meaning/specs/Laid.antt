-- A log: a list of word numbers, and a list that has at the same place the value which the word is to have.
--   laid      the words with the values of a log; of several values for one word the first counts
--   HasRoom   one entry more fits a log of at most n entries
use Rattle.std.specs.Prelude.{ℕ, ◌<◌, List, [], ◌∷◌, length, slice_set}

module _ {V : Type 0} where
  abbrev pub laid : List ℕ → List V → List V → List V
  laid [] vs ws = ws
  laid (b ∷ bs) [] ws = ws
  laid (b ∷ bs) (v ∷ vs) ws = slice_set (laid bs vs ws) b v

  abbrev pub HasRoom : ℕ → List ℕ → List V → Type 0
  HasRoom n places values = (length places < n) × (length places < length values)
