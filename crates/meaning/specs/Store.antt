-- Words as a function of their number.
--   Store   the value of each word, and none past the last
--   nth     what a list holds, as a store
--   put     a function with another value at one number
use Rattle.std.specs.Prelude.{ℕ, cond, List, Option, slice_get, ◌==◌}

abbrev pub Store : Type 0 → Type 0
Store V = ℕ → Option V

abbrev pub nth : {V : Type 0} → List V → Store V
nth vs n = slice_get vs n

abbrev pub put : {X : Type 0} → (ℕ → X) → ℕ → X → ℕ → X
put f k x n = cond (n == k) x (f n)
