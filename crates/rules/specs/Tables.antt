-- Tables are functions of a number. Counts and searches over them.
--   tally      how many numbers below n pass
--   every      all numbers below n pass
--   total      the sum over the numbers below n
--   lowest     the lowest number below n that passes, if one does
--   by_option  one way with a value, another without
use Rattle.std.specs.Prelude.{ℕ, zero, suc, ◌+◌, Bool, true, cond, ◌&&◌, Some, None, Option}
use Rattle.meaning.specs.Undo.{one}

abbrev pub tally : (ℕ → Bool) → ℕ → ℕ
tally h zero = 0
tally h (suc n) = tally h n + one (h n)

abbrev pub every : (ℕ → Bool) → ℕ → Bool
every h zero = true
every h (suc n) = every h n && h n

abbrev pub total : (ℕ → ℕ) → ℕ → ℕ
total h zero = 0
total h (suc n) = total h n + h n

abbrev pub by_option : {A X : Type 0} → Option A → (A → X) → X → X
by_option (Some a) k n = k a
by_option None k n = n

abbrev pub lowest : (ℕ → Bool) → ℕ → Option ℕ
lowest f zero = None
lowest f (suc n) = by_option (lowest f n) (λ q. Some q) (cond (f n) (Some n) None)
