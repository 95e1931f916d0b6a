-- Counts: a number of pieces from 0 to 999,999.
--   counted       the Count of a number, the largest one for a number above
--   count         the Count of a number, if there is one
--   count_draws   subtracts; short if too much is drawn
--   count_stows   adds; over above 999,999
--   count_arithmetic   the two of them
use Rattle.std.specs.Prelude.{ℕ, ◌+◌, ◌-◌, min, cond, Some, None, Ok, Err, Option, Result, nat_le}
use Rattle.std.proofs.Math.Nat.{min-le_right}
use Rattle.stock.specs.declared.fault.StockFault.{StockFault}
use Rattle.stock.specs.declared.fault.StockFault.TheVariants.{Short, Over}
use Rattle.stock.specs.declared.count.Count.{Count}
use Rattle.stock.specs.Arithmetic.{Arithmetic}

abbrev pub counted : ℕ → Count
counted n = record { value = min n 999999; within = min-le_right n 999999 }

abbrev pub count : ℕ → Option Count
count n = cond (nat_le n 999999) (Some (counted n)) None

abbrev pub count_draws : Count → Count → Result Count StockFault
count_draws old given = cond (nat_le given.value old.value) (Ok (counted (old.value - given.value))) (Err Short)

abbrev pub count_stows : Count → Count → Result Count StockFault
count_stows old given = cond (nat_le (old.value + given.value) 999999) (Ok (counted (old.value + given.value))) (Err Over)

abbrev pub count_arithmetic : Arithmetic Count
count_arithmetic = record { draw = count_draws; stow = count_stows }
