-- What one access leaves in lent lists, by what it answered: the same as the meaning says of stores.
--   answered        the value that was answered, or the stock fault with its place
--   ended           granted, or the stock fault with its place
--   words_after     a writing access that was granted sets its word
--   answers_after   a look writes its value at its place
use Rattle.std.specs.Prelude.{ℕ, cond, List, Ok, Err, Result, slice_set}
use Rattle.stock.specs.declared.access.Access.{Access}
use Rattle.stock.specs.declared.fault.AccessFault.{AccessFault}
use Rattle.stock.specs.declared.fault.StockFault.{StockFault}
use Rattle.stock.specs.Access.{writing_access}
use Rattle.meaning.specs.Meaning.{by_result, noted}

module _ {V : Type 0} where
  abbrev pub answered : ℕ → Result V StockFault → Result V AccessFault
  answered i r = by_result r (λ v. Ok v) (λ f. Err (record { place = i; fault = f }))

  abbrev pub ended : ℕ → Result V StockFault → Result (Unit {0}) AccessFault
  ended i r = by_result r (λ v. Ok tt) (λ f. Err (record { place = i; fault = f }))

  abbrev pub words_after : Result V StockFault → Access V → List V → List V
  words_after r a ws = by_result r (λ v. cond (writing_access a) (slice_set ws a.word v) ws) (λ f. ws)

  abbrev pub answers_after : Result V StockFault → ℕ → Access V → List V → List V
  answers_after r i a ys = by_result r (λ v. noted ys i a v) (λ f. ys)
