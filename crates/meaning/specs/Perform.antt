-- A hardware transaction by itself: the checks, and then its meaning.
--   admitted    the first check that fails: numbers of words and saved values (64), numbers of accesses and answers, kinds and words
--   Performed   the outcome, the words and the answers afterwards
--   concluded   what the meaning comes to, a stock fault as a decline
--   performed   declined with all as before, or the meaning
use Rattle.std.specs.Prelude.{ℕ, cond, not, ◌||◌, List, length, Ok, Err, Result, ◌==◌}
use Rattle.stock.specs.declared.access.Access.{Access}
use Rattle.decline.specs.declared.Decline.{Decline}
use Rattle.decline.specs.declared.Decline.TheVariants.{WrongLength, WrongAccessCount, Stock}
use Rattle.stock.specs.declared.fault.AccessFault.{AccessFault}
use Rattle.stock.specs.Arithmetic.{Arithmetic}
use Rattle.meaning.specs.Check.{bad_count, wrong_access_count, checked}
use Rattle.meaning.specs.Meaning.{Meaning, meaning}
use Rattle.meaning.specs.Store.{Store}

pub record Performed (V : Type 0) : Type 0 where
  pub outcome : Result (Unit {0}) Decline
  pub words : Store V
  pub answers : List V

abbrev pub as_decline : Result (Unit {0}) AccessFault → Result (Unit {0}) Decline
as_decline (Ok u) = Ok u
as_decline (Err f) = Err (Stock f)

module _ {V : Type 0} where
  abbrev pub admitted : ℕ → List (Access V) → ℕ → ℕ → Result (Unit {0}) Decline
  admitted words accesses answers saved =
      cond (bad_count words || not (saved == 64)) (Err WrongLength)
      (cond (wrong_access_count (length accesses) answers) (Err WrongAccessCount)
      (checked 0 words accesses))

  abbrev pub concluded : Meaning V → Performed V
  concluded m = record { outcome = as_decline m.result; words = m.words; answers = m.answers }

  abbrev pub by_check : Result (Unit {0}) Decline → Performed V → Store V → List V → Performed V
  by_check (Ok u) done F ys = done
  by_check (Err d) done F ys = record { outcome = Err d; words = F; answers = ys }

  abbrev pub performed : Arithmetic V → List (Access V) → ℕ → Store V → List V → ℕ → Performed V
  performed A accesses count F ys saved = by_check (admitted count accesses (length ys) saved) (concluded (meaning A accesses F ys)) F ys
