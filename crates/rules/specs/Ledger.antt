-- A ledger: a figure for each word, and each thread's answered accesses, kept from requests and outcomes alone.
--   Ledger       the figures, and the accesses of each thread
--   new_ledger   the first words, and no access
--   joined       one more answered access of t
--   feed         what one request with its outcome does: a granted begin empties its thread's list, an answered access joins it,
--                a granted commit runs the list on the figures, a granted hardware transaction does its meaning on them, all else nothing
use Rattle.std.specs.Prelude.{ℕ, cond, List, [], ◌∷◌, ◌++◌, Result}
use Rattle.stock.specs.declared.access.Access.{Access}
use Rattle.stock.specs.declared.fault.StockFault.{StockFault}
use Rattle.stock.specs.Arithmetic.{Arithmetic}
use Rattle.meaning.specs.Meaning.{meaning}
use Rattle.meaning.specs.Store.{Store, nth, put}
use Rattle.rules.specs.Outcome.{Outcome, answer_in, is_granted}
use Rattle.rules.specs.Replay.{Answered, replayed}
use Rattle.rules.specs.Request.{Request, access, begin, cancel, commit, hardware, write_back}
use Rattle.rules.specs.Tables.{by_option}

pub record Ledger (V : Type 0) : Type 0 where
  pub figures : Store V
  pub accesses : ℕ → List (Answered V)

module _ {V : Type 0} where
  abbrev pub new_ledger : List V → Ledger V
  new_ledger ws = record { figures = nth ws; accesses = λ t. [] }

  abbrev pub joined : ℕ → Access V → Result V StockFault → Ledger V → Ledger V
  joined t a x l =
      record { figures = l.figures; accesses = put l.accesses t (l.accesses t ++ (record { asked = a; got = x }) ∷ []) }

  abbrev pub feed : Arithmetic V → Request V → Outcome V → Ledger V → Ledger V
  feed A (begin t class) y l = cond (is_granted y) (record { figures = l.figures; accesses = put l.accesses t [] }) l
  feed A (access t a) y l = by_option (answer_in y) (λ x. joined t a x l) l
  feed A (commit t) y l = cond (is_granted y) (record { figures = replayed A l.figures (l.accesses t); accesses = l.accesses }) l
  feed A (write_back t) y l = l
  feed A (cancel t) y l = l
  feed A (hardware t works os ys) y l =
      cond (is_granted y) (record { figures = (meaning A os l.figures ys).words; accesses = l.accesses }) l
