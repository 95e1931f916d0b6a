-- The meaning of a hardware transaction: its accesses in order on the words, or, at a stock fault, the words as before.
--   answer       what an access answers on a store: its value, or its stock fault
--   after        the store after an access that was granted a value: a writing access sets its word
--   noted        the answers after it: a look writes its value at its place
--   Meaning      what a transaction comes to: words, answers, and the stock fault whole with its place, if any
--   from         the accesses from place i on, over the words as they were at first
--   meaning      the whole transaction
use Rattle.std.specs.Prelude.{ℕ, ◌+◌, cond, List, [], ◌∷◌, Some, Ok, Err, Result, slice_set}
use Rattle.std.specs.Option.{unwrap_or}
use Rattle.stock.specs.declared.access.Access.{Access}
use Rattle.stock.specs.declared.fault.AccessFault.{AccessFault}
use Rattle.stock.specs.declared.fault.StockFault.{StockFault}
use Rattle.stock.specs.Access.{writing_access}
use Rattle.stock.specs.Arithmetic.{Arithmetic, computed}
use Rattle.stock.specs.Kind.{kind_of}
use Rattle.meaning.specs.Store.{Store, put}

pub record Meaning (V : Type 0) : Type 0 where
  pub words : Store V
  pub answers : List V
  pub result : Result (Unit {0}) AccessFault

module _ {V : Type 0} where
  abbrev pub answer : Arithmetic V → Store V → Access V → Result V StockFault
  answer A F a = computed A (kind_of a.kind) (unwrap_or (F a.word) a.value) a.value

  abbrev pub after : Store V → Access V → V → Store V
  after F a v = cond (writing_access a) (put F a.word (Some v)) F

  abbrev pub noted : List V → ℕ → Access V → V → List V
  noted ys i a v = cond (writing_access a) ys (slice_set ys i v)

  abbrev pub by_result : {X : Type 0} → Result V StockFault → (V → X) → (StockFault → X) → X
  by_result (Ok v) granted refused = granted v
  by_result (Err f) granted refused = refused f

  abbrev pub from : Arithmetic V → Store V → ℕ → List (Access V) → Store V → List V → Meaning V
  from A first i [] F ys = record { words = F; answers = ys; result = Ok tt }
  from A first i (a ∷ rest) F ys =
      by_result (answer A F a)
      (λ v. from A first (i + 1) rest (after F a v) (noted ys i a v))
      (λ f. record { words = first; answers = ys; result = Err (record { place = i; fault = f }) })

  abbrev pub meaning : Arithmetic V → List (Access V) → Store V → List V → Meaning V
  meaning A accesses F ys = from A F 0 accesses F ys
