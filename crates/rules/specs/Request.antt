-- What is asked of a memory.
--   Request   one call with its arguments; a hardware transaction comes with the number of work values lent and its answers
--   caller    the thread that makes it
use Rattle.std.specs.Prelude.{ℕ, List}
use Rattle.stock.specs.declared.access.Access.{Access}

pub data Request (V : Type 0) : Type 0 where
  begin : (thread class : ℕ) → Request V
  access : (thread : ℕ) → Access V → Request V
  commit : (thread : ℕ) → Request V
  write_back : (thread : ℕ) → Request V
  cancel : (thread : ℕ) → Request V
  hardware : (thread works : ℕ) → List (Access V) → (answers : List V) → Request V

module _ {V : Type 0} where
  abbrev pub caller : Request V → ℕ
  caller (begin t class) = t
  caller (access t a) = t
  caller (commit t) = t
  caller (write_back t) = t
  caller (cancel t) = t
  caller (hardware t works os ys) = t
