-- How many accesses write, and so how many words are saved.
--   one         1 for a writing access, else 0
--   writes_in   how many accesses write
use Rattle.std.specs.Prelude.{ℕ, Bool, cond, List, count_by}
use Rattle.stock.specs.declared.access.Access.{Access}
use Rattle.stock.specs.Access.{writing_access}

abbrev pub one : Bool → ℕ
one b = cond b 1 0

abbrev pub writes_in : {V : Type 0} → List (Access V) → ℕ
writes_in xs = count_by writing_access xs
