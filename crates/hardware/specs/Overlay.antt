-- Words set aside in a log, while a transaction runs.
--   with_word   the words set aside after an access
use Rattle.std.specs.Prelude.{ℕ, List}
use Rattle.stock.specs.declared.access.Access.{Access}
use Rattle.hardware.specs.Limits.{with_shape}

abbrev pub with_word : {V : Type 0} → List ℕ → Access V → List ℕ
with_word bs a = with_shape bs (a.kind, a.word)
