-- What a hardware path sees of a transaction, and what it does.
--   shapes   the kind and the word of each access
--   Known    kinds and words that have been checked
--   ran      gives up on what does not fit, with all as before; otherwise the meaning
use Rattle.std.specs.Prelude.{ℕ, ◌<◌, Bool, true, false, List, map, Err}
use Rattle.std.specs.List.{AllByRecursion}
use Rattle.stock.specs.declared.access.Access.{Access}
use Rattle.decline.specs.declared.Decline.TheVariants.{Unfit}
use Rattle.stock.specs.Arithmetic.{Arithmetic}
use Rattle.meaning.specs.Meaning.{meaning}
use Rattle.meaning.specs.Perform.{Performed, concluded}
use Rattle.meaning.specs.Store.{Store}

abbrev pub Known : List (ℕ × ℕ) → Type 0
Known s = AllByRecursion (λ x. (x.0 < 4) × (x.1 < 4096)) s

module _ {V : Type 0} where
  abbrev pub shapes : List (Access V) → List (ℕ × ℕ)
  shapes xs = map (λ a. (a.kind, a.word)) xs

  abbrev pub ran : Bool → Arithmetic V → List (Access V) → Store V → List V → Performed V
  ran true A accesses F ys = concluded (meaning A accesses F ys)
  ran false A accesses F ys = record { outcome = Err Unfit; words = F; answers = ys }
