-- Transactions told from outside the memory, and who goes first among them.
--   IsActive       a cancel would be granted
--   IsAborted      a cancel would return 7
--   Precedes       the transaction of t precedes that of s, by their priorities
--   ByPreceding    the request is an access of an active transaction that precedes that of s
--   Foremost       the active transaction of t precedes every other active one
use Rattle.std.specs.Prelude.{◌≡◌, ℕ, true, ◌≢◌}
use Rattle.stock.specs.declared.access.Access.{Access}
use Rattle.rules.specs.Machine.{Machine}
use Rattle.rules.specs.Next.{next}
use Rattle.rules.specs.Outcome.{is_granted, returned}
use Rattle.rules.specs.Policy.{Policy}
use Rattle.rules.specs.Request.{Request, access, cancel}

module _ {V : Type 0} (P : Policy V) (m : Machine V) where
  abbrev pub IsActive : ℕ → Type 0
  IsActive t = is_granted (next P m (cancel t)).0 ≡ true

  abbrev pub IsAborted : ℕ → Type 0
  IsAborted t = returned (next P m (cancel t)).0 ≡ 7

  abbrev pub Precedes : ℕ → ℕ → Type 0
  Precedes t s = P.rules.precedes (m.state.descriptors t).priority (m.state.descriptors s).priority ≡ true

  abbrev pub ByPreceding : Request V → ℕ → Type 0
  ByPreceding c s = (t : ℕ) × (a : Access V) × (c ≡ access t a) × IsActive t × Precedes t s

  abbrev pub Foremost : ℕ → Type 0
  Foremost t = IsActive t × ((s : ℕ) → (s ≢ t) → IsActive s → Precedes t s)
