-- What an outcome says, and who gives way to a request.
use Rattle.std.proofs.Common.{◌≡◌, ℕ, ◌<◌, Bool, true, cond, Some, Ok, Result}
use Rattle.meaning.specs.Meaning.{meaning}
use Rattle.rules.specs.Ledger.{Ledger}
use Rattle.rules.specs.Logical.{logical}
use Rattle.rules.specs.Machine.{Machine}
use Rattle.rules.specs.Outcome.{Outcome, answer_in, is_granted, ran}
use Rattle.rules.specs.Policy.{Policy}
use Rattle.rules.specs.ReadSet.{reads_it}
use Rattle.rules.specs.Replay.{Replays}
use Rattle.rules.specs.Request.{Request, access, begin, caller, cancel, commit, hardware, write_back}
use Rattle.rules.specs.State.{owns_to_write}
use Rattle.rules.specs.Tests.{is_active}
use Rattle.stock.specs.declared.access.Access.{Access}
use Rattle.stock.specs.declared.fault.StockFault.{StockFault}

module _ {V : Type 0} where
  -- m and l are as the request leaves them, l₀ as it found the ledger
  abbrev pub Holds : Policy V → Request V → Ledger V → Outcome V → Machine V → Ledger V → Type 0
  Holds P (begin t class) l₀ y m l = Unit {0}
  Holds P (access t o) l₀ y m l = (a : Result V StockFault) → answer_in y ≡ Some a → Replays P.arithmetic (logical m) (l.accesses t)
  Holds P (commit t) l₀ y m l = is_granted y ≡ true → Replays P.arithmetic l₀.figures (l₀.accesses t)
  Holds P (write_back t) l₀ y m l = Unit {0}
  Holds P (cancel t) l₀ y m l = Unit {0}
  Holds P (hardware t works os a) l₀ y m l =
      is_granted y ≡ true →
      ((meaning P.arithmetic os l₀.figures a).result ≡ Ok tt) × (y ≡ ran (meaning P.arithmetic os l₀.figures a).answers)

  -- thread t has the record r in some mode
  abbrev pub held : Machine V → ℕ → ℕ → Bool
  held m t r =
      let d = m.state.descriptors t in
      cond (owns_to_write t d.version (m.state.orecs r)) true (reads_it (m.state.orecs r) (d.reads r))

  -- a transaction of s gives way to the request: to an access of an active transaction that precedes it
  abbrev pub GivesWay : Policy V → Machine V → Request V → ℕ → Type 0
  GivesWay P m c s =
      (o : Access V) × (c ≡ access (caller c) o)
      × (is_active (m.state.descriptors (caller c)).status ≡ true)
      × (P.rules.precedes (m.state.descriptors (caller c)).priority (m.state.descriptors s).priority ≡ true)

  -- the active transaction of t precedes every other active one
  abbrev pub First : Policy V → Machine V → ℕ → Type 0
  First P m t =
      (is_active (m.state.descriptors t).status ≡ true)
      × ((s : ℕ) → s < 16 → (s ≡ t → ⊥) → is_active (m.state.descriptors s).status ≡ true →
      P.rules.precedes (m.state.descriptors t).priority (m.state.descriptors s).priority ≡ true)
