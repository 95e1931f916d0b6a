-- What the two numbers of `masks` say.
--   Shown             of one thread: bit r of the first is whether it reads r, of the second whether it has r to write;
--                     both are of 64 bits, and their ones together count what it reads and what it has to write
--   OwnershipShown    this holds in every state, of every thread
--   ReadersShown      in a sound state the readers of an orec are the threads whose first number has its bit, whatever the mode
use Rattle.std.specs.Prelude.{◌≡◌, ℕ, ◌+◌, ◌^◌, ◌<◌, count_ones}
use Rattle.rules.specs.Ownership.{bit, masks, reading, writing}
use Rattle.rules.specs.Sound.{SoundState}
use Rattle.rules.specs.State.{State}
use Rattle.rules.specs.Tables.{tally}

pub record Shown (c : State) (t : ℕ) : Type 0 where
  pub reads_shown : (r : ℕ) → r < 64 → bit r (masks c t).0 ≡ reading c t r
  pub writes_shown : (r : ℕ) → r < 64 → bit r (masks c t).1 ≡ writing c t r
  pub reads_fit : (masks c t).0 < 2 ^ 64
  pub writes_fit : (masks c t).1 < 2 ^ 64
  pub count_shown : count_ones (masks c t).0 + count_ones (masks c t).1 ≡ tally (reading c t) 64 + tally (writing c t) 64

abbrev pub OwnershipShown : Type 0
OwnershipShown = (c : State) (t : ℕ) → Shown c t

abbrev pub ReadersShown : Type 0
ReadersShown = (c : State) → SoundState c → (r : ℕ) → r < 64 → (c.orecs r).readers ≡ tally (λ t. bit r (masks c t).0) 16
