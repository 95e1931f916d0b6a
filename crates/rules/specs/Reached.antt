-- What holds of every memory that a run comes to.
use Rattle.std.specs.Prelude.{◌≡◌, ℕ, ◌<◌, true, ◌↔◌}
use Rattle.policy.specs.declared.orec.Mode.TheVariants.{Free}
use Rattle.rules.specs.declared.descriptor.Status.TheVariants.{Aborted, Active, Committed}
use Rattle.rules.specs.Course.{Course}
use Rattle.rules.specs.Logical.{pends}
use Rattle.rules.specs.Outside.{Foremost, IsAborted, IsActive}
use Rattle.rules.specs.Ownership.{read_bit}
use Rattle.rules.specs.Policy.{Policy}
use Rattle.rules.specs.Sound.{SoundState}
use Rattle.rules.specs.State.{under_way}
use Rattle.rules.specs.Tables.{tally}

pub record Reached {V : Type 0} (P : Policy V) (s : Course V) : Type 0 where
  -- records and descriptors keep their shapes and bounds
  pub sound : SoundState s.memory.state
  -- an orec's readers are the threads whose first ownership number has its bit
  pub readers_counted : (r : ℕ) → r < 64 → (s.memory.state.orecs r).readers ≡ tally (λ t. read_bit s.memory.state t r) 16
  -- with none under way every orec is free
  pub quiet_free : under_way s.memory.state ≡ 0 → (r : ℕ) → (s.memory.state.orecs r).mode ≡ Free
  -- what is told from outside is the status
  pub active_told : (t : ℕ) → t < 16 → IsActive P s.memory t ↔ ((s.memory.state.descriptors t).status ≡ Active)
  pub aborted_told : (t : ℕ) → t < 16 → IsAborted P s.memory t ↔ ((s.memory.state.descriptors t).status ≡ Aborted)
  pub committed_told : (t : ℕ) → t < 16 → (s.committed t ≡ true) ↔ ((s.memory.state.descriptors t).status ≡ Committed)
  -- whenever some are active, one precedes every other active one
  pub foremost_exists : (t : ℕ) → IsActive P s.memory t → (u : ℕ) × Foremost P s.memory u
  -- at most one committed transaction has still to write back a word
  pub one_writes_back :
      (t u b : ℕ) → pends (s.memory.state.descriptors t) b ≡ true → pends (s.memory.state.descriptors u) b ≡ true → t ≡ u
