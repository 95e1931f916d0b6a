-- What is left of an ownership record that a transaction gives up: thread and version stay.
--   lowered    one reader less; without readers it is free
--   freed      free
--   unread     after a valid snapshot of it is released; one that is not valid touches nothing
--   released   after thread t, with the descriptor d, ends
use Rattle.std.specs.Prelude.{ℕ, ◌-◌, cond, Option, nat_le}
use Rattle.policy.specs.declared.orec.Mode.TheVariants.{Free, Read}
use Rattle.policy.specs.declared.orec.OwnershipRecord.{OwnershipRecord}
use Rattle.rules.specs.declared.descriptor.Seen.{Seen}
use Rattle.rules.specs.ReadSet.{reads_it}
use Rattle.rules.specs.State.{Descriptor, owns_to_write}

abbrev pub lowered : OwnershipRecord → OwnershipRecord
lowered o = record { mode = cond (nat_le o.readers 1) Free Read; readers = o.readers - 1; thread = o.thread; version = o.version }

abbrev pub freed : OwnershipRecord → OwnershipRecord
freed o = record { mode = Free; readers = 0; thread = o.thread; version = o.version }

abbrev pub unread : Option Seen → OwnershipRecord → OwnershipRecord
unread x o = cond (reads_it o x) (lowered o) o

abbrev pub released : ℕ → Descriptor → ℕ → OwnershipRecord → OwnershipRecord
released t d r o = cond (owns_to_write t d.version o) (freed o) (unread (d.reads r) o)
