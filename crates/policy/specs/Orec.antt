-- Ownership records: the number of each mode, the record that a new memory starts from, and which records are well formed.
--     mode_number    free 0, read 1, write 2
--     new_record     free, with no readers, of thread 0 and version 0
--     readers_fit    none when free or in write mode, 1 to 16 in read mode
--     well_formed    the readers fit the mode, the thread is at most 15 and the version at most 1,000,000
use Rattle.std.specs.Prelude.{ℕ, Bool, ◌&&◌, ◌==◌, nat_le}
use Rattle.policy.specs.declared.orec.Mode.{Mode}
use Rattle.policy.specs.declared.orec.Mode.TheVariants.{Free, Read, Write}
use Rattle.policy.specs.declared.orec.OwnershipRecord.{OwnershipRecord}

abbrev pub mode_number : Mode → ℕ
mode_number Free = 0
mode_number Read = 1
mode_number Write = 2

abbrev pub new_record : OwnershipRecord
new_record = record { mode = Free; readers = 0; thread = 0; version = 0 }

abbrev pub readers_fit : Mode → ℕ → Bool
readers_fit Free n = n == 0
readers_fit Read n = nat_le 1 n && nat_le n 16
readers_fit Write n = n == 0

abbrev pub well_formed : OwnershipRecord → Bool
well_formed o = readers_fit o.mode o.readers && nat_le o.thread 15 && nat_le o.version 1000000
