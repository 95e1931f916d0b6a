-- The one number of an ownership record, and the record of a number.
--     packed      mode + 4 × readers + 1,024 × thread + 65,536 × version
--     mode_of     the mode that has a number, if one has
--     read_off    the record of a mode whose other fields are read off the number
--     kept        a record that is well formed; nothing of another one
--     kept_of     what is kept of a number at its mode, if it has one
--     unpacked    the well-formed record that is read off a number, if there is one
use Rattle.std.specs.Prelude.{ℕ, ◌+◌, ◌*◌, ◌/◌, ◌%◌, cond, Some, None, Option, ◌==◌}
use Rattle.policy.specs.Orec.{mode_number, well_formed}
use Rattle.policy.specs.declared.orec.Mode.{Mode}
use Rattle.policy.specs.declared.orec.Mode.TheVariants.{Free, Read, Write}
use Rattle.policy.specs.declared.orec.OwnershipRecord.{OwnershipRecord}

abbrev pub packed : OwnershipRecord → ℕ
packed o = mode_number o.mode + 4 * o.readers + 1024 * o.thread + 65536 * o.version

abbrev pub mode_of : ℕ → Option Mode
mode_of n =
    cond (n == mode_number Free) (Some Free) (cond (n == mode_number Read) (Some Read) (cond (n == mode_number Write) (Some Write) None))

abbrev pub read_off : Mode → ℕ → OwnershipRecord
read_off m n = record { mode = m; readers = n % 1024 / 4; thread = n % 65536 / 1024; version = n / 65536 }

abbrev pub kept : OwnershipRecord → Option OwnershipRecord
kept o = cond (well_formed o) (Some o) None

abbrev pub kept_of : Option Mode → ℕ → Option OwnershipRecord
kept_of (Some m) n = kept (read_off m n)
kept_of None n = None

abbrev pub unpacked : ℕ → Option OwnershipRecord
unpacked n = kept_of (mode_of (n % 4)) n
