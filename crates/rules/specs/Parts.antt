-- Words for the orecs and descriptors that the elementary changes of a control state leave.
--   shared        an orec with one reader more: thread and version stay
--   exclusive     an orec in write mode for thread t at version v
--   newly_begun   the descriptor of a transaction that has just begun
--   kept          a descriptor that is committed with something to write back: nothing read any more
use Rattle.std.specs.Prelude.{ℕ, ◌+◌, cond, [], None}
use Rattle.policy.specs.declared.orec.Mode.TheVariants.{Read, Write}
use Rattle.policy.specs.declared.orec.OwnershipRecord.{OwnershipRecord}
use Rattle.rules.specs.declared.descriptor.Status.TheVariants.{Active, Committed}
use Rattle.rules.specs.State.{Descriptor, with_reads, with_status}
use Rattle.rules.specs.Tests.{is_read}

abbrev pub shared : OwnershipRecord → OwnershipRecord
shared o = record { mode = Read; readers = cond (is_read o.mode) (o.readers + 1) 1; thread = o.thread; version = o.version }

abbrev pub exclusive : ℕ → ℕ → OwnershipRecord
exclusive t v = record { mode = Write; readers = 0; thread = t; version = v }

abbrev pub newly_begun : (thread class start version : ℕ) → Descriptor
newly_begun t class start v =
    record {
      status = Active;
      version = v;
      priority = record { class = class; start = start; thread = t };
      reads = λ r. None;
      writes = [];
      written_back = 0;
    }

abbrev pub kept : Descriptor → Descriptor
kept d = with_status Committed (with_reads (λ r. None) d)
