-- The control state of a memory: ownership records, descriptors, and how many transactions have begun. It holds no values.
--   Descriptor   a thread's transaction; of the words written the first `written_back` are written back
--   with_status, with_reads, with_writes, with_written_back   the descriptor with one part changed
--   State        64 ownership records, 16 descriptors, the begins so far
--   idle         a descriptor with no transaction, at a version
--   new_state    every orec as new, every descriptor idle at version 0, no begin counted
--   owns_to_write   thread t has the orec in write mode at version v
--   under_way    how many transactions are not idle
use Rattle.std.specs.Prelude.{ℕ, Bool, not, ◌&&◌, List, [], None, Option, ◌==◌}
use Rattle.policy.specs.declared.orec.OwnershipRecord.{OwnershipRecord}
use Rattle.policy.specs.declared.priority.Priority.{Priority}
use Rattle.policy.specs.Orec.{new_record}
use Rattle.rules.specs.declared.descriptor.Seen.{Seen}
use Rattle.rules.specs.declared.descriptor.Status.{Status}
use Rattle.rules.specs.declared.descriptor.Status.TheVariants.{Idle}
use Rattle.rules.specs.Tables.{tally}
use Rattle.rules.specs.Tests.{is_idle, is_write}

pub record Descriptor : Type 0 where
  pub status : Status
  pub version : ℕ
  pub priority : Priority
  pub reads : ℕ → Option Seen
  pub writes : List ℕ
  pub written_back : ℕ

abbrev pub with_status : Status → Descriptor → Descriptor
with_status x d = record { status = x; version = d.version; priority = d.priority; reads = d.reads; writes = d.writes; written_back = d.written_back }

abbrev pub with_reads : (ℕ → Option Seen) → Descriptor → Descriptor
with_reads es d = record { status = d.status; version = d.version; priority = d.priority; reads = es; writes = d.writes; written_back = d.written_back }

abbrev pub with_writes : List ℕ → Descriptor → Descriptor
with_writes ws d = record { status = d.status; version = d.version; priority = d.priority; reads = d.reads; writes = ws; written_back = d.written_back }

abbrev pub with_written_back : ℕ → Descriptor → Descriptor
with_written_back n d = record { status = d.status; version = d.version; priority = d.priority; reads = d.reads; writes = d.writes; written_back = n }

pub record State : Type 0 where
  pub orecs : ℕ → OwnershipRecord
  pub descriptors : ℕ → Descriptor
  pub begins : ℕ

abbrev pub idle : ℕ → Descriptor
idle v =
    record {
      status = Idle;
      version = v;
      priority = record { class = 0; start = 0; thread = 0 };
      reads = λ r. None;
      writes = [];
      written_back = 0;
    }

abbrev pub new_state : State
new_state = record { orecs = λ r. new_record; descriptors = λ t. idle 0; begins = 0 }

abbrev pub owns_to_write : ℕ → ℕ → OwnershipRecord → Bool
owns_to_write t v o = is_write o.mode && (o.thread == t && o.version == v)

abbrev pub under_way : State → ℕ
under_way c = tally (λ t. not (is_idle (c.descriptors t).status)) 16
