-- The elementary changes of a control state.
--   begun_by      t begins: the next version and start number, both sets empty
--   aborted_by    t's transaction is aborted, and keeps what it has
--   read_by       t takes the orec r to read: one reader more, thread and version stay, a snapshot is noted
--   written_by    t takes the orec r to write: own thread and version, and its own snapshot of r is gone
--   listed_by     the word b is among those that t has written
--   kept_by       t is committed with something to write back, and releases what it has read
--   backed_by     one more of t's words is written back
--   ended_by      t's transaction ends
use Rattle.std.specs.Prelude.{ℕ, ◌+◌, cond, [], Some, None}
use Rattle.meaning.specs.Store.{put}
use Rattle.policy.specs.declared.orec.Mode.TheVariants.{Read, Write}
use Rattle.rules.specs.declared.descriptor.Status.TheVariants.{Aborted, Active, Committed}
use Rattle.rules.specs.Release.{released, unread}
use Rattle.rules.specs.State.{Descriptor, State, idle}
use Rattle.rules.specs.Tests.{is_read}
use Rattle.rules.specs.WriteSet.{with}

-- another descriptor for t, all else as it was
abbrev pub with_descriptor : ℕ → Descriptor → State → State
with_descriptor t d c = record { orecs = c.orecs; descriptors = put c.descriptors t d; begins = c.begins }

abbrev pub begun_by : ℕ → ℕ → State → State
begun_by t class c =
    record {
      orecs = c.orecs;
      descriptors =
          put c.descriptors t
          (record {
            status = Active;
            version = (c.descriptors t).version + 1;
            priority = record { class = class; start = c.begins + 1; thread = t };
            reads = λ r. None;
            writes = [];
            written_back = 0;
          });
      begins = c.begins + 1;
    }

abbrev pub aborted_by : ℕ → State → State
aborted_by t c =
    let d = c.descriptors t in
    with_descriptor t
    (record { status = Aborted; version = d.version; priority = d.priority; reads = d.reads; writes = d.writes; written_back = d.written_back })
    c

abbrev pub read_by : ℕ → ℕ → State → State
read_by t r c =
    let d = c.descriptors t in
    let o = c.orecs r in
    record {
      orecs =
          put c.orecs r
          (record { mode = Read; readers = cond (is_read o.mode) (o.readers + 1) 1; thread = o.thread; version = o.version });
      descriptors =
          put c.descriptors t
          (record {
            status = d.status;
            version = d.version;
            priority = d.priority;
            reads = put d.reads r (Some (record { thread = o.thread; version = o.version }));
            writes = d.writes;
            written_back = d.written_back;
          });
      begins = c.begins;
    }

abbrev pub written_by : ℕ → ℕ → State → State
written_by t r c =
    let d = c.descriptors t in
    record {
      orecs = put c.orecs r (record { mode = Write; readers = 0; thread = t; version = d.version });
      descriptors =
          put c.descriptors t
          (record {
            status = d.status;
            version = d.version;
            priority = d.priority;
            reads = put d.reads r None;
            writes = d.writes;
            written_back = d.written_back;
          });
      begins = c.begins;
    }

abbrev pub listed_by : ℕ → ℕ → State → State
listed_by t b c =
    let d = c.descriptors t in
    with_descriptor t
    (record { status = d.status; version = d.version; priority = d.priority; reads = d.reads; writes = with b d.writes; written_back = d.written_back })
    c

abbrev pub kept_by : ℕ → State → State
kept_by t c =
    let d = c.descriptors t in
    record {
      orecs = λ r. unread (d.reads r) (c.orecs r);
      descriptors =
          put c.descriptors t
          (record {
            status = Committed;
            version = d.version;
            priority = d.priority;
            reads = λ r. None;
            writes = d.writes;
            written_back = d.written_back;
          });
      begins = c.begins;
    }

abbrev pub backed_by : ℕ → State → State
backed_by t c =
    let d = c.descriptors t in
    with_descriptor t
    (record { status = d.status; version = d.version; priority = d.priority; reads = d.reads; writes = d.writes; written_back = d.written_back + 1 })
    c

abbrev pub ended_by : ℕ → State → State
ended_by t c =
    let d = c.descriptors t in
    record { orecs = λ r. released t d r (c.orecs r); descriptors = put c.descriptors t (idle d.version); begins = c.begins }
