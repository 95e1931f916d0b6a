-- Taking an ownership record: who waits, and who is aborted.
--   takes      an access of t takes the orec: a look unless t has a snapshot of it or owns it to write, a writing access unless t owns it to write
--   full       no place is left for what the access needs: a 33rd written word, or a 33rd snapshot
--   waits_for  the thread that an access to take the orec r waits for: the owner to write, if it is committed, or active and precedes;
--              for a writing access in read mode, the lowest active thread with a valid snapshot that precedes
--   cleared    an active owner that gives way is aborted
--   acquired   the orec is taken
use Rattle.std.specs.Prelude.{ℕ, Bool, cond, not, ◌&&◌, ◌||◌, length, is_some, Some, None, Option, nat_le}
use Rattle.policy.specs.declared.orec.OwnershipRecord.{OwnershipRecord}
use Rattle.policy.specs.declared.priority.Priority.{Priority}
use Rattle.rules.specs.Changes.{aborted_by, read_by, written_by}
use Rattle.rules.specs.ReadSet.{reads_it, size}
use Rattle.rules.specs.State.{Descriptor, State, owns_to_write}
use Rattle.rules.specs.Tables.{lowest}
use Rattle.rules.specs.Tests.{is_active, is_committed, is_read, is_write}
use Rattle.rules.specs.WriteSet.{has}

abbrev pub takes : Bool → ℕ → Descriptor → ℕ → OwnershipRecord → Bool
takes writing t d r o = not (owns_to_write t d.version o || (not writing && is_some (d.reads r)))

abbrev pub full : Bool → Bool → ℕ → Descriptor → Bool
full writing taking b d =
    cond writing (not (has b d.writes) && nat_le 32 (length d.writes)) (taking && nat_le 32 (size d.reads))

abbrev pub waits_for : (Priority → Priority → Bool) → Bool → Descriptor → ℕ → State → Option ℕ
waits_for precedes writing d r c =
    let o = c.orecs r in
    let q = c.descriptors o.thread in
    cond (is_write o.mode)
    (cond (is_committed q.status || (is_active q.status && precedes q.priority d.priority)) (Some o.thread) None)
    (cond (writing && is_read o.mode)
    (lowest
    (λ s. let e = c.descriptors s in is_active e.status && (reads_it o (e.reads r) && precedes e.priority d.priority))
    16)
    None)

abbrev pub cleared : ℕ → State → State
cleared r c =
    let o = c.orecs r in
    cond (is_write o.mode && is_active (c.descriptors o.thread).status) (aborted_by o.thread c) c

abbrev pub acquired : Bool → ℕ → ℕ → State → State
acquired writing t r c = cond writing (written_by t r (cleared r c)) (read_by t r (cleared r c))
