-- write_back: the next redo value, in order of first writing, goes to its word. It answers that word and how many are left, and ends at 0.
use Rattle.std.specs.Prelude.{ℕ, ◌+◌, ◌-◌, cond, not, ◌||◌, [], length, ◌==◌, nat_le, nat_lt, slice_index_or}
use Rattle.decline.specs.declared.Decline.TheVariants.{UnknownThread, UnknownWord, WrongLength, WrongStatus}
use Rattle.meaning.specs.Check.{bad_count}
use Rattle.rules.specs.Changes.{ended_by}
use Rattle.rules.specs.Machine.{Machine, copied, on}
use Rattle.rules.specs.Outcome.{Outcome, declined, wrote_back}
use Rattle.rules.specs.Tests.{is_committed}

module _ {V : Type 0} where
  abbrev pub writing_back : ℕ → Machine V → Outcome V × Machine V
  writing_back t m =
      let d = m.state.descriptors t in
      let b = slice_index_or d.writes d.written_back 0 in
      let left = length d.writes - (d.written_back + 1) in
      let m' = copied t b m in
      cond (nat_lt 15 t) (declined UnknownThread [], m)
      (cond (bad_count m.count || not (m.redo_count == 512)) (declined WrongLength [], m)
      (cond (not (is_committed d.status)) (declined WrongStatus [], m)
      (cond (nat_le m.count b) (declined (UnknownWord 0) [], m)
      (wrote_back b left, cond (left == 0) (on (ended_by t) m') m'))))
