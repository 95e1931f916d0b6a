use Rattle.std.proofs.Common.{◌≡◌, drop}
use Rattle.meaning.specs.Check.{checked}
use Rattle.meaning.proofs.check.check_accesses.Given as goal

abbrev pub invariant-loop-i : goal.invariant-loop-i
invariant-loop-i g l = checked l.i l.words (drop l.i l.accesses) ≡ checked 0 l.words l.accesses
