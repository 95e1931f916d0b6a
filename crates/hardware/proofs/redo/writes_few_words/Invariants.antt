use Rattle.std.proofs.Common.{◌≡◌, ◌≤◌, length, take}
use Rattle.hardware.specs.Folding.{aside}
use Rattle.hardware.proofs.redo.writes_few_words.Given as goal

abbrev pub invariant-loop-access : goal.invariant-loop-access
invariant-loop-access g l =
    record {
      listed : l.places.items ≡ aside (take l.access-index l.accesses);
      few : length l.places.items ≤ 16;
    }
