use Rattle.std.proofs.Common.{◌≡◌, length, take, drop}
use Rattle.meaning.specs.Laid.{laid}
use Rattle.meaning.specs.Meaning.{from, meaning}
use Rattle.meaning.specs.Store.{nth}
use Rattle.hardware.specs.Folding.{aside}
use Rattle.hardware.proofs.redo.RedoLogHardwarePath.run_fitting.Given as goal

abbrev pub invariant-loop-i : goal.invariant-loop-i
invariant-loop-i g l =
    record {
      listed : l.log.places.items ≡ aside (take l.i l.accesses);
      long : length l.log.values.now ≡ length l.initial.log.values.now;
      means : from g.V.Stock.arithmetic (nth l.words) l.i (drop l.i l.accesses) (nth (laid l.log.places.items l.log.values.now l.words)) l.answers ≡
          meaning g.V.Stock.arithmetic l.accesses (nth l.words) l.initial.answers;
    }
