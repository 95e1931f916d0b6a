use Rattle.std.proofs.Common.{◌≡◌, ◌<◌, length, take, drop, All}
use Rattle.meaning.specs.Laid.{laid}
use Rattle.meaning.specs.Meaning.{from, meaning}
use Rattle.meaning.specs.Store.{nth}
use Rattle.meaning.specs.Undo.{writes_in}
use Rattle.meaning.proofs.undo.run_saving.Given as goal

abbrev pub invariant-loop-i : goal.invariant-loop-i
invariant-loop-i g l =
    record {
      count : length l.log.places.items ≡ writes_in (take l.i l.accesses);
      inside : All (λ place. place < length l.words) l.log.places.items;
      means : from g.V.Stock.arithmetic (nth l.initial.words) l.i (drop l.i l.accesses) (nth l.words) l.answers ≡
          meaning g.V.Stock.arithmetic l.accesses (nth l.initial.words) l.initial.answers;
      long : length l.log.values.now ≡ length l.initial.log.values.now;
      undoes : laid l.log.places.items l.log.values.now l.words ≡ l.initial.words;
    }
