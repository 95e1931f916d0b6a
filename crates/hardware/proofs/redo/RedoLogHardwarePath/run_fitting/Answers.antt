use Rattle.std.proofs.Common.{length, ◌∙◌, arith}
use Rattle.meaning.specs.Laid.{laid}
use Rattle.meaning.specs.Store.{nth}
use Rattle.meaning.proofs.Course.{goes_on}
use Rattle.meaning.proofs.Laying.{length_laid}
use Rattle.meaning.proofs.Passed.{ready_word}
use Rattle.hardware.proofs.Listed.{listed_next}
use Rattle.hardware.proofs.redo.RedoLogHardwarePath.run_fitting.Goals as goal

pub loop-i-preserved : goal.loop-i-preserved
loop-i-preserved g c =
    let xs = c.args.accesses.now in
    let a = c.index-accesses-i.result in
    let i = c.loop-i.i in
    let h = c.loop-i-test.true in
    let ws = c.args.words.now in
    let e = c.step_aside.ensures in
    let bs = c.loop-i.log.places.items in
    let vs = c.loop-i.log.values.now in
    let word = ready_word (length ws) (length c.args.answers.now) xs c.requires.ready i a h c.index-accesses-i.is in
    record {
      listed = c.in_ok-step_aside.ensures.places ∙ listed_next bs xs i c.loop-i.invariant.listed a h c.index-accesses-i.is;
      long = e.long ∙ c.loop-i.invariant.long;
      means = goes_on g.V.Stock.arithmetic (nth ws) xs i a h c.index-accesses-i.is (laid bs vs ws) c.loop-i.answers _ c.step_aside.new.answers
          c.step_aside.result tt _ (omega (arith, word, length_laid bs vs ws)) e.outcome c.in_ok-step_aside.was
          e.words e.answers c.loop-i.invariant.means;
    }
