use Rattle.std.proofs.Common.{ℕ, ◌<◌, length, All, subst, sym, ap, ◌∙◌, arith}
use Rattle.meaning.specs.Laid.{laid}
use Rattle.meaning.specs.Meaning.{answer}
use Rattle.meaning.specs.Store.{nth}
use Rattle.meaning.proofs.Course.{goes_on}
use Rattle.meaning.proofs.Passed.{ready_word}
use Rattle.meaning.proofs.Writes.{writes_next}
use Rattle.meaning.proofs.undo.run_saving.Goals as goal

pub loop-i-preserved : goal.loop-i-preserved
loop-i-preserved g c =
    let xs = c.args.accesses.now in
    let a = c.index-accesses-i.result in
    let i = c.loop-i.i in
    let h = c.loop-i-test.true in
    let e = c.step.ensures in
    let inv = c.loop-i.invariant in
    let word = ready_word (length c.args.words.now) (length c.args.answers.now) xs c.requires.0 i a h c.index-accesses-i.is in
    record {
      count = omega (arith, c.save.ensures.count, inv.count, writes_next xs i a h c.index-accesses-i.is);
      inside = subst (λ (n : ℕ). All (λ place. place < n) c.save.new.log.places.items) (sym c.step.auto.words) (c.save.ensures.inside inv.inside);
      means = goes_on g.V.Stock.arithmetic (nth c.args.words.now) xs i a h c.index-accesses-i.is c.loop-i.words c.loop-i.answers
          c.step.new.words c.step.new.answers c.step.result _ _ (omega (arith, word)) e.outcome c.in_default.is e.words e.answers inv.means;
      long = c.save.ensures.long ∙ inv.long;
      undoes = ap (laid c.save.new.log.places.items c.save.new.log.values.now) e.words
          ∙ (c.save.ensures.undoes (answer g.V.Stock.arithmetic (nth c.loop-i.words) a) ∙ inv.undoes);
    }
