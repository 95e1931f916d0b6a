use Rattle.std.proofs.Common.{sym, ◌∙◌}
use Rattle.std.proofs.lemmas.Result.{err_from_is_err_and}
use Rattle.meaning.specs.Store.{nth}
use Rattle.hardware.proofs.Fitting.{granted, faulted, words_left}
use Rattle.hardware.proofs.path.HardwarePath.run.Goals as goal

pub returns-in_err-run_fitting-clause-outcome : goal.returns-in_err-run_fitting-clause-outcome
returns-in_err-run_fitting-clause-outcome g c =
    let p = err_from_is_err_and c.from_residual.result c.from_residual.ensures.1 in
    p.1 ∙ rw p.2
    (faulted _ g.V.Stock.arithmetic c.args.accesses.now (nth c.args.words.now) c.args.answers.now (sym c.if-not-fits.ensures) _
    c.in_err-run_fitting.ensures.outcome)

pub returns-in_err-run_fitting-clause-words : goal.returns-in_err-run_fitting-clause-words
returns-in_err-run_fitting-clause-words g c =
    words_left _ g.V.Stock.arithmetic c.args.accesses.now (nth c.args.words.now) c.args.answers.now (sym c.if-not-fits.ensures) _
    c.in_err-run_fitting.ensures.words

pub returns-clause-outcome : goal.returns-clause-outcome
returns-clause-outcome g c =
    granted _ g.V.Stock.arithmetic c.args.accesses.now (nth c.args.words.now) c.args.answers.now (sym c.if-not-fits.ensures)
    c.in_ok-run_fitting.ensures.outcome
