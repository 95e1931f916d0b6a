use Rattle.std.proofs.Common.{◌≡◌, ℕ, ◌+◌, ◌<◌, true, false, List, [], ◌∷◌, ◌++◌, length, take, get_or, arith, rules}
use Rattle.std.proofs.Output.{has_written_append, has_written_of_eq}
use Rattle.std.proofs.lemmas.Grind.{common_steps}
use Rattle.stock.specs.declared.count.Count.{Count}
use Rattle.word_report.specs.Report.{line_of, word_line, lines_from, is_filled}
use Rattle.word_report.proofs.words.WordsDisplay.fmt.Goals as goal
use Rattle.word_report.proofs.words.WordsDisplay.fmt.Goals.{then-is_filled+in_ok-write, else-is_filled}

lines_push : (i : ℕ) (cs : List Count) (c : Count) → lines_from i (cs ++ (c ∷ [])) ≡ lines_from i cs ++ word_line (i + length cs) c.value
lines_push i [] c = grind (arith, common_steps)
lines_push i (x ∷ cs) c = grind (arith, common_steps, lines_push (i + 1) cs c)

filled_more : (cs : List Count) (i : ℕ) (c : Count) → i < length cs → c ≡ get_or cs i c → is_filled c ≡ true →
    lines_from 0 (take i cs) ++ line_of i c.value ≡ lines_from 0 (take (i + 1) cs)
filled_more cs i c h e filled = grind (arith, common_steps, lines_push 0 (take i cs) c)

empty_more : (cs : List Count) (i : ℕ) (c : Count) → i < length cs → c ≡ get_or cs i c → is_filled c ≡ false →
    lines_from 0 (take i cs) ≡ lines_from 0 (take (i + 1) cs)
empty_more cs i c h e empty = grind (arith, common_steps, lines_push 0 (take i cs) c)

pub loop-word-preserved : goal.loop-word-preserved
loop-word-preserved g c = λ p.
    elim c.if-is_filled.branch [
      | then-is_filled+in_ok-write w ↦ has_written_of_eq _ _ _ _ _ (filled_more _ _ _ c.loop-word-test.true c.count-item.is (cc)) (has_written_append _ _ _ _ _ _ (c.loop-word.invariant p) (search rules))
      | else-is_filled w ↦ has_written_of_eq _ _ _ _ _ (empty_more _ _ _ c.loop-word-test.true c.count-item.is (cc)) (search rules)
    ]
