use Rattle.std.proofs.Common.{◌≡◌, ℕ, ◌/◌, min, List, length, Err, arith, rules}
use Rattle.std.proofs.lemmas.Bool.Decides.{nat_tests}
use Rattle.decline.specs.declared.Decline.{Decline}
use Rattle.stock.specs.Count.{count}
use Rattle.meaning.specs.declared.check.TheConstants.{MAX_WORDS}
use Rattle.storage.specs.File.{loaded_result}
use Rattle.word_report.specs.Report.{declined_of, report_of}
use Rattle.word_report.proofs.report.report_with.Goals as goal

-- A file of too many words has a wrong length for the most words, too.
declined_report : (bytes : List ℕ) (n : ℕ) (d : Decline) → n ≡ min (length bytes / 8) MAX_WORDS →
    Err d ≡ loaded_result count n bytes → declined_of d ≡ report_of bytes
declined_report bytes n d room declined = grind (arith, nat_tests)

pub returns-in-Err : goal.returns-in-Err
returns-in-Err c = search (rules, declined_report)
