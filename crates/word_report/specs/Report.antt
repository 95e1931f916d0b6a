-- What is printed of a file of Counts.
--   line_of        the line of a filled word: its number, its orec by remainder and its count
--   word_line      the line of a word, and nothing for an empty one
--   lines_from     the lines of words, the first of which has number i
--   is_filled      whether a count is not 0
--   filled_in      how many words are not 0
--   total_in       the total of the counts
--   closing_of     the closing line
--   declined_of    the one line of a declined file: the decline by number, name and place
--   words_of       the lines and the closing line of words
--   outcome_of     what is printed of a load: its words, or where it is malformed
--   report_of      the whole text, by the bytes of the file
use Rattle.std.specs.Prelude.{ℕ, ◌+◌, ◌/◌, Bool, cond, not, List, [], ◌∷◌, ◌++◌, length, Ok, Err, codes, decimal, Result, ◌==◌, count_by, sum_by}
use Rattle.policy.specs.Maps.{by_remainder}
use Rattle.stock.specs.declared.count.Count.{Count}
use Rattle.decline.specs.declared.Decline.{Decline}
use Rattle.decline.specs.declared.Decline.TheVariants.{WrongLength, Malformed}
use Rattle.stock.specs.Count.{count}
use Rattle.decline.specs.Decline.{number_of, name_of, place_of}
use Rattle.storage.specs.File.{loaded, wrong_length}

abbrev pub line_of : ℕ → ℕ → List ℕ
line_of word n = decimal word ++ (codes " " ++ (decimal (by_remainder word) ++ (codes " " ++ (decimal n ++ codes "\n"))))

abbrev pub word_line : ℕ → ℕ → List ℕ
word_line word n = cond (n == 0) [] (line_of word n)

abbrev pub lines_from : ℕ → List Count → List ℕ
lines_from i [] = []
lines_from i (c ∷ cs) = word_line i c.value ++ lines_from (i + 1) cs

abbrev pub is_filled : Count → Bool
is_filled c = not (c.value == 0)

abbrev pub filled_in : List Count → ℕ
filled_in cs = count_by is_filled cs

abbrev pub total_in : List Count → ℕ
total_in cs = sum_by (λ (c : Count). c.value) cs

abbrev pub closing_of : ℕ → ℕ → ℕ → List ℕ
closing_of n some all = decimal n ++ (codes " words, " ++ (decimal some ++ (codes " filled, " ++ (decimal all ++ codes " in all\n"))))

abbrev pub declined_of : Decline → List ℕ
declined_of d =
    codes "declined: " ++ (decimal (number_of d) ++ (codes " " ++ (name_of d ++ (codes " at " ++ (decimal (place_of d) ++ codes "\n")))))

abbrev pub words_of : List Count → List ℕ
words_of cs = lines_from 0 cs ++ closing_of (length cs) (filled_in cs) (total_in cs)

abbrev pub outcome_of : Result (List Count) ℕ → List ℕ
outcome_of (Ok cs) = words_of cs
outcome_of (Err place) = declined_of (Malformed place)

abbrev pub report_of : List ℕ → List ℕ
report_of bytes = cond (wrong_length (length bytes / 8) (length bytes)) (declined_of WrongLength) (outcome_of (loaded count bytes))
