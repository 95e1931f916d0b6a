-- Words on file: each word's code in 8 bytes, low byte first, and nothing else.
--   bytes_of        the eight bytes of a code
--   code_of         the code of eight bytes
--   chunks_in       the bytes of a file's codes, eight by eight
--   wrong_length    a bad number of words, or not 8 bytes for each
--   measured        the outcome for n words and m bytes: a wrong length is declined
--   granted         one value if a call is granted, another if it is declined
--   file_of         the file of some words
--   stored_file     what the file holds after `store`
--   value_of        the value that eight bytes stand for, if any
--   is_bad          they stand for none
--   unless_bad      the values, or the place of a bad code
--   loaded          the words of a file, or the place of its first bad code
--   checked         a load as an outcome
--   loaded_result   what `load` answers for n words
--   words_or        the words of a load, or the old ones
--   loaded_words    what the words are after `load`
use Rattle.std.specs.Prelude.{ℕ, ◌*◌, ◌/◌, Bool, cond, not, ◌||◌, List, length, Some, None, Ok, Err, Option, Result, ◌==◌}
use Rattle.std.specs.Int.{w64, to_le_bytes, from_le_bytes}
use Rattle.std.specs.List.{flat_map, filter_map, position}
use Rattle.std.specs.Option.{is_none}
use Rattle.std.specs.Simd.{first_chunks}
use Rattle.decline.specs.declared.Decline.{Decline}
use Rattle.decline.specs.declared.Decline.TheVariants.{WrongLength, Malformed}
use Rattle.meaning.specs.Check.{and_then, bad_count}

abbrev pub bytes_of : ℕ → List ℕ
bytes_of code = to_le_bytes w64 code

abbrev pub code_of : List ℕ → ℕ
code_of bytes = from_le_bytes w64 bytes

abbrev pub chunks_in : List ℕ → List (List ℕ)
chunks_in file = first_chunks 8 (length file / 8) file

abbrev pub wrong_length : ℕ → ℕ → Bool
wrong_length n m = bad_count n || not (m == 8 * n)

abbrev pub measured : ℕ → ℕ → Result (Unit {0}) Decline
measured n m = cond (wrong_length n m) (Err WrongLength) (Ok tt)

abbrev pub granted : {X : Type 0} → Result (Unit {0}) Decline → X → X → X
granted (Ok done) new old = new
granted (Err d) new old = old

module _ {V : Type 0} where
  abbrev pub file_of : (V → ℕ) → List V → List ℕ
  file_of codes words = flat_map (λ v. bytes_of (codes v)) words

  abbrev pub stored_file : (V → ℕ) → List V → List ℕ → List ℕ
  stored_file codes words file = granted (measured (length words) (length file)) (file_of codes words) file

  abbrev pub value_of : (ℕ → Option V) → List ℕ → Option V
  value_of decodes bytes = decodes (code_of bytes)

  abbrev pub is_bad : (ℕ → Option V) → List ℕ → Bool
  is_bad decodes bytes = is_none (value_of decodes bytes)

  abbrev pub unless_bad : Option ℕ → List V → Result (List V) ℕ
  unless_bad None vs = Ok vs
  unless_bad (Some place) vs = Err place

  abbrev pub loaded : (ℕ → Option V) → List ℕ → Result (List V) ℕ
  loaded decodes file = unless_bad (position (is_bad decodes) (chunks_in file)) (filter_map (value_of decodes) (chunks_in file))

  abbrev pub checked : Result (List V) ℕ → Result (Unit {0}) Decline
  checked (Ok vs) = Ok tt
  checked (Err place) = Err (Malformed place)

  abbrev pub loaded_result : (ℕ → Option V) → ℕ → List ℕ → Result (Unit {0}) Decline
  loaded_result decodes n file = and_then (measured n (length file)) (checked (loaded decodes file))

  abbrev pub words_or : Result (List V) ℕ → List V → List V
  words_or (Ok vs) old = vs
  words_or (Err place) old = old

  abbrev pub loaded_words : (ℕ → Option V) → List ℕ → List V → List V
  loaded_words decodes file words = granted (measured (length words) (length file)) (words_or (loaded decodes file) words) words
