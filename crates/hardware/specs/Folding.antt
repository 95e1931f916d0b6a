-- What the limits count over shapes is what the runs count over accesses, step by step.
use Rattle.std.specs.Prelude.{◌≡◌, ℕ, zero, suc, ◌+◌, ◌<◌, ◌≤◌, true, List, [], ◌∷◌, ◌++◌, length, take, fold, All, slice_index_or, ◌==◌, nat_le}
use Rattle.std.specs.List.{list_any}
use Rattle.std.proofs.Common.{sym, ap, ◌∙◌, arith}
use Rattle.std.proofs.lemmas.List.{length_push}
use Rattle.std.proofs.lemmas.List.Elements.{All-push}
use Rattle.std.proofs.lemmas.List.Folds.{fold-map}
use Rattle.std.proofs.lemmas.List.Sums.{count_by-le-length, fold_more}
use Rattle.std.proofs.lemmas.Bool.{cond_both, le-leb}
use Rattle.stock.specs.declared.access.Access.{Access}
use Rattle.stock.specs.Access.{writing_access}
use Rattle.meaning.specs.Check.{Inside}
use Rattle.meaning.specs.Undo.{one, writes_in}
use Rattle.hardware.specs.Limits.{write_count, with_new, with_shape, written_words, writing_shape}
use Rattle.hardware.specs.Overlay.{with_word}
use Rattle.hardware.specs.Path.{shapes}

-- a word more makes the list longer by one at most
new_longer : (word : ℕ) (bs : List ℕ) → (length bs ≤ length (with_new word bs)) × (length (with_new word bs) ≤ length bs + 1)
new_longer word bs =
    cond_both (list_any (λ w. w == word) bs) bs (bs ++ word ∷ []) (λ (x : List ℕ). (length bs ≤ length x) × (length x ≤ length bs + 1))
    (λ _. (omega arith, omega arith)) (λ _. (omega (arith, length_push bs word), omega (arith, length_push bs word)))

shape_longer : (bs : List ℕ) (x : ℕ × ℕ) → (length bs ≤ length (with_shape bs x)) × (length (with_shape bs x) ≤ length bs + 1)
shape_longer bs x =
    cond_both (writing_shape x) (with_new x.1 bs) bs (λ (l : List ℕ). (length bs ≤ length l) × (length l ≤ length bs + 1))
    (λ _. new_longer x.1 bs) (λ _. (omega arith, omega arith))

module _ {V : Type 0} where
  pub count_is : (xs : List (Access V)) → writes_in xs ≡ write_count (shapes xs)
  count_is xs = sym (fold-map (λ n (x : ℕ × ℕ). n + one (writing_shape x)) (λ (a : Access V). (a.kind, a.word)) 0 xs)

  -- the different words written, over accesses
  abbrev pub aside : List (Access V) → List ℕ
  aside xs = fold with_word [] xs

  pub aside_is : (xs : List (Access V)) → aside xs ≡ written_words (shapes xs)
  aside_is xs = sym (fold-map with_shape (λ (a : Access V). (a.kind, a.word)) [] xs)

  pub aside_next : (xs : List (Access V)) (i : ℕ) (a : Access V) → i < length xs → a ≡ slice_index_or xs i a → aside (take (i + 1) xs) ≡ with_word (aside (take i xs)) a
  aside_next xs i a h e = fold_more with_word [] xs i a h ∙ ap (with_word (aside (take i xs))) (sym e)

  longer : (bs : List ℕ) (a : Access V) → length bs ≤ length (with_word bs a)
  longer bs a = (shape_longer bs (a.kind, a.word)).0

  all_longer : (bs : List ℕ) (xs : List (Access V)) → length bs ≤ length (fold with_word bs xs)
  all_longer bs [] = omega arith
  all_longer bs (x ∷ xs) = omega (arith, longer bs x, all_longer (with_word bs x) xs)

  part_le : (bs : List ℕ) (xs : List (Access V)) (i : ℕ) → length (fold with_word bs (take i xs)) ≤ length (fold with_word bs xs)
  part_le bs [] zero = omega arith
  part_le bs [] (suc i) = omega arith
  part_le bs (x ∷ xs) zero = all_longer bs (x ∷ xs)
  part_le bs (x ∷ xs) (suc i) = part_le (with_word bs x) xs i

  pub aside_le : (xs : List (Access V)) (i : ℕ) → length (aside (take i xs)) ≤ length (aside xs)
  aside_le xs i = part_le [] xs i

  one_inside : (k : ℕ) (bs : List ℕ) (a : Access V) → All (λ b. b < k) bs → a.word < k → All (λ b. b < k) (with_word bs a)
  one_inside k bs a h l =
      cond_both (writing_access a) (with_new a.word bs) bs (λ (x : List ℕ). All (λ b. b < k) x)
      (λ _. cond_both (list_any (λ w. w == a.word) bs) bs (bs ++ a.word ∷ []) (λ (x : List ℕ). All (λ b. b < k) x)
      (λ _. h) (λ _. All-push (λ b. b < k) bs a.word h l))
      (λ _. h)

  pub all_inside : (k : ℕ) (bs : List ℕ) (xs : List (Access V)) → All (λ b. b < k) bs → Inside k xs → All (λ b. b < k) (fold with_word bs xs)
  all_inside k bs [] h i = h
  all_inside k bs (x ∷ xs) h i = all_inside k (with_word bs x) xs (one_inside k bs x h (i 0 x (omega arith))) (λ j d l. i (suc j) d (omega arith))

-- one access fits every limit
pub count_short : (s : List (ℕ × ℕ)) → length s ≤ 1 → write_count s ≤ 1
count_short s h = omega (arith, h, count_by-le-length writing_shape s)

pub words_short : (s : List (ℕ × ℕ)) → length s ≤ 1 → length (written_words s) ≤ 1
words_short [] h = omega arith
words_short (x ∷ []) h = omega (arith, (shape_longer [] x).1)
words_short (x ∷ (y ∷ s)) h = absurd (omega arith)

pub count_fits : (s : List (ℕ × ℕ)) → length s ≤ 1 → nat_le (write_count s) 32 ≡ true
count_fits s h = le-leb _ 32 (omega (arith, count_short s h))

pub words_fit : (s : List (ℕ × ℕ)) → length s ≤ 1 → nat_le (length (written_words s)) 16 ≡ true
words_fit s h = le-leb _ 16 (omega (arith, words_short s h))
