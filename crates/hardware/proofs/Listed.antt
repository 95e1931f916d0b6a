-- The words listed after the first accesses of a transaction that is ready and fits.
use Rattle.std.proofs.Common.{◌≡◌, ℕ, ◌+◌, ◌<◌, ◌≤◌, true, false, Bool, cond, List, [], ◌∷◌, ◌++◌, length, get_or, take, All, nat_le, sym, ap, ◌∙◌, subst, arith, ◌==◌}
use Rattle.std.specs.List.{list_any}
use Rattle.std.proofs.lemmas.Bool.{le-leb, leb-true, lt-leb}
use Rattle.std.proofs.lemmas.List.{length_push, take_all}
use Rattle.std.proofs.lemmas.List.Elements.{All-nil}
use Rattle.stock.specs.declared.access.Access.{Access}
use Rattle.stock.specs.Access.{writing_access}
use Rattle.meaning.specs.Check.{Inside, Ready}
use Rattle.meaning.proofs.Passed.{ready_inside}
use Rattle.hardware.specs.Limits.{with_new, written_words}
use Rattle.hardware.specs.Overlay.{with_word}
use Rattle.hardware.specs.Path.{shapes}
use Rattle.hardware.specs.Folding.{aside, aside_is, aside_next, aside_le, all_inside}

module _ {V : Type 0} where
  -- a new word finds room while the limit holds with it
  room : (bs : List ℕ) (a : Access V) (m : ℕ) → length (with_word bs a) ≤ m → writing_access a ≡ true → list_any (λ w. w == a.word) bs ≡ false → length bs < m
  room bs a m l w n =
      let grown : with_word bs a ≡ bs ++ a.word ∷ [] =
      ap (λ (t : Bool). cond t (with_new a.word bs) bs) w ∙ ap (λ (t : Bool). cond t bs (bs ++ a.word ∷ [])) n in
      omega (arith, l, ap length grown, length_push bs a.word)

  aside_inside : (k : ℕ) (xs : List (Access V)) → Inside k xs → All (λ b. b < k) (aside xs)
  aside_inside k xs i = all_inside k [] xs (All-nil (λ b. b < k)) i

module _ {V : Type 0} (bs : List ℕ) (xs : List (Access V)) (i : ℕ) (e : bs ≡ aside (take i xs)) where
  pub listed_few : nat_le (length (written_words (shapes xs))) 16 ≡ true → length bs ≤ 16
  listed_few f = omega (arith, ap length e, aside_le xs i, ap length (aside_is xs), leb-true _ 16 f)

  pub listed_inside : (n m : ℕ) → Ready n xs m → length xs ≤ i → All (λ place. place < n) bs
  listed_inside n m r h = subst (All (λ place. place < n)) (sym (e ∙ ap aside (take_all i xs h))) (aside_inside n xs (ready_inside n m xs r))

  pub listed_next : (a : Access V) → i < length xs → a ≡ get_or xs i a → with_word bs a ≡ aside (take (i + 1) xs)
  listed_next a h r = ap (λ (x : List ℕ). with_word x a) e ∙ sym (aside_next xs i a h r)

  pub listed_room : (a : Access V) → i < length xs → a ≡ get_or xs i a → nat_le (length (written_words (shapes xs))) 16 ≡ true →
      writing_access a ≡ true → list_any (λ w. w == a.word) bs ≡ false → length bs < 16
  listed_room a h r f w n =
      room bs a 16 (omega (arith, ap length (listed_next a h r), aside_le xs (i + 1), ap length (aside_is xs), leb-true _ 16 f)) w n

  pub too_many : (a : Access V) → i < length xs → a ≡ get_or xs i a → 16 < length (with_word bs a) → false ≡ nat_le (length (written_words (shapes xs))) 16
  too_many a h r o = sym (lt-leb _ 16 (omega (arith, o, ap length (listed_next a h r), aside_le xs (i + 1), ap length (aside_is xs))))

  pub few_enough : length xs ≤ i → length bs ≤ 16 → true ≡ nat_le (length (written_words (shapes xs))) 16
  few_enough h l = sym (le-leb _ 16 (omega (arith, l, ap length (e ∙ (ap aside (take_all i xs h) ∙ aside_is xs)))))
