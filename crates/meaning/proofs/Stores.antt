-- Lists as stores: an element read, an element set, and lists that are equal as stores.
use Rattle.std.proofs.Common.{◌≡◌, ℕ, zero, suc, ◌<◌, cond, eqb, List, [], ◌∷◌, length, get_or, set, Some, Option, sym, refl, ap, ◌∙◌, arith}
use Rattle.std.proofs.lemmas.Bool.{cond-false, ne_eqb}
use Rattle.std.proofs.lemmas.Bool.Decides.{nat_tests}
use Rattle.std.proofs.lemmas.List.{get_or-set_same, length-set}
use Rattle.std.proofs.lemmas.Option.{get_or_from_slice_get, slice_get_read}
use Rattle.meaning.specs.Store.{nth, put}

same_test : (n b : ℕ) → eqb n b ≡ eqb (suc n) (suc b)
same_test n b = grind (arith, nat_tests)

module _ {V : Type 0} where
  pub nth_is : (xs : List V) (i : ℕ) (v : V) → i < length xs → v ≡ get_or xs i v → nth xs i ≡ Some v
  nth_is xs i v h e = slice_get_read xs (length xs) i v refl h e

  -- two stores that agree everywhere are one
  pub same_store : (F G : ℕ → Option V) → ((n : ℕ) → F n ≡ G n) → F ≡ G
  same_store F G h = λ i n. h n i

  set_at : (xs : List V) (b : ℕ) (v : V) (n : ℕ) → b < length xs → nth (set xs b v) n ≡ put (nth xs) b (Some v) n
  set_at [] b v n h = absurd (omega arith)
  set_at (x ∷ xs) zero v zero h = refl
  set_at (x ∷ xs) zero v (suc n) h = sym (cond-false (eqb (suc n) 0) (Some v) (nth xs n) (ne_eqb (suc n) 0 (λ e. omega arith)))
  set_at (x ∷ xs) (suc b) v zero h = sym (cond-false (eqb 0 (suc b)) (Some v) (Some x) (ne_eqb 0 (suc b) (λ e. omega arith)))
  set_at (x ∷ xs) (suc b) v (suc n) h = set_at xs b v n (omega arith) ∙ ap (λ t. cond t (Some v) (nth xs n)) (same_test n b)

  pub nth_set : (xs : List V) (b : ℕ) (v : V) → b < length xs → nth (set xs b v) ≡ put (nth xs) b (Some v)
  nth_set xs b v h = same_store _ _ (λ n. set_at xs b v n h)

  pub nth_set_same : (xs : List V) (b : ℕ) (v : V) → b < length xs → nth (set xs b v) b ≡ Some v
  nth_set_same xs b v h = nth_is (set xs b v) b v (omega (arith, length-set xs b v)) (sym (get_or-set_same xs b v v h))

  pub nth_set_other : (xs : List V) (k b : ℕ) (v : V) → (b ≡ k → ⊥) → nth (set xs k v) b ≡ nth xs b
  nth_set_other [] k b v h = refl
  nth_set_other (x ∷ xs) zero zero v h = absurd (h refl)
  nth_set_other (x ∷ xs) zero (suc b) v h = refl
  nth_set_other (x ∷ xs) (suc k) zero v h = refl
  nth_set_other (x ∷ xs) (suc k) (suc b) v h = nth_set_other xs k b v (λ e. h (ap suc e))

  pub nth_read : (xs : List V) (i : ℕ) (v : V) → nth xs i ≡ Some v → v ≡ get_or xs i v
  nth_read xs i v e = sym (get_or_from_slice_get xs i v v e)
