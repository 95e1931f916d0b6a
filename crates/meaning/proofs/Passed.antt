-- What checks that passed say of each access.
use Rattle.std.proofs.Common.{◌≡◌, ℕ, zero, suc, ◌+◌, ◌<◌, ◌≤◌, Bool, true, false, cond, not, leb, List, [], ◌∷◌, length, get_or, is_some, Ok, Err, Result, sym, refl, subst, arith}
use Rattle.std.proofs.lemmas.Bool.{leb-false, or_parts, ltb-false}
use Rattle.stock.specs.declared.access.Access.{Access}
use Rattle.decline.specs.declared.Decline.{Decline}
use Rattle.decline.specs.declared.Decline.TheVariants.{UnknownKind, UnknownWord}
use Rattle.meaning.specs.Check.{and_then, check_access, checked, Ready, Inside}
use Rattle.stock.specs.Kind.{kind_of}

both_pass : {E : Type 0} (r s : Result (Unit {0}) E) → and_then r s ≡ Ok tt → (r ≡ Ok tt) × (s ≡ Ok tt)
both_pass (Ok tt) s e = (refl, e)
both_pass (Err x) s e = absurd (grind arith)

by_test : (bad out : Bool) (i word n : ℕ) → (out ≡ leb n word) →
    ◌≡◌ {A = Result (Unit {0}) Decline} (cond bad (Err (UnknownKind i)) (cond out (Err (UnknownWord i)) (Ok tt))) (Ok tt) → word < n
by_test true out i word n t e = absurd (grind arith)
by_test false true i word n t e = absurd (grind arith)
by_test false false i word n t e = leb-false n word (sym t)

module _ {V : Type 0} where
  pub inside_from : (i n : ℕ) (xs : List (Access V)) → checked i n xs ≡ Ok tt → Inside n xs
  inside_from i n [] e k d h = absurd (omega arith)
  inside_from i n (x ∷ xs) e zero d h =
      by_test (not (is_some (kind_of x.kind))) (leb n x.word) i x.word n refl (both_pass (check_access i n x) (checked (i + 1) n xs) e).0
  inside_from i n (x ∷ xs) e (suc k) d h = inside_from (i + 1) n xs (both_pass (check_access i n x) (checked (i + 1) n xs) e).1 k d (omega arith)

  pub ready_inside : (n m : ℕ) (xs : List (Access V)) → Ready n xs m → Inside n xs
  ready_inside n m xs r = inside_from 0 n xs r.passed

  -- of an access that has been read
  pub ready_word : (n m : ℕ) (xs : List (Access V)) → Ready n xs m → (i : ℕ) (a : Access V) → i < length xs → a ≡ get_or xs i a → a.word < n
  ready_word n m xs r i a h e = subst (λ (x : Access V). x.word < n) (sym e) (ready_inside n m xs r i a h)

  pub ready_few : (n m : ℕ) (xs : List (Access V)) → Ready n xs m → length xs ≤ 64
  ready_few n m xs r = ltb-false 64 (length xs) (or_parts _ _ r.placed).0

  pub ready_places : (n m : ℕ) (xs : List (Access V)) → Ready n xs m → length xs ≤ m
  ready_places n m xs r = ltb-false m (length xs) (or_parts _ _ r.placed).1
