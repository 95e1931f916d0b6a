-- One access of a transaction more, as the lists show it: what is left means what the whole means, or the fault ends it.
use Rattle.std.proofs.Common.{◌≡◌, ℕ, ◌+◌, ◌<◌, ◌≤◌, Bool, true, false, cond, List, length, get_or, drop, set, Some, Ok, Err, Result, sym, refl, ap, ◌∙◌, arith}
use Rattle.std.proofs.lemmas.List.{drop_all}
use Rattle.stock.specs.declared.access.Access.{Access}
use Rattle.stock.specs.declared.fault.AccessFault.{AccessFault}
use Rattle.stock.specs.declared.fault.StockFault.{StockFault}
use Rattle.stock.specs.Access.{writing_access}
use Rattle.stock.specs.Arithmetic.{Arithmetic}
use Rattle.meaning.specs.Meaning.{Meaning, answer, after, noted, by_result, from}
use Rattle.meaning.specs.Step.{ended, words_after, answers_after}
use Rattle.meaning.specs.Store.{Store, nth, put}
use Rattle.meaning.proofs.DropRead.{drop_read}
use Rattle.meaning.proofs.Stores.{nth_set}

module _ {V : Type 0} where
  -- a granted access sets its word in the list as in the store
  pub set_or_not : (w : Bool) (ws : List V) (b : ℕ) (v : V) → b < length ws → nth (cond w (set ws b v) ws) ≡ cond w (put (nth ws) b (Some v)) (nth ws)
  set_or_not true ws b v h = nth_set ws b v h
  set_or_not false ws b v h = refl

  module _ (A : Arithmetic V) (first : Store V) (xs : List (Access V)) (i : ℕ) (a : Access V) (h : i < length xs) (e : a ≡ get_or xs i a) where
    abbrev onward : Store V → List V → Result V StockFault → Meaning V
    onward F ys x =
        by_result x
        (λ v. from A first (i + 1) (drop (i + 1) xs) (after F a v) (noted ys i a v))
        (λ f. record { words = first; answers = ys; result = Err (record { place = i; fault = f }) })

    next : (F : Store V) (ys : List V) → from A first i (drop i xs) F ys ≡ onward F ys (answer A F a)
    next F ys = ap (λ (l : List (Access V)). from A first i l F ys) (drop_read xs i a h e)

    granted : (ws ys : List V) (x : Result V StockFault) (u : Unit {0}) → a.word < length ws → ended i x ≡ Ok u →
        from A first (i + 1) (drop (i + 1) xs) (nth (words_after x a ws)) (answers_after x i a ys) ≡ onward (nth ws) ys x
    granted ws ys (Ok v) u l g =
        ap (λ (F : Store V). from A first (i + 1) (drop (i + 1) xs) F (noted ys i a v)) (set_or_not (writing_access a) ws a.word v l)
    granted ws ys (Err f) u l g = absurd (grind arith)

    refused : (F : Store V) (ys : List V) (x : Result V StockFault) (z : AccessFault) → ended i x ≡ Err z →
        record { words = first; answers = answers_after x i a ys; result = Err z } ≡ onward F ys x
    refused F ys (Ok v) z g = absurd (grind arith)
    refused F ys (Err f) z g = ap (λ (r : Result (Unit {0}) AccessFault). record { words = first; answers = ys; result = r }) (sym g)

    pub goes_on : (ws ys ws' ys' : List V) (r : Result (Unit {0}) AccessFault) (u : Unit {0}) (all : Meaning V) → a.word < length ws →
        r ≡ ended i (answer A (nth ws) a) → r ≡ Ok u → ws' ≡ words_after (answer A (nth ws) a) a ws → ys' ≡ answers_after (answer A (nth ws) a) i a ys →
        from A first i (drop i xs) (nth ws) ys ≡ all → from A first (i + 1) (drop (i + 1) xs) (nth ws') ys' ≡ all
    goes_on ws ys ws' ys' r u all l er eu ew ey inv =
        let R : List V → List V → Meaning V = λ x y. from A first (i + 1) (drop (i + 1) xs) (nth x) y in
        let x = answer A (nth ws) a in
        ap (λ (y : List V). R y ys') ew ∙ (ap (R (words_after x a ws)) ey ∙ (granted ws ys x u l (sym er ∙ eu) ∙ (sym (next (nth ws) ys) ∙ inv)))

    pub ends_here : (F : Store V) (ys ys' : List V) (r : Result (Unit {0}) AccessFault) (z : AccessFault) (all : Meaning V) →
        r ≡ ended i (answer A F a) → r ≡ Err z → ys' ≡ answers_after (answer A F a) i a ys →
        from A first i (drop i xs) F ys ≡ all → record { words = first; answers = ys'; result = Err z } ≡ all
    ends_here F ys ys' r z all er ez ey inv =
        ap (λ (y : List V). record { words = first; answers = y; result = Err z }) ey ∙
        (refused F ys (answer A F a) z (sym er ∙ ez) ∙ (sym (next F ys) ∙ inv))

  -- nothing is left
  pub all_done : (A : Arithmetic V) (first F : Store V) (xs : List (Access V)) (i : ℕ) (ys : List V) (all : Meaning V) → length xs ≤ i →
      from A first i (drop i xs) F ys ≡ all → record { words = F; answers = ys; result = Ok tt } ≡ all
  all_done A first F xs i ys all h inv = ap (λ (l : List (Access V)). from A first i l F ys) (sym (drop_all i xs h)) ∙ inv
