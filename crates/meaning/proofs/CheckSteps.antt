-- One access more checked: what is left decides as before, or the one that failed decides.
use Rattle.std.proofs.Common.{◌≡◌, ℕ, ◌+◌, ◌<◌, List, length, get_or, drop, Ok, Err, Result, sym, ap, ◌∙◌}
use Rattle.stock.specs.declared.access.Access.{Access}
use Rattle.decline.specs.declared.Decline.{Decline}
use Rattle.meaning.specs.Check.{and_then, check_access, checked}
use Rattle.meaning.proofs.DropRead.{drop_read}

module _ {V : Type 0} (n : ℕ) (xs : List (Access V)) (i : ℕ) (a : Access V) (h : i < length xs) (e : a ≡ get_or xs i a) where
  one_more : (r : Result (Unit {0}) Decline) → r ≡ check_access i n a → checked i n (drop i xs) ≡ and_then r (checked (i + 1) n (drop (i + 1) xs))
  one_more r er = ap (checked i n) (drop_read xs i a h e) ∙ ap (λ x. and_then x (checked (i + 1) n (drop (i + 1) xs))) (sym er)

  pub passes_on : (r all : Result (Unit {0}) Decline) (u : Unit {0}) → r ≡ check_access i n a → r ≡ Ok u →
      checked i n (drop i xs) ≡ all → checked (i + 1) n (drop (i + 1) xs) ≡ all
  passes_on r all u er eo inv = ap (λ x. and_then x (checked (i + 1) n (drop (i + 1) xs))) (sym eo) ∙ (sym (one_more r er) ∙ inv)

  pub stops_here : (r all : Result (Unit {0}) Decline) (d : Decline) → r ≡ check_access i n a → r ≡ Err d →
      checked i n (drop i xs) ≡ all → Err d ≡ all
  stops_here r all d er ed inv = ap (λ x. and_then x (checked (i + 1) n (drop (i + 1) xs))) (sym ed) ∙ (sym (one_more r er) ∙ inv)
