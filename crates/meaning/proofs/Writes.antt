-- How many of the first accesses write.
use Rattle.std.proofs.Common.{◌≡◌, ℕ, ◌+◌, ◌<◌, ◌≤◌, List, length, get_or, take, sym, ap, ◌∙◌}
use Rattle.std.proofs.lemmas.List.Sums.{count_by-le-length, fold_more}
use Rattle.stock.specs.declared.access.Access.{Access}
use Rattle.stock.specs.Access.{writing_access}
use Rattle.meaning.specs.Undo.{one, writes_in}

module _ {V : Type 0} where
  pub writes_few : (xs : List (Access V)) → writes_in xs ≤ length xs
  writes_few xs = count_by-le-length writing_access xs

  pub writes_next : (xs : List (Access V)) (i : ℕ) (a : Access V) → i < length xs → a ≡ get_or xs i a →
      writes_in (take (i + 1) xs) ≡ writes_in (take i xs) + one (writing_access a)
  writes_next xs i a h e = fold_more (λ n (x : Access V). n + one (writing_access x)) 0 xs i a h ∙
      ap (λ (x : Access V). writes_in (take i xs) + one (writing_access x)) (sym e)
