use Rattle.std.proofs.Common.{◌≡◌, ℕ, ◌<◌, Bool, false, not, List, length, get_or, None, arith, rules}
use Rattle.std.specs.List.{position}
use Rattle.std.proofs.lemmas.Bool.Decides.{nat_tests}
use Rattle.std.proofs.lemmas.Grind.{common_steps}
use Rattle.std.proofs.lemmas.List.Elements.{filter_map-append}
use Rattle.std.proofs.lemmas.List.Sums.{prefix_len_passes}
use Rattle.storage.proofs.read_words.Goals as goal

-- Where no item passes a test, each fails it.
none_passes : {X : Type 0} (p : X → Bool) (xs : List X) (i : ℕ) (d : X) → position p xs ≡ None → i < length xs → p (get_or xs i d) ≡ false
none_passes p xs i d none h = grind (arith, nat_tests, prefix_len_passes (λ x. not (p x)) xs i d)

pub unwrap-requires : goal.unwrap-requires
unwrap-requires g c = search (rules, none_passes)

pub loop-i-preserved : goal.loop-i-preserved
loop-i-preserved g c = grind (arith, common_steps, filter_map-append)
