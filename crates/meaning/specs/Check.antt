-- What is asked of a hardware transaction before it is run.
--   bad_count            no word is lent, or more than 4,096
--   wrong_access_count   more than 64 accesses, or fewer answers than accesses
--   check_access         an access at its place: kind before word
--   checked              access by access from place i on: the first that fails counts
--   Ready                all of these passed
--   Inside               each access is to one of these words
use Rattle.std.specs.Prelude.{◌≡◌, ℕ, ◌+◌, ◌<◌, Bool, false, cond, not, ◌||◌, List, [], ◌∷◌, length, is_some, Ok, Err, Result, ◌==◌, nat_le, nat_lt, All}
use Rattle.stock.specs.declared.access.Access.{Access}
use Rattle.decline.specs.declared.Decline.{Decline}
use Rattle.decline.specs.declared.Decline.TheVariants.{UnknownKind, UnknownWord}
use Rattle.stock.specs.Kind.{kind_of}

abbrev pub bad_count : ℕ → Bool
bad_count n = n == 0 || nat_lt 4096 n

abbrev pub wrong_access_count : ℕ → ℕ → Bool
wrong_access_count accesses answers = nat_lt 64 accesses || nat_lt answers accesses

abbrev pub and_then : {E : Type 0} → Result (Unit {0}) E → Result (Unit {0}) E → Result (Unit {0}) E
and_then (Ok u) rest = rest
and_then (Err e) rest = Err e

module _ {V : Type 0} where
  abbrev pub check_access : ℕ → ℕ → Access V → Result (Unit {0}) Decline
  check_access i words a =
      cond (not (is_some (kind_of a.kind))) (Err (UnknownKind i))
      (cond (nat_le words a.word) (Err (UnknownWord i))
      (Ok tt))

  abbrev pub checked : ℕ → ℕ → List (Access V) → Result (Unit {0}) Decline
  checked i words [] = Ok tt
  checked i words (a ∷ rest) = and_then (check_access i words a) (checked (i + 1) words rest)

  pub record Ready (words : ℕ) (accesses : List (Access V)) (answers : ℕ) : Type 0 where
    pub counted : bad_count words ≡ false
    pub placed : wrong_access_count (length accesses) answers ≡ false
    pub passed : checked 0 words accesses ≡ Ok tt

  abbrev pub Inside : ℕ → List (Access V) → Type 0
  Inside words accesses = All (λ a. a.word < words) accesses
