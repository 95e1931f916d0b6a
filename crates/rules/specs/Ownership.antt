-- Which ownership records a thread has: two numbers of 64 bits.
--   mask_of      the number whose bit r, for r below n, says whether r passes
--   bit          bit r of a number is set
--   reading      t has a valid snapshot of r
--   writing      t has r in write mode
--   masks        both, as two numbers
--   read_bit, write_bit   bit r of the first number and of the second
--   ownership    the answer of the call `ownership`: the two numbers, declined for an unknown thread
--   ownership_count   the number of ones in both: the answer of the call `ownership_count`
use Rattle.std.specs.Prelude.{ℕ, zero, suc, ◌+◌, ◌*◌, ◌/◌, ◌%◌, Bool, cond, Ok, Err, Result, ◌==◌, count_ones, nat_lt}
use Rattle.decline.specs.declared.Decline.{Decline}
use Rattle.decline.specs.declared.Decline.TheVariants.{UnknownThread}
use Rattle.meaning.specs.Undo.{one}
use Rattle.rules.specs.ReadSet.{reads_it}
use Rattle.rules.specs.State.{State, owns_to_write}

abbrev pub mask_of : (ℕ → Bool) → ℕ → ℕ
mask_of h zero = 0
mask_of h (suc n) = mask_of (λ r. h (suc r)) n * 2 + one (h 0)

abbrev pub bit : ℕ → ℕ → Bool
bit zero k = k % 2 == 1
bit (suc r) k = bit r (k / 2)

abbrev pub reading : State → ℕ → ℕ → Bool
reading c t r = reads_it (c.orecs r) ((c.descriptors t).reads r)

abbrev pub writing : State → ℕ → ℕ → Bool
writing c t r = owns_to_write t (c.descriptors t).version (c.orecs r)

abbrev pub masks : State → ℕ → ℕ × ℕ
masks c t = (mask_of (reading c t) 64, mask_of (writing c t) 64)

abbrev pub read_bit : State → ℕ → ℕ → Bool
read_bit c t r = bit r (masks c t).0

abbrev pub write_bit : State → ℕ → ℕ → Bool
write_bit c t r = bit r (masks c t).1

abbrev pub ownership : ℕ → State → Result (ℕ × ℕ) Decline
ownership t c = cond (nat_lt 15 t) (Err UnknownThread) (Ok (masks c t))

abbrev pub ownership_count : ℕ → State → Result ℕ Decline
ownership_count t c = cond (nat_lt 15 t) (Err UnknownThread) (Ok (count_ones (masks c t).0 + count_ones (masks c t).1))
