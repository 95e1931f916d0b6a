-- Which batch and count make a lot.
--   lot_sound   each at most 999,999, and batch 0 exactly when count 0
use Rattle.std.specs.Prelude.{ℕ, Bool, cond, not, ◌&&◌, ◌==◌, nat_le}

abbrev same : Bool → Bool → Bool
same a b = cond a b (not b)

abbrev pub lot_sound : ℕ → ℕ → Bool
lot_sound batch count = nat_le batch 999999 && (nat_le count 999999 && same (batch == 0) (count == 0))
