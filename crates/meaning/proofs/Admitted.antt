-- A transaction that passed its checks is ready.
use Rattle.std.proofs.Common.{◌≡◌, ℕ, Bool, true, false, cond, not, eqb, List, Ok, Err, Result, refl, arith}
use Rattle.std.proofs.lemmas.Bool.{or_parts, not-false, eqb-true}
use Rattle.stock.specs.declared.access.Access.{Access}
use Rattle.decline.specs.declared.Decline.{Decline}
use Rattle.decline.specs.declared.Decline.TheVariants.{WrongLength, WrongAccessCount}
use Rattle.meaning.specs.Check.{Ready, bad_count}
use Rattle.meaning.specs.Perform.{admitted}

both_left : (a b : Bool) (r : Result (Unit {0}) Decline) → cond a (Err WrongLength) (cond b (Err WrongAccessCount) r) ≡ Ok tt →
    (a ≡ false) × (b ≡ false) × (r ≡ Ok tt)
both_left true b r e = absurd (grind arith)
both_left false true r e = absurd (grind arith)
both_left false false r e = (refl, refl, e)

module _ {V : Type 0} where
  pub admitted_ready : (n : ℕ) (xs : List (Access V)) (m s : ℕ) → admitted n xs m s ≡ Ok tt → Ready n xs m × (s ≡ 64)
  admitted_ready n xs m s e =
      let p = both_left _ _ _ e in
      let q = or_parts (bad_count n) (not (eqb s 64)) p.0 in
      (record { counted = q.0; placed = p.1; passed = p.2 }, eqb-true s 64 (not-false (eqb s 64) q.1))
