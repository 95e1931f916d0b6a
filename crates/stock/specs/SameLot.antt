-- A Lot is known by its batch and its count, since the fact in its ghost field has one proof.
use Rattle.std.specs.Prelude.{◌≡◌, ℕ, ◌/◌, ◌%◌, ◌<◌, ◌≤◌, ◌^◌, Bool, true, false, Some, Option, refl}
use Rattle.std.proofs.Common.{ap, sym, ◌∙◌, arith}
use Rattle.std.proofs.Math.Bool.{Bool-set}
use Rattle.std.specs.Option.{unwrap_or}
use Rattle.std.proofs.lemmas.Bool.{and_parts, leb-true, both_ways}
use Rattle.stock.specs.declared.lot.Lot.{Lot}
use Rattle.stock.specs.LotShape.{lot_sound}
use Rattle.stock.specs.Lot.{lot, lot_if, lotted, no_lot, lot_code, lot_decode}

if_sound : (b c : ℕ) (k : Bool) (e : lot_sound b c ≡ k) (h : lot_sound b c ≡ true) → lot_if b c k e ≡ Some (record { batch = b; count = c; sound = h })
if_sound b c true e h = ap (λ (x : lot_sound b c ≡ true). Some (record { batch = b; count = c; sound = x })) (Bool-set (lot_sound b c) true e h)
if_sound b c false e h = absurd (both_ways (lot_sound b c) e h)

pub lot_is : (b c : ℕ) (h : lot_sound b c ≡ true) → lot b c ≡ Some (record { batch = b; count = c; sound = h })
lot_is b c h = if_sound b c (lot_sound b c) refl h

pub lotted_is : (b c : ℕ) (h : lot_sound b c ≡ true) → record { batch = b; count = c; sound = h } ≡ lotted b c
lotted_is b c h = sym (ap (λ (o : Option Lot). unwrap_or o no_lot) (lot_is b c h))

-- a lot of this batch and count
made_of : (b c : ℕ) (k : Bool) (e : lot_sound b c ≡ k) (l : Lot) → lot_if b c k e ≡ Some l → (l.batch ≡ b) × (l.count ≡ c)
made_of b c true e l h = (sym (ap (λ (o : Option Lot). (unwrap_or o no_lot).batch) h), sym (ap (λ (o : Option Lot). (unwrap_or o no_lot).count) h))
made_of b c false e l h = absurd (grind arith)

pub lot_parts : (b c : ℕ) (l : Lot) → lot b c ≡ Some l → (l.batch ≡ b) × (l.count ≡ c)
lot_parts b c l h = made_of b c (lot_sound b c) refl l h

pub batch_within : (l : Lot) → l.batch ≤ 999999
batch_within l = leb-true l.batch 999999 (and_parts _ _ l.sound).0

pub count_within : (l : Lot) → l.count ≤ 999999
count_within l = leb-true l.count 999999 (and_parts _ _ (and_parts _ _ l.sound).1).0

-- the two parts of a code
pub code_batch : (l : Lot) → lot_code l % 4294967296 ≡ l.batch
code_batch l = omega (arith, batch_within l)

pub code_count : (l : Lot) → lot_code l / 4294967296 ≡ l.count
code_count l = omega (arith, batch_within l)

-- the laws of a Lot's code
pub lot_fits : (l : Lot) → lot_code l < 2 ^ 64
lot_fits l = omega (arith, batch_within l, count_within l)

pub lot_back : (l : Lot) → lot_decode (lot_code l) ≡ Some l
lot_back l =
    ap (λ (b : ℕ). lot b (lot_code l / 4294967296)) (code_batch l)
    ∙ (ap (λ (c : ℕ). lot l.batch c) (code_count l) ∙ lot_is l.batch l.count l.sound)

pub lot_sole : (n : ℕ) (l : Lot) → lot_decode n ≡ Some l → lot_code l ≡ n
lot_sole n l e = let p = lot_parts (n % 4294967296) (n / 4294967296) l e in omega (arith, p.0, p.1)
