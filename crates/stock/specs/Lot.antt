-- Lots: a number of pieces of one batch. The empty lot has batch 0 and count 0.
--   no_lot       the empty lot
--   lot_if       the same as `lot`, told whether there is one
--   lot          the lot of a batch and a count, if there is one
--   lotted       the same, the empty lot where there is none
--   lot_draws    an empty given lot leaves the old one; else batches must agree; short if too much is drawn; drawn to 0 is empty
--   lot_stows    an empty given lot leaves the old one; into the empty lot goes the given one; else batches must agree; over above the limit
--   lot_arithmetic   the two of them
--   lot_code     batch + 4,294,967,296 × count
--   lot_decode   the lot that a code stands for, if any
use Rattle.std.specs.Prelude.{◌≡◌, ℕ, ◌+◌, ◌-◌, ◌*◌, ◌/◌, ◌%◌, Bool, true, false, cond, not, Some, None, Ok, Err, Option, Result, ◌==◌, nat_lt, refl}
use Rattle.std.specs.Option.{unwrap_or}
use Rattle.stock.specs.declared.fault.StockFault.{StockFault}
use Rattle.stock.specs.declared.fault.StockFault.TheVariants.{Short, Over, OtherBatch}
use Rattle.stock.specs.declared.lot.Lot.{Lot}
use Rattle.stock.specs.LotShape.{lot_sound}
use Rattle.stock.specs.Arithmetic.{Arithmetic}

abbrev pub no_lot : Lot
no_lot = record { batch = 0; count = 0; sound = refl }

abbrev pub lot_if : (b c : ℕ) (k : Bool) → lot_sound b c ≡ k → Option Lot
lot_if b c true h = Some (record { batch = b; count = c; sound = h })
lot_if b c false h = None

abbrev pub lot : ℕ → ℕ → Option Lot
lot b c = lot_if b c (lot_sound b c) refl

abbrev pub lotted : ℕ → ℕ → Lot
lotted b c = unwrap_or (lot b c) no_lot

abbrev pub lot_draws : Lot → Lot → Result Lot StockFault
lot_draws old given =
    cond (given.count == 0) (Ok old)
    (cond (not (given.batch == old.batch)) (Err OtherBatch)
    (cond (nat_lt old.count given.count) (Err Short)
    (cond (old.count == given.count) (Ok no_lot)
    (Ok (lotted old.batch (old.count - given.count))))))

abbrev pub lot_stows : Lot → Lot → Result Lot StockFault
lot_stows old given =
    cond (given.count == 0) (Ok old)
    (cond (old.count == 0) (Ok given)
    (cond (not (given.batch == old.batch)) (Err OtherBatch)
    (cond (nat_lt 999999 (old.count + given.count)) (Err Over)
    (Ok (lotted old.batch (old.count + given.count))))))

abbrev pub lot_arithmetic : Arithmetic Lot
lot_arithmetic = record { draw = lot_draws; stow = lot_stows }

abbrev pub lot_code : Lot → ℕ
lot_code l = l.batch + 4294967296 * l.count

abbrev pub lot_decode : ℕ → Option Lot
lot_decode n = lot (n % 4294967296) (n / 4294967296)
