-- Stock faults: their numbers, and the fault of an access that is made by itself.
--   fault_number   1 short, 2 over, 3 other batch
--   alone          a stock fault as the fault of a lone access
use Rattle.std.specs.Prelude.{ℕ}
use Rattle.stock.specs.declared.fault.StockFault.{StockFault}
use Rattle.stock.specs.declared.fault.StockFault.TheVariants.{Short, Over, OtherBatch}
use Rattle.stock.specs.declared.fault.AccessFault.{AccessFault}

abbrev pub fault_number : StockFault → ℕ
fault_number Short = 1
fault_number Over = 2
fault_number OtherBatch = 3

abbrev pub alone : StockFault → AccessFault
alone f = record { place = 0; fault = f }
