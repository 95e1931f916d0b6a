-- What an access computes from an old and a given value.
--   Arithmetic   how values of one kind of stock are drawn and stowed
--   computed     by kind: a look gives the old value, a put the given one, a draw and a stow what the stock says;
--                a number that is no kind's is declined before it comes here, and reads as a look
use Rattle.std.specs.Prelude.{Some, None, Ok, Option, Result}
use Rattle.stock.specs.declared.fault.StockFault.{StockFault}
use Rattle.stock.specs.declared.kind.AccessKind.{AccessKind}
use Rattle.stock.specs.declared.kind.AccessKind.TheVariants.{Look, Put, Draw, Stow}

pub record Arithmetic (V : Type 0) : Type 0 where
  pub draw : V → V → Result V StockFault
  pub stow : V → V → Result V StockFault

abbrev pub computed : {V : Type 0} → Arithmetic V → Option AccessKind → V → V → Result V StockFault
computed A None old given = Ok old
computed A (Some Look) old given = Ok old
computed A (Some Put) old given = Ok given
computed A (Some Draw) old given = A.draw old given
computed A (Some Stow) old given = A.stow old given
