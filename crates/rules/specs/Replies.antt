-- What the rules answer to a list of requests, and the machine that they leave.
use Rattle.std.specs.Prelude.{List, [], ◌∷◌}
use Rattle.rules.specs.Machine.{Machine}
use Rattle.rules.specs.Next.{next}
use Rattle.rules.specs.Outcome.{Outcome}
use Rattle.rules.specs.Policy.{Policy}
use Rattle.rules.specs.Request.{Request}

module _ {V : Type 0} where
  abbrev pub replies : Policy V → Machine V → List (Request V) → List (Outcome V)
  replies P m [] = []
  replies P m (c ∷ cs) = (next P m c).0 ∷ replies P (next P m c).1 cs

  abbrev pub left : Policy V → Machine V → List (Request V) → Machine V
  left P m [] = m
  left P m (c ∷ cs) = left P (next P m c).1 cs
