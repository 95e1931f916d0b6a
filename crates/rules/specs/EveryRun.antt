-- What holds of every run by a policy, for all first words and redo values and every list of requests to a new memory.
--   EveryRun       each run is lawful, and comes to a memory of which the facts of Reached hold
--   LawsSuffice    so it is for every policy that meets its laws
use Rattle.std.specs.Prelude.{List}
use Rattle.rules.specs.Course.{course, start}
use Rattle.rules.specs.Lawful.{Lawful}
use Rattle.rules.specs.Policy.{Laws, Policy}
use Rattle.rules.specs.Reached.{Reached}
use Rattle.rules.specs.Request.{Request}

pub record EveryRun {V : Type 0} (P : Policy V) : Type 0 where
  pub lawful : (ws ds : List V) (requests : List (Request V)) → Lawful P ws ds requests
  pub reached : (ws ds : List V) (requests : List (Request V)) → Reached P (course P (start ws ds) requests)

abbrev pub LawsSuffice : Type 0 → Type 0
LawsSuffice V = (P : Policy V) → Laws P.rules → EveryRun P
