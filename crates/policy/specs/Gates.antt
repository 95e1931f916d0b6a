-- When a gate lets an access of a hardware transaction through.
--     by_record     by the mode of the word's ownership record: a look unless it is in write mode, a writing access if it is free
--     by_counter    by the number of transactions under way: only if there is none
use Rattle.std.specs.Prelude.{ℕ, Bool, true, false, not, ◌==◌}
use Rattle.policy.specs.declared.orec.Mode.{Mode}
use Rattle.policy.specs.declared.orec.Mode.TheVariants.{Free, Read, Write}

abbrev pub by_record : Mode → Bool → Bool
by_record Free writing = true
by_record Read writing = not writing
by_record Write writing = false

abbrev pub by_counter : ℕ → Bool
by_counter n = n == 0
