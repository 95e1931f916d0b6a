-- Priorities that can occur: a transaction has a class of 0 to 9, started at 1 or later, and belongs to a thread of 0 to 15.
use Rattle.std.specs.Prelude.{◌≤◌}
use Rattle.policy.specs.declared.priority.Priority.{Priority}

pub record Possible (p : Priority) : Type 0 where
  pub class : p.class ≤ 9
  pub start : 1 ≤ p.start
  pub thread : p.thread ≤ 15
