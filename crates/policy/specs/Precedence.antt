-- Which of two priorities precedes the other.
--     by_start    the lower start; at one start, the lower thread
--     by_thread   the lower thread
--     by_class    the lower class; within a class, as another rule says
--     reversed    another rule, turned round
use Rattle.std.specs.Prelude.{Bool, cond, ◌&&◌, ◌||◌, ◌==◌, nat_lt}
use Rattle.policy.specs.declared.priority.Priority.{Priority}

abbrev pub by_start : Priority → Priority → Bool
by_start p q = nat_lt p.start q.start || (p.start == q.start && nat_lt p.thread q.thread)

abbrev pub by_thread : Priority → Priority → Bool
by_thread p q = nat_lt p.thread q.thread

abbrev pub by_class : (Priority → Priority → Bool) → Priority → Priority → Bool
by_class rule p q = cond (p.class == q.class) (rule p q) (nat_lt p.class q.class)

abbrev pub reversed : (Priority → Priority → Bool) → Priority → Priority → Bool
reversed rule p q = rule q p
