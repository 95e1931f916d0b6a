-- begin: a software transaction begins, and answers its version.
use Rattle.std.specs.Prelude.{ℕ, ◌+◌, cond, not, Ok, Err, Result, ◌==◌, nat_lt}
use Rattle.decline.specs.declared.Decline.{Decline}
use Rattle.decline.specs.declared.Decline.TheVariants.{UnknownClass, UnknownThread, VersionsSpent, WrongStatus}
use Rattle.rules.specs.Changes.{begun_by}
use Rattle.rules.specs.State.{State}
use Rattle.rules.specs.Tests.{is_idle}

abbrev pub beginning : ℕ → ℕ → State → Result ℕ Decline × State
beginning t class c =
    let d = c.descriptors t in
    cond (nat_lt 15 t) (Err UnknownThread, c)
    (cond (not (is_idle d.status)) (Err WrongStatus, c)
    (cond (nat_lt 9 class) (Err UnknownClass, c)
    (cond (d.version == 1000000) (Err VersionsSpent, c)
    (Ok (d.version + 1), begun_by t class c))))
