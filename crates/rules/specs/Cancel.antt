-- cancel: an active transaction ends without effect, and 0 is answered.
use Rattle.std.specs.Prelude.{ℕ, cond, ◌||◌, Ok, Err, Result, nat_lt}
use Rattle.decline.specs.declared.Decline.{Decline}
use Rattle.decline.specs.declared.Decline.TheVariants.{Aborted, UnknownThread, WrongStatus}
use Rattle.rules.specs.Changes.{ended_by}
use Rattle.rules.specs.State.{State}
use Rattle.rules.specs.Tests.{is_aborted, is_committed, is_idle}

abbrev pub cancelling : ℕ → State → Result ℕ Decline × State
cancelling t c =
    let d = c.descriptors t in
    cond (nat_lt 15 t) (Err UnknownThread, c)
    (cond (is_idle d.status || is_committed d.status) (Err WrongStatus, c)
    (cond (is_aborted d.status) (Err Aborted, ended_by t c)
    (Ok 0, ended_by t c)))
