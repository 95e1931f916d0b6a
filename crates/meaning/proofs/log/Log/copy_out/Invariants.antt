use Rattle.std.proofs.Common.{◌≡◌, take}
use Rattle.meaning.specs.Laid.{laid}
use Rattle.meaning.proofs.log.Log.copy_out.Given as goal

abbrev pub invariant-loop-i : goal.invariant-loop-i
invariant-loop-i g l =
    laid (take l.i l.self.places.items) l.self.values.now l.words ≡ laid l.self.places.items l.self.values.now l.initial.words
