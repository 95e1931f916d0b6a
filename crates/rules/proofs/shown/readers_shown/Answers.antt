use Rattle.rules.proofs.shown.readers_shown.Goals as goal
use Rattle.rules.proofs.Masks.{readers_shown}

pub returns : goal.returns
returns c = readers_shown
