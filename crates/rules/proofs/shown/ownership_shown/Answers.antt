use Rattle.rules.proofs.shown.ownership_shown.Goals as goal
use Rattle.rules.proofs.Masks.{ownership_shown}

pub returns : goal.returns
returns c = ownership_shown
