use Rattle.rules.proofs.sound.state_sound.Goals as goal
use Rattle.rules.proofs.Kept.{state_sound}

pub returns : goal.returns
returns g c = state_sound _
