-- What the library's call ensures is what this one does.
use Rattle.object_runner_c.proofs.kagutin_next_action.Goals as goal

pub returns : goal.returns
returns c = c.kagutin_next_action.ensures
