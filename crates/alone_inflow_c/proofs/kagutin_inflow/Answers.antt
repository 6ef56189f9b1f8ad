-- What the library's call ensures is what this one does.
use Rattle.alone_inflow_c.proofs.kagutin_inflow.Goals as goal

pub returns : goal.returns
returns c = c.kagutin_inflow.ensures
