-- `trails::resume`: what the budget comes to, and its steps counted.
use Rattle.trails.proofs.resume.Goals as goal

pub returns : goal.returns
returns c = (c.resume-counted.ensures, c.count.ensures)
