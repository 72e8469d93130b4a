-- `share` meets its contract: either of the two may lead. Assumes nothing.
use Rattle.cells.proofs.Strips.{raised-agree}
use Rattle.cells.proofs.Shares.{shares-swap}
use Rattle.cells.proofs.strip.share.Goals as goal

pub returns-then-lighter : goal.returns-then-lighter
returns-then-lighter c = λ q r. raised-agree (c.split.ensures r q) _ (λ a l m. shares-swap _ _ a)
