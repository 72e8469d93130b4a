-- `StoredOutcome::used` meets its contract. Assumes nothing.
use Rattle.runs.proofs.Places.{used-some, used-none}
use Rattle.runs.proofs.outcome.StoredOutcome.used.Goals as goal

pub returns-then-self-ge-PLANNED : goal.returns-then-self-ge-PLANNED
returns-then-self-ge-PLANNED c = used-some _ _ c.if-self-ge-PLANNED.true

pub returns-else-self-ge-PLANNED : goal.returns-else-self-ge-PLANNED
returns-else-self-ge-PLANNED c = used-none _ _ c.if-self-ge-PLANNED.false
