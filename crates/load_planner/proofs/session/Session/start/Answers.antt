-- `Session::start` meets its contract. Assumes nothing.
use Rattle.load_planner.proofs.session.Session.start.Goals as goal

pub returns-clause-start : goal.returns-clause-start
returns-clause-start c = rw c.fresh.ensures
