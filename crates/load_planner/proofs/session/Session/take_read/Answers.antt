-- `Session::take_read` meets its contract: a read that was interrupted is a chunk of no bytes. Assumes nothing.
use mathlib.Core.Path.{sym}
use Rattle.calls.proofs.Program.{chunk-none}
use Rattle.load_planner.proofs.session.Session.take_read.Goals as goal

pub returns-in-Err-clause-chunk : goal.returns-in-Err-clause-chunk
returns-in-Err-clause-chunk c = λ _. rw c.in-Err.is (sym (chunk-none _))
