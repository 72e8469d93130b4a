-- `write_loads` meets its contract: a line a turn. Assumes nothing.
use Rattle.tables.specs.Tables.{no_load}
use Rattle.lines.specs.Saved.{load_change, changes_text}
use Rattle.lines.proofs.Writes.{writes_none}
use Rattle.lines.proofs.Saves.{each_room, each_more}
use Rattle.lines.proofs.writing.Writer.write_loads.Goals as goal

pub loop-l-init : goal.loop-l-init
unfolding changes_text
loop-l-init c = writes_none _

pub write_load-requires : goal.write_load-requires
write_load-requires c = each_room c.args.form load_change no_load c.args.loads.now c.loop-l.l-index c.loop-l-test.true c.loop-l.invariant c.requires

pub loop-l-preserved : goal.loop-l-preserved
loop-l-preserved c = each_more c.args.form load_change no_load c.args.loads.now c.loop-l.l-index c.loop-l-test.true c.loop-l.invariant c.write_load.ensures
