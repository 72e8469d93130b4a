-- `write_rules` meets its contract: a line a turn. Assumes nothing.
use Rattle.tables.specs.Tables.{no_rule}
use Rattle.lines.specs.Saved.{rule_change, changes_text}
use Rattle.lines.proofs.Writes.{writes_none}
use Rattle.lines.proofs.Saves.{each_room, each_more}
use Rattle.lines.proofs.writing.Writer.write_rules.Goals as goal

pub loop-t-init : goal.loop-t-init
unfolding changes_text
loop-t-init c = writes_none _

pub write_rule-requires : goal.write_rule-requires
write_rule-requires c = each_room c.args.form (rule_change c.args.sort) no_rule c.args.rules.now c.loop-t.t-index c.loop-t-test.true c.loop-t.invariant c.requires

pub loop-t-preserved : goal.loop-t-preserved
loop-t-preserved c = each_more c.args.form (rule_change c.args.sort) no_rule c.args.rules.now c.loop-t.t-index c.loop-t-test.true c.loop-t.invariant c.write_rule.ensures
