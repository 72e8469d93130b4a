-- The session prints what paper 01 says: computed from the definitions. Assumes nothing.
use mathlib.Core.Path.{◌≡◌, refl}
use mathlib.Core.Bool.{true}
use Rattle.lists.specs.Tests.{some, every, every_from, distinct, first_from}
use Rattle.lists.specs.Arrays.{laid}
use Rattle.lists.specs.Places.{limited}
use Rattle.lists.specs.Argmax.{argmax}
use Rattle.marks.specs.Bits.{has_mark, with_mark}
use Rattle.marks.specs.Sets.{joined, has_load}
use Rattle.lines.specs.Text.{same, decimal_to, decimal, field}
use Rattle.lines.specs.Grammar.{fields, is_number, value_from, is_bits, joined_from, parse, find_form, line_command, line_of}
use Rattle.lines.specs.Written.{parted}
use Rattle.lines.specs.Saved.{mark_changes, size_change, book_changes, saved, changes_text}
use Rattle.lines.specs.Answers.{refused, plan_line, need_line, entry_line, entry_lines}
use Rattle.lines.specs.Input.{lines}
use Rattle.tables.specs.Tables.{fresh}
use Rattle.tables.specs.Limits.{rule_in, same_rule, sort_in, book_in, load_in, loads_in, limits}
use Rattle.tables.specs.Stored.{stored_book, stored, book_of, tables_of, zero_rule, zero_load, keeps_limits}
use Rattle.tables.specs.Kinds.{rule_kinded, load_kinded, has_kinds}
use Rattle.tables.specs.Changes.{has_children, remaining}
use Rattle.meaning.specs.Forest.{row, tree, sum}
use Rattle.meaning.specs.Cell.{cell, ◌⊕◌}
use Rattle.meaning.specs.Best.{best, best_tree, best_plan, best_check}
use Rattle.meaning.specs.Choice.{choose, choose_tree, plan, check, find, in_order, plan_entries, check_entries}
use Rattle.meaning.specs.Cells.{cells_of}
use Rattle.meaning.specs.Need.{none_fits, poorer, suffices, least_budget}
use Rattle.runs.specs.Runs.{mark_all, run_of, entries_to}
use Rattle.runs.specs.Outcome.{figures_in, entry_in, outcome_in, run_free, keeps_outcome}
use Rattle.calls.specs.Rows.{not_allowed, changing, row as row_of, line_row}
use Rattle.calls.specs.Causes.{lowest, all_causes, refusal}
use Rattle.calls.specs.Effects.{changed}
use Rattle.calls.specs.Printing.{text, zeroed, work_after}
use Rattle.calls.specs.Calls.{answer, called}
use Rattle.calls.specs.Program.{exchanges, printed_by, session_with}
use Rattle.calls.specs.Session.{session_right}

pub session-right : session_right ≡ true
unfolding some every every_from distinct first_from laid limited argmax has_mark with_mark joined has_load same decimal_to decimal field fields is_number value_from is_bits joined_from parse find_form line_command line_of parted mark_changes size_change book_changes saved changes_text refused plan_line need_line entry_line entry_lines lines fresh rule_in same_rule sort_in book_in load_in loads_in limits stored_book stored book_of tables_of zero_rule zero_load keeps_limits rule_kinded load_kinded has_kinds has_children remaining row tree sum cell ◌⊕◌ best best_tree best_plan best_check choose choose_tree plan check find in_order plan_entries check_entries mark_all run_of entries_to figures_in entry_in outcome_in run_free keeps_outcome lowest cells_of none_fits poorer suffices least_budget not_allowed changing row_of line_row all_causes refusal changed text zeroed work_after answer called exchanges printed_by session_with session_right
session-right = refl
