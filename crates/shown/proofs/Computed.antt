-- Each case of the papers passes, by computation. Assumes nothing.
use mathlib.Core.Path.{◌≡◌, refl}
use mathlib.Core.Bool.{true}
use lib.Count.{ones, ones_in}
use Rattle.wires.specs.Wires.{shown, placed}
use Rattle.wires.specs.Terms.{value, some_within}
use Rattle.steps.specs.Bytes.{byte, word, within, count, word_count, rising, end}
use Rattle.steps.specs.Bytes as bytes
use Rattle.sheet.specs.Examples.{speed}
use Rattle.sheet.specs.JobSheet.{mask_of, mask, counted_mask, rules, excuses, head, job, read_job}
use Rattle.answer.specs.AnswerSheet.{permitted, exactly, kind_count, walk_count, is_bit, bit, bits, is_below, below, entry, entries, tables_rest, walk_rest, answer, read_answer}
use Rattle.answer.specs.Written.{fours}
use Rattle.board.specs.Tests.{all_below, first_from, amongb, fitsb, from_a_b, from_b_b, stepb, goesb, standsb}
use Rattle.board.specs.JobBoard.{any_below, holdsb, breaksb, broken_rule, excusesb, excusedb}
use Rattle.board.specs.Check.{judge_tables, judge_walk, judge_sheet, check_outcome}
use Rattle.asking.specs.Asks.{same_pins, all_within, asksb}
use Rattle.widener.specs.Table.{tabled}
use Rattle.shown.specs.Papers.{papers}
use Rattle.shown.proofs.Tests.{sameb, noneb, leastb, passes, every}

pub all_pass : every passes papers ≡ true
unfolding speed papers every passes sameb noneb leastb ones ones_in shown placed value byte word within count word_count rising bytes.entry bytes.entries end mask_of mask counted_mask rules excuses head job read_job permitted exactly kind_count walk_count is_bit bit bits is_below below entry entries tables_rest walk_rest answer read_answer fours all_below amongb fitsb from_a_b from_b_b stepb goesb standsb any_below holdsb breaksb broken_rule excusesb excusedb first_from judge_tables judge_walk judge_sheet check_outcome same_pins some_within all_within asksb tabled
all_pass = refl
