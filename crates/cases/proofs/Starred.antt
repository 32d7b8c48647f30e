-- The table of specs/Table.antt holds, by computation. Assumes nothing.
use mathlib.Core.Path.{refl}
use Rattle.common.specs.Bits.{bit_at, word}
use Rattle.common.specs.Halves.{halves}
use Rattle.word.specs.Arithmetic.{sum_word, carry_into, carry_word, difference_word, borrow_from, borrow_word, high_word, low_word}
use Rattle.shift.specs.Shift.{sar, rotr}
use Rattle.bytecode.specs.Layout.{word_at, size_as}
use Rattle.bytecode.specs.Parse.{read_as, sized, parse}
use Rattle.accept.specs.Check.{shift_bad_amount, bad_hint, bad_register, judged, walk_from, check_of}
use Rattle.bytecode.specs.Program.{program_from, program_of}
use Rattle.report.specs.Records.{lowest}
use Rattle.rows.specs.Column.{column, store}
use Rattle.fill.specs.Meaning.{violations_from}
use Rattle.fill.specs.Run.{verdict_of, lowest_of, answer_of, buffer_of}
use Rattle.scratch.specs.Gates.{alive, peak_to}
use Rattle.scratch.specs.Accept.{accepted}
use Rattle.scratch.specs.Policies.{dying, pooled}
use Rattle.cases.specs.Table.{table, Holds}

pub starred : Holds table
unfolding bit_at word halves sum_word carry_into carry_word difference_word borrow_from borrow_word high_word low_word sar rotr word_at size_as read_as sized parse shift_bad_amount bad_hint bad_register judged walk_from check_of alive peak_to accepted dying pooled program_from program_of lowest column store violations_from verdict_of lowest_of answer_of buffer_of
starred = (refl, (refl, (refl, (refl, (refl, (refl, (refl, (refl, (refl, (refl, (refl, (refl, (refl, (refl, (refl, (refl, (refl, (refl, (refl, (refl, (refl, (refl, (refl, (refl, (refl, (refl, tt))))))))))))))))))))))))))
