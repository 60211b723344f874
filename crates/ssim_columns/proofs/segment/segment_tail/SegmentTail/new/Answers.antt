-- The parts are written over blanks, one after another.
use Rattle.std.proofs.Common.{◌≡◌, ◌∙◌, refl, sym, subst, IsTrue}
use Rattle.std.specs.Prelude.{replicate}
use Rattle.ssim_values.specs.Station.{is_station}
use Rattle.ssim_columns.specs.Segment.{IsTail, new_tail}
use Rattle.ssim_columns.proofs.lemmas.NewTails.{is_new_tail, tail_writes, tail_written}
use Rattle.ssim_columns.proofs.lemmas.Overlay.{written}
use Rattle.ssim_columns.proofs.segment.segment_tail.SegmentTail.new.Goals as goal

board_is : (c : goal.After-bytes-10-1) → IsTrue (is_station c.args.board)
board_is c = rw (← c.write.ensures.value) c.write.ensures.letters

off_is : (c : goal.After-bytes-10-1) → IsTrue (is_station c.args.off)
off_is c = rw (← c.write-2.ensures.value) c.write-2.ensures.letters

is_new : (c : goal.After-bytes-10-1) → c.put_filled-2.new.bytes ≡ new_tail c.args.points c.args.identifier c.args.board c.args.off c.args.text.now
is_new c =
    let all : c.put_filled-2.new.bytes ≡ written (tail_writes c.args.points c.args.identifier c.args.board c.args.off c.args.text.now) (replicate 179 32) =
    rw (c.put_filled-2.ensures, c.put-3.ensures, c.put-2.ensures, c.put.ensures, c.put_filled.ensures, c.three_digits.ensures, c.write.ensures.value, c.write-2.ensures.value) refl in
    all ∙ tail_written c.args.points c.args.identifier c.args.board c.args.off c.args.text.now (board_is c) (off_is c)

pub invariant_of-result : goal.invariant_of-result
invariant_of-result c = subst IsTail (sym (is_new c)) (is_new_tail c.args.points c.args.identifier c.args.board c.args.off c.args.text.now (board_is c) (off_is c))

pub returns : goal.returns
returns c = is_new c
