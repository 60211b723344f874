-- What was put, and the messages that are left, is the whole part.
use Rattle.std.proofs.Common.{◌++◌}
use Rattle.ssim_held.specs.File.{IsSpelled, text_element, texts_part}
use Rattle.ssim_held.proofs.FileParts.{ArePut}
use Rattle.ssim_held.proofs.desk_file_writer.put_texts.Given as goal

abbrev pub invariant-loop-message : goal.invariant-loop-message
invariant-loop-message g l =
    ArePut text_element IsSpelled (l.fn.block ++ texts_part l.held) (g.W.Sink.state l.fn.out) l.held
    l.message-index l.block (g.W.Sink.state l.out)
