-- One more call is one more event.
use Rattle.std.proofs.Common.{Bor, List, [], ℕ, ◌+◌, drop, get_or, map}
use Rattle.ssim_command_line.specs.Line.{Text}
use Rattle.ssim_program.specs.World.{world}
use Rattle.ssim_program.proofs.Events.{all_called, one_called}
use Rattle.ssim_words.proofs.NamedFlights.{next_word, no_word}
use Rattle.ssim_program.proofs.program.run_each.Goals as goal

abbrev words_of : Bor (List (Bor (List ℕ))) → List Text
words_of words = map (λ w. w.now) words.now

abbrev no_words : Bor (List (Bor (List ℕ)))
no_words = record { ref_ptr = (0, 0); now = [] }

pub loop-words-preserved : goal.loop-words-preserved
loop-words-preserved g c =
    let commands = c.args.commands.now in let i = c.loop-words.words-index in
    one_called (map words_of commands) (drop i (map words_of commands)) (drop (i + 1) (map words_of commands)) (words_of (get_or commands i no_words)) (g.S.Store.files c.args.store.now)
    (world (g.S.Store.files c.loop-words.store) (g.S.Store.failures c.loop-words.store) c.loop-words.out) (world (g.S.Store.files c.run_on.new.store) (g.S.Store.failures c.run_on.new.store) c.run_on.new.out)
    c.loop-words.err c.run_on.new.err c.run_on.result (next_word words_of commands i no_words c.loop-words-test.true) c.loop-words.invariant c.run_on.ensures.runs

pub returns : goal.returns
returns g c =
    let commands = c.args.commands.now in let i = c.loop-words.words-index in
    all_called (map words_of commands) (drop i (map words_of commands)) (g.S.Store.files c.args.store.now) (g.S.Store.files c.loop-words.store)
    (no_word words_of commands i c.loop-words-test.false) c.loop-words.invariant
