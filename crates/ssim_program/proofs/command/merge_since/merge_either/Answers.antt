-- An older desk is named, or none.
use Rattle.std.proofs.Common.{Bor, List, ℕ, Option, option_map, subst, sym}
use Rattle.ssim_program.specs.Answers.{merge_either}
use Rattle.ssim_program.specs.internal.Program.{MakesOr}
use Rattle.ssim_program.proofs.command.merge_since.merge_either.Goals as goal

pub returns-in-None-clause-answer : goal.returns-in-None-clause-answer
returns-in-None-clause-answer g c = let files = g.S.Store.files c.args.store.now in
    subst (λ (older : Option (Bor (List ℕ))). MakesOr g.S.Hold.Hold.file files
    (merge_either files c.args.words.now.effects (option_map (λ s. s.now) older)
    c.args.words.now.desk.now c.args.words.now.other.now c.args.out.now) c.merge.result) (sym c.in-None.is) c.merge.ensures.answer

pub returns-in-Some-clause-answer : goal.returns-in-Some-clause-answer
returns-in-Some-clause-answer g c = let files = g.S.Store.files c.args.store.now in
    subst (λ (older : Option (Bor (List ℕ))). MakesOr g.S.Hold.Hold.file files
    (merge_either files c.args.words.now.effects (option_map (λ s. s.now) older)
    c.args.words.now.desk.now c.args.words.now.other.now c.args.out.now) c.merge_since.result) (sym c.in-Some.is) c.merge_since.ensures.answer
