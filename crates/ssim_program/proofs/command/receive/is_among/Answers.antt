-- The next name is the file's, or it is not.
use Rattle.std.proofs.Common.{◌∙◌, map, ap, take}
use Rattle.std.specs.Option.{option_map}
use Rattle.std.proofs.lemmas.List.{take-map, take_all}
use Rattle.std.proofs.lemmas.Option.{slice_get-get_or, slice_get-map}
use Rattle.ssim_program.proofs.SameFile.{found_there, none_more, none_of_all}
use Rattle.ssim_program.proofs.command.receive.is_among.Goals as goal

pub loop-other-preserved : goal.loop-other-preserved
loop-other-preserved g c =
    let i = c.loop-other.other-index in let others = c.args.others.now in
    none_more (g.S.Store.files c.args.store.now) c.args.name.now (map (λ t. t.now) others) i _ c.is_same_file.result
    (slice_get-map (λ t. t.now) others i ∙ ap (option_map (λ t. t.now)) (slice_get-get_or others i _ c.loop-other-test.true)) c.is_same_file.ensures c.if-is_same_file.false c.loop-other.invariant

pub returns-then-is_same_file : goal.returns-then-is_same_file
returns-then-is_same_file g c =
    let i = c.loop-other.other-index in let others = c.args.others.now in
    found_there (g.S.Store.files c.args.store.now) c.args.name.now (map (λ t. t.now) others) i _ c.is_same_file.result
    (slice_get-map (λ t. t.now) others i ∙ ap (option_map (λ t. t.now)) (slice_get-get_or others i _ c.loop-other-test.true)) c.is_same_file.ensures c.if-is_same_file.true

pub returns : goal.returns
returns g c =
    let i = c.loop-other.other-index in let others = c.args.others.now in
    none_of_all (g.S.Store.files c.args.store.now) c.args.name.now (map (λ t. t.now) others) (take i (map (λ t. t.now) others))
    (take-map (λ t. t.now) i others ∙ ap (map (λ t. t.now)) (take_all i others c.loop-other-test.false)) c.loop-other.invariant
