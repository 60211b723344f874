-- The words of the command do what they do, and a refusal is explained if they ask for it.
use Rattle.std.proofs.Common.{◌≡◌, true, false, inl, inr, map, refl, rules}
use Rattle.ssim_command_line.proofs.Lines.{spells_names}
use Rattle.ssim_program.specs.Runs.{command_words, is_explained}
use Rattle.ssim_program.proofs.Replying.{devices_run, explained_run, printed_device, status_run, without_explain}
use Rattle.ssim_program.proofs.program.run_on.Goals as goal

pub returns-then-not-is_explained-clause-plain : goal.returns-then-not-is_explained-clause-plain
returns-then-not-is_explained-clause-plain g c line spells = spells_names _ line spells

pub returns-in-Ok-clause-plain : goal.returns-in-Ok-clause-plain
returns-in-Ok-clause-plain g c line spells = spells_names _ line spells

pub returns-in-Err-clause-plain : goal.returns-in-Err-clause-plain
returns-in-Err-clause-plain g c line spells = spells_names _ line spells

pub returns-then-not-is_explained-clause-status : goal.returns-then-not-is_explained-clause-status
returns-then-not-is_explained-clause-status g c = status_run _ _ _ _ _ _ c.run_plainly.ensures.1

pub returns-in-Ok-clause-status : goal.returns-in-Ok-clause-status
returns-in-Ok-clause-status g c = status_run _ _ _ _ _ _ c.run_plainly-in-Ok.ensures.1

pub returns-then-not-is_explained-clause-devices : goal.returns-then-not-is_explained-clause-devices
returns-then-not-is_explained-clause-devices g c = devices_run _ _ _ _ _ _ _ _ c.run_plainly.ensures.1 c.run_plainly.ensures.2

pub returns-in-Ok-clause-devices : goal.returns-in-Ok-clause-devices
returns-in-Ok-clause-devices g c = devices_run _ _ _ _ _ _ _ _ c.run_plainly-in-Ok.ensures.1 c.run_plainly-in-Ok.ensures.2

pub returns-in-Err-clause-devices : goal.returns-in-Err-clause-devices
returns-in-Err-clause-devices g c = (refl, printed_device _ c.args.err.now c.refuse.new.err c.refuse.ensures.printed)

pub returns-then-not-is_explained-clause-runs : goal.returns-then-not-is_explained-clause-runs
returns-then-not-is_explained-clause-runs g c =
    let words = map (λ w. w.now) c.args.words.now in
    let is : is_explained words ≡ false = search rules in
    explained_run words words false _ _ _ _ _ (without_explain words is) is c.run_plainly.ensures

pub returns-in-Ok-clause-runs : goal.returns-in-Ok-clause-runs
returns-in-Ok-clause-runs g c =
    let words = map (λ w. w.now) c.args.words.now in
    let is : is_explained words ≡ true = search rules in
    let left = map (λ w. w.now) c.deref.result.now in
    let are : command_words words ≡ left = search rules in
    explained_run words left true _ _ _ _ _ are is c.run_plainly-in-Ok.ensures

pub returns-in-Err-clause-runs : goal.returns-in-Err-clause-runs
returns-in-Err-clause-runs g c =
    (c.refuse.new.err, inr (inr (inr (c.refuse.ensures.status, refl, c.refuse.ensures.printed)), refl, refl), inl refl)
