-- A refusal with a file names it.
use Rattle.std.proofs.Common.{◌≡◌, ◌∙◌, Bor, ℕ, List, Option, Some, ap, sym, option_map, rules}
use Rattle.ssim_program.specs.print.Refusal.{refusal_file}
use Rattle.ssim_program.proofs.print.refusal_line.put_named.Goals as goal

pub returns-in-Some : goal.returns-in-Some
returns-in-Some g c =
    let is : refusal_file c.args.refusal.now ≡ Some c.in-Some.file.now =
    sym c.file.ensures ∙ ap (λ (o : Option (Bor (List ℕ))). option_map (λ n. n.now) o) c.in-Some.is in
    rw is (search rules)
