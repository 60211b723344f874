-- The line with the length, and the text.
use Rattle.std.proofs.Common.{◌≡◌, ◌++◌, ℕ, List, codes, length, sym, ap, ◌∙◌}
use Rattle.ssim_base.proofs.SinkLemmas.{next_fails, next_put, none_put, puts_then}
use Rattle.ssim_text.specs.Canonical.{canonical}
use Rattle.ssim_held.specs.File.{counted, text_element}
use Rattle.ssim_held.proofs.desk_file_writer.put_text.Given as given
use Rattle.ssim_held.proofs.desk_file_writer.put_text.Goals.{After-put_counted}
use Rattle.ssim_held.proofs.desk_file_writer.put_text.Goals as goal

-- the text is the canonical one
text-split : (g : given.Over) (c : After-put_counted g) → text_element c.args.held.now
    ≡ counted (codes "TEXT") (length c.text-text.result.now) ++ c.text-text.result.now
text-split g c =
    ap (λ (bs : List ℕ). counted (codes "TEXT") (length bs) ++ bs)
    (sym (c.text-text.ensures.written ∙ ap canonical c.message.ensures))

pub returns-in_err-put_counted-clause-puts : goal.returns-in_err-put_counted-clause-puts
returns-in_err-put_counted-clause-puts g c =
    let at = (goal.at.returns-in_err-put_counted-clause-puts g c).After-put_counted in
    next_fails c.args.block.now _ _ (text-split g at) (none_put _ _) _ _ c.from_residual.ensures.0
    c.in_err-put_counted.ensures

pub returns-clause-puts : goal.returns-clause-puts
returns-clause-puts g c =
    let at = (goal.at.returns-clause-puts g c).After-put_counted in
    let line = next_put c.args.block.now _ _ (text-split g at) (none_put _ _)
    c.in_ok-put_counted.ensures in
    puts_then _ _ c.put_bytes.new.block _ _ _ c.put_bytes.result line c.put_bytes.ensures.puts
