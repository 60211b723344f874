-- The word, the digits and LF, one after another.
use Rattle.std.proofs.Common.{◌≡◌, ◌++◌, ◌∷◌, [], List, ℕ, decimal, refl, sym, ap, ◌∙◌}
use Rattle.ssim_base.proofs.SinkLemmas.{next_fails, next_put, none_put, puts_then}
use Rattle.ssim_held.proofs.desk_file_writer.put_counted.Given as given
use Rattle.ssim_held.proofs.desk_file_writer.put_counted.Goals.{After-as_bytes}
use Rattle.ssim_held.proofs.desk_file_writer.put_counted.Goals as goal

-- the digits are those of the number
digits-split : (g : given.Over) (c : After-as_bytes g)
    → decimal c.args.number ++ 10 ∷ [] ≡ c.as_bytes.result.now ++ 10 ∷ []
digits-split g c =
    ap (λ (bs : List ℕ). bs ++ 10 ∷ []) (sym (c.as_bytes.ensures.value ∙ c.format.ensures.text))

pub returns-in_err-put_bytes : goal.returns-in_err-put_bytes
returns-in_err-put_bytes g c =
    next_fails c.args.block.now _ _ refl (none_put _ _) _ _ c.from_residual.ensures.0
    c.in_err-put_bytes.ensures.puts

pub returns-in_err-put_bytes-2 : goal.returns-in_err-put_bytes-2
returns-in_err-put_bytes-2 g c =
    let at = (goal.at.returns-in_err-put_bytes-2 g c).After-as_bytes in
    let first = next_put c.args.block.now _ _ refl (none_put _ _) c.in_ok-put_bytes.ensures.puts in
    next_fails c.put_bytes.new.block _ _ (digits-split g at) first _ _
    c.from_residual-in_err-put_bytes-2.ensures.0 c.in_err-put_bytes-2.ensures.puts

pub returns : goal.returns
returns g c =
    let at = (goal.at.returns g c).After-as_bytes in
    let first = next_put c.args.block.now _ _ refl (none_put _ _) c.in_ok-put_bytes.ensures.puts in
    let second = next_put c.put_bytes.new.block _ _ (digits-split g at) first
    c.in_ok-put_bytes-2.ensures.puts in
    puts_then _ _ c.put_bytes-3.new.block _ _ _ c.put_bytes-3.result second
    c.put_bytes-3.ensures.puts
