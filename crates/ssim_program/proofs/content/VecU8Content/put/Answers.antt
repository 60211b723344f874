-- The bytes go to the buffer, which then goes to the sink.
use Rattle.std.proofs.Common.{◌≡◌, List, ℕ, ◌++◌, ◌∙◌, ap, subst}
use Rattle.ssim_base.specs.Sinks.{Breaks}
use Rattle.ssim_base.specs.clauses.Sinks.{GrowsUpTo}
use Rattle.ssim_base.proofs.SinkLemmas.{all_fail, puts_all}
use Rattle.ssim_program.proofs.content.VecU8Content.put.Goals as goal

pub returns-in_err-put_bytes : goal.returns-in_err-put_bytes
returns-in_err-put_bytes g c =
    let bytes = c.args.self.now.items in
    let old = g.W.Sink.state c.args.out.now in
    let new = g.W.Sink.state c.put_bytes.new.out in
    let held : c.new-block.result ++ c.deref.result.now ≡ bytes =
    ap (λ (bs : List ℕ). bs ++ c.deref.result.now) c.new-block.ensures ∙ c.deref.ensures.value in
    all_fail bytes old new c.from_residual.result c.from_residual.ensures.0
    (subst (λ (bs : List ℕ). Breaks bs old new) held c.in_err-put_bytes.ensures.puts)

pub returns : goal.returns
returns g c =
    let bytes = c.args.self.now.items in
    let last = c.put_bytes.new.block in
    let old = g.W.Sink.state c.args.out.now in
    let mid = g.W.Sink.state c.put_bytes.new.out in
    let new = g.W.Sink.state c.flush.new.out in
    let held : c.new-block.result ++ c.deref.result.now ≡ bytes =
    ap (λ (bs : List ℕ). bs ++ c.deref.result.now) c.new-block.ensures ∙ c.deref.ensures.value in
    puts_all bytes last old mid new c.flush.result
    (subst (λ (bs : List ℕ). GrowsUpTo bs last old mid) held c.in_ok-put_bytes.ensures.puts)
    c.flush.ensures.puts
