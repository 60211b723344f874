-- The bytes that came follow those that were held.
use Rattle.std.proofs.Common.{ap, ◌∙◌, ◌-◌, ◌++◌, List, ℕ, take, arith}
use Rattle.ssim_records.proofs.FirstBytes.{held_more, left_same}
use Rattle.ssim_records.proofs.peekable.Beginning.fetch.Goals as goal

pub returns-clause-left : goal.returns-clause-left
returns-clause-left g c =
    let i = c.self.inside in
    let got = c.fetch.new.into in
    left_same c.args.self.now _ (take c.in_ok-n.n got) _ _ _ _ c.in_ok-n.n
    (held_more i.bytes got i.len c.in_ok-n.n (9 - i.len) (omega arith) c.in_ok-n.ensures.bound.0
    ∙ ap (λ (t : List ℕ). t ++ take c.in_ok-n.n got) c.self.view_is)
    c.in_ok-n.ensures.bytes.0 c.in_ok-n.ensures.count
