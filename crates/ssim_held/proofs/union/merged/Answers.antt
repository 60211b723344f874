use Rattle.std.proofs.Common.{◌≡◌, ◌∷◌, ◌++◌, ◌∙◌, [], List, sym, ap, subst, append_assoc}
use Rattle.std.proofs.lemmas.List.{append-nil}
use Rattle.ssim_held.specs.Entries.{Entry}
use Rattle.ssim_held.specs.clauses.Ordered.{IsMerged}
use Rattle.ssim_held.proofs.union.merged.Goals as goal

pub loop-held-preserved : goal.loop-held-preserved
loop-held-preserved c later rest =
    let all = c.loop-held.all.items in let e = c.in-Some.held.now in
    let put = c.loop-held.invariant (e ∷ later) (c.in-Some.mine_left.now, c.in-Some.theirs_left.now, c.in-Some.ensures.some, rest) in
    let pushed : all ++ (e ∷ later) ≡ c.push.new.self.items ++ later =
    sym (ap (λ (es : List Entry). es ++ later) (c.in_ok-push.ensures.items ∙ ap (λ (x : Entry). all ++ x ∷ []) c.in_ok-copy.ensures) ∙ append_assoc all (e ∷ []) later) in
    subst (IsMerged c.args.mine.now c.args.theirs.now) pushed put

pub returns : goal.returns
returns c =
    subst (IsMerged c.args.mine.now c.args.theirs.now) (append-nil c.loop-held.all.items) (c.loop-held.invariant [] c.in_default.ensures.none)
