-- The legs are equal, or not.
use Rattle.std.proofs.Common.{◌∙◌, ◌++◌, [], Bool, if◌then◌else◌, List, ℕ, codes, sym, ap}
use Rattle.std.proofs.lemmas.Result.{on_ok_weaker}
use Rattle.ssim_base.specs.Timetable.{LegValue}
use Rattle.ssim_difference.specs.Lines.{changed_lines, signed_line}
use Rattle.ssim_difference.proofs.lines.push_both.Goals as goal

abbrev chosen : List ℕ → LegValue → LegValue → Bool → List ℕ
chosen lines old new same = lines ++
    (if same then signed_line (codes "  ") old [] else changed_lines old new)

pub returns-then-same : goal.returns-then-same
returns-then-same c =
    on_ok_weaker c.push_signed.result
    (λ added. added
    ∙ ap (chosen c.args.lines.now.items c.args.old.now c.args.new.now) (sym c.if-same.true
    ∙ c.same.ensures))
    c.push_signed.ensures

pub returns : goal.returns
returns c =
    on_ok_weaker c.push_changed.result
    (λ added. added
    ∙ ap (chosen c.args.lines.now.items c.args.old.now c.args.new.now) (sym c.if-same.false
    ∙ c.same.ensures))
    c.push_changed.ensures
