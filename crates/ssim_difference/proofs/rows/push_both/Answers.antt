-- The legs are equal, or not.
use Rattle.std.proofs.Common.{◌∙◌, ◌++◌, ◌∷◌, [], Bool, if◌then◌else◌, List, ℕ, codes, sym, ap}
use Rattle.std.proofs.lemmas.Result.{on_ok_weaker}
use Rattle.ssim_base.specs.Timetable.{LegValue}
use Rattle.ssim_listing.proofs.Joining.{joined}
use Rattle.ssim_difference.specs.Rows.{side_row}
use Rattle.ssim_difference.specs.internal.RowHeads.{fields_of}
use Rattle.ssim_difference.proofs.rows.push_both.Goals as goal

abbrev chosen : List (List ℕ) → List ℕ → LegValue → LegValue → Bool → List ℕ
chosen head rows old new same = rows ++
    (if same then side_row head (codes "both") old
    else side_row head (codes "old") old ++ side_row head (codes "new") new)

pub returns-then-same : goal.returns-then-same
returns-then-same c =
    on_ok_weaker c.push_side.result
    (λ added. added
    ∙ ap (chosen (fields_of c.args.head.now) c.args.rows.now c.args.old.now c.args.new.now)
    (sym c.if-same.true ∙ c.same.ensures))
    c.push_side.ensures

pub returns : goal.returns
returns c =
    let head = fields_of c.args.head.now in
    let rows = c.args.rows.now in
    on_ok_weaker c.push_side-3.result
    (λ added.
    joined rows (side_row head (codes "old") c.args.old.now) (side_row head (codes "new") c.args.new.now)
    c.in_ok-push_side.ensures added
    ∙ ap (chosen head rows c.args.old.now c.args.new.now) (sym c.if-same.false ∙ c.same.ensures))
    c.push_side-3.ensures
