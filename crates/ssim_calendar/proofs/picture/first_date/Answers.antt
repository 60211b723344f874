-- The first cell that is no full stop, or the end.
use Rattle.std.proofs.Common.{ℕ, ◌≡◌, ◌∙◌, ◌==◌, ◌≤◌, not, length, unwrap_or, ap, sym, subst, rules}
use Rattle.std.specs.Prelude.{position}
use Rattle.std.proofs.lemmas.Iterator.{YieldsList-from_slice}
use Rattle.std.proofs.lemmas.Iterator.Search.{position_from_yields_List}
use Rattle.std.proofs.lemmas.List.Sums.{prefix_len-le-length}
use Rattle.ssim_calendar.proofs.Dates.{first_or_end}
use Rattle.ssim_calendar.proofs.picture.first_date.Goals as goal

pub returns-clause-value : goal.returns-clause-value
returns-clause-value c =
    let cells = c.args.cells.now in
    let test = λ (cell : ℕ). not (cell == 46) in
    let found : c.position-first.result ≡ position test cells =
    position_from_yields_List test _ _ c.position-first.result c.position-first.ensures.ran (YieldsList-from_slice cells cc) (λ x b q k. search rules) in
    c.unwrap_or.ensures ∙ ap (λ o. unwrap_or o (length cells)) found ∙ first_or_end test cells

pub returns-clause-within : goal.returns-clause-within
returns-clause-within c =
    let cells = c.args.cells.now in
    subst (λ n. n ≤ length cells) (sym (returns-clause-value c)) (prefix_len-le-length (λ cell. not (not (cell == 46))) cells)
