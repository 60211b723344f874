-- The lines of the legs, and one before or after them.
use Rattle.std.proofs.Common.{◌≡◌, ◌∙◌, ◌++◌, List, ℕ, codes, refl, ap, append_assoc}
use Rattle.std.specs.List.{flat_map, range_with_len}
use Rattle.std.proofs.lemmas.Result.{on_ok_weaker}
use Rattle.ssim_difference.specs.Lines.{none_line, sequence_lines, sequences}
use Rattle.ssim_listing.proofs.Joining.{joined}
use Rattle.ssim_difference.proofs.lines.push_changed_legs.Goals as goal

all_sequences : range_with_len 1 99 ≡ sequences
unfolding sequences
all_sequences = refl

pub returns : goal.returns
returns c =
    let lines = c.args.lines.now.items in
    let old = c.args.old.now in let new = c.args.new.now in
    let first = none_line (codes "- no flight") old in
    let by_sequence = flat_map (sequence_lines old new) in
    let last = none_line (codes "+ no flight") new in
    let legs = c.in_ok-push_range.ensures
    ∙ ap (λ (ns : List ℕ). c.push_none.new.lines.items ++ by_sequence ns) all_sequences in
    on_ok_weaker c.push_none-2.result
    (λ added.
    joined lines (first ++ by_sequence sequences) last
    (joined lines first (by_sequence sequences) c.in_ok-push_none.ensures legs) added
    ∙ ap (λ (bs : List ℕ). lines ++ bs) (append_assoc first (by_sequence sequences) last))
    c.push_none-2.ensures
