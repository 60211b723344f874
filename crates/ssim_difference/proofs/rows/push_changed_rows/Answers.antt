-- The rows of all sequences, under the kind of the change.
use Rattle.std.proofs.Common.{◌≡◌, ◌∙◌, ◌++◌, ◌∷◌, [], List, ℕ, refl, ap}
use Rattle.std.specs.List.{flat_map, range_with_len}
use Rattle.std.proofs.lemmas.Result.{on_ok_weaker}
use Rattle.ssim_difference.specs.Lines.{sequences}
use Rattle.ssim_difference.specs.Rows.{sequence_rows}
use Rattle.ssim_difference.proofs.rows.push_changed_rows.Goals as goal

all_sequences : range_with_len 1 99 ≡ sequences
unfolding sequences
all_sequences = refl

pub returns : goal.returns
returns c =
    let head = c.args.head in
    let rows = c.args.rows.now in
    let old = c.args.old.now in
    let new = c.args.new.now in
    let named : List ℕ → List (List ℕ) =
    λ change. head.name.now ∷ head.first.now ∷ head.last.now ∷ head.days.now ∷ change ∷ [] in
    on_ok_weaker c.put_range.result
    (λ added. added
    ∙ ap (λ (ns : List ℕ). rows ++ flat_map (sequence_rows (named head.change.now) old new) ns)
    all_sequences
    ∙ ap (λ (change : List ℕ). rows ++ flat_map (sequence_rows (named change) old new) sequences)
    c.requires)
    c.put_range.ensures
