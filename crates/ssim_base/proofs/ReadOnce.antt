-- Bytes are read in one way: they have one list of blocks, and a block spells one record.
use Rattle.std.proofs.Common.{◌≡◌, ℕ, false, List, [], ◌∷◌, length, refl, sym, ap, subst, ◌∙◌}
use Rattle.ssim_records.specs.Frames.{FramesAreOne, others}
use Rattle.ssim_records.specs.declared.record.Record.{Record}
use Rattle.ssim_records.proofs.AnyRecord.{one_record}
use Rattle.ssim_base.specs.ReadBack.{EachSpells}
use Rattle.ssim_base.proofs.ExportLaws.{ReadOnce}

spells-once : (blocks : List (ℕ × List ℕ)) (rs ss : List (ℕ × Record)) → EachSpells blocks rs → EachSpells blocks ss → rs ≡ ss
spells-once [] [] [] f g = refl
spells-once [] [] (s ∷ ss) f g = absurd g
spells-once [] (r ∷ rs) ss f g = absurd f
spells-once (b ∷ bs) [] ss f g = absurd f
spells-once (b ∷ bs) (r ∷ rs) [] f g = absurd g
spells-once (b ∷ bs) (r ∷ rs) (s ∷ ss) f g =
    let number : r.0 ≡ s.0 = sym f.0 ∙ g.0 in
    let same : r.1 ≡ s.1 = one_record b.1 r.1 s.1 f.1 g.1 in
    let pair : r ≡ s = ap (λ n. (n, r.1)) number ∙ ap (λ x. (s.0, x)) same in
    ap (λ x. x ∷ rs) pair ∙ ap (λ xs. s ∷ xs) (spells-once bs rs ss f.2 g.2)

pub read_once : FramesAreOne → ReadOnce
read_once one bytes count other records these f g =
    let blocks = (one 0 false bytes f.blocks g.blocks [] [] f.framed g.framed).0 in (
      sym f.counted ∙ ap length blocks ∙ g.counted,
      spells-once (others 0 f.blocks) records these f.spelled (subst (λ bs. EachSpells (others 0 bs) these) (sym blocks) g.spelled),
    )
