-- The order of references is total, and references that compare alike are one.
use Rattle.std.proofs.Common.{◌≡◌, drop, slice_index_or, refl, ap}
use Rattle.std.specs.Cmp.{IsTotalOrder}
use Rattle.std.specs.Cmp.Lexicographic.{on_texts}
use Rattle.std.specs.FinMap.{IsAntisymmetric, slice_cmp-IsAntisymmetric, nat_cmp-IsAntisymmetric}
use Rattle.ssim_text.specs.Reference.{reference_numbers, kind_number}
use Rattle.ssim_text.specs.declared.kind.Kind.{Kind}
use Rattle.ssim_text.specs.declared.kind.Kind.TheVariants.{Ssm, Asm}
use Rattle.ssim_text.specs.declared.reference.Reference.{Reference}
use Rattle.ssim_held.specs.Held.{reference_cmp}

pub reference_total : IsTotalOrder reference_cmp
reference_total = on_texts reference_numbers

same_kind : (a b : Kind) → kind_number a ≡ kind_number b → a ≡ b
same_kind Ssm Ssm e = refl
same_kind Ssm Asm e = cc
same_kind Asm Ssm e = cc
same_kind Asm Asm e = refl

same_reference : (a b : Reference) → reference_numbers a ≡ reference_numbers b → a ≡ b
same_reference a b e =
    let date : a.date ≡ b.date = ap (λ l. slice_index_or l 0 0) e in
    let group : a.group ≡ b.group = ap (λ l. slice_index_or l 1 0) e in
    let serial : a.serial ≡ b.serial = ap (λ l. slice_index_or l 2 0) e in
    let kind : a.kind ≡ b.kind = same_kind a.kind b.kind (ap (λ l. slice_index_or l 3 0) e) in
    let originator : a.originator ≡ b.originator = ap (drop 4) e in
    λ i. record { date = date i; group = group i; serial = serial i; kind = kind i; originator = originator i }

pub reference_apart : IsAntisymmetric reference_cmp
reference_apart a b e = same_reference a b (slice_cmp-IsAntisymmetric nat_cmp-IsAntisymmetric (reference_numbers a) (reference_numbers b) e)
