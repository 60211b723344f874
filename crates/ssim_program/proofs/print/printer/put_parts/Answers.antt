-- The next part is put, and then what is left.
use Rattle.std.proofs.Common.{◌≡◌, Bor, Ok, ◌<◌, ◌+◌, ◌++◌, ℕ, List, [], length, drop, get_or, ap, subst, sym, arith, rules}
use Rattle.std.specs.List.{flat_map}
use Rattle.std.proofs.lemmas.List.{drop_all, drop_more}
use Rattle.ssim_program.specs.print.Paper.{Breaks, Grows}
use Rattle.ssim_program.specs.internal.Print.{PrintsPart}
use Rattle.ssim_program.proofs.Printers.{breaks_first, nothing, puts_then}
use Rattle.ssim_program.proofs.print.printer.put_parts.Goals as goal

-- the bytes of parts
abbrev joined : List (Bor (List ℕ)) → List ℕ
joined parts = flat_map (λ part. part.now) parts

-- the next of the parts that are left, and those after it
next : (parts : List (Bor (List ℕ))) (i : ℕ) → i < length parts
    → (get_or parts i (record { ref_ptr = (0, 0); now = [] })).now ++ joined (drop (i + 1) parts) ≡ joined (drop i parts)
next parts i lt = ap joined (sym (drop_more parts i (record { ref_ptr = (0, 0); now = [] }) lt))

pub returns-in_err-put_part : goal.returns-in_err-put_part
returns-in_err-put_part g c =
    let parts = c.args.parts.now in
    let i = c.loop-part.part-index in
    let out = c.loop-part.out in
    let lt : i < length parts = omega arith in
    let broken = breaks_first _ (joined (drop (i + 1) parts)) out c.put_part.new.out c.in_err-put_part.ensures.1 in
    let left = subst (λ (bs : List ℕ). Breaks bs out c.put_part.new.out) (next parts i lt) broken in
    c.loop-part.invariant c.put_part.new.out c.from_residual.result (search rules)

pub loop-part-preserved : goal.loop-part-preserved
loop-part-preserved g c after result h =
    let parts = c.args.parts.now in
    let i = c.loop-part.part-index in
    let out = c.loop-part.out in
    let lt : i < length parts = omega arith in
    let put = puts_then _ (joined (drop (i + 1) parts)) out c.put_part.new.out after result c.in_ok-put_part.ensures h in
    c.loop-part.invariant after result (subst (λ (bs : List ℕ). PrintsPart bs out after result) (next parts i lt) put)

pub returns : goal.returns
returns g c =
    let out = c.loop-part.out in
    let none = drop_all c.loop-part.part-index c.args.parts.now c.loop-part-test.false in
    c.loop-part.invariant out (Ok tt) (subst (λ (left : List (Bor (List ℕ))). Grows (joined left) out out) (sym none) (nothing out))
