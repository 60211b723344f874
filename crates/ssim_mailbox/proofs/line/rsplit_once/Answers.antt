-- The bytes are divided at the last mark.
use Rattle.std.proofs.Common.{◌≡◌, ◌≤◌, ◌+◌, [], ◌∷◌, ◌++◌, refl, ℕ, List, false, get_or, length, take, drop, arith, subst, sym}
use Rattle.std.specs.Prelude.{◌==◌, ◌-◌}
use Rattle.std.specs.List.{All}
use Rattle.std.proofs.lemmas.Grind.{common_steps}
use Rattle.std.proofs.lemmas.List.Splits.{slice_split_none}
use Rattle.ssim_mailbox.proofs.Splitting.{split_last}
use Rattle.ssim_mailbox.proofs.line.rsplit_once.Goals as goal

last_of : (rest : List ℕ) → 1 ≤ length rest → rest ≡ take (length rest - 1) rest ++ get_or rest (length rest - 1) 0 ∷ []
last_of rest some = grind (arith, common_steps)

all_after : (bytes rest : List ℕ) → take (length bytes - length rest) (drop (length rest) bytes) ≡ drop (length rest) bytes
all_after bytes rest = grind (arith, common_steps)

all_left : (bytes rest : List ℕ) → length rest + 1 ≤ 1 → drop (length rest) bytes ≡ bytes
all_left bytes [] none = refl
all_left bytes (b ∷ rest) none = absurd (omega (arith, none))

pub returns-then-last-mark-clause-parts : goal.returns-then-last-mark-clause-parts
returns-then-last-mark-clause-parts c =
    let bytes = c.args.bytes.now in
    let rest = c.loop-rest.rest.now in
    let after = all_after bytes rest in
    split_last c.args.mark bytes rest (take (length rest - 1) rest) (take (length bytes - length rest) (drop (length rest) bytes)) (get_or rest (length rest - 1) 0) c.loop-rest.invariant.front (last_of rest c.in-len1-up.len_at_least) after
    (subst (All (λ b. (b == c.args.mark) ≡ false)) (sym after) c.loop-rest.invariant.none) c.if-last-mark.true

pub returns-clause-parts : goal.returns-clause-parts
returns-clause-parts c =
    let bytes = c.args.bytes.now in
    let rest = c.loop-rest.rest.now in
    slice_split_none (λ b. b == c.args.mark) bytes (subst (All (λ b. (b == c.args.mark) ≡ false)) (all_left bytes rest (omega (arith, c.in_default.len_below))) c.loop-rest.invariant.none)
