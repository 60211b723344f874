-- The values of a command with texts are two or more.
use Rattle.std.proofs.Common.{◌≡◌, codes, refl, arith, rules}
use Rattle.clap.specs.Words.{found_of, rows_of}
use Rattle.ssim_command_line.specs.Line.{History, Show, Take, Withdraw}
use Rattle.ssim_command_line.proofs.Rows.{several_made}
use Rattle.ssim_command_line.proofs.command_line.make.Goals as goal

pub returns-in_ok-to_vec-in-len2-up : goal.returns-in_ok-to_vec-in-len2-up
returns-in_ok-to_vec-in-len2-up c =
    let is : c.args.name.now ≡ codes "take" = search rules in
    several_made (Take c.effects_of.result) _ (codes "take") (rows_of (found_of c.args.inner.now)) _ _ _ _ is
    (λ vs. rw c.effects_of.ensures refl) c.in-len3-up.len_at_least
    (c.in_ok-to_vec-in-len2-up.ensures.items_if_clones_equal (λ x y e. e)) (omega arith)

pub returns-in_ok-to_vec-in-len2-up-values-2 : goal.returns-in_ok-to_vec-in-len2-up-values-2
returns-in_ok-to_vec-in-len2-up-values-2 c =
    let is : c.args.name.now ≡ codes "withdraw" = search rules in
    several_made (Withdraw c.effects_of-in-len2-up-values-2.result) _ (codes "withdraw")
    (rows_of (found_of c.args.inner.now)) _ _ _ _ is
    (λ vs. rw c.effects_of-in-len2-up-values-2.ensures refl) c.in-len3-up-values-2.len_at_least
    (c.in_ok-to_vec-in-len2-up-values-2.ensures.items_if_clones_equal (λ x y e. e)) (omega arith)

pub returns-in_ok-to_vec-in-len2-up-values-3 : goal.returns-in_ok-to_vec-in-len2-up-values-3
returns-in_ok-to_vec-in-len2-up-values-3 c =
    let is : c.args.name.now ≡ codes "show" = search rules in
    several_made Show _ (codes "show") (rows_of (found_of c.args.inner.now)) _ _ _ _ is
    (λ vs. refl) c.in-len3-up-values-3.len_at_least
    (c.in_ok-to_vec-in-len2-up-values-3.ensures.items_if_clones_equal (λ x y e. e)) (omega arith)

pub returns-in_ok-to_vec-in-len2-up-values-4 : goal.returns-in_ok-to_vec-in-len2-up-values-4
returns-in_ok-to_vec-in-len2-up-values-4 c =
    let is : c.args.name.now ≡ codes "history" = search rules in
    several_made (History c.csv_of-in-len2-up-values-4.result) _ (codes "history") (rows_of (found_of c.args.inner.now))
    _ _ _ _ is (λ vs. rw c.csv_of-in-len2-up-values-4.ensures refl) c.in-len3-up-values-4.len_at_least
    (c.in_ok-to_vec-in-len2-up-values-4.ensures.items_if_clones_equal (λ x y e. e)) (omega arith)
