-- The last line of the rest has its role by what is below it.
use Rattle.std.proofs.Common.{◌∙◌, ◌++◌, [], ◌∷◌, ◌+◌, List, ℕ, Bor, Option, option_map, ap, sym, refl, subst, append_assoc}
use Rattle.std.specs.Prelude.{◌==◌, reverse}
use Rattle.std.specs.List.{slice_split}
use Rattle.ssim_mailbox.specs.Lines.{dot_after, lines_from, shown}
use Rattle.ssim_mailbox.specs.declared.role.Role.{Role}
use Rattle.ssim_mailbox.specs.internal.Lines.{split_rest}
use Rattle.ssim_mailbox.specs.internal.Roles.{AreRoles, plain_line}
use Rattle.ssim_mailbox.proofs.Reading.{role_above}
use Rattle.ssim_mailbox.proofs.role.roles.Goals as goal

pub loop-roles-preserved : goal.loop-roles-preserved
loop-roles-preserved c =
    let (done, are, roles, below) = c.loop-roles.invariant in
    let line = c.rsplit_once.result.1.now in
    let bytes = sym c.shown-bytes.ensures in (
      line ∷ done,
      are ∙ ap (λ (parts : List (List ℕ)). parts ++ done) (c.rsplit_once.ensures.parts ∙ ap (λ (o : Option (Bor (List ℕ))). split_rest 10 (option_map (λ r. r.now) o) ++ line ∷ []) c.in-Some.is) ∙ append_assoc _ (line ∷ []) done,
      role_above c.loop-roles.roles.items c.push.new.self.items c.role_of.result line done c.in_ok-push.ensures.items
          (λ n m d. c.role_of.ensures (plain_line n line) (lines_from m d done) bytes refl (c.ahead_from-ahead.ensures (plain_line n line) (lines_from m d done) bytes (below m d)) (below m d)) roles,
      λ n d. c.ahead_from-ahead.ensures (record { number = n; bytes = shown line; under_dot = d }) (lines_from (n + 1) (dot_after d (shown line)) done) bytes (below (n + 1) (dot_after d (shown line))),
    )

pub returns : goal.returns
returns c =
    let (done, are, roles, below) = c.loop-roles.invariant in
    let line = c.rsplit_once.result.1.now in
    let bytes = sym c.shown-bytes.ensures in
    let all = are ∙ ap (λ (parts : List (List ℕ)). parts ++ done) (c.rsplit_once.ensures.parts ∙ ap (λ (o : Option (Bor (List ℕ))). split_rest 10 (option_map (λ r. r.now) o) ++ line ∷ []) c.in-None.is) in
    let found = role_above c.loop-roles.roles.items c.push.new.self.items c.role_of.result line done c.in_ok-push.ensures.items
    (λ n m d. c.role_of.ensures (plain_line n line) (lines_from m d done) bytes refl (c.ahead_from-ahead.ensures (plain_line n line) (lines_from m d done) bytes (below m d)) (below m d)) roles in
    subst (λ (rs : List Role). AreRoles rs (slice_split (λ b. b == 10) c.args.mailbox.now)) (sym c.reverse.ensures.items) (subst (AreRoles (reverse c.push.new.self.items)) (sym all) found)
