-- The first value, and then each other one after a comma.
use Rattle.std.proofs.Common.{◌≡◌, ◌∙◌, ◌++◌, ◌∷◌, [], ℕ, List, ap, append_assoc, map, sym}
use Rattle.std.proofs.lemmas.Grind.{flat_map-append}
use Rattle.std.proofs.lemmas.List.Folds.{flat_map-map}
use Rattle.std.specs.List.{flat_map}
use Rattle.ssim_sql.specs.internal.Values.{value_text}
use Rattle.ssim_sql.proofs.Joining.{five_joined}
use Rattle.ssim_sql.proofs.value.push_row.Goals as goal

pub returns : goal.returns
returns c =
    let comma : List ℕ → List ℕ = λ value. 44 ∷ value in
    let old = c.args.script.now.items in
    let first = value_text c.args.first.now in
    let others = c.args.others.now in let last = c.args.last.now in
    let one = flat_map comma (map value_text others) in
    let two = flat_map comma (map value_text last) in
    let all = flat_map comma (map value_text others ++ map value_text last) in
    let together : 40 ∷ first ++ one ++ two ≡ 40 ∷ first ++ all =
    append_assoc (40 ∷ first) one two
    ∙ ap (λ (bs : List ℕ). 40 ∷ first ++ bs)
    (sym (flat_map-append comma (map value_text others) (map value_text last))) in
    five_joined old (40 ∷ []) first one two (41 ∷ [])
    c.in_ok-push.ensures.items c.in_ok-push_value.ensures
    (c.in_ok-push_each.ensures
    ∙ ap (λ (bs : List ℕ). c.push_value.new.script.items ++ bs)
    (sym (flat_map-map comma value_text others)))
    (c.in_ok-push_each-2.ensures
    ∙ ap (λ (bs : List ℕ). c.push_each.new.lines.items ++ bs)
    (sym (flat_map-map comma value_text last)))
    c.in_ok-push-2.ensures.items
    ∙ ap (λ (bs : List ℕ). old ++ (bs ++ 41 ∷ [])) together
