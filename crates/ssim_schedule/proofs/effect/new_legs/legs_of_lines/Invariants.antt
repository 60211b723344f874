use Rattle.std.proofs.Common.{◌≡◌, ◌++◌, drop, option_map}
use Rattle.ssim_schedule.specs.Effect.{legs_from, variation_on}
use Rattle.ssim_schedule.proofs.effect.new_legs.legs_of_lines.Given as goal

abbrev pub invariant-loop-line : goal.invariant-loop-line
invariant-loop-line l =
    record {
      counted : l.place ≡ l.line-index;
      rest : option_map (λ back. l.legs.items ++ back) (legs_from (variation_on l.rows l.day) l.new l.line-index (drop l.line-index l.lines)) ≡ legs_from (variation_on l.rows l.day) l.new 0 l.lines;
    }
