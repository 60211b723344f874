-- One more leg is made, and one line less is left.
use Rattle.std.proofs.Common.{◌≡◌, ℕ, ◌+◌, List, [], ◌∷◌, ◌++◌, drop, Option, Some, None, option_map, append_assoc, refl, sym, ap, ◌∙◌, arith}
use Rattle.std.proofs.lemmas.List.{drop_more}
use Rattle.ssim_text.specs.declared.leg.LegLine.{LegLine}
use Rattle.ssim_text.specs.declared.action.NewLegs.{NewLegs}
use Rattle.ssim_schedule.specs.Effect.{Variations, joined, leg_at, legs_from, variation_on}
use Rattle.ssim_base.specs.Timetable.{LegValue, Legs}
use Rattle.ssim_schedule.proofs.effect.new_legs.legs_of_lines.Goals as goal

add : (done : Legs) (leg : LegValue) (later : Option Legs) → option_map (λ back. (done ++ leg ∷ []) ++ back) later ≡ option_map (λ back. done ++ back) (joined (Some leg) later)
add done leg None = refl
add done leg (Some back) = ap Some (append_assoc done (leg ∷ []) back)

next : (v : Variations) (new : NewLegs) (i : ℕ) (lines rest : List LegLine) (done items : Legs) (line : LegLine) (leg : LegValue) (whole : Option Legs) → lines ≡ line ∷ rest → leg_at (v line.departure.station) (v line.arrival.station) i line new ≡ Some leg
    → items ≡ done ++ leg ∷ [] → option_map (λ back. done ++ back) (legs_from v new i lines) ≡ whole → option_map (λ back. items ++ back) (legs_from v new (i + 1) rest) ≡ whole
next v new i lines rest done items line leg whole cons made pushed before =
    ap (λ (xs : Legs). option_map (λ back. xs ++ back) (legs_from v new (i + 1) rest)) pushed
    ∙ add done leg (legs_from v new (i + 1) rest)
    ∙ ap (λ l. option_map (λ back. done ++ back) (joined l (legs_from v new (i + 1) rest))) (sym made)
    ∙ ap (λ (ls : List LegLine). option_map (λ back. done ++ back) (legs_from v new i ls)) (sym cons)
    ∙ before

pub loop-line-preserved : goal.loop-line-preserved
loop-line-preserved c =
    let lines : List LegLine = c.args.lines.now in
    let i = c.loop-line.line-index in
    let new = c.args.new.now in
    let v : Variations = variation_on c.args.rows.now c.args.day in
    let line : LegLine = c.line-item.result in
    let cons : drop i lines ≡ line ∷ drop (i + 1) lines = drop_more lines i line (omega (arith, c.loop-line-test.true)) ∙ ap (λ (l : LegLine). l ∷ drop (i + 1) lines) (sym c.line-item.is) in
    let at : c.loop-line.place ≡ i = c.loop-line.invariant.counted in
    let made : leg_at (v line.departure.station) (v line.arrival.station) i line new ≡ Some c.in-Some.leg =
    ap (λ n. leg_at (v line.departure.station) (v line.arrival.station) n line new) (sym at) ∙ sym c.in_ok-leg_on.ensures ∙ c.in-Some.is in
    record {
      counted = omega (arith, at);
      rest = next v new i (drop i lines) (drop (i + 1) lines) c.loop-line.legs.items c.push.new.self.items line c.in-Some.leg (legs_from v new 0 lines) cons made c.in_ok-push-in-Some.ensures.items c.loop-line.invariant.rest;
    }
