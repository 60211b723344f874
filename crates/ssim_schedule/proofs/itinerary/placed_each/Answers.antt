-- A leg of the first list is put after the others that come before it.
use Rattle.std.proofs.Common.{◌≡◌, ℕ, ◌+◌, ◌-◌, [], ◌∷◌, ◌++◌, take, drop}
use Rattle.std.proofs.Common.{append_assoc, sym, ap, ◌∙◌, arith}
use Rattle.std.proofs.lemmas.List.{drop-drop, drop_more, length-drop, take_rest}
use Rattle.ssim_schedule.specs.clauses.PlacedLegs.{legs_before, placed_each}
use Rattle.ssim_base.specs.Timetable.{LegValue, Legs}
use Rattle.ssim_schedule.proofs.itinerary.placed_each.Goals as goal

one_more : (all items : Legs) (l : LegValue) (legs others whole : Legs) (place : ℕ)
    → place ≡ legs_before l.sequence others → items ≡ (all ++ take place others) ++ l ∷ []
    → all ++ placed_each (l ∷ legs) others ≡ whole
    → items ++ placed_each legs (drop place others) ≡ whole
one_more all items l legs others whole place at pushed before =
    ap (λ (xs : Legs). xs ++ placed_each legs (drop place others)) pushed
    ∙ append_assoc (all ++ take place others) (l ∷ []) (placed_each legs (drop place others))
    ∙ append_assoc all (take place others) (l ∷ placed_each legs (drop place others))
    ∙ ap (λ n. all ++ (take n others ++ l ∷ placed_each legs (drop n others))) at
    ∙ before

pub loop-leg-preserved : goal.loop-leg-preserved
loop-leg-preserved c =
    let legs : Legs = c.args.legs.now in
    let others : Legs = c.args.others.now in
    let i = c.loop-leg.leg-index in
    let from = c.loop-leg.from in
    let all : Legs = c.loop-leg.all.items in
    let place = c.place_among.result in
    let fits = c.place_among.ensures.within in
    let l : LegValue = c.leg-item.result in
    let cons : drop i legs ≡ l ∷ drop (i + 1) legs =
    drop_more legs i l (omega (arith, c.loop-leg-test.true))
    ∙ ap (λ (m : LegValue). m ∷ drop (i + 1) legs) (sym c.leg-item.is) in
    let added : from + place - from ≡ place = omega arith in
    let items : Legs = c.push.new.self.items in
    let later : Legs = drop (i + 1) legs in
    let rest : Legs = drop from others in
    let own : LegValue = c.in_ok-copy.field-0 in
    let at : place ≡ legs_before l.sequence rest =
    c.place_among.ensures.place ∙ ap (legs_before l.sequence) (take_rest others from) in
    let pushed : items ≡ (all ++ take place rest) ++ l ∷ [] =
    c.in_ok-push.ensures.items
    ∙ ap (λ (xs : Legs). xs ++ own ∷ []) c.in_ok-push_copies.ensures
    ∙ ap (λ n. all ++ take n rest ++ own ∷ []) added
    ∙ ap (λ (m : LegValue). all ++ take place rest ++ m ∷ []) c.in_ok-copy.ensures in
    record {
      within = omega (arith, c.loop-leg.invariant.within, fits, length-drop from others);
      rest =
          ap (λ (xs : Legs). items ++ placed_each later xs) (sym (drop-drop place from others))
          ∙ one_more all items l later rest (placed_each legs others) place at pushed
          (ap (λ (ls : Legs). all ++ placed_each ls rest) (sym cons) ∙ c.loop-leg.invariant.rest);
    }
