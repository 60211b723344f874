-- The current leg begins the pair, or the pair is a later one.
use Rattle.std.proofs.Common.{◌≡◌, ◌<◌, ◌∷◌, ℕ, ◌+◌, ◌-◌, take, List, Option, Some, None, Bool, true, false, drop, get_or, length, refl, sym, ap, ◌∙◌, arith, add-one, drop-cons}
use Rattle.std.specs.Prelude.{position}
use Rattle.std.proofs.lemmas.Grind.{common_steps}
use Rattle.std.specs.Str.{bytes_eq}
use Rattle.ssim_text.specs.declared.leg.LegLine.{LegLine}
use Rattle.ssim_text.specs.Grammar.{leg_pair, pair_at}
use Rattle.ssim_text.proofs.leg.leg_pair.Goals as goal
use Rattle.ssim_text.proofs.leg.leg_pair.Goals.{then-departs_from+in_default, else-departs_from}

arrival : List ℕ → List LegLine → Option ℕ
arrival off legs = position (λ l. bytes_eq l.arrival.station off) legs

first_leg : (legs : List LegLine) (n : ℕ) (d : LegLine) → n < length legs → d ≡ get_or legs n d → drop n legs ≡ d ∷ drop (n + 1) legs
first_leg legs n d h e = let f : drop n legs ≡ get_or legs n d ∷ drop (n + 1) legs = rw (add-one, drop-cons legs n d) refl in f ∙ ap (λ (x : LegLine). x ∷ drop (n + 1) legs) (sym e)

one_step : (board off : List ℕ) (legs : List LegLine) (n : ℕ) (d : LegLine) → n < length legs → d ≡ get_or legs n d
    → leg_pair board off n (drop n legs) ≡ pair_at (bytes_eq d.departure.station board) (arrival off (drop n legs)) n (leg_pair board off (n + 1) (drop (n + 1) legs))
unfolding arrival
one_step board off legs n d h e =
    let f = first_leg legs n d h e in
    ap (λ (x : List LegLine). leg_pair board off n x) f
    ∙ ap (λ (x : List LegLine). pair_at (bytes_eq d.departure.station board) (arrival off x) n (leg_pair board off (n + 1) (drop (n + 1) legs))) (sym f)

found : (board off : List ℕ) (legs : List LegLine) (n k : ℕ) (d : LegLine) → n < length legs → d ≡ get_or legs n d → bytes_eq d.departure.station board ≡ true → Some k ≡ arrival off (drop n legs)
    → leg_pair board off 0 legs ≡ leg_pair board off n (drop n legs) → Some (n, n + k) ≡ leg_pair board off 0 legs
found board off legs n k d h e b a i = sym (i ∙ one_step board off legs n d h e ∙ rw (b, ← a) refl)

passed : (board off : List ℕ) (legs : List LegLine) (n : ℕ) (d : LegLine) → n < length legs → d ≡ get_or legs n d → bytes_eq d.departure.station board ≡ false
    → leg_pair board off 0 legs ≡ leg_pair board off n (drop n legs) → leg_pair board off 0 legs ≡ leg_pair board off (n + 1) (drop (n + 1) legs)
passed board off legs n d h e b i = i ∙ one_step board off legs n d h e ∙ rw b refl

no_arrival : (b : Bool) (n : ℕ) (later : Option (ℕ × ℕ)) → pair_at b None n later ≡ later
no_arrival true n later = refl
no_arrival false n later = refl

passed_too : (board off : List ℕ) (legs : List LegLine) (n : ℕ) (d : LegLine) → n < length legs → d ≡ get_or legs n d → None ≡ arrival off (drop n legs)
    → leg_pair board off 0 legs ≡ leg_pair board off n (drop n legs) → leg_pair board off 0 legs ≡ leg_pair board off (n + 1) (drop (n + 1) legs)
passed_too board off legs n d h e a i = i ∙ one_step board off legs n d h e ∙ rw (← a) (no_arrival (bytes_eq d.departure.station board) n (leg_pair board off (n + 1) (drop (n + 1) legs)))

rest_whole : (legs : List LegLine) (n : ℕ) → take (length legs - n) (drop n legs) ≡ drop n legs
rest_whole legs n = grind (arith, common_steps)

pub returns-in-Some : goal.returns-in-Some
unfolding arrival
returns-in-Some c =
    found c.args.board c.args.off c.args.legs.now c.loop-at.at c.in-Some.count c.index-legs-at.result c.loop-at-test.true c.index-legs-at.is (sym c.departs_from.ensures ∙ c.if-departs_from.true) (c.in-Some.ensures ∙ ap (arrival c.args.off) (rest_whole c.args.legs.now c.loop-at.at)) c.loop-at.invariant

pub loop-at-preserved : goal.loop-at-preserved
unfolding arrival
loop-at-preserved c = elim c.if-departs_from.branch [
  | then-departs_from+in_default w ↦ passed_too c.args.board c.args.off c.args.legs.now c.loop-at.at c.index-legs-at.result c.loop-at-test.true c.index-legs-at.is (sym w.in_default.is ∙ w.arrival_in.ensures ∙ ap (arrival c.args.off) (rest_whole c.args.legs.now c.loop-at.at)) c.loop-at.invariant
  | else-departs_from w ↦ passed c.args.board c.args.off c.args.legs.now c.loop-at.at c.index-legs-at.result c.loop-at-test.true c.index-legs-at.is (sym c.departs_from.ensures ∙ w.if-departs_from.false) c.loop-at.invariant
]
