-- Equal itineraries have one hash, so those with different hashes are different.
use Rattle.std.proofs.Common.{◌≡◌, ◌≢◌, ◌%◌, ℕ, true, false, nat_eq, refl, ap, sym, ◌∙◌, eq-eqb, eqb-true}
use Rattle.ssim_base.specs.Export.{same_itinerary}
use Rattle.ssim_base.specs.clauses.ItineraryLaws.{exact_itinerary}
use Rattle.ssim_schedule.specs.internal.SharedLegs.{hash_of}
use Rattle.ssim_base.specs.Timetable.{Legs}
use Rattle.ssim_schedule.proofs.itinerary.ItineraryValue.same.Goals as goal

by-hash : (x y : Legs) (m n : ℕ) → m ≡ hash_of x % 4294967296 → n ≡ hash_of y % 4294967296 → m ≢ n → nat_eq m n ≡ same_itinerary x y
by-hash x y m n own its differ =
    elim (same_itinerary x y) as (λ b. same_itinerary x y ≡ b → nat_eq m n ≡ b) [
      | true ↦ λ same. eq-eqb m n (own ∙ ap (λ (legs : Legs). hash_of legs % 4294967296) ((exact_itinerary x y).0 same) ∙ sym its)
      | false ↦ λ _. elim (nat_eq m n) as (λ b. nat_eq m n ≡ b → b ≡ false) [
        | true ↦ λ e. absurd (differ (eqb-true m n e))
        | false ↦ λ e. refl
      ] refl
    ] refl

pub returns-else-self-other : goal.returns-else-self-other
returns-else-self-other c =
    by-hash c.args.self.now c.args.other.now c.self.inside.hash c.other.inside.hash
    (c.self.invariant.0 ∙ ap (λ (legs : Legs). hash_of legs % 4294967296) c.self.view_is) (c.other.invariant.0 ∙ ap (λ (legs : Legs). hash_of legs % 4294967296) c.other.view_is) c.if-self-other.false
