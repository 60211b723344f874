-- Any bytes have frames, and only one.
use Rattle.std.proofs.Common.{◌≡◌, ℕ, zero, suc, ◌+◌, ◌<◌, ◌≤◌, Bool, true, List, [], ◌∷◌, length, take, drop, refl, sym, ap, ◌∙◌, arith, inl, inr}
use Rattle.std.specs.Prelude.{nat_lt}
use Rattle.std.proofs.lemmas.Bool.Decides.{nat_tests}
use Rattle.std.proofs.lemmas.List.{length-take, length-drop, take-append-drop}
use Rattle.ssim_records.specs.Frames.{trim, Frames}
use Rattle.ssim_columns.proofs.lemmas.Choices.{pick}
use Rattle.ssim_records.proofs.LineEnds.{trim_less}
use Rattle.ssim_records.proofs.Framing.{first_frame, no_frame}

exist_to : (fuel beyond : ℕ) (after_block : Bool) (bytes : List ℕ) → length bytes < fuel → (blocks : List (List ℕ)) × ((rest : List ℕ) × Frames beyond after_block bytes blocks rest)
exist_to zero beyond after_block bytes few = absurd (omega (arith, few))
exist_to (suc fuel) beyond after_block bytes few =
    let t = trim after_block bytes in
    let less = trim_less after_block bytes in
    elim (pick (nat_lt (length t) (200 + beyond))) [
      | inl h ↦ (let short : length t < 200 + beyond = grind (arith, nat_tests, h) in ([], (t, (refl, short))))
      | inr h ↦ (
          let long : 200 + beyond ≤ length t = grind (arith, nat_tests, h) in
          let lens = length-take 200 t in
          let rest = length-drop 200 t in
          let more = exist_to fuel beyond true (drop 200 t) (omega (arith, rest, long, less, few)) in
          (take 200 t ∷ more.0, (more.1.0, (drop 200 t, omega (arith, lens, long), sym (take-append-drop 200 t), omega (arith, rest, long), more.1.1)))
          )
    ]

pub frames_exist : (beyond : ℕ) (after_block : Bool) (bytes : List ℕ) → (blocks : List (List ℕ)) × ((rest : List ℕ) × Frames beyond after_block bytes blocks rest)
frames_exist beyond after_block bytes = exist_to (suc (length bytes)) beyond after_block bytes (omega arith)

pub frames_are_one : (beyond : ℕ) (after_block : Bool) (bytes : List ℕ) (blocks others : List (List ℕ)) (rest rest' : List ℕ) → Frames beyond after_block bytes blocks rest → Frames beyond after_block bytes others rest' → (blocks ≡ others) × (rest ≡ rest')
frames_are_one beyond after_block bytes [] others rest rest' h k =
    let few : length (trim after_block bytes) < 200 + beyond = omega (arith, ap length h.0, h.1) in
    let n = no_frame beyond after_block bytes others rest' few k in
    (sym n.0, sym h.0 ∙ n.1)
frames_are_one beyond after_block bytes (b ∷ bs) others rest rest' h k =
    let f = first_frame beyond after_block bytes b h.0 others rest' h.1 h.2 h.3 k in
    let later = frames_are_one beyond true h.0 bs f.0 rest rest' h.4 f.2 in
    (ap (λ (x : List (List ℕ)). b ∷ x) later.0 ∙ sym f.1, later.1)
