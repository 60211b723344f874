-- Line ends at the beginning of bytes, passed over in one step or in two.
use Rattle.std.proofs.Common.{◌≡◌, ℕ, ◌<◌, ◌≤◌, ◌==◌, Bool, true, false, ◌&&◌, List, [], ◌∷◌, ◌++◌, length, refl, sym, ap, ◌∙◌, arith, inl, inr}
use Rattle.std.proofs.lemmas.Bool.Decides.{nat_tests}
use Rattle.std.proofs.lemmas.List.{length-append, append-nil}
use Rattle.ssim_columns.proofs.lemmas.Choices.{pick}
use Rattle.ssim_records.specs.Frames.{drop_line_ends, trim}

-- line ends that are passed over are passed over whatever follows
pub pass_front : (P L : List ℕ) → drop_line_ends (drop_line_ends P ++ L) ≡ drop_line_ends (P ++ L)
pass_front [] L = refl
pass_front (b ∷ []) [] = elim (pick (b == 10)) [ inl t ↦ simp t | inr f ↦ simp f ]
pass_front (b ∷ []) (d ∷ L) = elim (pick (b == 10)) [ inl t ↦ simp t | inr f ↦ simp f ]
pass_front (b ∷ c ∷ bs) L =
    elim (pick (b == 10)) [
      | inl t ↦ simp t (pass_front (c ∷ bs) L)
      | inr f ↦ elim (pick (b == 13 && c == 10)) [ inl t ↦ simp (f, t) (pass_front bs L) | inr u ↦ simp (f, u) ]
    ]

-- if two bytes or more are left at the beginning, they stay with more bytes after them
pub left_front : (P L : List ℕ) → 2 ≤ length (drop_line_ends P) → drop_line_ends (P ++ L) ≡ drop_line_ends P ++ L
left_front [] L h = absurd (omega (arith, h))
left_front (b ∷ []) L h = elim (pick (b == 10)) [ inl t ↦ let k = simp t at h in absurd (omega (arith, k)) | inr f ↦ let k = simp f at h in absurd (omega (arith, k)) ]
left_front (b ∷ c ∷ bs) L h =
    elim (pick (b == 10)) [
      | inl t ↦ let k = simp t at h in simp t (left_front (c ∷ bs) L k)
      | inr f ↦ elim (pick (b == 13 && c == 10)) [ inl t ↦ let k = simp (f, t) at h in simp (f, t) (left_front bs L k) | inr u ↦ simp (f, u) ]
    ]

-- what is left after line ends is the end of the bytes
pub is_end : (P : List ℕ) → (front : List ℕ) × (P ≡ front ++ drop_line_ends P)
is_end [] = ([], refl)
is_end (b ∷ []) = elim (pick (b == 10)) [ inl t ↦ (b ∷ [], simp t) | inr f ↦ ([], simp f) ]
is_end (b ∷ c ∷ bs) =
    elim (pick (b == 10)) [
      | inl t ↦ let r = is_end (c ∷ bs) in (b ∷ r.0, simp t (ap (λ (x : List ℕ). b ∷ x) r.1))
      | inr f ↦ elim (pick (b == 13 && c == 10)) [ inl t ↦ let r = is_end bs in (b ∷ c ∷ r.0, simp (f, t) (ap (λ (x : List ℕ). b ∷ c ∷ x) r.1)) | inr u ↦ ([], simp (f, u)) ]
    ]

drops_less : (P : List ℕ) → length (drop_line_ends P) ≤ length P
drops_less P = let r = is_end P in omega (arith, ap length r.1, length-append r.0 (drop_line_ends P))

pub less_after : (P new : List ℕ) → new ≡ drop_line_ends P → length new ≤ length P
less_after P new is = rw is (drops_less P)

-- a byte above CR begins no line end
no_line_end : (b : ℕ) (more : List ℕ) → 13 < b → drop_line_ends (b ∷ more) ≡ b ∷ more
no_line_end b [] h = let lf : (b == 10) ≡ false = grind (arith, nat_tests) in simp lf
no_line_end b (c ∷ bs) h = let lf : (b == 10) ≡ false = grind (arith, nat_tests) in let cr : (b == 13) ≡ false = grind (arith, nat_tests) in simp (lf, cr)

pub one_line_end : (b : ℕ) (more : List ℕ) → 13 < b → drop_line_ends (10 ∷ b ∷ more) ≡ b ∷ more
one_line_end b more h = no_line_end b more h

-- ---- after a block or not

pub trim_front : (started : Bool) (P L : List ℕ) → 2 ≤ length (trim started P) → trim started (P ++ L) ≡ trim started P ++ L
trim_front true P L h = left_front P L h
trim_front false P L h = refl

pub trim_pass : (started : Bool) (P L : List ℕ) → trim started (trim started P ++ L) ≡ trim started (P ++ L)
trim_pass true P L = pass_front P L
trim_pass false P L = refl

pub trim_twice : (started : Bool) (P : List ℕ) → trim started (trim started P) ≡ trim started P
trim_twice started P = ap (trim started) (sym (append-nil (trim started P))) ∙ trim_pass started P [] ∙ ap (trim started) (append-nil P)

pub trim_less : (after_block : Bool) (P : List ℕ) → length (trim after_block P) ≤ length P
trim_less true P = drops_less P
trim_less false P = omega arith
