-- A run and one step more; and what a step does to desks, by what it does to one of them.
use Rattle.std.proofs.Common.{◌≡◌, ◌≢◌, ℕ, zero, suc, ◌-◌, ◌<◌, ◌==◌, Bool, true, false, List, [], ◌∷◌, ◌++◌, length, map, get_or, set, slice_get, refl, sym, ap, subst, ◌∙◌, arith, eq-eqb, true≢false}
use Rattle.std.proofs.lemmas.Bool.Decides.{Decides-eqb}
use Rattle.std.proofs.lemmas.List.{get_or-map, get_or_append_left, get_or-append_right, map-set, set-append_left, set-append_right, set-get_or}
use Rattle.ssim_held.specs.Held.{DeskState, IsDesk, no_desk}
use Rattle.ssim_held.specs.Entries.{DeskSeen, map_of, state_of}
use Rattle.ssim_desk.specs.Steps.{Acts, Merges, MergesAt, MergesOne, Runs, Takes, TakesAt, desk_at}
use Rattle.ssim_desk.specs.Steps.{with_held}
use Rattle.ssim_desk.specs.clauses.Steps.{IsIdle, LeavesIdle, is_change}
use Rattle.ssim_desk.specs.declared.steps.Answer.{Answer}
use Rattle.ssim_text.specs.declared.reference.Reference.{Reference}
use Rattle.ssim_desk.specs.declared.steps.Answer.TheVariants.{Taken, Repeated, Merged, Refused}
use Rattle.ssim_desk.specs.declared.steps.Step.{Step}
use Rattle.ssim_desk.specs.declared.steps.Step.TheVariants.{Take}
use Rattle.std.specs.declared.alloc.Global.{Global}
use Rattle.std.specs.declared.vec.Vec.{Vec}

-- a run and one step more
pub one_more : (start now next : List DeskState) (xs : List Step) (us : List Answer) (s : Step) (a : Answer) → Runs start xs us now → Acts now s a next
    → Runs start (xs ++ s ∷ []) (us ++ a ∷ []) next
one_more start now next [] [] s a runs acts = (next, subst (λ x. Acts x s a next) runs acts, refl)
one_more start now next [] (u ∷ us) s a runs acts = absurd runs
one_more start now next (x ∷ xs) [] s a runs acts = absurd runs
one_more start now next (x ∷ xs) (u ∷ us) s a (between, first, runs) acts = (between, first, one_more between now next xs us s a runs acts)

-- ---- one desk is written

module _ {X : Type 0} (seen : X → DeskSeen) where
  abbrev pub state : X → DeskState
  state d = state_of (seen d)

  abbrev pub is_one : X → Type 0
  is_one d = IsDesk (state d)

  state_at : (desks : List X) (i : ℕ) (old d : X) → i < length desks → old ≡ get_or desks i d → desk_at (map state desks) i ≡ state old
  state_at desks i old d within is = get_or-map state desks i d no_desk within ∙ sym (ap state is)

  state_put : (desks : List X) (i : ℕ) (old new d : X) → i < length desks → old ≡ get_or desks i d → (seen new).base ≡ (seen old).base
      → map state (set desks i new) ≡ with_held (map state desks) i (map_of (seen new).held)
  state_put desks i old new d within is base =
      let at = state_at desks i old d within is in
      let same : (seen new).base ≡ (let x = desk_at (map state desks) i in x.base) = base ∙ sym (ap (λ (x : DeskState). x.base) at) in
      map-set state desks i new ∙ ap (set (map state desks) i) (λ j. record { base = same j; held = map_of (seen new).held })

  pub take_at : (desks : List X) (i : ℕ) (text : List ℕ) (answer : Answer) (old new d : X) → i < length desks → old ≡ get_or desks i d → (seen new).base ≡ (seen old).base
      → Takes (state old) text answer (map_of (seen new).held) → TakesAt (map state desks) i text answer (map state (set desks i new))
  take_at desks i text answer old new d within is base takes = record {
    held = map_of (seen new).held;
    takes = subst (λ x. Takes x text answer (map_of (seen new).held)) (sym (state_at desks i old d within is)) takes;
    put = state_put desks i old new d within is base;
  }

  merge_into : (desks : List X) (into from : ℕ) (answer : Answer) (old other new d e : X) → into < length desks → from < length desks
      → old ≡ get_or desks into d → other ≡ get_or desks from e → (seen new).base ≡ (seen old).base → Merges (state old) (state other) answer (map_of (seen new).held)
      → MergesAt (map state desks) into from answer (map state (set desks into new))
  merge_into desks into from answer old other new d e to of old_is other_is base merges = record {
    held = map_of (seen new).held;
    merges = subst (λ x. Merges x (desk_at (map state desks) from) answer (map_of (seen new).held)) (sym (state_at desks into old d to old_is))
        (subst (λ y. Merges (state old) y answer (map_of (seen new).held)) (sym (state_at desks from other e of other_is)) merges);
    put = state_put desks into old new d to old_is base;
  }

  -- ---- two parts of the desks

  in_front : (all front back : List X) (i : ℕ) (d : X) → all ≡ front ++ back → i < length front → get_or front i d ≡ get_or all i d
  in_front all front back i d is within = sym (ap (λ xs. get_or xs i d) is ∙ get_or_append_left front back d i within)

  at_seam : (all front back : List X) (j : ℕ) (e : X) → all ≡ front ++ back → length front ≡ j → get_or back 0 e ≡ get_or all j e
  at_seam all front back j e is front_is =
      let zero_is : j - j ≡ 0 = omega arith in
      sym (ap (λ xs. get_or xs j e) is ∙ get_or-append_right front back j j e front_is (omega arith) ∙ ap (λ k. get_or back k e) zero_is)

  pub merge_front : (all front back : List X) (into from : ℕ) (answer : Answer) (old other new d e : X) → all ≡ front ++ back → length front ≡ from → into < from → from < length all
      → old ≡ get_or front into d → other ≡ get_or back 0 e → (seen new).base ≡ (seen old).base → Merges (state old) (state other) answer (map_of (seen new).held)
      → MergesAt (map state all) into from answer (map state (set front into new ++ back))
  merge_front all front back into from answer old other new d e is front_is before within old_is other_is base merges =
      let inside : into < length front = omega (arith, front_is, before) in
      let written : set all into new ≡ set front into new ++ back = ap (λ xs. set xs into new) is ∙ set-append_left front back into new inside in
      subst (λ xs. MergesAt (map state all) into from answer (map state xs)) written
      (merge_into all into from answer old other new d e (omega (arith, before, within)) within
      (old_is ∙ in_front all front back into d is inside) (other_is ∙ at_seam all front back from e is front_is) base merges)

  pub merge_back : (all front back : List X) (into from : ℕ) (answer : Answer) (old other new d e : X) → all ≡ front ++ back → length front ≡ into → from < into → into < length all
      → old ≡ get_or back 0 d → other ≡ get_or front from e → (seen new).base ≡ (seen old).base → Merges (state old) (state other) answer (map_of (seen new).held)
      → MergesAt (map state all) into from answer (map state (front ++ set back 0 new))
  merge_back all front back into from answer old other new d e is front_is before within old_is other_is base merges =
      let inside : from < length front = omega (arith, front_is, before) in
      let zero_is : into - into ≡ 0 = omega arith in
      let written : set all into new ≡ front ++ set back 0 new =
      ap (λ xs. set xs into new) is ∙ set-append_right front back into into new front_is (omega arith) ∙ ap (λ k. front ++ set back k new) zero_is in
      subst (λ xs. MergesAt (map state all) into from answer (map state xs)) written
      (merge_into all into from answer old other new d e within (omega (arith, before, within))
      (old_is ∙ at_seam all front back into d is front_is) (other_is ∙ in_front all front back from e is inside) base merges)

-- ---- a merge with itself, and one of two desks

-- ---- a desk that no step has changed

other_place : {X : Type 0} (xs : List X) (i j : ℕ) (x : X) → j ≢ i → slice_get (set xs i x) j ≡ slice_get xs j
other_place [] i j x apart = refl
other_place (y ∷ xs) zero zero x apart = absurd (apart refl)
other_place (y ∷ xs) zero (suc j) x apart = refl
other_place (y ∷ xs) (suc i) zero x apart = refl
other_place (y ∷ xs) (suc i) (suc j) x apart = other_place xs i j x (λ e. apart (ap suc e))

-- whether the text was new
abbrev is_taken : Answer → Bool
is_taken (Taken reference) = true
is_taken _ = false

-- putting back what was there changes nothing
same_again : {X : Type 0} (desks : List X) (i j : ℕ) (old new d : X) → old ≡ get_or desks i d → new ≡ old → slice_get (set desks i new) j ≡ slice_get desks j
same_again desks i j old new d is same = ap (λ x. slice_get (set desks i x) j) (same ∙ is) ∙ ap (λ xs. slice_get xs j) (set-get_or desks i d)

pub idle_take : {X : Type 0} (desks : List X) (i j : ℕ) (text : Vec ℕ Global) (answer : Answer) (old new d : X) → old ≡ get_or desks i d → (((r : Reference) → answer ≢ Taken r) → new ≡ old)
    → is_change j (Take i text) answer ≡ false → slice_get (set desks i new) j ≡ slice_get desks j
idle_take desks i j text (Taken r) old new d is same idle = other_place desks i j new (λ e. true≢false (sym (eq-eqb i j (sym e)) ∙ idle))
idle_take desks i j text (Repeated r) old new d is same idle = same_again desks i j old new d is (same (λ q e. true≢false (sym (ap is_taken e))))
idle_take desks i j text Merged old new d is same idle = same_again desks i j old new d is (same (λ q e. true≢false (sym (ap is_taken e))))
idle_take desks i j text (Refused fault) old new d is same idle = same_again desks i j old new d is (same (λ q e. true≢false (sym (ap is_taken e))))

-- of steps and one more, each leaves the desk idle
idle_last : (start now : List DeskState) (d : ℕ) (xs : List Step) (us : List Answer) (s : Step) (a : Answer) → Runs start xs us now → IsIdle d (xs ++ s ∷ []) (us ++ a ∷ [])
    → IsIdle d xs us × (is_change d s a ≡ false)
idle_last start now d [] [] s a runs idle = (tt, idle.0)
idle_last start now d [] (u ∷ us) s a runs idle = absurd runs
idle_last start now d (x ∷ xs) [] s a runs idle = absurd runs
idle_last start now d (x ∷ xs) (u ∷ us) s a (between, first, runs) idle =
    let rest = idle_last between now d xs us s a runs idle.1 in ((idle.0, rest.0), rest.1)

pub idle_more : {X : Type 0} (start : List DeskState) (states : List DeskState) (old now next : List X) (xs : List Step) (us : List Answer) (s : Step) (a : Answer) → Runs start xs us states
    → LeavesIdle old xs us now → ((d : ℕ) → is_change d s a ≡ false → slice_get next d ≡ slice_get now d) → LeavesIdle old (xs ++ s ∷ []) (us ++ a ∷ []) next
idle_more start states old now next xs us s a runs left step d idle =
    let h = idle_last start states d xs us s a runs idle in step d h.1 ∙ left d h.0
