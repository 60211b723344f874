-- One more message, one more checkpoint after each 32, and the checkpoints before a position with
-- those after it.
use Rattle.std.proofs.Common.{◌≡◌, ◌≢◌, ◌≤◌, ◌<◌, ◌+◌, ◌-◌, ◌*◌, ◌/◌, ◌%◌, ℕ, zero, suc, List, [], ◌∷◌, ◌++◌, length, take, drop, IfSome, slice_get, refl, sym, ap, subst, ◌∙◌, arith, length-append}
use Rattle.std.proofs.lemmas.List.{take-append-le, take_all, length-take}
use Rattle.ssim_base.specs.BaseSeen.{BaseSeen}
use Rattle.ssim_schedule.specs.clauses.Schedule.{Flown, cuts_in}
use Rattle.ssim_base.specs.Stations.{Row}
use Rattle.ssim_schedule.specs.declared.finding.Finding.{Finding}
use Rattle.ssim_values.specs.Flight.{FlightNumber, IsFlight}
use Rattle.ssim_held.specs.Entries.{Entry}
use Rattle.ssim_desk.specs.internal.Changes.{AddsSubPoints, AreCheckpoints, IsAfter, AreSchedules, IsReplay, Shows}
use Rattle.ssim_desk.specs.{declared.schedules.Schedules.Schedules, declared.replay.Replay.Replay}
use Rattle.ssim_desk.specs.Meaning.{Timetable, after_entries, after_entry, entries_findings, left_by, subs_findings}
use Rattle.ssim_desk.proofs.Points.{more_at}

-- ---- messages in two parts

pub after_entries-++ : (rows : List Row) (xs ys : List Entry) (t : Timetable) → after_entries rows (xs ++ ys) t ≡ after_entries rows ys (after_entries rows xs t)
after_entries-++ rows [] ys t = refl
after_entries-++ rows (x ∷ xs) ys t = after_entries-++ rows xs ys (after_entry rows x t)

pub findings-++ : (rows : List Row) (xs ys : List Entry) (t : Timetable) → entries_findings rows (xs ++ ys) t ≡ entries_findings rows xs t ++ entries_findings rows ys (after_entries rows xs t)
findings-++ rows [] ys t = refl
findings-++ rows (x ∷ xs) ys t = ap (λ (fs : List (List Finding)). subs_findings rows x.message.subs x.dates t ∷ fs) (findings-++ rows xs ys (after_entry rows x t))

pub length-findings : (rows : List Row) (es : List Entry) (t : Timetable) → length (entries_findings rows es t) ≡ length es
length-findings rows [] t = refl
length-findings rows (e ∷ es) t = ap suc (length-findings rows es (after_entry rows e t))

pub take-within : {X : Type 0} (xs ys : List X) (n : ℕ) → n ≤ length xs → take n (xs ++ ys) ≡ take n xs
take-within xs ys n h = take-append-le n xs ys h

pub take-take : {X : Type 0} (xs : List X) (n at : ℕ) → n ≤ at → take n (take at xs) ≡ take n xs
take-take xs zero at le = refl
take-take xs (suc n) zero le = absurd (omega arith)
take-take [] (suc n) (suc at) le = refl
take-take (x ∷ xs) (suc n) (suc at) le = ap (λ ys. x ∷ ys) (take-take xs n at (omega arith))

take-nil : {X : Type 0} (n : ℕ) → take n (let xs : List X = [] in xs) ≡ []
take-nil zero = refl
take-nil (suc n) = refl

pub split : {X : Type 0} (ms : List X) (k at : ℕ) → k ≤ at → take k ms ++ take (at - k) (drop k ms) ≡ take at ms
split ms zero at le = let e : at - 0 ≡ at = omega arith in ap (λ n. take n ms) e
split ms (suc k) zero le = absurd (omega arith)
split [] (suc k) (suc at) le = take-nil (suc at - suc k)
split (x ∷ xs) (suc k) (suc at) le = let e : suc at - suc k ≡ at - k = omega arith in ap (λ n. x ∷ (take k xs ++ take n (drop k xs))) e ∙ ap (λ ys. x ∷ ys) (split xs k at (omega arith))

-- ---- what holds of an element at a position

pub if_some_within : {X : Type 0} (xs : List X) (k : ℕ) (P Q : X → Type 0) → (k < length xs → (x : X) → P x → Q x) → IfSome (slice_get xs k) P → IfSome (slice_get xs k) Q
if_some_within [] k P Q f h = tt
if_some_within (x ∷ xs) zero P Q f h = f (omega arith) x h
if_some_within (x ∷ xs) (suc k) P Q f h = if_some_within xs k P Q (λ lt. f (omega arith)) h

if_some_push : {X : Type 0} (xs : List X) (y : X) (k : ℕ) (P : X → Type 0) → IfSome (slice_get xs k) P → (k ≡ length xs → P y) → IfSome (slice_get (xs ++ y ∷ []) k) P
if_some_push [] y zero P h f = f refl
if_some_push [] y (suc k) P h f = tt
if_some_push (x ∷ xs) y zero P h f = h
if_some_push (x ∷ xs) y (suc k) P h f = if_some_push xs y k P h (λ e. f (omega (arith, e)))

if_some_append : {X : Type 0} (xs ys : List X) (k : ℕ) (P : X → Type 0) → (k < length xs → IfSome (slice_get xs k) P) → ((j : ℕ) → k ≡ length xs + j → IfSome (slice_get ys j) P) → IfSome (slice_get (xs ++ ys) k) P
if_some_append [] ys k P f g = g k (omega arith)
if_some_append (x ∷ xs) ys zero P f g = f (omega arith)
if_some_append (x ∷ xs) ys (suc k) P f g = if_some_append xs ys k P (λ lt. f (omega arith)) (λ j e. g j (omega arith))

if_some_take : {X : Type 0} (xs : List X) (n k : ℕ) (P : X → Type 0) → IfSome (slice_get xs k) P → IfSome (slice_get (take n xs) k) P
if_some_take xs zero k P h = tt
if_some_take [] (suc n) k P h = tt
if_some_take (x ∷ xs) (suc n) zero P h = h
if_some_take (x ∷ xs) (suc n) (suc k) P h = if_some_take xs n k P h

-- ---- one more message

pub after_at : (base : BaseSeen) (es fs : List Entry) (s : Flown) → es ≡ fs → IsAfter base es s → IsAfter base fs s
after_at base es fs s e h = subst (λ x. IsAfter base x s) e h

module _ (base : BaseSeen) (before : List Entry) (e : Entry) where
  pub left_more : left_by base (before ++ e ∷ []) ≡ after_entry base.rows e (left_by base before)
  left_more = after_entries-++ base.rows before (e ∷ []) _

  pub after_more : (old s : Flown) → IsAfter base before old → Shows s (after_entry base.rows e (left_by base before))
      → ((g : FlightNumber) → IsFlight g → AddsSubPoints base.rows e.dates g (cuts_in old g) (cuts_in s g)) → IsAfter base (before ++ e ∷ []) s
  after_more old s after shows adds = record {
    shows = subst (Shows s) (sym left_more) shows;
    cuts = λ g is. more_at base g before e (cuts_in old g) (cuts_in s g) (adds g is) (after.cuts g is);
  }

  pub kept_none : (first : ℕ) (cps : List Flown) → (length before + 1) % 32 ≢ 0 → AreCheckpoints base before first cps → AreCheckpoints base (before ++ e ∷ []) first cps
  kept_none first cps off kept = record {
    count = omega (arith, kept.count, length-append before (e ∷ []));
    each = λ k. if_some_within cps k _ _ (λ lt s h. after_at base _ _ s (sym (take-within before (e ∷ []) (32 * (first + k)) (omega (arith, kept.count)))) h) (kept.each k);
  }

  pub kept_more : (first : ℕ) (cps : List Flown) (s : Flown) → (length before + 1) % 32 ≡ 0 → AreCheckpoints base before first cps → IsAfter base (before ++ e ∷ []) s
      → AreCheckpoints base (before ++ e ∷ []) first (cps ++ s ∷ [])
  kept_more first cps s on kept is = record {
    count = omega (arith, kept.count, length-append before (e ∷ []), length-append cps (s ∷ []));
    each = λ k. if_some_push cps s k _
        (if_some_within cps k _ _ (λ lt x h. after_at base _ _ x (sym (take-within before (e ∷ []) (32 * (first + k)) (omega (arith, kept.count)))) h) (kept.each k))
        (λ here. after_at base _ _ s (sym (take_all (32 * (first + k)) (before ++ e ∷ []) (omega (arith, kept.count, length-append before (e ∷ []))))) is);
  }

-- ---- from a start

pub length-front : {X : Type 0} (xs : List X) (n : ℕ) → n ≤ length xs → length (take n xs) ≡ n
length-front xs n le = omega (arith, length-take n xs)

-- nothing follows yet
pub nothing_kept : (base : BaseSeen) (entries : List Entry) (from : ℕ) → from ≡ length entries → AreCheckpoints base entries (from / 32 + 1) []
nothing_kept base entries from is = record { count = omega arith; each = λ k. tt }

-- a desk begins with one checkpoint, the base's schedule
begun_each : (base : BaseSeen) (schedule : Flown) → IsAfter base [] schedule → (k : ℕ) → IfSome (slice_get (schedule ∷ []) k) (IsAfter base (take (32 * (0 + k)) []))
begun_each base schedule after zero = after
begun_each base schedule after (suc k) = tt

begun_kept : (base : BaseSeen) (schedule : Flown) → IsAfter base [] schedule → AreCheckpoints base [] 0 (schedule ∷ [])
begun_kept base schedule after = record { count = omega arith; each = begun_each base schedule after }

-- ---- in place of what was there

module _ (base : BaseSeen) (held rest : List Entry) (from at : ℕ) (low : from ≤ at) (place : at ≤ length held) where
  front_is : (n : ℕ) → n ≤ from → take n (take at held ++ rest) ≡ take n held
  front_is n le = take-within (take at held) rest n (omega (arith, length-front held at place)) ∙ take-take held n at (omega arith)

  pub kept_in_place : (cps tail : List Flown) → AreCheckpoints base held 0 cps → AreCheckpoints base (take at held ++ rest) (from / 32 + 1) tail
      → AreCheckpoints base (take at held ++ rest) 0 (take (from / 32 + 1) cps ++ tail)
  kept_in_place cps tail old new = record {
    count = omega (arith, front, new.count, length-append (take (from / 32 + 1) cps) tail);
    each = λ k. if_some_append (take (from / 32 + 1) cps) tail k _
        (λ lt. if_some_take cps (from / 32 + 1) k _ (if_some_within cps k _ _ (λ in_range s h. after_at base _ _ s (sym (front_is (32 * (0 + k)) (omega (arith, front, lt)))) h) (old.each k)))
        (λ j e. let same : 32 * (from / 32 + 1 + j) ≡ 32 * (0 + k) = omega (arith, front) in
        if_some_within tail j _ _ (λ in_range s h. after_at base _ _ s (ap (λ n. take n (take at held ++ rest)) same) h) (new.each j));
  }
    where
      front : length (take (from / 32 + 1) cps) ≡ from / 32 + 1
      front = omega (arith, old.count, length-take (from / 32 + 1) cps)

-- the history of messages that were all applied
pub made : (base : BaseSeen) (held : List Entry) (began : Flown) (r : Replay) (h : Schedules) → IsAfter base [] began → IsReplay base held r → r.from ≡ 0
    → h.latest ≡ r.latest → h.checkpoints.items ≡ began ∷ r.checkpoints.items → AreSchedules base held h
made base held began r h after replay none latest checkpoints = record {
  latest_is = subst (IsAfter base held) (sym latest) replay.latest_is;
  kept = subst (AreCheckpoints base held 0) (sym checkpoints)
      (kept_in_place base [] held 0 0 (omega arith) (omega arith) (began ∷ []) r.checkpoints.items (begun_kept base began after)
      (subst (λ n. AreCheckpoints base held (n / 32 + 1) r.checkpoints.items) none replay.kept));
}

-- the history after messages from a position on were replaced
pub put_in_place : (base : BaseSeen) (held rest : List Entry) (at : ℕ) (r : Replay) (old new : Schedules) → at ≤ length held → r.from ≤ at
    → AreSchedules base held old → IsReplay base (take at held ++ rest) r → new.latest ≡ r.latest
    → new.checkpoints.items ≡ take (r.from / 32 + 1) old.checkpoints.items ++ r.checkpoints.items → AreSchedules base (take at held ++ rest) new
put_in_place base held rest at r old new place low history replay latest checkpoints = record {
  latest_is = subst (IsAfter base (take at held ++ rest)) (sym latest) replay.latest_is;
  kept = subst (AreCheckpoints base (take at held ++ rest) 0) (sym checkpoints)
      (kept_in_place base held rest r.from at low place old.checkpoints.items r.checkpoints.items history.kept replay.kept);
}
