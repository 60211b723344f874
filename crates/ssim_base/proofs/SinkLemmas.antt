-- What a sink has taken, put by put: a prefix of the bytes, up to a rest that shrinks. A rest can
-- be taken in parts, and more bytes after both change nothing.
use Rattle.std.proofs.Common.{◌≡◌, ℕ, zero, suc, ◌+◌, ◌-◌, ◌%◌, ◌^◌, ◌<◌, ◌≤◌, List, [], ◌∷◌, ◌++◌, length, replicate, take, drop, set, Option, Some, None, Result, Ok, Err, OnOk, OnErr, append_assoc, refl, sym, ap, subst, true≢false, ◌∙◌, arith}
use Rattle.std.specs.List.{flat_map}
use Rattle.std.specs.Result.{IsErr}
use Rattle.std.proofs.lemmas.Grind.{common_steps}
use Rattle.std.proofs.lemmas.List.{take-append-drop, take_more_set}
use Rattle.std.proofs.lemmas.Slice.{take-put_mid, drop-put_mid}
use borrow.Rule.Slice.PartMut.{put_mid}
use Rattle.std.specs.Io.KnownBytes.{Appends}
use Rattle.ssim_records.specs.Device.{Writer}
use Rattle.ssim_records.specs.Frames.{fill}
use Rattle.ssim_records.specs.Record.{written}
use Rattle.ssim_records.specs.declared.record.Record.{Record}
use Rattle.ssim_base.specs.Export.{line, section_bytes}
use Rattle.ssim_base.specs.Sinks.{Breaks, Grows, TakesPrefix, TakesUpTo}
use Rattle.ssim_base.specs.clauses.Sinks.{GrowsUpTo, Puts, PutsUpTo}

pub nothing_after : (xs : List ℕ) → xs ++ [] ≡ xs
nothing_after [] = refl
nothing_after (x ∷ xs) = ap (λ (ys : List ℕ). x ∷ ys) (nothing_after xs)

appends-none : (t : Option (List ℕ)) → Appends t t []
appends-none None = tt
appends-none (Some xs) = sym (nothing_after xs)

appends-then : (t u v : Option (List ℕ)) (front more : List ℕ) → Appends t u front → Appends u v more → Appends t v (front ++ more)
appends-then None u v front more h k = tt
appends-then (Some xs) None v front more h k = absurd h
appends-then (Some xs) (Some ys) None front more h k = absurd k
appends-then (Some xs) (Some ys) (Some zs) front more h k = k ∙ ap (λ (bs : List ℕ). bs ++ more) h ∙ append_assoc xs front more

pub start : (bytes : List ℕ) (t : Option (List ℕ)) → TakesUpTo bytes bytes t t
start bytes t = ([], refl, appends-none t)

pub then : (a b c : List ℕ) (t u v : Option (List ℕ)) → TakesUpTo a b t u → TakesUpTo b c u v → TakesUpTo a c t v
then a b c t u v h k = (h.0 ++ k.0, h.1 ∙ ap (λ (bs : List ℕ). h.0 ++ bs) k.1 ∙ sym (append_assoc h.0 k.0 c), appends-then t u v h.0 k.0 h.2 k.2)

-- with more bytes after them
pub more : (a b x : List ℕ) (t u : Option (List ℕ)) → TakesUpTo a b t u → TakesUpTo (a ++ x) (b ++ x) t u
more a b x t u h = (h.0, ap (λ (bs : List ℕ). bs ++ x) h.1 ∙ append_assoc h.0 b x, h.2)

pub all_taken : (bytes : List ℕ) (t u : Option (List ℕ)) → TakesUpTo bytes [] t u → Appends t u bytes
all_taken bytes t u h = subst (λ (bs : List ℕ). Appends t u bs) (sym (h.1 ∙ nothing_after h.0)) h.2

pub taken_all : (bytes : List ℕ) (t u : Option (List ℕ)) → Appends t u bytes → TakesUpTo bytes [] t u
taken_all bytes t u h = (bytes, sym (nothing_after bytes), h)

-- a prefix of more bytes
pub front_more : (a x whole : List ℕ) (t u : Option (List ℕ)) → whole ≡ a ++ x → TakesPrefix a t u → TakesPrefix whole t u
front_more a x whole t u split h = subst (λ (bs : List ℕ). TakesPrefix bs t u) (sym split) (h.0 ++ x, more a h.0 x t u h.1)

-- after some bytes were taken, a prefix of the rest was taken
pub then_front : (a b : List ℕ) (t u v : Option (List ℕ)) → TakesUpTo a b t u → TakesPrefix b u v → TakesPrefix a t v
then_front a b t u v h k = (k.0, then a b k.0 t u v h k.1)

-- what a put took of a slice
pub front_taken : (n : ℕ) (bytes rest : List ℕ) (t u : Option (List ℕ)) → rest ≡ drop n bytes → Appends t u (take n bytes) → TakesUpTo bytes rest t u
front_taken n bytes rest t u is h = (take n bytes, sym (take-append-drop n bytes) ∙ ap (λ (bs : List ℕ). take n bytes ++ bs) (sym is), h)

-- ---- puts: what a sink took, and how many puts failed

-- nothing is put
pub none_put : (bytes : List ℕ) (t : Writer) → GrowsUpTo bytes bytes t t
none_put bytes t = record { taken = start bytes t.taken; failures = refl; device = refl }

-- all bytes are taken, and none are left
pub all_put : (bytes : List ℕ) (t u : Writer) → Grows bytes t u → GrowsUpTo bytes [] t u
all_put bytes t u h =
    record {
      taken = taken_all bytes t.taken u.taken h.taken;
      failures = h.failures;
      device = h.device;
    }

-- more bytes are held after the others
pub held_more : (a b x : List ℕ) (t u : Writer) → GrowsUpTo a b t u → GrowsUpTo (a ++ x) (b ++ x) t u
held_more a b x t u h =
    record {
      taken = more a b x t.taken u.taken h.taken;
      failures = h.failures;
      device = h.device;
    }

-- more bytes were to be put after those at which a put failed
pub broken_more : (a x : List ℕ) (t u : Writer) → Breaks a t u → Breaks (a ++ x) t u
broken_more a x t u h =
    record {
      taken = front_more a x (a ++ x) t.taken u.taken refl h.taken;
      failures = h.failures;
      device = h.device;
    }

-- a put failed, and the result is an error
pub fails : {A E : Type 0} (bytes held : List ℕ) (t u : Writer) (result : Result A E) → IsErr result
    → Breaks bytes t u → PutsUpTo bytes held t u result
fails bytes held t u (Ok x) err broken = absurd (true≢false (sym err))
fails bytes held t u (Err e) err broken = broken

pub all_fail : {A E : Type 0} (bytes : List ℕ) (t u : Writer) (result : Result A E) → IsErr result
    → Breaks bytes t u → Puts bytes t u result
all_fail bytes t u (Ok x) err broken = absurd (true≢false (sym err))
all_fail bytes t u (Err e) err broken = broken

-- some bytes were put, and then the rest is
pub puts_then : {A E : Type 0} (a b held : List ℕ) (t u v : Writer) (result : Result A E)
    → GrowsUpTo a b t u → PutsUpTo b held u v result → PutsUpTo a held t v result
puts_then a b held t u v (Ok x) h k =
    record {
      taken = then a b held t.taken u.taken v.taken h.taken k.taken;
      failures = k.failures ∙ h.failures;
      device = k.device ∙ h.device;
    }
puts_then a b held t u v (Err e) h k =
    record {
      taken = then_front a b t.taken u.taken v.taken h.taken k.taken;
      failures = k.failures ∙ ap (λ n. (n + 1) % 2 ^ 64) h.failures;
      device = k.device ∙ h.device;
    }

-- some bytes were put, and then all that the buffer holds is
pub puts_all : {A E : Type 0} (a b : List ℕ) (t u v : Writer) (result : Result A E)
    → GrowsUpTo a b t u → Puts b u v result → Puts a t v result
puts_all a b t u v (Ok x) h k =
    let done : Result (Unit {0}) (Unit {0}) = Ok tt in
    let both = puts_then a b [] t u v done h (all_put b u v k) in
    record {
      taken = all_taken a t.taken v.taken both.taken;
      failures = both.failures;
      device = both.device;
    }
puts_all a b t u v (Err e) h k =
    let failed : Result (Unit {0}) (Unit {0}) = Err tt in
    puts_then a b [] t u v failed h k

-- ---- room is made in the buffer, and then bytes are held after what it holds

module _ (block bytes made : List ℕ) (t u : Writer) where
  pub not_held : {A E : Type 0} (result : Result A E) → IsErr result → Breaks block t u
      → PutsUpTo (block ++ bytes) made t u result
  not_held result err broken =
      fails (block ++ bytes) made t u result err (broken_more block bytes t u broken)

  pub held_after : (held : List ℕ) → held ≡ made ++ bytes → GrowsUpTo block made t u
      → GrowsUpTo (block ++ bytes) held t u
  held_after held is put =
      subst (λ (kept : List ℕ). GrowsUpTo (block ++ bytes) kept t u) (sym is)
      (held_more block made bytes t u put)

-- ---- a part and the rest, after the bytes that the buffer holds

module _ (h x rest : List ℕ) (t u : Writer) where
  pub part_put : (kept : List ℕ) → GrowsUpTo (h ++ x) kept t u
      → GrowsUpTo (h ++ (x ++ rest)) (kept ++ rest) t u
  part_put kept put =
      subst (λ (bs : List ℕ). GrowsUpTo bs (kept ++ rest) t u) (append_assoc h x rest)
      (held_more (h ++ x) kept rest t u put)

  pub part_fails : Breaks (h ++ x) t u → Breaks (h ++ (x ++ rest)) t u
  part_fails put =
      subst (λ (bs : List ℕ). Breaks bs t u) (append_assoc h x rest)
      (broken_more (h ++ x) rest t u put)

  pub part_then : {A E : Type 0} (kept held : List ℕ) (v : Writer) (result : Result A E)
      → GrowsUpTo (h ++ x) kept t u → PutsUpTo (kept ++ rest) held u v result
      → PutsUpTo (h ++ (x ++ rest)) held t v result
  part_then kept held v result put later =
      puts_then (h ++ (x ++ rest)) (kept ++ rest) held t u v result (part_put kept put) later

  -- a put failed within the rest
  pub then_fails : (kept : List ℕ) (v : Writer) → GrowsUpTo (h ++ x) kept t u
      → Breaks (kept ++ rest) u v → Breaks (h ++ (x ++ rest)) t v
  then_fails kept v put broken =
      let failed : Result (Unit {0}) (Unit {0}) = Err tt in
      part_then kept [] v failed put broken

-- two texts were taken, one after the other
pub grows_then : (a b : List ℕ) (t u v : Writer) → Grows a t u → Grows b u v
    → GrowsUpTo (a ++ b) [] t v
grows_then a b t u v h k =
    let done : Result (Unit {0}) (Unit {0}) = Ok tt in
    part_then [] a b t u [] [] v done (all_put a t u h) (all_put b u v k)

-- nothing is left to be put
pub part_none : (h : List ℕ) (t : Writer) → GrowsUpTo (h ++ []) h t t
part_none h t =
    subst (λ (bs : List ℕ). GrowsUpTo bs h t t) (sym (nothing_after h)) (none_put h t)

-- ---- the next part

-- All bytes are put up to those that the buffer holds and those that are left. A part of these is
-- put, and then the rest is left; or the put fails.
module _ {all left : List ℕ} {t u : Writer} (h x rest : List ℕ) (split : left ≡ x ++ rest)
    (before : GrowsUpTo all (h ++ left) t u)
  where
    pub next_put : {kept : List ℕ} {v : Writer} → GrowsUpTo (h ++ x) kept u v
        → GrowsUpTo all (kept ++ rest) t v
    next_put {kept} {v} put =
        let done : Result (Unit {0}) (Unit {0}) = Ok tt in
        puts_then all (h ++ left) (kept ++ rest) t u v done before
        (rw split (part_put h x rest u v kept put))

    pub next_breaks : {v : Writer} → Breaks (h ++ x) u v → Breaks all t v
    next_breaks {v} put =
        let failed : Result (Unit {0}) (Unit {0}) = Err tt in
        puts_then all (h ++ left) [] t u v failed before (rw split (part_fails h x rest u v put))

    pub next_fails : {A E : Type 0} {v : Writer} (held : List ℕ) (result : Result A E)
        → IsErr result → Breaks (h ++ x) u v → PutsUpTo all held t v result
    next_fails {A} {E} {v} held result err put = fails all held t v result err (next_breaks put)

-- the buffer is empty, and all bytes are left
pub from_empty : {b : List ℕ} (all : List ℕ) (t : Writer) → b ≡ [] → GrowsUpTo all (b ++ all) t t
from_empty all t empty = rw empty (none_put all t)

-- ---- results

pub at_fault : {A E P : Type 0} (r : Result A E) → P → OnErr r P
at_fault (Ok a) p = tt
at_fault (Err e) p = p

pub if_ok : {A E P Q : Type 0} (r : Result A E) → (P → Q) → OnOk r P → OnOk r Q
if_ok (Ok a) f p = f p
if_ok (Err e) f p = tt

pub if_both : {A E P Q R : Type 0} (r : Result A E) → (P → Q → R) → OnOk r P → OnOk r Q → OnOk r R
if_both (Ok a) f p q = f p q
if_both (Err e) f p q = tt

pub if_err : {A E P Q : Type 0} (r : Result A E) → (P → Q) → OnErr r P → OnErr r Q
if_err (Ok a) f p = tt
if_err (Err e) f p = f p

-- ---- lines of a block

written_at : (xs ys : List ℕ) (a k n : ℕ) → k ≡ 200 → n ≡ a + 200 → length ys ≡ 200
    → a + 201 ≤ length xs
    → take (n + 1) (set (put_mid a k xs ys) n 10) ≡ take a xs ++ (ys ++ 10 ∷ [])
written_at xs ys a k n k-is n-is len room =
    let new = put_mid a k xs ys in
    let front : take n (put_mid a k xs ys) ≡ take a xs ++ ys =
    take-put_mid a k xs ys n (omega arith) (omega arith) in
    let behind : drop n (put_mid a k xs ys) ≡ drop n xs =
    drop-put_mid a k xs ys n (omega arith) (omega arith) (omega arith) in
    let whole = ap length (sym (take-append-drop n new)
    ∙ ap (λ (bs : List ℕ). bs ++ drop n new) front
    ∙ ap (λ (bs : List ℕ). (take a xs ++ ys) ++ bs) behind) in
    let long : n < length (put_mid a k xs ys) = grind (arith, common_steps, whole) in
    take_more_set new n 10 long
    ∙ ap (λ (bs : List ℕ). bs ++ 10 ∷ []) front
    ∙ append_assoc (take a xs) ys (10 ∷ [])

-- a ones 200 bytes and LF are held after those that were
pub pushed : {held one : List ℕ} (xs ys : List ℕ) (a : ℕ) → take a xs ≡ held → ys ≡ one
    → length ys ≡ 200 → a + 201 ≤ length xs
    → take (a + 200 + 1) (set (put_mid a (a + 200 - a) xs ys) (a + 200) 10)
    ≡ held ++ (one ++ 10 ∷ [])
pushed {held} {one} xs ys a view is len room =
    written_at xs ys a (a + 200 - a) (a + 200) (omega arith) refl len room
    ∙ ap (λ (bs : List ℕ). bs ++ (ys ++ 10 ∷ [])) view
    ∙ ap (λ (bs : List ℕ). held ++ (bs ++ 10 ∷ [])) is

pub fill_more : (n : ℕ) → 0 < n → flat_map line (replicate n fill) ≡ line fill ++ flat_map line (replicate (n - 1) fill)
fill_more zero some = absurd (omega arith)
fill_more (suc n) some = let same : suc n - 1 ≡ n = omega arith in ap (λ (k : ℕ). line fill ++ flat_map line (replicate k fill)) (sym same)

pub no_fill : (n : ℕ) → n ≤ 0 → flat_map line (replicate n fill) ≡ []
no_fill zero none = refl
no_fill (suc n) none = absurd (omega arith)

-- a section of one record has four of fill
pub one_section : (one : Record) → section_bytes (one ∷ []) ≡ line (written one) ++ flat_map line (replicate 4 fill)
one_section one = ap (λ (bs : List ℕ). bs ++ flat_map line (replicate 4 fill)) (nothing_after (line (written one)))
