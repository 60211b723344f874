-- What printers have after several calls.
use Rattle.std.proofs.Common.{◌∙◌, inl, inr, ℕ, ◌+◌, ◌%◌, ◌^◌, List, [], ◌++◌, Result, Ok, Err, refl}
use Rattle.std.proofs.Common.{IsOk, OnOk, ap, append-nil, subst, sym, true≢false}
use Rattle.std.proofs.KnownBytes.{Appends-nil, Appends-trans}
use Rattle.ssim_base.proofs.SinkLemmas.{front_more, then_front}
use Rattle.ssim_program.specs.print.Paper.{Breaks, Grows, Paper, PrintsOrFails}
use Rattle.ssim_program.specs.internal.Print.{Prints, PrintsPart}
use Rattle.ssim_program.specs.declared.refusal.Refusal.{Refusal}

-- no call
pub nothing : (p : Paper) → Grows [] p p
nothing p = record { taken = Appends-nil p.taken; failures = refl; device = refl }

-- some bytes, and then others
pub grows_more : (x y : List ℕ) (p q r : Paper) → Grows x p q → Grows y q r → Grows (x ++ y) p r
grows_more x y p q r g h = record {
  taken = Appends-trans p.taken q.taken r.taken x y g.taken h.taken;
  failures = h.failures ∙ g.failures;
  device = h.device ∙ g.device;
}

-- some bytes, and then a prefix of others
pub breaks_more : (x y : List ℕ) (p q r : Paper) → Grows x p q → Breaks y q r → Breaks (x ++ y) p r
breaks_more x y p q r g h = record {
  taken = then_front (x ++ y) y p.taken q.taken r.taken (x, refl, g.taken) h.taken;
  failures = h.failures ∙ ap (λ n. (n + 1) % 2 ^ 64) g.failures;
  device = h.device ∙ g.device;
}

-- bytes were printed, and then a flush succeeded or failed
pub flushed_after : (x : List ℕ) (p q r : Paper) → Grows x p q → Grows [] q r → Grows x p r
flushed_after x p q r g h = subst (λ (bs : List ℕ). Grows bs p r) (append-nil x) (grows_more x [] p q r g h)

pub breaks_after : (x : List ℕ) (p q r : Paper) → Grows x p q → Breaks [] q r → Breaks x p r
breaks_after x p q r g h = subst (λ (bs : List ℕ). Breaks bs p r) (append-nil x) (breaks_more x [] p q r g h)

-- a prefix of some bytes is one of more bytes
pub breaks_first : (x y : List ℕ) (p q : Paper) → Breaks x p q → Breaks (x ++ y) p q
breaks_first x y p q b =
    record { taken = front_more x y (x ++ y) p.taken q.taken refl b.taken; failures = b.failures; device = b.device }

-- some bytes were put, and then others are put or printed
pub puts_then : (x y : List ℕ) (p q r : Paper) (result : Result (Unit {0}) Refusal) → Grows x p q → PrintsPart y q r result → PrintsPart (x ++ y) p r result
puts_then x y p q r (Ok _) g h = grows_more x y p q r g h
puts_then x y p q r (Err e) g h = (h.0, breaks_more x y p q r g h.1)

pub prints_then : (x y : List ℕ) (p q r : Paper) (result : Result (Unit {0}) Refusal) → Grows x p q → Prints y q r result → Prints (x ++ y) p r result
prints_then x y p q r (Ok _) g h = (grows_more x y p q r g h.0, h.1)
prints_then x y p q r (Err e) g h = (h.0, breaks_more x y p q r g h.1)

-- bytes were put, and then the printer is flushed
pub flushes : (x : List ℕ) (p q r : Paper) (result : Result (Unit {0}) Refusal) → Grows x p q → Prints [] q r result → Prints x p r result
flushes x p q r result g h = subst (λ (bs : List ℕ). Prints bs p r result) (append-nil x) (prints_then x [] p q r result g h)

-- what holds if r is a value holds if w is one
pub if_written : {A B E F : Type 0} (P : Type 0) (r : Result A E) (w : Result B F)
    → OnOk w (IsOk r) → OnOk r P → OnOk w P
if_written P (Ok _) (Ok _) is p = p
if_written P (Err _) (Ok _) is p = absurd (true≢false (sym is))
if_written P r (Err _) is p = is
