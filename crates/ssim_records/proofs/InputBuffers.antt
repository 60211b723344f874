-- The steps of an input: bytes that are fetched are held, bytes that are skipped were used, and one
-- step follows another.
use Rattle.std.proofs.Common.{◌≡◌, ℕ, ◌+◌, List, [], ◌++◌, length, take, drop, Option, Some, None, Ok, refl, sym, ap, ◌∙◌, append_assoc, arith}
use Rattle.std.specs.Io.KnownBytes.{Consumes}
use Rattle.std.proofs.lemmas.List.{length-append, take-append-drop}
use Rattle.ssim_records.specs.clauses.Blocks.{SameAhead}
use Rattle.ssim_records.specs.clauses.Device.{CountsBytes}
use Rattle.ssim_records.specs.Device.{Reader}
use Rattle.ssim_records.specs.clauses.InputBuffer.{Gives, Input, Uses, ahead}
use Rattle.ssim_records.proofs.Framing.{came_fetched, came_none, came_twice}

-- ---- what is used

consumes_none : (a : Option (List ℕ)) → Consumes a a []
consumes_none None = tt
consumes_none (Some xs) = refl

consumes_then : (one two : List ℕ) (a b c : Option (List ℕ)) → Consumes a b one → Consumes b c two → Consumes a c (one ++ two)
consumes_then one two None b c h k = tt
consumes_then one two (Some x) None c h k = absurd h
consumes_then one two (Some x) (Some y) None h k = absurd k
consumes_then one two (Some x) (Some y) (Some z) h k = h ∙ ap (λ bs. one ++ bs) k ∙ sym (append_assoc one two z)

-- nothing is used
pub uses_none : (b : Input) (left : Option (List ℕ)) → Uses [] b left b left
uses_none b left = record { next = consumes_none (ahead b left); counted = omega arith }

-- bytes are used, and then others
pub uses_then : (one two : List ℕ) (a b c : Input) (l0 l1 l2 : Option (List ℕ)) → Uses one a l0 b l1 → Uses two b l1 c l2 → Uses (one ++ two) a l0 c l2
uses_then one two a b c l0 l1 l2 h k = record {
  next = consumes_then one two (ahead a l0) (ahead b l1) (ahead c l2) h.next k.next;
  counted = omega (arith, h.counted, k.counted, length-append one two);
}

skipped_next : (b : Input) (n : ℕ) (left : Option (List ℕ)) → Consumes (ahead b left) (ahead (record { limit = b.limit; came = b.came; held = drop n b.held }) left) (take n b.held)
skipped_next b n None = tt
skipped_next b n (Some x) = ap (λ bs. bs ++ x) (sym (take-append-drop n b.held)) ∙ append_assoc (take n b.held) (drop n b.held) x

-- skipped bytes are used
pub uses_skipped : (b : Input) (n : ℕ) (left : Option (List ℕ)) → Uses (take n b.held) b left (record { limit = b.limit; came = b.came; held = drop n b.held }) left
uses_skipped b n left = record {
  next = skipped_next b n left;
  counted = let whole = ap length (take-append-drop n b.held) in omega (arith, whole, length-append (take n b.held) (drop n b.held));
}

-- ---- what the reader gives

pub gives_none : (r : Reader) (came : ℕ) → Gives r r came came
gives_none r came = record {
  bytes = came_none r.left r.came came;
  no_failure = refl;
}

pub gives_then : (r0 r1 r2 : Reader) (a b c : ℕ)
    → Gives r0 r1 a b → Gives r1 r2 b c → Gives r0 r2 a c
gives_then r0 r1 r2 a b c h k = record {
  bytes = came_twice r0.left r1.left r2.left r0.came r1.came r2.came a b c h.bytes k.bytes;
  no_failure = k.no_failure ∙ h.no_failure;
}

-- fetched bytes came
pub gives_fetched : (held held' : List ℕ) (came n : ℕ) (r0 r1 : Reader)
    → SameAhead held r0.left held' r1.left → length held' ≡ length held + n
    → CountsBytes r0 r1 (Ok n) → r1.failures ≡ r0.failures → Gives r0 r1 came (came + n)
gives_fetched held held' came n r0 r1 h long counted none = record {
  bytes = came_fetched held held' r0.left r1.left r0.came r1.came came n h long counted;
  no_failure = none;
}
