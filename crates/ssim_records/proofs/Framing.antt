-- The steps of framing: what is ahead stays the same while bytes are fetched, and falls by the
-- blocks that are given.
use Rattle.std.proofs.Common.{◌≡◌, ℕ, ◌+◌, ◌-◌, ◌%◌, ◌^◌, ◌<◌, ◌≤◌, Bool, true, false, List, [], ◌∷◌, ◌++◌, length, Option, Some, None, Ok, Err, refl, sym, ap, subst, ◌∙◌, append_assoc, arith}
use Rattle.std.specs.Prelude.{nat_lt, Result}
use Rattle.std.specs.Io.KnownBytes.{IsAtEnd}
use Rattle.std.proofs.Math.Nat.{mod-add-mod}
use Rattle.std.proofs.lemmas.List.{length-append, append-nil}
use Rattle.std.proofs.lemmas.Bool.Decides.{nat_tests}
use Rattle.ssim_records.specs.declared.blocks.BlockStop.{BlockStop}
use Rattle.ssim_records.specs.declared.blocks.BlockStop.TheVariants.{Short, ReadFault, ReaderNeverEnds}
use Rattle.ssim_records.specs.declared.device.DeviceFault.{DeviceFault}
use Rattle.ssim_records.specs.clauses.Device.{CountChanges}
use Rattle.ssim_records.specs.Frames.{trim, Frames, others, is_fill}
use Rattle.ssim_records.specs.clauses.Blocks.{CameFrom, SameAhead, Fetches, StaysLeft}
use Rattle.ssim_records.specs.clauses.Blocks.{Takes}
use Rattle.ssim_records.specs.internal.Blocks.{NextBlock, GivesBlock, GivesOther, Ahead}
use Rattle.ssim_records.proofs.LineEnds.{trim_front, trim_pass, trim_twice, trim_less}
use Rattle.ssim_columns.proofs.lemmas.Slices.{same_front, same_back}

-- what came and what is held, if the reader reports its bytes: the fetched bytes are held after the
-- earlier ones, without line ends at the beginning
abbrev pub Stays : Bool → ℕ → List ℕ → Option (List ℕ) → ℕ → List ℕ → Option (List ℕ) → Type 0
Stays after_block came held None came' held' left' = Unit {0}
Stays after_block came held (Some left) came' held' None = ⊥
Stays after_block came held (Some left) came' held' (Some left') =
    (fetched : List ℕ) × (came' + length left' ≡ came + length left) × (left ≡ fetched ++ left') × (trim after_block (held ++ fetched) ≡ trim after_block held')

-- what is ahead is the same, without line ends at the beginning
same_ahead : (after_block : Bool) (came came' : ℕ) (held held' x y : List ℕ) → Stays after_block came held (Some x) came' held' (Some y) → trim after_block (held' ++ y) ≡ trim after_block (held ++ x)
same_ahead after_block came came' held held' x y stays =
    sym (trim_pass after_block held' y)
    ∙ ap (λ (t : List ℕ). trim after_block (t ++ y)) (sym stays.3)
    ∙ trim_pass after_block (held ++ stays.0) y
    ∙ ap (trim after_block) (append_assoc held stays.0 y ∙ ap (λ (t : List ℕ). held ++ t) (sym stays.2))

-- as many bytes more are held as are fewer left
grown : (held held' x y : List ℕ) (n : ℕ) → held' ++ y ≡ held ++ x → length held' ≡ length held + n → (fetched : List ℕ) × (held' ≡ held ++ fetched) × (x ≡ fetched ++ y)
grown [] held' x y n same len = (held', refl, sym same)
grown (b ∷ held) [] x y n same len = absurd (omega (arith, len))
grown (b ∷ held) (c ∷ held') x y n same len =
    let first : c ≡ b = cc in
    let later : held' ++ y ≡ held ++ x = cc in
    let on = grown held held' x y n later (omega (arith, len)) in
    (on.0, ap (λ (k : ℕ). k ∷ held') first ∙ ap (λ (t : List ℕ). b ∷ t) on.1, on.2)

-- the bytes that were fetched, if the result counts no block
pub none_taken : (after_block : Bool) (came0 came : ℕ) (old held : List ℕ) (left0 left1 : Option (List ℕ)) → Stays after_block came0 old left0 came held left1 → Fetches after_block 0 old left0 0 held left1
none_taken after_block came0 came old held None left1 stays = tt
none_taken after_block came0 came old held (Some x) None stays = stays
none_taken after_block came0 came old held (Some x) (Some y) stays = (stays.0, [], stays.2, refl, stays.3)

pub none_trimmed : (after_block : Bool) (came0 came : ℕ) (old held trimmed : List ℕ) (left0 left1 : Option (List ℕ)) → Stays after_block came0 old left0 came held left1 → trimmed ≡ trim after_block held → Fetches after_block 0 old left0 0 trimmed left1
none_trimmed after_block came0 came old held trimmed None left1 stays is = tt
none_trimmed after_block came0 came old held trimmed (Some x) None stays is = stays
none_trimmed after_block came0 came old held trimmed (Some x) (Some y) stays is =
    (stays.0, [], stays.2, refl, stays.3 ∙ sym (trim_twice after_block held) ∙ ap (trim after_block) (sym is))

-- the bytes that were fetched, if the result counts one block
pub one_taken : (after_block : Bool) (came0 came : ℕ) (old held trimmed block later : List ℕ) (left0 left1 : Option (List ℕ)) → Stays after_block came0 old left0 came held left1 → trimmed ≡ trim after_block held → trimmed ≡ block ++ later → length block ≡ 200
    → Fetches after_block 0 old left0 1 later left1
one_taken after_block came0 came old held trimmed block later None left1 stays is parts len = tt
one_taken after_block came0 came old held trimmed block later (Some x) None stays is parts len = stays
one_taken after_block came0 came old held trimmed block later (Some x) (Some y) stays is parts len = (stays.0, block ∷ [], stays.2, refl, (later, len, stays.3 ∙ sym is ∙ parts, refl))

pub took : (after_block : Bool) (limit came0 came : ℕ) (old held trimmed block later : List ℕ) (left0 left1 : Option (List ℕ)) → Stays after_block came0 old left0 came held left1 → trimmed ≡ trim after_block held → 2 ≤ length trimmed → trimmed ≡ block ++ later → length block ≡ 200 → came ≤ limit + length later
    → GivesBlock limit after_block came0 old left0 came later left1 (Ok (Some block))
took after_block limit came0 came old held trimmed block later None left1 stays is long parts len room = tt
took after_block limit came0 came old held trimmed block later (Some x) None stays is long parts len room = stays
took after_block limit came0 came old held trimmed block later (Some x) (Some y) stays is long parts len room =
    let long' : 2 ≤ length (trim after_block held) = rw (← is) long in
    (stays.1, (len, sym (same_ahead after_block came0 came old held x y stays) ∙ trim_front after_block held y long' ∙ ap (λ (t : List ℕ). t ++ y) (sym is ∙ parts) ∙ append_assoc block later y, omega (arith, stays.1, length-append later y)))

pub stays_on : (after_block : Bool) (came0 came : ℕ) (old held trimmed new : List ℕ) (left0 left1 left2 : Option (List ℕ)) (n : ℕ) → Stays after_block came0 old left0 came held left1 → trimmed ≡ trim after_block held → SameAhead trimmed left1 new left2 → length new ≡ length trimmed + n → Stays after_block came0 old left0 (came + n) new left2
stays_on after_block came0 came old held trimmed new None left1 left2 n stays is same len = tt
stays_on after_block came0 came old held trimmed new (Some x) None left2 n stays is same len = absurd stays
stays_on after_block came0 came old held trimmed new (Some x) (Some z) None n stays is same len = same
stays_on after_block came0 came old held trimmed new (Some x) (Some z) (Some y) n stays is same len =
    let more = grown trimmed new z y n same len in
    let lens : length new + length y ≡ length trimmed + length z = sym (length-append new y) ∙ ap length same ∙ length-append trimmed z in (
      stays.0 ++ more.0,
      omega (arith, lens, len, stays.1),
      stays.2 ∙ ap (λ (t : List ℕ). stays.0 ++ t) more.2 ∙ sym (append_assoc stays.0 more.0 y),
      ap (trim after_block) (sym (append_assoc old stays.0 more.0))
          ∙ sym (trim_pass after_block (old ++ stays.0) more.0)
          ∙ ap (λ (t : List ℕ). trim after_block (t ++ more.0)) (stays.3 ∙ sym is)
          ∙ ap (trim after_block) (sym more.1),
    )

-- at the end of a reader all that is ahead is held
abbrev pub AllHeld : ℕ → Bool → ℕ → List ℕ → Option (List ℕ) → ℕ → List ℕ → Option (List ℕ) → Type 0
AllHeld limit after_block came held None came' new left' = Unit {0}
AllHeld limit after_block came held (Some left) came' new None = ⊥
AllHeld limit after_block came held (Some left) came' new (Some left') =
    (came' + length left' ≡ came + length left) × (trim after_block (held ++ left) ≡ new) × (left' ≡ [])

pub all_held : (after_block : Bool) (limit came0 came : ℕ) (old held trimmed new : List ℕ) (left0 left1 left2 : Option (List ℕ)) → Stays after_block came0 old left0 came held left1 → trimmed ≡ trim after_block held → SameAhead trimmed left1 new left2 → IsAtEnd left2 → new ≡ trimmed → AllHeld limit after_block came0 old left0 came new left2
all_held after_block limit came0 came old held trimmed new None left1 left2 stays is same end' kept = tt
all_held after_block limit came0 came old held trimmed new (Some x) left1 None stays is same end' kept =
    stays_on after_block came0 came old held trimmed new (Some x) left1 None 0 stays is same (omega (arith, ap length kept))
all_held after_block limit came0 came old held trimmed new (Some x) left1 (Some y) stays is same end' kept =
    let z : came + 0 ≡ came = omega arith in
    let on = stays_on after_block came0 came old held trimmed new (Some x) left1 (Some y) 0 stays is same (omega (arith, ap length kept)) in
    (omega (arith, on.1, z), sym (same_ahead after_block came0 (came + 0) old new x y on) ∙ ap (λ (t : List ℕ). trim after_block (new ++ t)) end' ∙ ap (trim after_block) (append-nil new ∙ kept ∙ is) ∙ trim_twice after_block held ∙ sym is ∙ sym kept, end')

pub ends_short : (after_block : Bool) (limit came0 came : ℕ) (old new : List ℕ) (left0 left2 : Option (List ℕ)) → AllHeld limit after_block came0 old left0 came new left2 → 0 < length new → length new < 200 → came ≤ limit → GivesBlock limit after_block came0 old left0 came new left2 (Err Short)
ends_short after_block limit came0 came old new None left2 all some short within = tt
ends_short after_block limit came0 came old new (Some x) None all some short within = all
ends_short after_block limit came0 came old new (Some x) (Some y) all some short within =
    let n = ap length all.1 in
    (all.0, (omega (arith, n, some), omega (arith, n, short), omega (arith, all.0, ap length all.2)))

pub never_ends : (after_block : Bool) (limit came0 came : ℕ) (old held trimmed : List ℕ) (left0 left1 : Option (List ℕ)) → Stays after_block came0 old left0 came held left1 → trimmed ≡ trim after_block held → length trimmed ≤ 200 → limit < came → GivesBlock limit after_block came0 old left0 came trimmed left1 (Err ReaderNeverEnds)
never_ends after_block limit came0 came old held trimmed None left1 stays is few over = tt
never_ends after_block limit came0 came old held trimmed (Some x) None stays is few over = stays
never_ends after_block limit came0 came old held trimmed (Some x) (Some y) stays is few over =
    let all : trim after_block (old ++ x) ≡ trim after_block (trimmed ++ y) = sym (same_ahead after_block came0 came old held x y stays) ∙ sym (trim_pass after_block held y) ∙ ap (λ (t : List ℕ). trim after_block (t ++ y)) (sym is) in
    (stays.1, (omega (arith, stays.1), omega (arith, ap length all, trim_less after_block (trimmed ++ y), length-append trimmed y, stays.1)))

pub faulted : (after_block : Bool) (limit came0 came : ℕ) (old held trimmed new : List ℕ) (left0 left1 left2 : Option (List ℕ)) → Stays after_block came0 old left0 came held left1 → trimmed ≡ trim after_block held → SameAhead trimmed left1 new left2 → length new ≡ length trimmed → GivesBlock limit after_block came0 old left0 came new left2 (Err ReadFault)
faulted after_block limit came0 came old held trimmed new None left1 left2 stays is same len = tt
faulted after_block limit came0 came old held trimmed new (Some x) left1 None stays is same len = stays_on after_block came0 came old held trimmed new (Some x) left1 None 0 stays is same (omega (arith, len))
faulted after_block limit came0 came old held trimmed new (Some x) left1 (Some y) stays is same len =
    let on = stays_on after_block came0 came old held trimmed new (Some x) left1 (Some y) 0 stays is same (omega (arith, len)) in
    (omega (arith, on.1), tt)

-- ---- the bytes that came

pub came_none : (l : Option (List ℕ)) (k came : ℕ) → CameFrom l l k k came came
came_none None k came = refl
came_none (Some x) k came = refl

pub came_twice : (l0 l1 l2 : Option (List ℕ)) (k0 k1 k2 came0 came1 came2 : ℕ)
    → CameFrom l0 l1 k0 k1 came0 came1 → CameFrom l1 l2 k1 k2 came1 came2
    → CameFrom l0 l2 k0 k2 came0 came2
came_twice None None None k0 k1 k2 came0 came1 came2 h k = omega (arith, h, k)
came_twice None None (Some z) k0 k1 k2 came0 came1 came2 h k = k
came_twice None (Some y) l2 k0 k1 k2 came0 came1 came2 h k = absurd h
came_twice (Some x) None l2 k0 k1 k2 came0 came1 came2 h k = absurd h
came_twice (Some x) (Some y) None k0 k1 k2 came0 came1 came2 h k = k
came_twice (Some x) (Some y) (Some z) k0 k1 k2 came0 came1 came2 h k = k ∙ h

-- n bytes more came, and are held
pub came_fetched : (held held' : List ℕ) (l l' : Option (List ℕ)) (k k' came n : ℕ)
    → SameAhead held l held' l' → length held' ≡ length held + n → CountChanges l l' k k' (Ok n)
    → CameFrom l l' k k' came (came + n)
came_fetched held held' None None k k' came n same long counted =
    let moved : (k + n) + came ≡ k + (came + n) = omega arith in
    ap (λ (x : ℕ). (x + came) % 2 ^ 128) counted
    ∙ mod-add-mod (k + n) (2 ^ 128) came
    ∙ ap (λ (x : ℕ). x % 2 ^ 128) moved
came_fetched held held' None (Some y) k k' came n same long counted = counted
came_fetched held held' (Some x) None k k' came n same long counted = same
came_fetched held held' (Some x) (Some y) k k' came n same long counted =
    omega (arith, ap length same, length-append held x, length-append held' y, long)

-- the reader is at its end
pub came_end : (held held' : List ℕ) (l l' : Option (List ℕ)) (k k' came : ℕ)
    → SameAhead held l held' l' → length held' ≡ length held → CountChanges l l' k k' (Ok 0)
    → CameFrom l l' k k' came came
came_end held held' l l' k k' came same long counted =
    let none : came + 0 ≡ came = omega arith in
    subst (CameFrom l l' k k' came) none
    (came_fetched held held' l l' k k' came 0 same (omega (arith, long)) counted)

-- the reader failed
pub came_failed : (held held' : List ℕ) (l l' : Option (List ℕ)) (k k' came : ℕ) (e : DeviceFault)
    → SameAhead held l held' l' → length held' ≡ length held → CountChanges l l' k k' (Err e)
    → CameFrom l l' k k' came came
came_failed held held' None None k k' came e same long counted =
    ap (λ (x : ℕ). (x + came) % 2 ^ 128) counted
came_failed held held' None (Some y) k k' came e same long counted = counted
came_failed held held' (Some x) None k k' came e same long counted = same
came_failed held held' (Some x) (Some y) k k' came e same long counted =
    omega (arith, ap length same, length-append held x, length-append held' y, long)

pub left_less : (l0 l1 l2 : Option (List ℕ)) (held : List ℕ) → StaysLeft l0 l1 → SameAhead [] l1 held l2 → StaysLeft l0 l2
left_less None l1 l2 held h same = tt
left_less (Some x) None l2 held h same = absurd h
left_less (Some x) (Some y) None held h same = same
left_less (Some x) (Some y) (Some z) held h same =
    (h.0 ++ held, h.1 ∙ ap (λ (t : List ℕ). h.0 ++ t) (sym same) ∙ sym (append_assoc h.0 held z))

-- ---- blocks and the frames that they begin

pub some_before : (n : ℕ) → nat_lt 0 (n + 1) ≡ true
some_before n = grind (arith, nat_tests)

-- what holds of bytes holds with more bytes after them
takes_more : (after_block : Bool) (bytes more : List ℕ) (blocks : List (List ℕ)) (held : List ℕ) → Takes after_block bytes blocks held → Takes after_block (bytes ++ more) blocks (held ++ more)
takes_more after_block bytes more [] held t = sym (trim_pass after_block bytes more) ∙ ap (λ (x : List ℕ). trim after_block (x ++ more)) t ∙ trim_pass after_block held more
takes_more after_block bytes more (b ∷ bs) held t =
    let long : 2 ≤ length (trim after_block bytes) = omega (arith, ap length t.2, length-append b t.0, t.1) in
    (t.0 ++ more, t.1, trim_front after_block bytes more long ∙ ap (λ (x : List ℕ). x ++ more) t.2 ∙ append_assoc b t.0 more, takes_more true t.0 more bs held t.3)

takes_none : (after_block : Bool) (bytes : List ℕ) (later : List (List ℕ)) (held held' : List ℕ) → trim after_block bytes ≡ trim after_block held → Takes after_block held later held' → Takes after_block bytes later held'
takes_none after_block bytes [] held held' same t = same ∙ t
takes_none after_block bytes (b ∷ bs) held held' same t = (t.0, t.1, same ∙ t.2, t.3)

-- blocks and then more blocks, if records were counted
takes_on : (n : ℕ) (bytes : List ℕ) (blocks later : List (List ℕ)) (held held' : List ℕ) → Takes (nat_lt 0 n) bytes blocks held → Takes (nat_lt 0 (n + length blocks)) held later held' → Takes (nat_lt 0 n) bytes (blocks ++ later) held'
takes_on n bytes [] later held held' a b =
    let none : n + 0 ≡ n = omega arith in
    takes_none (nat_lt 0 n) bytes later held held' a (subst (λ (k : ℕ). Takes (nat_lt 0 k) held later held') none b)
takes_on n bytes (x ∷ xs) later held held' a b =
    let next : n + length (x ∷ xs) ≡ n + 1 + length xs = omega arith in (
      a.0,
      a.1,
      a.2,
      subst (λ (t : Bool). Takes t a.0 (xs ++ later) held') (some_before n)
          (takes_on (n + 1) a.0 xs later held held' (subst (λ (t : Bool). Takes t a.0 xs held) (sym (some_before n)) a.3) (subst (λ (k : ℕ). Takes (nat_lt 0 k) held later held') next b)),
    )

-- nothing was fetched yet
pub fetches_first : (after_block : Bool) (n : ℕ) (held : List ℕ) (l : Option (List ℕ)) → Fetches after_block n held l n held l
fetches_first after_block n held None = tt
fetches_first after_block n held (Some x) = ([], [], refl, omega arith, ap (trim after_block) (append-nil held))

-- the bytes that were fetched in two steps
pub fetches_on : (n n1 n2 m m1 : ℕ) (held held1 held2 : List ℕ) (l l1 l2 : Option (List ℕ)) → Fetches (nat_lt 0 n) n held l n1 held1 l1 → Fetches (nat_lt 0 n1) m held1 l1 m1 held2 l2 → n2 + m ≡ n1 + m1 → Fetches (nat_lt 0 n) n held l n2 held2 l2
fetches_on n n1 n2 m m1 held held1 held2 None l1 l2 a b e = tt
fetches_on n n1 n2 m m1 held held1 held2 (Some x) None l2 a b e = absurd a
fetches_on n n1 n2 m m1 held held1 held2 (Some x) (Some y) None a b e = b
fetches_on n n1 n2 m m1 held held1 held2 (Some x) (Some y) (Some z) a b e = (
  a.0 ++ b.0,
  a.1 ++ b.1,
  a.2 ∙ ap (λ (t : List ℕ). a.0 ++ t) b.2 ∙ sym (append_assoc a.0 b.0 z),
  omega (arith, a.3, b.3, e, length-append a.1 b.1),
  subst (λ (t : List ℕ). Takes (nat_lt 0 n) t (a.1 ++ b.1) held2) (append_assoc held a.0 b.0)
      (takes_on n ((held ++ a.0) ++ b.0) a.1 b.1 (held1 ++ b.0) held2 (takes_more (nat_lt 0 n) (held ++ a.0) b.0 a.1 held1 a.4) (subst (λ (k : ℕ). Takes (nat_lt 0 k) (held1 ++ b.0) b.1 held2) a.3 b.4)),
)

-- If too few bytes for a block are held, the blocks are all blocks of the bytes that came.
pub takes_all : (after_block : Bool) (bytes : List ℕ) (blocks : List (List ℕ)) (held : List ℕ) → Takes after_block bytes blocks held → length held < 200 → (rest : List ℕ) × Frames 0 after_block bytes blocks rest
takes_all after_block bytes [] held t few = (trim after_block bytes, (refl, omega (arith, ap length t, trim_less after_block held, few)))
takes_all after_block bytes (b ∷ bs) held t few =
    let later = takes_all true t.0 bs held t.3 few in
    (later.0, (t.0, t.1, t.2, omega arith, later.1))

-- The block at the beginning is the first of the frames, if it ends within the limit.
pub first_frame : (over : ℕ) (after_block : Bool) (bytes block later : List ℕ) (blocks : List (List ℕ)) (rest : List ℕ) → length block ≡ 200 → trim after_block bytes ≡ block ++ later → over ≤ length later → Frames over after_block bytes blocks rest
    → (more : List (List ℕ)) × (blocks ≡ block ∷ more) × Frames over true later more rest
first_frame over after_block bytes block later [] rest len parts room h =
    absurd (omega (arith, ap length (sym h.0 ∙ parts), length-append block later, h.1, len, room))
first_frame over after_block bytes block later (b ∷ bs) rest len parts room h =
    let same : b ++ h.0 ≡ block ++ later = sym h.2 ∙ parts in
    let lens : length b ≡ length block = h.1 ∙ sym len in
    let front = same_front b block h.0 later lens same in
    let back = same_back b block h.0 later lens same in
    (bs, ap (λ (x : List ℕ). x ∷ bs) front, rw (← back) h.4)

-- no block is left if too few bytes are left
pub no_frame : (over : ℕ) (after_block : Bool) (bytes : List ℕ) (blocks : List (List ℕ)) (rest : List ℕ) → length (trim after_block bytes) < 200 + over → Frames over after_block bytes blocks rest
    → (blocks ≡ []) × (trim after_block bytes ≡ rest)
no_frame over after_block bytes [] rest few h = (refl, h.0)
no_frame over after_block bytes (b ∷ bs) rest few h = absurd (omega (arith, ap length h.2, length-append b h.0, h.1, h.3, few))

-- ---- blocks of fill

-- what is left after the blocks of fill that were counted
abbrev pub Skipped : ℕ → ℕ → ℕ → List ℕ → Option (List ℕ) → ℕ → ℕ → List ℕ → Option (List ℕ) → Type 0
Skipped limit n came held None n' came' held' left' = Unit {0}
Skipped limit n came held (Some left) n' came' held' None = ⊥
Skipped limit n came held (Some left) n' came' held' (Some left') =
    (came' + length left' ≡ came + length left)
    × ((blocks : List (List ℕ)) → (rest : List ℕ) → Ahead limit n came held left blocks rest
    → (later : List (List ℕ)) × (others n blocks ≡ others n' later) × (n' + length later ≡ n + length blocks) × Ahead limit n' came' held' left' later rest)

pub none_skipped : (limit n came : ℕ) (held : List ℕ) (left : Option (List ℕ)) → Skipped limit n came held left n came held left
none_skipped limit n came held None = tt
none_skipped limit n came held (Some x) = (refl, λ blocks rest h. (blocks, refl, refl, h))

over_same : (limit a b c d : ℕ) → a + b ≡ c + d → (a + b) - limit ≡ (c + d) - limit
over_same limit a b c d e = ap (λ (x : ℕ). x - limit) e

-- a block that is given, if records were counted
given : (limit n came came' : ℕ) (held held' x y block : List ℕ) (blocks : List (List ℕ)) (rest : List ℕ) → came' + length y ≡ came + length x → NextBlock ((came + length x) - limit) (trim (nat_lt 0 n) (held ++ x)) (held' ++ y) (Ok (Some block)) → Ahead limit n came held x blocks rest
    → (more : List (List ℕ)) × (blocks ≡ block ∷ more) × Ahead limit (n + 1) came' held' y more rest
given limit n came came' held held' x y block blocks rest total b h =
    let f = first_frame ((came + length x) - limit) (nat_lt 0 n) (held ++ x) block (held' ++ y) blocks rest b.0 b.1 b.2 h in
    (f.0, f.1, rw (some_before n, total) f.2)

pub one_more : (limit n n1 came came1 came2 : ℕ) (held held1 held2 : List ℕ) (l l1 l2 : Option (List ℕ)) (block : List ℕ) → Skipped limit n came held l n1 came1 held1 l1 → GivesBlock limit (nat_lt 0 n1) came1 held1 l1 came2 held2 l2 (Ok (Some block)) → is_fill block ≡ true → Skipped limit n came held l (n1 + 1) came2 held2 l2
one_more limit n n1 came came1 came2 held held1 held2 None l1 l2 block s b is = tt
one_more limit n n1 came came1 came2 held held1 held2 (Some x) None l2 block s b is = absurd s
one_more limit n n1 came came1 came2 held held1 held2 (Some x) (Some y) None block s b is = b
one_more limit n n1 came came1 came2 held held1 held2 (Some x) (Some y) (Some z) block s b is = (
  b.0 ∙ s.0,
  λ blocks rest h.
      let t = s.1 blocks rest h in
      let g = given limit n1 came1 came2 held1 held2 y z block t.0 rest b.0 b.1 t.3 in
      let same : others n1 t.0 ≡ others (n1 + 1) g.0 = ap (others n1) g.1 ∙ rw is refl in
      (g.0, t.1 ∙ same, omega (arith, t.2, ap length g.1), g.2),
)

-- the number of the result
abbrev pub Counts : ℕ → ℕ → Result (Option (List ℕ)) BlockStop → Type 0
Counts n n' (Ok None) = n' ≡ n
Counts n n' (Ok (Some block)) = (n' ≡ n + 1) × (is_fill block ≡ false)
Counts n n' (Err e) = n' ≡ n

few_empty : (over : ℕ) (b : List ℕ) → b ≡ [] → length b < 200 + over
few_empty over b e = omega (arith, ap length e)

none_left : (n n1 n2 : ℕ) (blocks later : List (List ℕ)) → others n blocks ≡ others n1 later → n1 + length later ≡ n + length blocks → later ≡ [] → n2 ≡ n1 → (others n blocks ≡ []) × (n2 ≡ n + length blocks)
none_left n n1 n2 blocks later same count e is = (same ∙ ap (others n1) e, omega (arith, count, ap length e, is))

pub gives_other : (limit n n1 n2 came came1 came2 : ℕ) (held held1 held2 : List ℕ) (l l1 l2 : Option (List ℕ)) (r : Result (Option (List ℕ)) BlockStop) → Skipped limit n came held l n1 came1 held1 l1 → GivesBlock limit (nat_lt 0 n1) came1 held1 l1 came2 held2 l2 r → Counts n1 n2 r → GivesOther limit n came held l n2 came2 held2 l2 r
gives_other limit n n1 n2 came came1 came2 held held1 held2 None l1 l2 r s b c = tt
gives_other limit n n1 n2 came came1 came2 held held1 held2 (Some x) None l2 r s b c = absurd s
gives_other limit n n1 n2 came came1 came2 held held1 held2 (Some x) (Some y) None r s b c = b
gives_other limit n n1 n2 came came1 came2 held held1 held2 (Some x) (Some y) (Some z) (Ok None) s b c = (
  b.0 ∙ s.0,
  λ blocks rest h.
      let t = s.1 blocks rest h in
      let e = no_frame ((came1 + length y) - limit) (nat_lt 0 n1) (held1 ++ y) t.0 rest (few_empty _ _ b.1.0) t.3 in
      let f = none_left n n1 n2 blocks t.0 t.1 t.2 e.0 c in
      (f.0, f.1, sym e.1 ∙ b.1.0, sym (over_same limit came1 (length y) came (length x) s.0) ∙ b.1.1),
)
gives_other limit n n1 n2 came came1 came2 held held1 held2 (Some x) (Some y) (Some z) (Ok (Some block)) s b c = (
  b.0 ∙ s.0,
  λ blocks rest h.
      let t = s.1 blocks rest h in
      let g = given limit n1 came1 came2 held1 held2 y z block t.0 rest b.0 b.1 t.3 in
      let same : others n1 t.0 ≡ (n1 + 1, block) ∷ others (n1 + 1) g.0 = ap (others n1) g.1 ∙ rw c.1 refl in
      (g.0, rw c.0 (t.1 ∙ same), omega (arith, t.2, ap length g.1, c.0), rw c.0 g.2),
)
gives_other limit n n1 n2 came came1 came2 held held1 held2 (Some x) (Some y) (Some z) (Err Short) s b c = (
  b.0 ∙ s.0,
  λ blocks rest h.
      let t = s.1 blocks rest h in
      let e = no_frame ((came1 + length y) - limit) (nat_lt 0 n1) (held1 ++ y) t.0 rest (omega (arith, b.1.1)) t.3 in
      let f = none_left n n1 n2 blocks t.0 t.1 t.2 e.0 c in
      let len = ap length e.1 in
      (f.0, f.1, omega (arith, len, b.1.0), omega (arith, len, b.1.1), sym (over_same limit came1 (length y) came (length x) s.0) ∙ b.1.2),
)
gives_other limit n n1 n2 came came1 came2 held held1 held2 (Some x) (Some y) (Some z) (Err ReadFault) s b c = (
  b.0 ∙ s.0,
  λ blocks rest h.
      let t = s.1 blocks rest h in
      (t.0, rw c t.1, omega (arith, t.2, c)),
)
gives_other limit n n1 n2 came came1 came2 held held1 held2 (Some x) (Some y) (Some z) (Err ReaderNeverEnds) s b c = (
  b.0 ∙ s.0,
  λ blocks rest h.
      let t = s.1 blocks rest h in
      let e = no_frame ((came1 + length y) - limit) (nat_lt 0 n1) (held1 ++ y) t.0 rest b.1.1 t.3 in
      let f = none_left n n1 n2 blocks t.0 t.1 t.2 e.0 c in
      let over = over_same limit came1 (length y) came (length x) s.0 in
      (f.0, f.1, omega (arith, over, b.1.0)),
)
