-- The texts of a desk file: the order of their references, and what a text and its length say of a
-- message.
use Rattle.std.proofs.Common.{◌≡◌, ℕ, zero, suc, ◌+◌, ◌*◌, ◌<◌, ◌^◌, List, [], ◌∷◌, ◌++◌, length, codes, Option, Some, None, IfSome, Ok, Err, slice_get, refl, sym, ap, subst, ◌∙◌, arith, append_assoc}
use Rattle.std.specs.Prelude.{T, IsSomeAnd}
use Rattle.std.specs.FinMap.{is_sorted}
use Rattle.std.specs.FinMap.Entries.{below_all}
use Rattle.std.specs.List.{AllByRecursion as Each}
use Rattle.std.specs.declared.cmp.Ordering.TheVariants.{Less}
use Rattle.ssim_records.specs.declared.record.Record.{Record}
use Rattle.ssim_base.specs.Resolve.{HasOneOutcome, IsRefusedIn, ResolvesIn}
use Rattle.ssim_base.specs.declared.resolution.ResolveFault.{ResolveFault}
use Rattle.ssim_base.specs.declared.resolution.ResolveFault.TheVariants as resolve_fault
use Rattle.ssim_base.specs.declared.resolution.ResolvedText.{ResolvedText}
use Rattle.ssim_text.specs.Canonical.{canonical}
use Rattle.ssim_text.specs.Message.{MessageValue}
use Rattle.ssim_text.specs.Spelling.{EqualWhereWrittenEqual, SpellsMessage}
use Rattle.ssim_text.specs.declared.reference.Reference.{Reference}
use Rattle.ssim_held.specs.File.{IsSpelled, counted, text_element}
use Rattle.ssim_held.specs.Held.{reference_cmp}
use Rattle.ssim_held.specs.Entries.{AreRising, Entry, keyed}
use Rattle.ssim_held.specs.internal.DeskFileReader.{IsTextOf}
use Rattle.ssim_held.proofs.Files.{one_entry}
use Rattle.ssim_held.proofs.Entries.{T-from_true, and_left, and_right, below_later, both, less-from_T, less-to_T, true-from_T}
use Rattle.ssim_held.proofs.References.{reference_total}

-- ---- one more reference

abbrev IsSorted : List Entry → Type 0
IsSorted es = T (is_sorted reference_cmp (keyed es))

below_more : (y : Reference) (es : List Entry) (x : Entry) → T (below_all reference_cmp y (keyed es)) → reference_cmp y x.reference ≡ Less → T (below_all reference_cmp y (keyed (es ++ x ∷ [])))
below_more y [] x h less = both _ _ (less-to_T _ less) tt
below_more y (e ∷ es) x h less = both _ _ (and_left _ _ h) (below_more y es x (and_right _ _ h) less)

below_last : (y : Reference) (es : List Entry) (x : Entry) → T (below_all reference_cmp y (keyed (es ++ x ∷ []))) → reference_cmp y x.reference ≡ Less
below_last y [] x h = less-from_T _ (and_left _ _ h)
below_last y (e ∷ es) x h = below_last y es x (and_right _ _ h)

sorted_more : (es : List Entry) (x : Entry) → IsSorted es → Each (λ e. reference_cmp e.reference x.reference ≡ Less) es → IsSorted (es ++ x ∷ [])
sorted_more [] x h each = tt
sorted_more (e ∷ es) x h each = both _ _ (below_more e.reference es x (and_left _ _ h) each.0) (sorted_more es x (and_right _ _ h) each.1)

all_below : (es : List Entry) (k : ℕ) (l x : Entry) → IsSorted es → k + 1 ≡ length es → slice_get es k ≡ Some l → reference_cmp l.reference x.reference ≡ Less → Each (λ e. reference_cmp e.reference x.reference ≡ Less) es
all_below [] k l x h n there less = tt
all_below (e ∷ []) zero l x h n there less = let same : e ≡ l = cc in (subst (λ (z : Entry). reference_cmp z.reference x.reference ≡ Less) (sym same) less, tt)
all_below (e ∷ f ∷ es) zero l x h n there less = absurd (omega (arith, n))
all_below (e ∷ es) (suc k) l x h n there less = (
  reference_total.trans e.reference l.reference x.reference (below_later e.reference es k l (and_left _ _ h) there) less,
  all_below es k l x (and_right _ _ h) (omega (arith, n)) there less,
)

last_below : (es : List Entry) (k : ℕ) (l x : Entry) → IsSorted (es ++ x ∷ []) → slice_get es k ≡ Some l → reference_cmp l.reference x.reference ≡ Less
last_below [] k l x h there = cc
last_below (e ∷ es) zero l x h there = let same : e ≡ l = cc in subst (λ (z : Entry). reference_cmp z.reference x.reference ≡ Less) same (below_last e.reference es x (and_left _ _ h))
last_below (e ∷ es) (suc k) l x h there = last_below es k l x (and_right _ _ h) there

pub rising_more : (es : List Entry) (k : ℕ) (l x : Entry) → AreRising es → k + 1 ≡ length es → slice_get es k ≡ Some l → reference_cmp l.reference x.reference ≡ Less → AreRising (es ++ x ∷ [])
rising_more es k l x h n there less = true-from_T _ (sorted_more es x (T-from_true _ h) (all_below es k l x (T-from_true _ h) n there less))

pub rising_last : (es : List Entry) (k : ℕ) (l x : Entry) → AreRising (es ++ x ∷ []) → slice_get es k ≡ Some l → reference_cmp l.reference x.reference ≡ Less
rising_last es k l x h there = last_below es k l x (T-from_true _ h) there

sorted_front : (es fs : List Entry) → IsSorted (es ++ fs) → IsSorted es
sorted_front [] fs h = tt
sorted_front (e ∷ es) fs h = both _ _ (below_front e.reference es fs (and_left _ _ h)) (sorted_front es fs (and_right _ _ h))
  where
    below_front : (y : Reference) (es fs : List Entry) → T (below_all reference_cmp y (keyed (es ++ fs))) → T (below_all reference_cmp y (keyed es))
    below_front y [] fs h = tt
    below_front y (e ∷ es) fs h = both _ _ (and_left _ _ h) (below_front y es fs (and_right _ _ h))

-- the first of rising references rise
pub rising_front : (es fs : List Entry) → AreRising (es ++ fs) → AreRising es
rising_front es fs h = true-from_T _ (sorted_front es fs (T-from_true _ h))

-- ---- the message of a text

-- a message that is refused resolves to nothing
pub refused_none : HasOneOutcome → (records : List Record) (m : MessageValue) (fault : ResolveFault) → (fault ≡ resolve_fault.Memory → ⊥) → IsRefusedIn records m fault → (text : ResolvedText) → ResolvesIn records m text → ⊥
refused_none one records m resolve_fault.Memory other refused text is = other refl
refused_none one records m resolve_fault.TimeMode other refused text is = one records m (Ok text) (Err resolve_fault.TimeMode) is refused
refused_none one records m (resolve_fault.Airline n) other refused text is = one records m (Ok text) (Err (resolve_fault.Airline n)) is refused
refused_none one records m (resolve_fault.NoSuchDate n) other refused text is = one records m (Ok text) (Err (resolve_fault.NoSuchDate n)) is refused
refused_none one records m (resolve_fault.Period n) other refused text is = one records m (Ok text) (Err (resolve_fault.Period n)) is refused

-- a message that resolves to nothing is held by no desk
pub not_resolved : EqualWhereWrittenEqual → (records : List Record) (text : List ℕ) (m : MessageValue) (e : Entry) → SpellsMessage m (canonical m) → text ≡ canonical m → ((t : ResolvedText) → ResolvesIn records m t → ⊥)
    → IsTextOf records text e → ⊥
not_resolved equal records text m e spelled is none h =
    let same = (equal e.message m (canonical e.message) (canonical m) h.spelled spelled).1 (sym h.text_is ∙ is) in
    none h.entry.text (subst (λ (n : MessageValue). ResolvesIn records n h.entry.text) same h.entry.resolves)

pub text_of : (records : List Record) (text : List ℕ) (m : MessageValue) (r : ResolvedText) (e : Entry) → SpellsMessage m (canonical m) → text ≡ canonical m → ResolvesIn records m r
    → e ≡ record { reference = r.reference; message = m; dates = r.subs.items } → IsTextOf records text e
text_of records text m r e spelled is resolves same =
    subst (IsTextOf records text) (sym same) (record { entry = record { text = r; resolves = resolves; referred = refl; dated = refl }; spelled = spelled; text_is = is })

-- ---- a text and its length

pub element_parts : (bytes later : List ℕ) (e : Entry) → bytes ≡ text_element e ++ later → bytes ≡ counted (codes "TEXT") (length (canonical e.message)) ++ (canonical e.message ++ later)
element_parts bytes later e h = h ∙ append_assoc (counted (codes "TEXT") (length (canonical e.message))) (canonical e.message) later

pub short_text : (e : Entry) → IsSpelled e → length (canonical e.message) < 2 ^ 64
short_text e h = omega (arith, h.short)

-- a text is the text of one entry
pub same_text : EqualWhereWrittenEqual → (records : List Record) (text : List ℕ) (a b : Entry) → IsTextOf records text a → IsTextOf records text b → a ≡ b
same_text equal records text a b x y = one_entry records a b x.entry y.entry ((equal a.message b.message (canonical a.message) (canonical b.message) x.spelled y.spelled).1 (sym x.text_is ∙ y.text_is))
