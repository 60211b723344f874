-- What is left of a desk while the messages that another has withdrawn leave it.
use Rattle.std.proofs.Common.{◌≡◌, ◌≢◌, ◌⊎◌, ◌↔◌, ◌∙◌, ℕ, ◌<◌, ◌≤◌, ◌+◌, suc, List, [], ◌∷◌, None, Option, Some, Ok, length, cond, inl, inr}
use Rattle.std.proofs.Common.{refl, sym, ap, subst, arith, slice_get, Bool, Err, if◌then◌else◌}
use Rattle.std.specs.Prelude.{IfSome}
use Rattle.std.proofs.lemmas.Bool.{cases_lt}
use Rattle.std.proofs.lemmas.Option.{slice_get_within}
use Rattle.std.proofs.lemmas.Slice.Eq.{bytes_eq-Decides}
use Rattle.std.specs.FinMap.{find, get, remove}
use Rattle.std.specs.Ordering.{is_eq}
use Rattle.std.specs.declared.cmp.Ordering.{Ordering}
use Rattle.std.specs.declared.cmp.Ordering.TheVariants.{Less, Equal, Greater}
use Rattle.ssim_text.specs.Message.{MessageValue}
use Rattle.ssim_text.specs.declared.reference.Reference.{Reference}
use Rattle.ssim_held.proofs.Entries.{get-map_of, held_at}
use Rattle.ssim_held.proofs.References.{reference_apart}
use Rattle.ssim_held.specs.Entries.{AreRising, DeskSeen, Entry, keyed, map_of, state_of}
use Rattle.ssim_held.specs.Held.{HeldMessages, reference_cmp}
use Rattle.ssim_desk.proofs.Taking.{merge_holds}
use Rattle.ssim_desk.specs.declared.steps.Answer.TheVariants.{Merged}
use Rattle.ssim_program.specs.MergingSince.{SinceCommutes, SinceIsMerging, SinceItself, held_by}
use Rattle.ssim_program.specs.MergingSince.{merged_since, older_in}
use Rattle.ssim_program.specs.internal.MergingSince.{IsAmong}
use Rattle.ssim_program.specs.Desks.{IsNoDeskFile, desk_in}
use Rattle.ssim_program.specs.Files.{Files, file_of}
use Rattle.ssim_program.specs.Made.{HasFile, file_limit}
use Rattle.ssim_program.specs.declared.refusal.Refusal.{Refusal}
use Rattle.ssim_command_line.specs.Line.{Text}
use Rattle.ssim_program.proofs.Origins.{kept_file, same_some}
use Rattle.ssim_program.proofs.Withdrawing.{removed, still}

-- ---- what is held afterwards

-- a message that one of the two holds, and the other too if it was held before
abbrev Stays : Option DeskSeen → DeskSeen → DeskSeen → Reference → MessageValue → Type 0
Stays old one other r m = (get (map_of one.held) r ≡ Some m)
    × (get (map_of (held_by old)) r ≡ Some m → get (map_of other.held) r ≡ Some m)

since_holds : (old : Option DeskSeen) (mine theirs after : DeskSeen)
    → merged_since old mine theirs (Ok after) → (r : Reference) (m : MessageValue)
    → (get (map_of after.held) r ≡ Some m) ↔ (Stays old mine theirs r m ⊎ Stays old theirs mine r m)
since_holds old mine theirs after (left, stays, (brought, comes, is_merge)) r m =
    let all = merge_holds (state_of left) (state_of brought) Merged (map_of after.held) is_merge.merges r m in (
      λ h. elim (all.0 h) [ inl l ↦ inl ((stays.holds r m).0 l) | inr b ↦ inr ((comes.holds r m).0 b.1) ],
      λ s. elim s [
        | inl l ↦ all.1 (inl ((stays.holds r m).1 l))
        | inr b ↦ all.1 (inr (refl, (comes.holds r m).1 b))
      ],
    )

pub since_commutes : SinceCommutes
since_commutes old mine theirs one other first second r m =
    let a = since_holds old mine theirs one first r m in
    let b = since_holds old theirs mine other second r m in (
      λ h. b.1 (elim (a.0 h) [ inl s ↦ inr s | inr s ↦ inl s ]),
      λ h. a.1 (elim (b.0 h) [ inl s ↦ inr s | inr s ↦ inl s ]),
    )

pub since_is_merging : SinceIsMerging
since_is_merging old mine theirs after merges both r m =
    let a = since_holds old mine theirs after merges r m in (
      λ h. elim (a.0 h) [ inl s ↦ inl s.0 | inr s ↦ inr s.0 ],
      λ h. elim h [
        | inl s ↦ a.1 (inl (s, λ held. (both r m held).1))
        | inr s ↦ a.1 (inr (s, λ held. (both r m held).0))
      ],
    )

pub since_itself : SinceItself
since_itself old mine after merges r m =
    let a = since_holds (Some old) mine old after merges r m in (
      λ h. elim (a.0 h) [ inl s ↦ s.0 | inr s ↦ s.1 s.0 ],
      λ h. a.1 (inl (h, λ held. held)),
    )

-- ---- an older desk that is not read

-- a file alone is found under its name
pub alone : (name bytes : List ℕ) → file_of ((name, bytes) ∷ []) name ≡ Some bytes
alone name bytes =
    kept_file name name bytes []
    ∙ ap (λ (b : Bool). if b then Some bytes else None) ((bytes_eq-Decides name name).1 refl)

-- bytes that are not empty, and are refused as the file of a desk
pub older_refused : (files : Option Files) (name : Text) (bytes : List ℕ) (why : Refusal)
    → length bytes ≤ file_limit → HasFile files name bytes → bytes ≢ []
    → desk_in (Some ((name, bytes) ∷ [])) name (Err why) → older_in files name (Err why)
older_refused files name bytes why short has some (inl (inl memory)) = inl (inl memory)
older_refused files name bytes why short has some (inl (inr (of_file, missing))) =
    let more : file_limit < length bytes =
    subst (λ (o : Option (List ℕ)). IfSome o (λ bs. file_limit < length bs)) (alone name bytes)
    missing in
    absurd (omega (arith, short, more))
older_refused files name bytes why short has some (inr (other, there, (none, offset, is))) =
    let same : other ≡ bytes = same_some other bytes (sym there.1 ∙ alone name bytes) in
    inr (bytes, has, (some, (subst IsNoDeskFile same none, offset, is)))

-- ---- one of the first messages

-- one of the first n entries is this message under this reference
abbrev pub IsFirst : ℕ → List Entry → Reference → MessageValue → Type 0
IsFirst n es r m = (k : ℕ) × (k < n) × (e : Entry) × (slice_get es k ≡ Some e)
    × (r ≡ e.reference) × (m ≡ e.message)

-- what is found is one of the entries
found_first : (es : List Entry) (r : Reference) (m : MessageValue)
    → find reference_cmp r (keyed es) ≡ Some m → IsFirst (length es) es r m
found_first [] r m found = cc
found_first (e ∷ es) r m found = by (reference_cmp r e.reference) refl found (found_first es r m)
  where
    later : IsFirst (length es) es r m → IsFirst (length (e ∷ es)) (e ∷ es) r m
    later (k, lt, x, at, same, is) = (suc k, omega (arith, lt), x, at, same, is)

    by : (o : Ordering) → reference_cmp r e.reference ≡ o
        → cond (is_eq o) (Some e.message) (find reference_cmp r (keyed es)) ≡ Some m
        → (find reference_cmp r (keyed es) ≡ Some m → IsFirst (length es) es r m)
        → IsFirst (length (e ∷ es)) (e ∷ es) r m
    by Less at h more = later (more h)
    by Greater at h more = later (more h)
    by Equal at h more = (0, omega arith, e, refl, reference_apart r e.reference at, cc)

-- a message is held exactly if it is one of the entries
pub first_held : (es : List Entry) (r : Reference) (m : MessageValue) → AreRising es
    → IsFirst (length es) es r m ↔ (get (map_of es) r ≡ Some m)
first_held es r m rising = (
  λ (k, lt, e, at, same, is). ap (get (map_of es)) same ∙ held_at es k e rising at ∙ ap Some (sym is),
  λ held. found_first es r m (sym (get-map_of es r rising) ∙ held),
)

-- ---- what is left after some messages were looked at

-- of the first n messages of before, those are gone from the desk that the other does not hold
abbrev pub AreGone : ℕ → List Entry → HeldMessages → HeldMessages → HeldMessages → Type 0
AreGone n before other desk left = (r : Reference) (m : MessageValue)
    → (get left r ≡ Some m)
    ↔ ((get desk r ≡ Some m) × (IsFirst n before r m → get other r ≡ Some m))

pub none_gone : (before : List Entry) (other desk : HeldMessages) → AreGone 0 before other desk desk
none_gone before other desk r m = (
  λ held. (held, λ f. absurd (let never : f.0 < 0 = f.1 in omega (arith, never))),
  λ h. h.0,
)

sooner : (n : ℕ) (before : List Entry) (r : Reference) (m : MessageValue) → IsFirst n before r m
    → IsFirst (n + 1) before r m
sooner n before r m (k, lt, e, at, same, is) = (k, omega (arith, lt), e, at, same, is)

-- one of the first n + 1 messages is among the first n, or is the next one
data IsNext (n : ℕ) (before : List Entry) (e : Entry) (r : Reference) (m : MessageValue) : Type 0 where
  earlier : IsFirst n before r m → IsNext n before e r m
  this : r ≡ e.reference → m ≡ e.message → IsNext n before e r m

which : (n : ℕ) (before : List Entry) (e : Entry) (r : Reference) (m : MessageValue)
    → slice_get before n ≡ Some e → IsFirst (n + 1) before r m → IsNext n before e r m
which n before e r m at (k, lt, x, is, same, equal) = by (cases_lt k n)
  where
    by : (k < n) ⊎ (n ≤ k) → IsNext n before e r m
    by (inl less) = earlier (k, less, x, is, same, equal)
    by (inr not_less) =
        let here : k ≡ n = omega (arith, lt, not_less) in
        let one : Some x ≡ Some e =
        sym is ∙ ap (slice_get before) here ∙ at in
        let x_is : x ≡ e = cc in
        this (same ∙ ap (λ (y : Entry). y.reference) x_is) (equal ∙ ap (λ (y : Entry). y.message) x_is)

module _ (n : ℕ) (before others : List Entry) (desk left next : HeldMessages) (e : Entry)
    (at : slice_get before n ≡ Some e) (so_far : AreGone n before (map_of others) desk left) where
  -- the next message leaves the desk
  pub one_gone : get desk e.reference ≡ Some e.message → (IsAmong others e → ⊥)
      → next ≡ remove left e.reference → AreGone (n + 1) before (map_of others) desk next
  one_gone held not_held is r m = (λ h. there (subst (λ (x : HeldMessages). get x r ≡ Some m) is h), back)
    where
      there : get (remove left e.reference) r ≡ Some m → (get desk r ≡ Some m)
          × (IsFirst (n + 1) before r m → get (map_of others) r ≡ Some m)
      there h =
          let kept = removed left e.reference r m h in
          let old = (so_far r m).0 kept.0 in (
            old.0,
            λ first. elim (which n before e r m at first) [
              | earlier f ↦ old.1 f
              | this same equal ↦ absurd (kept.1 same)
            ],
          )

      back : (get desk r ≡ Some m) × (IsFirst (n + 1) before r m → get (map_of others) r ≡ Some m)
          → get next r ≡ Some m
      back h = subst (λ (x : HeldMessages). get x r ≡ Some m) (sym is)
          (still left e.reference r m ((so_far r m).1 (h.0, λ f. h.1 (sooner n before r m f))) apart)
        where
          apart : r ≢ e.reference
          apart same =
              let message : Some m ≡ Some e.message = sym h.0 ∙ ap (get desk) same ∙ held in
              let equal : m ≡ e.message = cc in
              not_held (sym (ap (get (map_of others)) same)
              ∙ h.1 (n, omega arith, e, at, same, equal) ∙ ap Some equal)

  -- the next message stays, if the desk holds it
  pub one_stays : (get desk e.reference ≡ Some e.message → IsAmong others e)
      → AreGone (n + 1) before (map_of others) desk left
  one_stays both r m = (
    λ h. let old = (so_far r m).0 h in (
      old.0,
      λ first. elim (which n before e r m at first) [
        | earlier f ↦ old.1 f
        | this same equal ↦ ap (get (map_of others)) same
            ∙ both (sym (ap (get desk) same) ∙ old.0 ∙ ap Some equal) ∙ ap Some (sym equal)
      ],
    ),
    λ h. (so_far r m).1 (h.0, λ f. h.1 (sooner n before r m f)),
  )

-- all messages were looked at
pub all_gone : (n : ℕ) (before : List Entry) (other desk left : HeldMessages) → AreRising before
    → length before ≤ n → AreGone n before other desk left → (r : Reference) (m : MessageValue)
    → (get left r ≡ Some m)
    ↔ ((get desk r ≡ Some m) × (get (map_of before) r ≡ Some m → get other r ≡ Some m))
all_gone n before other desk left rising all gone r m =
    let first = first_held before r m rising in (
      λ h. let old = (gone r m).0 h in (old.0, λ held. old.1 (more (first.1 held))),
      λ h. (gone r m).1 (h.0, λ f. h.1 (first.0 (fewer f))),
    )
  where
    more : IsFirst (length before) before r m → IsFirst n before r m
    more (k, lt, e, at, same, is) = (k, omega (arith, lt, all), e, at, same, is)

    fewer : IsFirst n before r m → IsFirst (length before) before r m
    fewer (k, lt, e, at, same, is) = (k, slice_get_within before k e at, e, at, same, is)
