-- A refusal for a conflict comes of a text, or of two desks, and these name the two messages.
use Rattle.std.proofs.Common.{Bool, false, ◌≡◌, ◌⊎◌, ◌∙◌, inl, inr, ℕ, List, [], ◌∷◌, ◌++◌, Option, None, Some}
use Rattle.std.proofs.Common.{Result, Ok, Err, true, true≢false, nat_eq, refl, sym, ap, subst, codes}
use Rattle.std.proofs.Common.{slice_index_or}
use Rattle.std.specs.FinMap.{get}
use Rattle.std.specs.Fmt.{digits}
use Rattle.ssim_text.specs.Grammar.{OneMessage}
use Rattle.ssim_text.specs.Message.{MessageValue}
use Rattle.ssim_text.specs.declared.reference.Reference.{Reference}
use Rattle.ssim_base.specs.BaseSeen.{BaseSeen}
use Rattle.ssim_held.specs.Entries.{DeskSeen, map_of, state_of}
use Rattle.ssim_held.specs.File.{desk_file}
use Rattle.ssim_held.specs.Held.{Holds, Says}
use Rattle.ssim_held.specs.declared.fault.DeskFault.{DeskFault}
use Rattle.ssim_held.specs.declared.fault.DeskFault.TheVariants as desk_fault
use Rattle.ssim_desk.proofs.Taking.{take_holds}
use Rattle.ssim_desk.specs.Deliveries.{is_accepted}
use Rattle.ssim_desk.specs.Desk.{take_answer}
use Rattle.ssim_desk.specs.Steps.{RefusesDesk, RefusesText}
use Rattle.ssim_command_line.specs.Line.{Text}
use Rattle.ssim_program.specs.Acts.{Act, Acts, Print, Keep, Stop}
use Rattle.ssim_program.specs.Answers.{merge, merge_since, take, take_each}
use Rattle.ssim_program.specs.Carrying.{IsFirstConflict}
use Rattle.ssim_program.specs.Conflicts.{CarryMeetsTwo, EndsWith, HasTwo, MergeMeetsTwo, TakeMeetsTwo}
use Rattle.ssim_program.specs.Conflicts.{MergeSinceMeetsTwo, conflict}
use Rattle.ssim_program.specs.Desks.{desk_in, text_taken}
use Rattle.ssim_program.specs.Files.{Files}
use Rattle.ssim_program.specs.Made.{RefusesLoad}
use Rattle.ssim_program.specs.MergingSince.{merged_since, older_in}
use Rattle.ssim_program.specs.Offices.{IsSaid}
use Rattle.ssim_program.specs.Places.{place_in}
use Rattle.ssim_program.specs.print.Effects.{effects, effects_then}
use Rattle.ssim_program.specs.print.Refusal.{IsMemory, IsOfFile, refusal_number, refusal_text}
use Rattle.ssim_program.specs.declared.content_kind.ContentKind.{ContentKind}
use Rattle.ssim_program.specs.declared.content_kind.ContentKind.TheVariants as kind
use Rattle.ssim_program.specs.declared.refusal.Refusal.{Refusal}
use Rattle.ssim_program.specs.declared.refusal.Refusal.TheVariants as refused

-- ---- a 60 is no other refusal

no_memory : (r : Reference) → IsMemory (conflict r) → ⊥
no_memory r e = absurd cc

-- the first digit of the number in the line of a refusal
abbrev digit : List ℕ → ℕ
digit line = slice_index_or line 8 0

six_or_nine : ◌≡◌ {A = ℕ} 54 57 → ⊥
six_or_nine e = true≢false (ap (nat_eq 54) e)

not_91 : (r : Reference) (name : Text) → IsOfFile 91 (codes "File") name (conflict r) → ⊥
unfolding digits
not_91 r name (inl memory) = no_memory r memory
not_91 r name (inr line) = six_or_nine (ap digit line)

not_92 : (r : Reference) (name : Text) → IsOfFile 92 (codes "Busy") name (conflict r) → ⊥
unfolding digits
not_92 r name (inl memory) = no_memory r memory
not_92 r name (inr line) = six_or_nine (ap digit line)

not_93 : (r : Reference) (name : Text) → IsOfFile 93 (codes "Occupied") name (conflict r) → ⊥
unfolding digits
not_93 r name (inl memory) = no_memory r memory
not_93 r name (inr line) = six_or_nine (ap digit line)

loaded : (files : Option Files) (name : Text) (r : Reference) → RefusesLoad files name (conflict r) → ⊥
loaded files name r (inl memory) = no_memory r memory
loaded files name r (inr (of_file, missing)) = not_91 r name of_file

opened : (files : Option Files) (name : Text) (r : Reference) → desk_in files name (Err (conflict r))
    → ⊥
opened files name r (inl not_so) = loaded files name r not_so
opened files name r (inr (bytes, has, (none, offset, is))) = absurd (is_file offset r is)
  where
    is_file : (offset : ℕ) (r : Reference) → conflict r ≡ refused.Desk (desk_fault.File offset) → ⊥
    is_file offset r e = absurd cc

placed : (files : Option Files) (name : Text) (kind : ContentKind) (r : Reference)
    → place_in files name kind (Err (conflict r)) → ⊥
placed files name kind r (inl memory) = no_memory r memory
placed files name kind r (inr (inl (of_file, occupied))) = not_93 r name of_file
placed files name kind r (inr (inr (inl (of_file, none)))) = not_92 r name of_file
placed files name kind r (inr (inr (inr (of_file, none)))) = not_91 r name of_file

same_fault : (fault other : DeskFault) → refused.Desk fault ≡ refused.Desk other → other ≡ fault
same_fault fault other is = cc

-- ---- texts

-- the messages that a desk holds and that texts say, under a reference
abbrev Offered : Files → DeskSeen → List Text → Reference → MessageValue → Type 0
Offered files desk texts r m = Holds (state_of desk) r m ⊎ IsSaid files desk.base texts r m

kept_or_stopped : (name : Text) (bytes : List ℕ) (why : Refusal) → Keep name bytes ≡ Stop why → ⊥
kept_or_stopped name bytes why is = absurd cc

printed_or_stopped : (bytes : List ℕ) (why : Refusal) → Print bytes ≡ Stop why → ⊥
printed_or_stopped bytes why is = absurd cc

no_end : (before : List Act) (why : Refusal) → [] ≡ before ++ Stop why ∷ [] → ⊥
no_end [] why e = absurd cc
no_end (x ∷ before) why e = absurd cc

last_of : (act : Act) (before later : List Act) (why : Refusal) → act ∷ later ≡ before ++ Stop why ∷ []
    → (act ≡ Stop why) ⊎ EndsWith why later
last_of act [] later why is = inl cc
last_of act (x ∷ before) later why is = inr (before, cc)

-- acts that are one refusal end with it
same_refusal : (why other : Refusal) (before : List Act) → Stop other ∷ [] ≡ before ++ Stop why ∷ []
    → other ≡ why
same_refusal why other [] is = cc
same_refusal why other (x ∷ before) is = absurd (no_end before why cc)

-- a desk that is kept at the end is no refusal, and neither are the effects before it
not_kept : (desk : DeskSeen) (out : Text) (why : Refusal) (before : List Act)
    → Keep out (desk_file desk.base desk.held) ∷ [] ≡ before ++ Stop why ∷ [] → ⊥
not_kept desk out why before ends = by (last_of _ before [] why ends)
  where
    by : (Keep out (desk_file desk.base desk.held) ≡ Stop why) ⊎ EndsWith why [] → ⊥
    by (inl is) = kept_or_stopped out (desk_file desk.base desk.held) why is
    by (inr (xs, e)) = no_end xs why e

not_at_the_end : (first desk : DeskSeen) (out : Text) (asked : Bool) (why : Refusal) (before : List Act)
    → effects_then asked first desk (Keep out (desk_file desk.base desk.held) ∷ [])
    ≡ before ++ Stop why ∷ [] → ⊥
not_at_the_end first desk out false why before ends = not_kept desk out why before ends
not_at_the_end first desk out true why before ends = by (last_of _ before _ why ends)
  where
    by : (Print (effects first desk) ≡ Stop why)
        ⊎ EndsWith why (Keep out (desk_file desk.base desk.held) ∷ []) → ⊥
    by (inl is) = printed_or_stopped (effects first desk) why is
    by (inr (xs, e)) = not_kept desk out why xs e

module _ (one : OneMessage) (files : Files) (effects : Bool) (first : DeskSeen) (out : Text)
    (r : Reference) where
  -- a text is refused
  text_conflict : (name : Text) (names : List Text) (desk : DeskSeen)
      → text_taken (Some files) name desk (Err (conflict r))
      → HasTwo (Offered files desk (name ∷ names) r)
  text_conflict name names desk (inl not_so) = absurd (loaded (Some files) name r not_so)
  text_conflict name names desk (inr (text, has, (fault, refuses, is))) =
      let c = subst (RefusesText (state_of desk) text) (same_fault (desk_fault.Conflict r) fault is)
      refuses in
      (c.other, c.message, c.apart, inl c.holds, inr (inl (text, has, c.says)))

  -- what is held after a text was offered before it
  earlier : (name : Text) (names : List Text) (desk mid : DeskSeen) (line : List ℕ) (m : MessageValue)
      → text_taken (Some files) name desk (Ok (mid, line)) → Offered files mid names r m
      → Offered files desk (name ∷ names) r m
  earlier name names desk mid line m (text, has, (answer, reference, taken, is)) (inl holds) =
      by ((take_holds one (state_of desk) text (take_answer (Ok (answer, reference))) (map_of mid.held)
      taken.takes r m).0 holds)
    where
      by : (get (map_of desk.held) r ≡ Some m)
          ⊎ ((is_accepted (take_answer (Ok (answer, reference))) ≡ true) × Says desk.base text r m)
          → Offered files desk (name ∷ names) r m
      by (inl h) = inl h
      by (inr s) = inr (inl (text, has, s.1))
  earlier name names desk mid line m (text, has, (answer, reference, taken, is)) (inr said) =
      inr (inr (subst (λ (b : BaseSeen). IsSaid files b names r m) taken.base said))

  also_earlier : (name : Text) (names : List Text) (desk mid : DeskSeen) (line : List ℕ)
      → text_taken (Some files) name desk (Ok (mid, line)) → HasTwo (Offered files mid names r)
      → HasTwo (Offered files desk (name ∷ names) r)
  also_earlier name names desk mid line taken (m, n, apart, mine, theirs) = (
    m,
    n,
    apart,
    earlier name names desk mid line m taken mine,
    earlier name names desk mid line n
        taken theirs,
  )

  -- none of the texts is taken
  at_once : (names : List Text) (desk : DeskSeen)
      → take_each (Some files) effects first out names desk (Err (conflict r)) → HasTwo (Offered files desk names r)
  at_once [] desk memory = absurd (no_memory r memory)
  at_once (name ∷ names) desk (inl refused) = text_conflict name names desk refused
  at_once (name ∷ names) desk (inr (made, taken, never)) = absurd never

  through : (names : List Text) (desk : DeskSeen) (later : List Act)
      → take_each (Some files) effects first out names desk (Ok later)
      ⊎ ((why : Refusal) × take_each (Some files) effects first out names desk (Err why)
      × (later ≡ Stop why ∷ []))
      → EndsWith (conflict r) later
      → (take_each (Some files) effects first out names desk (Ok later) → HasTwo (Offered files desk names r))
      → HasTwo (Offered files desk names r)
  through names desk later (inl takes) more again = again takes
  through names desk later (inr (why, not_so, is)) more again =
      let same = same_refusal (conflict r) why more.0 (sym is ∙ more.1) in
      at_once names desk (subst (λ (x : Refusal). take_each (Some files) effects first out names desk (Err x)) same
      not_so)

  after_some : (names : List Text) (desk : DeskSeen) (acts : List Act)
      → take_each (Some files) effects first out names desk (Ok acts) → EndsWith (conflict r) acts
      → HasTwo (Offered files desk names r)
  after_some [] desk acts (rising, are) (before, ends) =
      absurd (not_at_the_end first desk out effects (conflict r) before (sym are ∙ ends))
  after_some (name ∷ names) desk acts (made, taken, (later, rest, are)) (before, ends) =
      by (last_of _ before later (conflict r) (sym are ∙ ends))
      (λ more. through names made.0 later rest more
      (λ takes. after_some names made.0 later takes more))
    where
      by : (Print made.1 ≡ Stop (conflict r)) ⊎ EndsWith (conflict r) later
          → (EndsWith (conflict r) later → HasTwo (Offered files made.0 names r))
          → HasTwo (Offered files desk (name ∷ names) r)
      by (inl is) next = absurd (printed_or_stopped made.1 (conflict r) is)
      by (inr more) next = also_earlier name names desk made.0 made.1 taken (next more)

-- ---- the commands

pub take_meets_two : OneMessage → TakeMeetsTwo
take_meets_two one files effects name out texts acts r (inl (_, may, (desk, read, takes))) ends =
    (desk, read, after_some one files effects desk out r texts desk acts takes ends)
take_meets_two one files effects name out texts acts r (inr (why, not_so, is)) (before, ends) =
    by (subst (λ (x : Refusal). take (Some files) effects name out texts (Err x))
    (same_refusal (conflict r) why before (sym is ∙ ends)) not_so)
  where
    by : take (Some files) effects name out texts (Err (conflict r)) → (desk : DeskSeen)
        × desk_in (Some files) name (Ok desk) × HasTwo (Offered files desk texts r)
    by (inl not_held) = absurd (placed (Some files) out kind.DeskFile r not_held)
    by (inr (_, may, inl not_read)) = absurd (opened (Some files) name r not_read)
    by (inr (_, may, inr (desk, read, takes))) =
        (desk, read, at_once one files effects desk out r texts desk takes)

pub merge_meets_two : MergeMeetsTwo
merge_meets_two files effects mine theirs out r (inl not_held) =
    absurd (placed (Some files) out kind.DeskFile r not_held)
merge_meets_two files effects mine theirs out r (inr (_, may, inl not_read)) =
    absurd (opened (Some files) mine r not_read)
merge_meets_two files effects mine theirs out r (inr (_, may, inr (one, read, inl not_read))) =
    absurd (opened (Some files) theirs r not_read)
merge_meets_two files effects mine theirs out r
    (inr (_, may, inr (one, read, inr (other, reads, inl (fault, refuses, is))))) =
    let c = (subst (RefusesDesk (state_of one) (state_of other))
    (same_fault (desk_fault.Conflict r) fault is) refuses).1.differ in
    (one, other, read, reads, (c.one, c.other, c.apart, inl c.in_one, inr c.in_other))
merge_meets_two files effects mine theirs out r
    (inr (_, may, inr (one, read, inr (other, reads, inr (after, merges, memory))))) =
    absurd (no_memory r memory)

-- an older desk is not refused for a conflict
opened_older : (files : Option Files) (name : Text) (r : Reference)
    → older_in files name (Err (conflict r)) → ⊥
opened_older files name r (inl not_read) = opened files name r (inl not_read)
opened_older files name r (inr (bytes, has, refuses)) = opened files name r (inr (bytes, has, refuses.1))

not_over : (r : Reference) → conflict r ≡ refused.Desk desk_fault.OtherBase → ⊥
not_over r e = absurd cc

pub merge_since_meets_two : MergeSinceMeetsTwo
merge_since_meets_two files effects since mine theirs out r (inl not_held) =
    absurd (placed (Some files) out kind.DeskFile r not_held)
merge_since_meets_two files effects since mine theirs out r (inr (_, may, inl not_read)) =
    absurd (opened_older (Some files) since r not_read)
merge_since_meets_two files effects since mine theirs out r
    (inr (_, may, inr (old, older, inl not_read))) =
    absurd (opened (Some files) mine r not_read)
merge_since_meets_two files effects since mine theirs out r
    (inr (_, may, inr (old, older, inr (one, read, inl not_read)))) =
    absurd (opened (Some files) theirs r not_read)
merge_since_meets_two files effects since mine theirs out r
    (inr (_, may, inr (old, older, inr (one, read, inr (other, reads, inl (apart, is)))))) =
    absurd (not_over r is)
merge_since_meets_two files effects since mine theirs out r
    (inr (_, may, inr (old, older, inr (one, read, inr (other, reads, inr (_, over, inl merges)))))) =
    (one, other, read, reads, by merges)
  where
    by : merged_since old one other (Err (conflict r))
        → HasTwo (λ m. Holds (state_of one) r m ⊎ Holds (state_of other) r m)
    by (inl memory) = absurd (no_memory r memory)
    by (inr (left, stays, inl memory)) = absurd (no_memory r memory)
    by (inr (left, stays, inr (brought, comes, (fault, refuses, is)))) =
        let c = (subst (RefusesDesk (state_of left) (state_of brought))
        (same_fault (desk_fault.Conflict r) fault is) refuses).1.differ in (
          c.one,
          c.other,
          c.apart,
          inl ((stays.holds r c.one).0 c.in_one).0,
          inr ((comes.holds r c.other).0 c.in_other).0,
        )
merge_since_meets_two files effects since mine theirs out r (inr (
  _,
  may,
  inr (
    old,
    older,
    inr (one, read, inr (other, reads, inr (_, over, inr (after, merges, memory)))),
  ),
)) =
    absurd (no_memory r memory)

pub carry_meets_two : CarryMeetsTwo
carry_meets_two files effects mine theirs out r (inl not_held) =
    absurd (placed (Some files) out kind.DeskFile r not_held)
carry_meets_two files effects mine theirs out r (inr (_, may, inl not_read)) =
    absurd (opened (Some files) mine r not_read)
carry_meets_two files effects mine theirs out r (inr (_, may, inr (one, read, inl not_read))) =
    absurd (opened (Some files) theirs r not_read)
carry_meets_two files effects mine theirs out r
    (inr (_, may, inr (one, read, inr (other, reads, inl (apart, is))))) = absurd (other_base r is)
  where
    other_base : (r : Reference) → conflict r ≡ refused.Desk desk_fault.OtherBase → ⊥
    other_base r e = absurd cc
carry_meets_two files effects mine theirs out r
    (inr (_, may, inr (one, read, inr (other, reads, inr (_, alike, inl (inl memory)))))) =
    absurd (no_memory r memory)
carry_meets_two files effects mine theirs out r
    (inr (_, may, inr (one, read, inr (other, reads, inr (_, alike, inl (inr (q, first, is))))))) =
    let same : q ≡ r = same_reference q r is in
    let c = (subst (IsFirstConflict one other) same first).conflict in
    (one, other, read, reads, (c.one, c.other, c.apart, inl c.holds, inr c.carried.0))
  where
    same_reference : (q r : Reference) → conflict r ≡ refused.Desk (desk_fault.Conflict q) → q ≡ r
    same_reference q r e = cc
carry_meets_two files effects mine theirs out r
    (inr (_, may, inr (one, read, inr (other, reads, inr (_, alike, inr (made, carries, memory)))))) =
    absurd (no_memory r memory)
