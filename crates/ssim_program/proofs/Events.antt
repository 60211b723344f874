-- Each call of the program is one event: of the acts that it has done, all that keep a file are done,
-- or
-- none, but for the refused texts of `receive`.
use Rattle.std.proofs.Common.{◌≡◌, ◌∙◌, ◌⊎◌, ◌&&◌, inl, inr, ℕ, Bool, true, false, List, [], ◌∷◌, ◌++◌}
use Rattle.std.proofs.Common.{Option, Some, None, Result, Ok, Err, refl, sym, ap, subst, drop, length}
use Rattle.ssim_held.specs.Entries.{DeskSeen}
use Rattle.ssim_held.specs.File.{desk_file}
use Rattle.ssim_command_line.specs.Line.{Line, Text}
use Rattle.ssim_command_line.specs.Line as line
use Rattle.ssim_command_line.specs.Usage.{Names}
use Rattle.ssim_command_line.specs.declared.command_line.ReceiveForm.{ReceiveForm}
use Rattle.ssim_program.specs.Acts.{Act, Acts, Print, Keep, Find, Stop, found_then, is_whole, kept_by}
use Rattle.ssim_program.specs.Answers.{answers, take_each}
use Rattle.ssim_program.specs.Files.{Files, Kept, with_kept}
use Rattle.ssim_program.specs.Calls.{CommandsAreEvents, Continues, GoesOn, IsCall, IsEventOf, Leads}
use Rattle.ssim_program.specs.Offices.{Event, Happened, History, Leaves, Then, files_of}
use Rattle.ssim_program.specs.Offices.{StartKept, TakeKept, ReceiveKept, MergeKept, MergeSinceKept, CarryKept}
use Rattle.ssim_program.specs.Offices.{WithdrawKept, Unchanged, Came, AllCame}
use Rattle.ssim_program.specs.Receiving.{Receipt, any_refused, printed_receipts, received_files}
use Rattle.ssim_program.specs.Receiving.{refused_texts}
use Rattle.ssim_program.specs.Desks.{held_line}
use Rattle.ssim_program.specs.Runs.{Runs, RunsPlainly, command_words}
use Rattle.ssim_program.specs.World.{World}
use Rattle.ssim_program.specs.print.Effects.{with_effects}
use Rattle.ssim_program.specs.print.Paper.{Paper}
use Rattle.ssim_program.specs.print.StationNotes.{start_lines}
use Rattle.ssim_program.specs.declared.refusal.Refusal.{Refusal}
use Rattle.ssim_program.proofs.Acting.{performed}
use Rattle.ssim_program.proofs.EffectLines.{then_kept, then_whole}
use Rattle.ssim_program.proofs.Origins.{same_some}
use Rattle.ssim_program.proofs.Taking.{without}

-- ---- what some of the acts have kept

kept_apart : (done later : List Act) → kept_by (done ++ later) ≡ kept_by done ++ kept_by later
kept_apart [] later = refl
kept_apart (Print bytes ∷ done) later = kept_apart done later
kept_apart (Keep name bytes ∷ done) later =
    ap (λ (k : Kept). (name, bytes) ∷ k) (kept_apart done later)
kept_apart (Find ∷ done) later = kept_apart done later
kept_apart (Stop why ∷ done) later = kept_apart done later

-- to say that something was found keeps no file
kept_too : (found : Bool) (acts : List Act) → kept_by (found_then found acts) ≡ kept_by acts
kept_too true acts = refl
kept_too false acts = refl

none_of : (one other : Kept) → one ++ other ≡ [] → one ≡ []
none_of [] other e = refl
none_of (x ∷ one) other e = absurd cc

one_of : (one other : Kept) (x : Text × List ℕ) → one ++ other ≡ x ∷ [] → (one ≡ []) ⊎ (one ≡ x ∷ [])
one_of [] other x e = inl refl
one_of (y ∷ one) other x e =
    let same : y ≡ x = cc in
    let rest : one ≡ [] = none_of one other (ap (drop 1) e) in
    inr cc

two_of : (one other : Kept) (x y : Text × List ℕ) → one ++ other ≡ x ∷ y ∷ [] → (one ≡ [])
    ⊎ ((one ≡ x ∷ []) ⊎ (one ≡ x ∷ y ∷ []))
two_of [] other x y e = inl refl
two_of (z ∷ one) other x y e = by (one_of one other y (ap (drop 1) e))
  where
    same : z ≡ x
    same = cc

    by : (one ≡ []) ⊎ (one ≡ y ∷ []) → (z ∷ one ≡ []) ⊎ ((z ∷ one ≡ x ∷ []) ⊎ (z ∷ one ≡ x ∷ y ∷ []))
    by (inl is) = inr (inl cc)
    by (inr is) = inr (inr cc)

-- ---- one call

module _ (l : Line) (old new : Files) (acts done later : List Act) (split : acts ≡ done ++ later)
    (left : Some new ≡ with_kept (kept_by done) (Some old)) where
  all : kept_by done ++ kept_by later ≡ kept_by acts
  all = sym (ap kept_by split ∙ kept_apart done later)

  same_files : (kept : Kept) → kept_by done ≡ kept → Some new ≡ with_kept kept (Some old)
  same_files kept is = left ∙ ap (λ (k : Kept). with_kept k (Some old)) is

  unchanged : kept_by done ≡ [] → Leads l old new
  unchanged is =
      record { event = Unchanged; is = inr refl; leaves = same_some new old (same_files [] is) }

  -- no file is kept
  pub looks : kept_by acts ≡ [] → Leads l old new
  looks is = unchanged (none_of (kept_by done) (kept_by later) (all ∙ is))

  -- one file is kept, or not yet
  pub keeps_one : (x : Text × List ℕ) (event : Event) → kept_by acts ≡ x ∷ [] → IsEventOf l event
      → (Some new ≡ with_kept (kept_by acts) (Some old) → Leaves event old new) → Leads l old new
  keeps_one x event is of leaves = by (one_of (kept_by done) (kept_by later) x (all ∙ is))
    where
      by : (kept_by done ≡ []) ⊎ (kept_by done ≡ x ∷ []) → Leads l old new
      by (inl nothing) = unchanged nothing
      by (inr one) =
          record {
            event = event;
            is = inl of;
            leaves =
                leaves (same_files (kept_by acts) (one ∙ sym is));
          }

  -- two files are kept, or the first of them, or none
  pub keeps_two : (x y : Text × List ℕ) (event : Event) → kept_by acts ≡ x ∷ y ∷ [] → IsEventOf l event
      → IsEventOf l (Came x.0 x.1)
      → (Some new ≡ with_kept (kept_by acts) (Some old) → Leaves event old new)
      → Leads l old new
  keeps_two x y event is of first leaves = by (two_of (kept_by done) (kept_by later) x y (all ∙ is))
    where
      by : (kept_by done ≡ []) ⊎ ((kept_by done ≡ x ∷ []) ⊎ (kept_by done ≡ x ∷ y ∷ []))
          → Leads l old new
      by (inl nothing) = unchanged nothing
      by (inr (inl one)) =
          record {
            event = Came x.0 x.1;
            is = inl first;
            leaves =
                same_some new (x ∷ old) (same_files (x ∷ []) one);
          }
      by (inr (inr both)) =
          record {
            event = event;
            is = inl of;
            leaves =
                leaves (same_files (kept_by acts) (both ∙ sym is));
          }

-- a desk is kept, and lines are printed
abbrev keeps_desk : Text → DeskSeen → List ℕ → List Act
keeps_desk out desk lines = Keep out (desk_file desk.base desk.held) ∷ Print lines ∷ []

-- texts are taken, and the desk is kept; or the command stops, and keeps nothing
taken : (files : Option Files) (effects : Bool) (first : DeskSeen) (out : Text) (names : List Text)
    (desk : DeskSeen) (acts : List Act) → take_each files effects first out names desk (Ok acts)
    → (kept_by acts ≡ []) ⊎ ((x : Text × List ℕ) × (kept_by acts ≡ x ∷ []) × (is_whole acts ≡ true))
taken files effects first out [] desk acts (rising, are) =
    let keep = Keep out (desk_file desk.base desk.held) ∷ [] in
    inr (
      _,
      ap kept_by are ∙ then_kept first desk keep effects,
      ap is_whole are ∙ then_whole first desk keep effects,
    )
taken files effects first out (name ∷ names) desk acts (made, one, (later, inl rest, are)) =
    by (taken files effects first out names made.0 later rest)
  where
    by : (kept_by later ≡ [])
        ⊎ ((x : Text × List ℕ) × (kept_by later ≡ x ∷ []) × (is_whole later ≡ true))
        → (kept_by acts ≡ [])
        ⊎ ((x : Text × List ℕ) × (kept_by acts ≡ x ∷ []) × (is_whole acts ≡ true))
    by (inl none) = inl (ap kept_by are ∙ none)
    by (inr (x, kept, whole)) = inr (x, ap kept_by are ∙ kept, ap is_whole are ∙ whole)
taken files effects first out (name ∷ names) desk acts
    (made, one, (later, inr (why, not_so, is), are)) =
    inl (ap kept_by are ∙ ap kept_by is)

module _ (old new : Files) (acts done later : List Act) (split : acts ≡ done ++ later)
    (left : Some new ≡ with_kept (kept_by done) (Some old)) where
  -- what `receive` keeps, whatever it prints and its status says
  kept_of : (refused : Option Text) (found : Bool) (printed : List ℕ) (out : Text)
      (receipts : List Receipt) (after : DeskSeen)
      → acts ≡ found_then found (Print printed ∷ received_files refused out receipts after)
      → kept_by acts ≡ kept_by (received_files refused out receipts after)
  kept_of refused found printed out receipts after are = ap kept_by are
      ∙ kept_too found (Print printed ∷ received_files refused out receipts after)

  -- what `receive` prints
  abbrev lines : ReceiveForm → DeskSeen → List Receipt × DeskSeen → List ℕ
  lines form before result =
      with_effects form.effects before result.1 (printed_receipts form.csv result.0)

  received : (refused : Option Text) (form : ReceiveForm) (desk out : Text) (names : List Text)
      → answers (line.Receive refused form desk out names) (Some old) (Ok acts)
      → Leads (line.Receive refused form desk out names) old new
  received None form desk out names (_, places, (before, read, (result, got, are))) =
      let found = form.status && any_refused result.0 in
      let kept = kept_of None found (lines form before result) out result.0 result.1 are in
      keeps_one (line.Receive None form desk out names) old new acts done later split left _
      (ReceiveKept None desk out names result.0) kept (inl (result.0, refl)) (λ is. (
        result.1,
        (before, read, got),
        is ∙ ap (λ (k : Kept). with_kept k (Some old)) kept,
      ))
  received (Some name) form desk out names (_, places, (before, read, (result, got, are))) =
      let found = form.status && any_refused result.0 in
      let kept = kept_of (Some name) found (lines form before result) out result.0 result.1 are in
      keeps_two (line.Receive (Some name) form desk out names) old new acts done later split left
      (name, refused_texts result.0) _ (ReceiveKept (Some name) desk out names result.0)
      kept (inl (result.0, refl))
      (inr (name, refused_texts result.0, refl, refl)) (λ is. (
        result.1,
        (before, read, got),
        is ∙ ap (λ (k : Kept). with_kept k (Some old)) kept,
      ))

  took : (effects : Bool) (desk out : Text) (texts : List Text)
      → answers (line.Take effects desk out texts) (Some old) (Ok acts)
      → Leads (line.Take effects desk out texts) old new
  took effects desk out texts (_, may, (one, read, takes)) =
      by (taken (Some old) effects one out texts one acts takes)
    where
      by : (kept_by acts ≡ [])
          ⊎ ((x : Text × List ℕ) × (kept_by acts ≡ x ∷ []) × (is_whole acts ≡ true))
          → Leads (line.Take effects desk out texts) old new
      by (inl none) =
          looks (line.Take effects desk out texts) old new acts done later split left none
      by (inr (x, kept, whole)) =
          let less = without (Some old) effects one out texts one acts takes whole in
          keeps_one (line.Take effects desk out texts) old new acts done later split left x
          (TakeKept desk out texts) kept refl (λ is. (
            less.others,
            (tt, may, (one, read, less.takes)),
            less.whole,
            is ∙ ap (λ (k : Kept). with_kept k (Some old)) (sym less.same),
          ))

  of_line : (l : Line) → answers l (Some old) (Ok acts) → Leads l old new
  of_line (line.Check name) (bytes, is, are) =
      looks _ old new acts done later split left (ap kept_by are)
  of_line (line.Problems form name) (made, is, are) =
      looks _ old new acts done later split left
      (ap kept_by are ∙ kept_too (form.status && made.1) (Print made.0 ∷ []))
  of_line (line.Tidy name) (set, read, (bytes, is, are)) =
      looks _ old new acts done later split left (ap kept_by are)
  of_line (line.Start notes dataset stations out) (_, may, (base, read, (records, are))) =
      keeps_one _ old new acts done later split left _ (StartKept dataset stations out)
      (ap kept_by are) refl
      (λ is. (
        Keep out (desk_file base []) ∷ Print (start_lines false base) ∷ [],
        (tt, may, (base, read, (records, refl))),
        refl,
        is ∙ ap (λ (k : Kept). with_kept k (Some old)) (ap kept_by are),
      ))
  of_line (line.Take effects desk out texts) made = took effects desk out texts made
  of_line (line.Receive refused form desk out names) made =
      received refused form desk out names made
  of_line (line.Merge effects (Some since) mine theirs out)
      (_, may, (first, older, (one, read, (other, reads, (_, over, (after, merges, (rising, are))))))) =
      keeps_one _ old new acts done later split left _ (MergeSinceKept since mine theirs out)
      (ap kept_by are) refl
      (λ is. (
        keeps_desk out after (held_line (length after.held)),
        (tt, may, (first, older, (one, read, (other, reads, (tt, over, (after, merges, (rising, refl))))))),
        refl,
        is ∙ ap (λ (k : Kept). with_kept k (Some old)) (ap kept_by are),
      ))
  of_line (line.Merge effects None mine theirs out)
      (_, may, (one, read, (other, reads, (after, is_merge, (rising, are))))) =
      keeps_one _ old new acts done later split left _ (MergeKept mine theirs out) (ap kept_by are)
      refl
      (λ is. (
        keeps_desk out after (held_line (length after.held)),
        (tt, may, (one, read, (other, reads, (after, is_merge, (rising, refl))))),
        refl,
        is ∙ ap (λ (k : Kept). with_kept k (Some old)) (ap kept_by are),
      ))
  of_line (line.Carry effects mine theirs out)
      (_, may, (one, read, (other, reads, (_, alike, (made, carries, (rising, are)))))) =
      keeps_one _ old new acts done later split left _ (CarryKept mine theirs out) (ap kept_by are)
      refl
      (λ is. (
        keeps_desk out made.0 (made.1 ++ held_line (length made.0.held)),
        (tt, may, (one, read, (other, reads, (tt, alike, (made, carries, (rising, refl)))))),
        refl,
        is ∙ ap (λ (k : Kept). with_kept k (Some old)) (ap kept_by are),
      ))
  of_line (line.Withdraw effects desk out references)
      (_, may, (one, read, (still, withdraws, (rising, are)))) =
      keeps_one _ old new acts done later split left _ (WithdrawKept desk out references)
      (ap kept_by are) refl
      (λ is. (
        Print still.1 ∷ Keep out (desk_file still.0.base still.0.held) ∷ [],
        (tt, may, (one, read, (still, withdraws, (rising, refl)))),
        refl,
        is ∙ ap (λ (k : Kept). with_kept k (Some old)) (ap kept_by are),
      ))
  of_line (line.Texts csv span desk flights) (bytes, is, are) =
      looks _ old new acts done later split left (ap kept_by are)
  of_line (line.Show desk flight words) (bytes, is, are) =
      looks _ old new acts done later split left (ap kept_by are)
  of_line (line.History csv desk flight words) (bytes, is, are) =
      looks _ old new acts done later split left (ap kept_by are)
  of_line (line.Blame csv desk flights) (bytes, is, are) =
      looks _ old new acts done later split left (ap kept_by are)
  of_line (line.Board form file station date) (bytes, is, are) =
      looks _ old new acts done later split left (ap kept_by are)
  of_line (line.Listing form words file flights) (bytes, is, are) =
      looks _ old new acts done later split left (ap kept_by are)
  of_line (line.Calendar words file flights) (bytes, is, are) =
      looks _ old new acts done later split left (ap kept_by are)
  of_line (line.Info file) (bytes, is, are) =
      looks _ old new acts done later split left (ap kept_by are)
  of_line (line.Stations file) (bytes, is, are) =
      looks _ old new acts done later split left (ap kept_by are)
  of_line (line.Sql file) (bytes, is, are) =
      looks _ old new acts done later split left (ap kept_by are)
  of_line (line.Page from file) (bytes, is, are) =
      looks _ old new acts done later split left (ap kept_by are)
  of_line (line.Diff form words from to flights) (made, is, are) =
      looks _ old new acts done later split left
      (ap kept_by are ∙ kept_too (form.status && made.1) (Print made.0 ∷ []))
  of_line (line.Publish from to reference out)
      (_, may, (one, read, (other, reads, (mail, publishes, are)))) =
      keeps_one _ old new acts done later split left _ (Came out mail.1) (ap kept_by are)
      (mail.1, refl)
      (λ is. same_some new ((out, mail.1) ∷ old) (is
      ∙ ap (λ (k : Kept). with_kept k (Some old)) (ap kept_by are)))
  of_line (line.Convert mode file out) (_, may, (one, read, (set, makes, (itself, are)))) =
      keeps_one _ old new acts done later split left _ (Came out set.0) (ap kept_by are)
      (set.0, refl)
      (λ is. same_some new ((out, set.0) ∷ old) (is
      ∙ ap (λ (k : Kept). with_kept k (Some old)) (ap kept_by are)))
  of_line (line.Split dataset prefix) made = record {
    event = AllCame (kept_by done);
    is = inl (kept_by done, refl);
    leaves = left;
  }
  of_line (line.Findings form span desk flights) (bytes, is, are) =
      looks _ old new acts done later split left (ap kept_by are)
  of_line (line.Export desk) (one, read, (bytes, is, are)) =
      looks _ old new acts done later split left (ap kept_by are)
  of_line (line.Select choice file flights) (one, read, (part, chosen, (bytes, is, are))) =
      looks _ old new acts done later split left (ap kept_by are)
  of_line (line.Rehearse dataset stations script) (bytes, is, are) =
      looks _ old new acts done later split left (ap kept_by are)
  of_line (line.Explain status word) (made, is, are) =
      looks _ old new acts done later split left
      (ap kept_by are ∙ kept_too (status && made.1) (Print made.0 ∷ []))

  call : (l : Line) → Acts (answers l (Some old)) acts → Leads l old new
  call l (inl made) = of_line l made
  call l (inr (why, not_so, is)) = looks l old new acts done later split left (ap kept_by is)

-- files that are known are known after some were kept
with_some : (kept : Kept) (old : Files) → (new : Files) × (with_kept kept (Some old) ≡ Some new)
with_some [] old = (old, refl)
with_some (file ∷ later) old = with_some later (file ∷ old)

pub commands_are_events : CommandsAreEvents
commands_are_events l before after result old at (acts, are, performs) =
    let done = performed acts before after result performs in
    let left : after.files ≡ with_kept (kept_by done.0) (Some old) =
    done.3 ∙ ap (with_kept (kept_by done.0)) at in
    let new = with_some (kept_by done.0) old in
    let lead : Leads l old new.0 =
    call old new.0 acts done.0 done.1 done.2 (sym new.1) l
    (subst (λ (files : Option Files). Acts (answers l files) acts) at are) in
    (new.0, left ∙ new.1, lead)

-- ---- one call after another

-- the event of a call
record Called (words : List Text) (old : Files) (now : Option Files) : Type 0 where
  event : Event
  files : Files
  is : IsCall words event
  leaves : Leaves event old files
  at : now ≡ Some files

called_line : (words : List Text) (l : Line) (old new : Files) (now : Option Files)
    → Names (command_words words) l
    → now ≡ Some new → Leads l old new → Called words old now
called_line words l old new now names at lead = by lead.is
  where
    by : IsEventOf l lead.event ⊎ (lead.event ≡ Unchanged) → Called words old now
    by (inl of) =
        record {
          event = lead.event;
          files = new;
          is = inl (l, names, of);
          leaves = lead.leaves;
          at =
              at;
        }
    by (inr none) =
        record { event = lead.event; files = new; is = inr none; leaves = lead.leaves; at = at }

called_plainly : (words : List Text) (before after : World) (err err' : Paper) (status : ℕ)
    (old : Files) → before.files ≡ Some old
    → RunsPlainly (command_words words) before after err err' status
    → Called words old after.files
called_plainly words before after err err' status old at (inl (l, names, inl (does, is, again, same))) =
    let e = commands_are_events l before after (Ok tt) old at does in
    called_line words l old e.0 after.files names e.1 e.2
called_plainly words before after err err' status old at
    (inl (l, names, inr (is, why, does, printed))) =
    let e = commands_are_events l before after (Err why) old at does in
    called_line words l old e.0 after.files names e.1 e.2
called_plainly words before after err err' status old at (inr (replies, same, count)) =
    record { event = Unchanged; files = old; is = inr refl; leaves = refl; at = same ∙ at }

called : (words : List Text) (before after : World) (err err' : Paper) (status : ℕ) (old : Files)
    → before.files ≡ Some old → Runs words before after err err' status → Called words old after.files
called words before after err err' status old at runs =
    called_plainly words before after err runs.0 status old at runs.1

-- what the calls that are left do makes the whole of what is done
abbrev pub Through : List (List Text) → List (List Text) → Option Files → Option Files → Type 0
Through commands left old now =
    (history : History) → Happened history → old ≡ Some (files_of history)
    → (mid : History) × Happened mid
    × ((after : History) → GoesOn left mid after → GoesOn commands history after)
    × (now ≡ Some (files_of mid))

-- before the first call
pub none_called : (commands : List (List Text)) (old : Option Files)
    → Through commands commands old old
none_called commands old history happened at = (history, happened, λ after goes. goes, at)

-- one more call
pub one_called : (commands left later : List (List Text)) (words : List Text) (old : Option Files)
    (before after : World) (err err' : Paper) (status : ℕ) → left ≡ words ∷ later
    → Through commands left old before.files → Runs words before after err err' status
    → Through commands later old after.files
one_called commands left later words old before after err err' status is through runs history happened
    at =
    let so = through history happened at in
    let one = called words before after err err' status (files_of so.0) so.3 runs in (
      Then so.0 one.event one.files,
      (so.1, one.leaves),
      λ last goes. so.2 last
          (subst (λ (cs : List (List Text)). GoesOn cs so.0 last) (sym is)
          (one.event, one.files, one.is, one.leaves, goes)),
      one.at,
    )

-- no call is left
pub all_called : (commands left : List (List Text)) (old new : Option Files) → left ≡ []
    → Through commands left old new → Continues commands old new
all_called commands left old new is through history happened at =
    let so = through history happened at in (
      so.0,
      so.1,
      so.2 so.0 (subst (λ (cs : List (List Text)). GoesOn cs so.0 so.0) (sym is) refl),
      so.3,
    )
