-- A message that resolves, and whose reference follows all that a desk holds, is taken, and is held
-- after all else.
use Rattle.std.proofs.Common.{◌≡◌, ◌≤◌, ℕ, zero, suc, List, [], ◌∷◌, ◌++◌, length, take, drop}
use Rattle.std.proofs.Common.{Some, None, Result, Ok, Err, IfOk, IfSome, IfErr, refl, sym, ap, subst, ◌∙◌, arith}
use Rattle.std.proofs.Common.{slice_get, drop_of_length-le}
use Rattle.std.proofs.lemmas.List.{take_all}
use Rattle.std.specs.FinMap.{get, insert}
use Rattle.std.specs.declared.cmp.Ordering.TheVariants.{Greater, Less}
use Rattle.ssim_base.specs.BaseSeen.{BaseSeen}
use Rattle.ssim_base.specs.Resolve.{ResolvesIn}
use Rattle.ssim_base.specs.declared.resolution.ResolvedText.{ResolvedText}
use Rattle.ssim_base.proofs.ResolvedOnce.{one_outcome}
use Rattle.ssim_text.specs.Message.{MessageValue}
use Rattle.ssim_text.specs.Spelling.{SpellsMessage}
use Rattle.ssim_text.specs.declared.fault.TextFault.TheVariants as text_fault
use Rattle.ssim_text.specs.declared.reference.Reference.{Reference}
use Rattle.ssim_text.proofs.Place.{one_message}
use Rattle.ssim_held.specs.Entries.{AreEntries, DeskSeen, Entry, IsEntry, map_of, state_of}
use Rattle.ssim_held.specs.Held.{DeskState, HeldMessages, Says, reference_cmp}
use Rattle.ssim_held.specs.clauses.Ordered.{Belongs}
use Rattle.ssim_held.specs.declared.fault.DeskFault.{DeskFault}
use Rattle.ssim_held.specs.declared.fault.DeskFault.TheVariants as fault
use Rattle.ssim_held.proofs.Entries.{flips, map_of_with, not_held}
use Rattle.ssim_desk.specs.Desk.{take_answer}
use Rattle.ssim_desk.specs.Meaning.{Lists}
use Rattle.ssim_desk.specs.Steps.{IsNew, RefusesText, Takes}
use Rattle.ssim_desk.specs.declared.desk.Took.{Took}
use Rattle.ssim_desk.specs.declared.desk.Took.TheVariants as took
use Rattle.ssim_desk.proofs.Changes.{inserted_entries}
use Rattle.ssim_desk.proofs.Meanings.{one_listed}
use Rattle.ssim_desk.proofs.Meant.{lists_held}
use Rattle.ssim_desk.proofs.Refusing.{resolves_or_not}
use Rattle.ssim_desk.proofs.Taking.{says_message, says_reference}
use Rattle.ssim_outbox.specs.Order.{Follows}

-- ---- a reference that follows all belongs at the end

all_greater : (es : List Entry) (r : Reference) → Follows r es → (j : ℕ)
    → IfSome (slice_get es j) (λ e. reference_cmp r e.reference ≡ Greater)
all_greater [] r h j = tt
all_greater (e ∷ es) r h zero = flips e.reference r Less h.0
all_greater (e ∷ es) r h (suc j) = all_greater es r h.1 j

none_there : (es : List Entry) (r : Reference) (j : ℕ) → length es ≤ j
    → IfSome (slice_get es j) (λ e. reference_cmp r e.reference ≡ Less)
none_there [] r j h = tt
none_there (e ∷ es) r zero h = absurd (omega (arith, h))
none_there (e ∷ es) r (suc j) h = none_there es r j (omega (arith, h))

at_end : (es : List Entry) (r : Reference) → Follows r es → Belongs es r (length es) (length es)
at_end es r h = record {
  order = omega arith;
  within = omega arith;
  before = λ j lt. all_greater es r h j;
  after = λ j le. none_there es r j le;
}

appended : (es : List Entry) (e : Entry) → take (length es) es ++ (e ∷ drop (length es) es) ≡ es ++ e ∷ []
appended es e =
    ap (λ (x : List Entry). x ++ (e ∷ drop (length es) es)) (take_all (length es) es (omega arith))
    ∙ ap (λ (x : List Entry). es ++ e ∷ x) (drop_of_length-le es {i = length es} (omega arith))

module _ (old : DeskSeen) (m : MessageValue) (text : List ℕ) (resolved : ResolvedText)
    (entries : AreEntries old.base.records old.held) (spelt : SpellsMessage m text)
    (resolves : ResolvesIn old.base.records m resolved) (follows : Follows resolved.reference old.held) where
  abbrev entry : Entry
  entry = record { reference = resolved.reference; message = m; dates = resolved.subs.items }

  gap : Belongs old.held resolved.reference (length old.held) (length old.held)
  gap = at_end old.held resolved.reference follows

  says : Says old.base text resolved.reference m
  says = record { spelt = spelt; resolved = resolved; resolves = resolves; referred = refl }

  absent : get (map_of old.held) resolved.reference ≡ None
  absent = not_held old.held (length old.held) resolved.reference entries.rising gap

  -- no other message is held under the reference
  not_there : (r : Reference) (other n : MessageValue) → Says old.base text r n
      → get (map_of old.held) r ≡ Some other → ⊥
  not_there r other n says_n holds =
      let same : resolved.reference ≡ r =
      says_reference one_message old.base text resolved.reference r m n says says_n in
      let none : get (map_of old.held) r ≡ None = ap (get (map_of old.held)) (sym same) ∙ absent in
      cc

  pub only_memory : (f : DeskFault) → RefusesText (state_of old) text f → f ≡ fault.Memory
  only_memory fault.Memory h = refl
  only_memory (fault.Text text_fault.Memory) h = absurd h
  only_memory (fault.Text (text_fault.Refused f n)) h = absurd (h.0 m spelt)
  only_memory (fault.Resolve f) h =
      let same : m ≡ h.message = one_message m h.message _ spelt.spelled h.spelt.spelled in
      absurd (resolves_or_not one_outcome old.base.records h.message resolved f
      (subst (λ (n : MessageValue). ResolvesIn old.base.records n resolved) same resolves) h.refused h.of_message)
  only_memory (fault.Conflict r) h = absurd (not_there r h.other h.message h.says h.holds)
  only_memory fault.OtherBase h = absurd h
  only_memory (fault.Read f) h = absurd h
  only_memory (fault.File n) h = absurd h

  -- a desk that takes the text as new holds the message after all else
  pub held_after : (new : DeskSeen) (r : Reference) → new.base ≡ old.base
      → AreEntries new.base.records new.held → IsNew (state_of old) text r (map_of new.held)
      → new.held ≡ old.held ++ entry ∷ []
  held_after new r base_is are is =
      let es = old.held in
      let is_entry : IsEntry old.base.records entry =
      record { text = resolved; resolves = resolves; referred = refl; dated = refl } in
      let whole = take (length es) es ++ (entry ∷ drop (length es) es) in
      let other : DeskSeen = record { base = old.base; held = whole; applied = 0 } in
      let are_whole = inserted_entries old.base.records es (length es) entry entries gap is_entry in
      let reference : r ≡ resolved.reference =
      sym (says_reference one_message old.base text resolved.reference r m is.message says is.says) in
      let message : is.message ≡ m =
      sym (says_message one_message old.base text resolved.reference r m is.message says is.says) in
      let map_is : map_of new.held ≡ map_of whole =
      is.added ∙ ap (λ (q : Reference). insert (map_of es) q is.message) reference
      ∙ ap (λ (n : MessageValue). insert (map_of es) resolved.reference n) message
      ∙ sym (map_of_with es (length es) entry entries.rising gap) in
      let state : state_of new ≡ state_of other =
      ap (λ (b : BaseSeen). record { base = b; held = map_of new.held }) base_is
      ∙ ap (λ (held : HeldMessages). record { base = old.base; held = held }) map_is in
      one_listed (state_of other) new.held whole
      (subst (λ (s : DeskState). Lists s new.held) state (lists_held new are)) (lists_held other are_whole)
      ∙ appended es entry

  pub taken : (result : Result (Took × Reference) DeskFault) (held : HeldMessages)
      → Takes (state_of old) text (take_answer result) held
      → IfOk result (λ t. IsNew (state_of old) text t.1 held)
  taken (Ok (took.Taken, r)) held h = h
  taken (Ok (took.Repeated, r)) held h = absurd (not_there r h.0.message h.0.message h.0.says h.0.holds)
  taken (Err f) held h = tt

  pub not_refused : (result : Result (Took × Reference) DeskFault) (held : HeldMessages)
      → Takes (state_of old) text (take_answer result) held → IfErr result (λ f. f ≡ fault.Memory)
  not_refused (Ok (took.Taken, r)) held h = tt
  not_refused (Ok (took.Repeated, r)) held h = tt
  not_refused (Err f) held h = only_memory f h.0
