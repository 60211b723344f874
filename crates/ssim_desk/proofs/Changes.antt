-- What a text and a merge make of a desk.
use Rattle.std.proofs.Common.{◌≡◌, ◌≢◌, ◌≤◌, ◌-◌, ℕ, List, [], ◌∷◌, ◌++◌, length, take, drop, Some, None, slice_get, refl, sym, ap, ◌∙◌, arith, length-append}
use Rattle.std.proofs.lemmas.Grind.{common_steps}
use Rattle.std.proofs.lemmas.List.{length-take, take-append-le, take_all}
use Rattle.std.proofs.lemmas.List.Elements.{All-append, All-cons, All-drop, All-take}
use Rattle.std.specs.FinMap.{get}
use Rattle.ssim_records.specs.declared.record.Record.{Record}
use Rattle.ssim_base.specs.Resolve.{IsRefusedIn, ResolvesIn}
use Rattle.ssim_base.specs.declared.resolution.ResolveFault.{ResolveFault}
use Rattle.ssim_base.specs.declared.resolution.ResolveFault.TheVariants as resolve_fault
use Rattle.ssim_base.specs.declared.resolution.ResolvedText.{ResolvedText}
use Rattle.ssim_text.specs.Decoder.{IsRefusal, NoMessage}
use Rattle.ssim_text.specs.Message.{MessageValue}
use Rattle.ssim_text.specs.Spelling.{SpellsMessage}
use Rattle.ssim_text.specs.declared.fault.TextFault.{TextFault}
use Rattle.ssim_text.specs.declared.fault.TextFault.TheVariants as text_fault
use Rattle.ssim_text.specs.declared.reference.Reference.{Reference}
use Rattle.ssim_held.specs.clauses.Fault.{message_refused, text_refused}
use Rattle.ssim_held.specs.Held.{DeskState, Holds, Says}
use Rattle.ssim_held.specs.Entries.{AreEntries, AreRising, DeskSeen, Entry, IsEntry, map_of, state_of}
use Rattle.ssim_held.specs.clauses.Ordered.{Belongs}
use Rattle.ssim_held.proofs.Entries.{map_of_with, not_held, rising_with}
use Rattle.ssim_desk.specs.clauses.Desk.{IsReplayed}
use Rattle.ssim_desk.specs.internal.Changes.{IsReplaced}
use Rattle.ssim_desk.specs.Steps.{IsInConflict, IsKnown, IsNew, RefusesText}

-- ---- messages that are replaced

-- the new message and those from its position on
pub rest_of : (hs held : List Entry) (at : ℕ) (new : Entry) (rest all : List Entry) → hs ≡ held
    → rest ≡ take (length hs - at) (drop at hs) → all ≡ new ∷ rest → all ≡ new ∷ drop at held
rest_of hs held at new rest all same rest_is all_is =
    let left : take (length hs - at) (drop at hs) ≡ drop at hs = grind (arith, common_steps) in
    all_is ∙ ap (λ (es : List Entry). new ∷ es) (rest_is ∙ left ∙ ap (drop at) same)

pub inserted_entries : (records : List Record) (es : List Entry) (at : ℕ) (new : Entry) → AreEntries records es → Belongs es new.reference at at → IsEntry records new
    → AreEntries records (take at es ++ (new ∷ drop at es))
inserted_entries records es at new h gap entry = record {
  rising = rising_with es at new h.rising gap;
  each = All-append (IsEntry records) (take at es) (new ∷ drop at es) (All-take (IsEntry records) at es h.each) (All-cons (IsEntry records) new (drop at es) entry (All-drop (IsEntry records) at es h.each));
}

at_seam : {X : Type 0} (xs ys : List X) (x : X) → slice_get (xs ++ x ∷ ys) (length xs) ≡ Some x
at_seam [] ys x = refl
at_seam (y ∷ xs) ys x = at_seam xs ys x

pub replayed : (old new : DeskSeen) (at : ℕ) (first : Entry) (others : List Entry) → at ≤ length old.held → IsReplaced old at (first ∷ others) new → get (map_of old.held) first.reference ≡ None
    → IsReplayed old new
replayed old new at first others place r absent =
    let front : length (take at old.held) ≡ at = omega (arith, length-take at old.held) in
    record {
      at = at;
      n = length others;
      first = first;
      is_there = ap (λ es. slice_get es at) r.held ∙ ap (slice_get (take at old.held ++ first ∷ others)) (sym front) ∙ at_seam (take at old.held) others first;
      is_new = absent;
      before = ap (take at) r.held ∙ take-append-le at (take at old.held) (first ∷ others) (omega (arith, front)) ∙ take_all at (take at old.held) (omega (arith, front));
      after = omega (arith, front, ap length r.held, length-append (take at old.held) (first ∷ others));
      at_least = omega (arith, r.at_least);
      at_most = omega (arith, r.at_most);
    }

-- ---- a text

pub no_text : (desk : DeskState) (text : List ℕ) (fault : TextFault) → NoMessage text fault → IsRefusal text fault → RefusesText desk text (text_refused fault)
no_text desk text text_fault.Memory none place = tt
no_text desk text (text_fault.Refused fault line) none place = (none, place)

pub no_dates : (desk : DeskState) (text : List ℕ) (m : MessageValue) (fault : ResolveFault) → SpellsMessage m text → IsRefusedIn desk.base.records m fault → RefusesText desk text (message_refused fault)
no_dates desk text m resolve_fault.Memory spelt refused = tt
no_dates desk text m resolve_fault.TimeMode spelt refused = record { message = m; spelt = spelt; refused = refused; of_message = λ e. cc }
no_dates desk text m (resolve_fault.Airline sub) spelt refused = record { message = m; spelt = spelt; refused = refused; of_message = λ e. cc }
no_dates desk text m (resolve_fault.NoSuchDate sub) spelt refused = record { message = m; spelt = spelt; refused = refused; of_message = λ e. cc }
no_dates desk text m (resolve_fault.Period sub) spelt refused = record { message = m; spelt = spelt; refused = refused; of_message = λ e. cc }

module _ (desk : DeskState) (text : List ℕ) (m : MessageValue) (resolved : ResolvedText) (spelt : SpellsMessage m text) (resolves : ResolvesIn desk.base.records m resolved) where
  pub says : Says desk.base text resolved.reference m
  says = record { spelt = spelt; resolved = resolved; resolves = resolves; referred = refl }

  pub is_entry : IsEntry desk.base.records (record { reference = resolved.reference; message = m; dates = resolved.subs.items })
  is_entry = record { text = resolved; resolves = resolves; referred = refl; dated = refl }

  pub is_known : get desk.held resolved.reference ≡ Some m → (message : MessageValue) × Says desk.base text resolved.reference message × (get desk.held resolved.reference ≡ Some message)
  is_known holds = (m, says, holds)

  pub in_conflict : (other : MessageValue) → get desk.held resolved.reference ≡ Some other → other ≢ m → IsInConflict desk text resolved.reference
  in_conflict other holds apart = record { message = m; says = says; other = other; holds = holds; apart = apart }

-- a message that is held already
pub known : (desk : DeskState) (text : List ℕ) (reference : Reference) → (message : MessageValue) × Says desk.base text reference message × Holds desk reference message → IsKnown desk text reference
known desk text reference k = record { message = k.0; says = k.1; holds = k.2 }

-- a message is new if it has a gap, and is held when it is put there
pub is_new : (desk : DeskSeen) (text : List ℕ) (e : Entry) (at : ℕ) (held : List Entry) → AreRising desk.held → Belongs desk.held e.reference at at → Says desk.base text e.reference e.message
    → held ≡ take at desk.held ++ (e ∷ drop at desk.held) → IsNew (state_of desk) text e.reference (map_of held)
is_new desk text e at held rising gap says is = record {
  message = e.message;
  says = says;
  absent = not_held desk.held at e.reference rising gap;
  added = ap map_of is ∙ map_of_with desk.held at e rising gap;
}
