-- Texts that are taken one after another: one more, or none.
use Rattle.std.proofs.Common.{◌≡◌, ◌∙◌, inl, inr, ℕ, Bool, true, false, true≢false, List, [], ◌∷◌, ◌++◌, Option, None, Some, Result, Ok, Err, refl, sym, ap}
use Rattle.ssim_held.specs.Entries.{AreRising, DeskSeen}
use Rattle.ssim_held.specs.File.{desk_file}
use Rattle.ssim_command_line.specs.Line.{Text}
use Rattle.ssim_program.specs.Acts.{Act, Print, Keep, Stop, is_whole, kept_by}
use Rattle.ssim_program.specs.Answers.{take, take_each}
use Rattle.ssim_program.specs.Places.{MayReplace}
use Rattle.ssim_program.specs.declared.content_kind.ContentKind.TheVariants as kind
use Rattle.ssim_program.specs.Desks.{desk_in, text_taken}
use Rattle.ssim_program.specs.Files.{Files}
use Rattle.ssim_program.specs.World.{Acted, Does, World}
use Rattle.ssim_program.specs.internal.Effects.{IsAsked, IsBefore}
use Rattle.ssim_program.specs.internal.Take.{TakesTexts}
use Rattle.ssim_program.specs.declared.effects.Before.{Before}
use Rattle.ssim_program.specs.declared.refusal.Refusal.{Refusal}
use Rattle.ssim_program.specs.declared.refusal.Refusal.TheVariants as refused
use Rattle.ssim_program.specs.print.Effects.{effects}
use Rattle.ssim_program.proofs.Acting.{last, refuses}
use Rattle.ssim_program.proofs.EffectLines.{then_kept}

module _ (files : Option Files) (effects : Bool) (first : DeskSeen) (out : Text) where
  -- memory may run out before any text
  pub no_memory : (names : List Text) (desk : DeskSeen) → take_each files effects first out names desk (Err refused.Memory)
  no_memory [] desk = refl
  no_memory (name ∷ names) desk = inl (inl (inl refl))

  -- a text is taken, its line is printed, and others are taken
  pub one_text : (name : Text) (names : List Text) (desk mid : DeskSeen) (line : List ℕ) (w v u : World) (r : Result (Unit {0}) Refusal) → text_taken files name desk (Ok (mid, line))
      → Acted (Print line) w v (Ok tt) → Does (take_each files effects first out names mid) v u r → Does (take_each files effects first out (name ∷ names) desk) w u r
  one_text name names desk mid line w v u r taken printed (acts, are, performed) =
      (Print line ∷ acts, inl ((mid, line), taken, (acts, are, refl)), inl (v, printed, performed))

  -- a text is refused
  pub not_taken : (name : Text) (names : List Text) (desk : DeskSeen) (w v : World) (why : Refusal) → text_taken files name desk (Err why) → v ≡ w
      → Does (take_each files effects first out (name ∷ names) desk) w v (Err why)
  not_taken name names desk w v why not_so same = refuses (take_each files effects first out (name ∷ names) desk) w v why (inl not_so) same

  -- a line is not printed
  pub not_printed : (name : Text) (names : List Text) (desk mid : DeskSeen) (line : List ℕ) (w v : World) (why : Refusal) → text_taken files name desk (Ok (mid, line))
      → Acted (Print line) w v (Err why) → Does (take_each files effects first out (name ∷ names) desk) w v (Err why)
  not_printed name names desk mid line w v why taken failed =
      (Print line ∷ Stop refused.Memory ∷ [], inl ((mid, line), taken, (Stop refused.Memory ∷ [], inr (refused.Memory, no_memory names mid, refl), refl)), inr (why, failed, refl))

  -- ---- which texts were taken

  -- the texts that were taken one after another, if the command did not stop
  pub record AreTaken (names : List Text) (before : DeskSeen) (acts : List Act) : Type 0 where
    pub after : DeskSeen
    pub printed : List ℕ
    pub takes : TakesTexts files names before after printed
    pub rising : AreRising after.held
    pub is : kept_by acts ≡ (out, desk_file after.base after.held) ∷ []

  pub are_taken : (names : List Text) (before : DeskSeen) (acts : List Act) → take_each files effects first out names before (Ok acts) → is_whole acts ≡ true → AreTaken names before acts
  are_taken [] before acts (rising, are) whole = record { after = before; printed = []; takes = (refl, refl); rising = rising; is = ap kept_by are ∙ then_kept first before (Keep out (desk_file before.base before.held) ∷ []) effects }
  are_taken (name ∷ names) before acts (taken, one, (later, inl rest, are)) whole =
      let these = are_taken names taken.0 later rest (sym (ap is_whole are) ∙ whole) in
      record {
        after = these.after;
        printed = taken.1 ++ these.printed;
        takes = (taken.0, taken.1, these.printed, one, these.takes, refl);
        rising = these.rising;
        is = ap kept_by are ∙ these.is;
      }
  are_taken (name ∷ names) before acts (taken, one, (later, inr (why, not_so, is), are)) whole =
      absurd (true≢false (sym (sym (ap is_whole are) ∙ whole) ∙ ap is_whole is))

-- the place is held and the desk read, and then texts are taken
pub takes_then : (files : Option Files) (effects : Bool) (file out : Text) (names : List Text) (desk : DeskSeen) (r : Result (List Act) Refusal) → MayReplace files out kind.DeskFile → desk_in files file (Ok desk)
    → take_each files effects desk out names desk r → take files effects file out names r
takes_then files effects file out names desk (Ok acts) may read takes = (tt, may, (desk, read, takes))
takes_then files effects file out names desk (Err why) may read takes = inr (tt, may, inr (desk, read, takes))

-- ---- all are taken

module _ (files : Option Files) (first : DeskSeen) (out : Text) (desk : DeskSeen) (rising : AreRising desk.held) where
  abbrev keep : Act
  keep = Keep out (desk_file desk.base desk.held)

  -- the desk is kept or not
  pub kept : (w v : World) (r : Result (Unit {0}) Refusal) → Acted keep w v r → Does (take_each files false first out [] desk) w v r
  kept w v r acted = (keep ∷ [], inl (rising, refl), last keep w v r acted)

  -- the effects are printed, and then the desk is kept or not
  pub effects_kept : (w mid v : World) (r : Result (Unit {0}) Refusal) → Acted (Print (effects first desk)) w mid (Ok tt) → Acted keep mid v r → Does (take_each files true first out [] desk) w v r
  effects_kept w mid v r printed acted = (Print (effects first desk) ∷ keep ∷ [], inl (rising, refl), inl (mid, printed, last keep mid v r acted))

  -- the effects are not printed
  pub effects_failed : (w v : World) (why : Refusal) → Acted (Print (effects first desk)) w v (Err why) → Does (take_each files true first out [] desk) w v (Err why)
  effects_failed w v why failed = (Print (effects first desk) ∷ keep ∷ [], inl (rising, refl), inr (why, failed, refl))

-- ---- without the effects

-- the acts without the effects: they keep the same, and none stops
pub record AreWithout (files : Option Files) (first : DeskSeen) (out : Text) (names : List Text) (desk : DeskSeen) (acts : List Act) : Type 0 where
  pub others : List Act
  pub takes : take_each files false first out names desk (Ok others)
  pub same : kept_by others ≡ kept_by acts
  pub whole : is_whole others ≡ true

pub without : (files : Option Files) (effects : Bool) (first : DeskSeen) (out : Text) (names : List Text) (desk : DeskSeen) (acts : List Act) → take_each files effects first out names desk (Ok acts) → is_whole acts ≡ true
    → AreWithout files first out names desk acts
without files effects first out [] desk acts (rising, are) whole =
    let keep = Keep out (desk_file desk.base desk.held) ∷ [] in
    record { others = keep; takes = (rising, refl); same = sym (ap kept_by are ∙ then_kept first desk keep effects); whole = refl }
without files effects first out (name ∷ names) desk acts (taken, one, (later, inl rest, are)) whole =
    let less = without files effects first out names taken.0 later rest (sym (ap is_whole are) ∙ whole) in
    record {
      others = Print taken.1 ∷ less.others;
      takes = (taken, one, (less.others, inl less.takes, refl));
      same = less.same ∙ sym (ap kept_by are);
      whole = less.whole;
    }
without files effects first out (name ∷ names) desk acts (taken, one, (later, inr (why, not_so, is), are)) whole =
    absurd (true≢false (sym (sym (ap is_whole are) ∙ whole) ∙ ap is_whole is))

-- ---- the end, by what is kept of the desk before

module _ (files : Option Files) (asked : Bool) (first : DeskSeen) (out : Text) (desk : DeskSeen) (w v : World) (r : Result (Unit {0}) Refusal) where
  abbrev Ends : Type 0
  Ends = Does (take_each files asked first out [] desk) w v r

pub none_then : (files : Option Files) (asked : Bool) (first : DeskSeen) (out : Text) (desk : DeskSeen) (w v : World) (r : Result (Unit {0}) Refusal) → IsAsked asked first None
    → Does (take_each files false first out [] desk) w v r → Ends files asked first out desk w v r
none_then files false first out desk w v r is does = does
none_then files true first out desk w v r is does = absurd is

pub some_then : (files : Option Files) (asked : Bool) (first : DeskSeen) (out : Text) (desk : DeskSeen) (w v : World) (r : Result (Unit {0}) Refusal) (before : Before) → IsAsked asked first (Some before)
    → (IsBefore first before → Does (take_each files true first out [] desk) w v r) → Ends files asked first out desk w v r
some_then files false first out desk w v r before is does = absurd is
some_then files true first out desk w v r before is does = does is
