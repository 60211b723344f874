-- Runs of the machine over parts: they follow the lines, and no two runs over the same lines
-- differ.
use Rattle.std.proofs.Common.{◌≡◌, ℕ, List, [], ◌∷◌, ◌++◌, refl, sym, ap, ◌∙◌, Option, Some, None, codes, true, false}
use Rattle.std.specs.Prelude.{option_and_then, Bool, if◌then◌else◌}
use Rattle.std.specs.List.{AllZip}
use Rattle.std.specs.Str.{bytes_eq}
use Rattle.ssim_values.specs.declared.designator.Designator.{Designator}
use Rattle.ssim_values.proofs.DesignatorLemmas.{SpellsDesignator-unique}
use Rattle.ssim_text.specs.declared.kind.Kind.{Kind}
use Rattle.ssim_text.specs.declared.kind.Kind.TheVariants.{Ssm, Asm}
use Rattle.ssim_values.specs.declared.time_mode.TimeMode.{TimeMode}
use Rattle.ssim_values.specs.declared.time_mode.TimeMode.TheVariants.{Utc, Local}
use Rattle.ssim_text.specs.declared.kind.ActionIdentifier.{ActionIdentifier}
use Rattle.ssim_text.specs.declared.kind.ActionIdentifier.TheVariants as identifier
use Rattle.ssim_text.specs.declared.reference.GivenReference.{GivenReference}
use Rattle.ssim_text.specs.declared.dates.GivenDate.{GivenDate}
use Rattle.ssim_text.specs.declared.decoder_state.State.{State}
use Rattle.ssim_text.specs.declared.decoder_state.State.TheVariants.{AtStart, AtKind, AtMode, AtReference, AtAction, AtFlight, AtDatedFlight, AtPeriod, AtEquipment, AtLegs, AtEnd, AtNext, AtFree}
use Rattle.ssim_text.specs.Message.{MessageValue, with_free}
use Rattle.ssim_text.specs.Lines.{originator_of, kind_text, mode_text, numbers_of, reference_of, identifier_text, SpellsDatedFlight, period_of, equipment_of, leg_of, segment_of, begins_free}
use Rattle.ssim_text.specs.Grammar.{Part, OriginatorPart, KindPart, ModePart, ReferencePart, ActionPart, FlightPart, DatedFlightPart, PeriodPart, EquipmentPart, LegPart, SegmentPart, Divider, FreePart, Spells}
use Rattle.ssim_text.specs.Machine.{step, run, Reads}
use Rattle.ssim_text.specs.internal.DecoderState.{Takes, Refuses}
use Rattle.ssim_text.proofs.Arms.{leg_or_segment, leg_or_divider, segment_or_divider, no_action_free}

pub none_some : {A : Type 0} (a : A) → None ≡ Some a → ⊥
none_some a h = cc

pub some_same : {A : Type 0} (a b : A) → Some a ≡ Some b → a ≡ b
some_same a b h = cc

pub false_true : false ≡ true → ⊥
false_true h = cc

pub bind_some : {A B : Type 0} (f : A → Option B) (o : Option A) (y : B) → option_and_then f o ≡ Some y → (x : A) × (o ≡ Some x) × (f x ≡ Some y)
bind_some f None y h = absurd (none_some y h)
bind_some f (Some x) y h = (x, refl, h)

pub guarded : {A : Type 0} (b : Bool) (x t : A) → (if b then Some x else None) ≡ Some t → (b ≡ true) × (x ≡ t)
guarded true x t d = (refl, some_same x t d)
guarded false x t d = absurd (none_some t d)

pub run_on : (s t u : State) (ps : List Part) (p : Part) → run s ps ≡ Some t → step t p ≡ Some u → run s (ps ++ p ∷ []) ≡ Some u
run_on s t u [] p h e =
    let f : s ≡ t = some_same s t h in
    let g : step s p ≡ Some u = ap (λ (x : State). step x p) f ∙ e in
    rw g refl
run_on s t u (q ∷ ps) p h e =
    let w = bind_some (λ (x : State). run x ps) (step s q) t h in
    rw w.1 (run_on w.0 t u ps p w.2 e)

pub run_append : (s t : State) (ps qs : List Part) → run s ps ≡ Some t → run s (ps ++ qs) ≡ run t qs
run_append s t [] qs h = ap (λ (x : State). run x qs) (some_same s t h)
run_append s t (p ∷ ps) qs h =
    let w = bind_some (λ (x : State). run x ps) (step s p) t h in
    rw w.1 (run_append w.0 t ps qs w.2)

pub spelled_on : (ps : List Part) (lines : List (List ℕ)) (p : Part) (line : List ℕ) → AllZip Spells ps lines → Spells p line → AllZip Spells (ps ++ p ∷ []) (lines ++ line ∷ [])
spelled_on [] [] p line h e = (e, tt)
spelled_on [] (l ∷ lines) p line h e = absurd h
spelled_on (q ∷ ps) [] p line h e = absurd h
spelled_on (q ∷ ps) (l ∷ lines) p line h e = (h.0, spelled_on ps lines p line h.1 e)

pub reads_none : Reads AtStart []
reads_none = record { parts = []; spelled = tt; reached = refl }

pub reads_on : (s t : State) (lines : List (List ℕ)) (line : List ℕ) → Reads s lines → Takes s line t → Reads t (lines ++ line ∷ [])
reads_on s t lines line r h = record {
  parts = r.parts ++ h.part ∷ [];
  spelled = spelled_on r.parts lines h.part line r.spelled h.spelled;
  reached = run_on AtStart s t r.parts h.part r.reached h.step;
}

-- ---- a line is spelled by one of the parts that are allowed here

unique : {A B : Type 0} (f : B → Option A) (a b : A) (line : B) → f line ≡ Some a → f line ≡ Some b → a ≡ b
unique f a b line h k = some_same a b (sym h ∙ k)

-- a word that can be read back is the word of one value
one_word : {A : Type 0} (text : A → List ℕ) (back : List ℕ → A) → ((a : A) → back (text a) ≡ a) → (a b : A) (line : List ℕ) → line ≡ text a → line ≡ text b → a ≡ b
one_word text back again a b line h k = sym (again a) ∙ ap back (sym h ∙ k) ∙ again b

kind_back : List ℕ → Kind
kind_back line = if bytes_eq line (codes "SSM") then Ssm else Asm

kind_again : (k : Kind) → kind_back (kind_text k) ≡ k
unfolding kind_back
kind_again Ssm = refl
kind_again Asm = refl

mode_back : List ℕ → TimeMode
mode_back line = if bytes_eq line (codes "UTC") then Utc else Local

mode_again : (m : TimeMode) → mode_back (mode_text m) ≡ m
unfolding mode_back
mode_again Utc = refl
mode_again Local = refl

action_back : List ℕ → ActionIdentifier
action_back line =
    if bytes_eq line (codes "NEW") then identifier.New
    else if bytes_eq line (codes "CNL") then identifier.Cnl
    else if bytes_eq line (codes "RPL") then identifier.Rpl
    else if bytes_eq line (codes "EQT") then identifier.Eqt
    else identifier.Tim

action_again : (a : ActionIdentifier) → action_back (identifier_text a) ≡ a
unfolding action_back
action_again identifier.New = refl
action_again identifier.Cnl = refl
action_again identifier.Rpl = refl
action_again identifier.Eqt = refl
action_again identifier.Tim = refl

dated_unique : (d e : Designator) (x y : GivenDate) (line : List ℕ) → SpellsDatedFlight d x line → SpellsDatedFlight e y line → DatedFlightPart d x ≡ DatedFlightPart e y
dated_unique d e x y line h k =
    let f : d ≡ e = SpellsDesignator-unique d e _ h.designator_spelled k.designator_spelled in
    let g : x ≡ y = some_same x y (sym h.date_spelled ∙ k.date_spelled) in
    ap (λ (z : Designator). DatedFlightPart z x) f ∙ ap (λ (z : GivenDate). DatedFlightPart e z) g

no_originator_kind : (o : List ℕ) (k : Kind) → originator_of (kind_text k) ≡ Some o → ⊥
unfolding originator_of
no_originator_kind o Ssm h = none_some o h
no_originator_kind o Asm h = none_some o h

originator_or_kind : (o : List ℕ) (k : Kind) (line : List ℕ) → originator_of line ≡ Some o → line ≡ kind_text k → ⊥
originator_or_kind o k line h e = no_originator_kind o k (ap originator_of (sym e) ∙ h)

no_reference_mode : (r : GivenReference) (m : TimeMode) → reference_of (mode_text m) ≡ Some r → ⊥
unfolding reference_of numbers_of
no_reference_mode r Utc h = none_some r h
no_reference_mode r Local h = none_some r h

mode_or_reference : (m : TimeMode) (r : GivenReference) (line : List ℕ) → line ≡ mode_text m → reference_of line ≡ Some r → ⊥
mode_or_reference m r line e h = no_reference_mode r m (ap reference_of (sym e) ∙ h)

action_or_free : (m : MessageValue) (a : ActionIdentifier) (line free : List ℕ) (t : State) → line ≡ identifier_text a → line ≡ free → step (AtNext m) (FreePart free) ≡ Some t → ⊥
action_or_free m a line free t h e d =
    let g = (guarded (begins_free free) (AtFree (with_free m free)) t d).0 in
    false_true (sym (no_action_free a) ∙ ap (λ (x : List ℕ). begins_free x) (sym h ∙ e) ∙ g)

-- two readings of a line that both lead on are the same
same_part : (s a b : State) (p q : Part) (line : List ℕ) → Spells p line → Spells q line → step s p ≡ Some a → step s q ≡ Some b → p ≡ q
same_part AtStart a b (OriginatorPart x) (OriginatorPart y) line h k d e = ap OriginatorPart (unique originator_of x y line h k)
same_part AtStart a b (OriginatorPart x) (KindPart y) line h k d e = absurd (originator_or_kind x y line h k)
same_part AtStart a b (KindPart x) (OriginatorPart y) line h k d e = absurd (originator_or_kind y x line k h)
same_part AtStart a b (KindPart x) (KindPart y) line h k d e = ap KindPart (one_word kind_text kind_back kind_again x y line h k)
same_part AtStart a b (OriginatorPart x) q line h k d e = absurd (none_some b e)
same_part AtStart a b (KindPart x) q line h k d e = absurd (none_some b e)
same_part AtStart a b p q line h k d e = absurd (none_some a d)
same_part (AtKind o) a b (KindPart x) (KindPart y) line h k d e = ap KindPart (one_word kind_text kind_back kind_again x y line h k)
same_part (AtKind o) a b (KindPart x) q line h k d e = absurd (none_some b e)
same_part (AtKind o) a b p q line h k d e = absurd (none_some a d)
same_part (AtMode o c) a b (ModePart x) (ModePart y) line h k d e = ap ModePart (one_word mode_text mode_back mode_again x y line h k)
same_part (AtMode o c) a b (ModePart x) (ReferencePart y) line h k d e = absurd (mode_or_reference x y line h k)
same_part (AtMode o c) a b (ReferencePart x) (ModePart y) line h k d e = absurd (mode_or_reference y x line k h)
same_part (AtMode o c) a b (ReferencePart x) (ReferencePart y) line h k d e = ap ReferencePart (unique reference_of x y line h k)
same_part (AtMode o c) a b (ModePart x) q line h k d e = absurd (none_some b e)
same_part (AtMode o c) a b (ReferencePart x) q line h k d e = absurd (none_some b e)
same_part (AtMode o c) a b p q line h k d e = absurd (none_some a d)
same_part (AtReference o c m) a b (ReferencePart x) (ReferencePart y) line h k d e = ap ReferencePart (unique reference_of x y line h k)
same_part (AtReference o c m) a b (ReferencePart x) q line h k d e = absurd (none_some b e)
same_part (AtReference o c m) a b p q line h k d e = absurd (none_some a d)
same_part (AtAction m) a b (ActionPart x) (ActionPart y) line h k d e = ap ActionPart (one_word identifier_text action_back action_again x y line h k)
same_part (AtAction m) a b (ActionPart x) q line h k d e = absurd (none_some b e)
same_part (AtAction m) a b p q line h k d e = absurd (none_some a d)
same_part (AtFlight m v) a b (FlightPart x) (FlightPart y) line h k d e = ap FlightPart (SpellsDesignator-unique x y line h k)
same_part (AtFlight m v) a b (FlightPart x) q line h k d e = absurd (none_some b e)
same_part (AtFlight m v) a b p q line h k d e = absurd (none_some a d)
same_part (AtDatedFlight m v) a b (DatedFlightPart x u) (DatedFlightPart y w) line h k d e = dated_unique x y u w line h k
same_part (AtDatedFlight m v) a b (DatedFlightPart x u) q line h k d e = absurd (none_some b e)
same_part (AtDatedFlight m v) a b p q line h k d e = absurd (none_some a d)
same_part (AtPeriod m v f) a b (PeriodPart x) (PeriodPart y) line h k d e = ap PeriodPart (unique period_of x y line h k)
same_part (AtPeriod m v f) a b (PeriodPart x) q line h k d e = absurd (none_some b e)
same_part (AtPeriod m v f) a b p q line h k d e = absurd (none_some a d)
same_part (AtEquipment m v f g) a b (EquipmentPart x) (EquipmentPart y) line h k d e = ap EquipmentPart (unique equipment_of x y line h k)
same_part (AtEquipment m v f g) a b (EquipmentPart x) q line h k d e = absurd (none_some b e)
same_part (AtEquipment m v f g) a b p q line h k d e = absurd (none_some a d)
same_part (AtLegs m l) a b (LegPart x) (LegPart y) line h k d e = ap LegPart (unique leg_of x y line h k)
same_part (AtLegs m l) a b (LegPart x) (SegmentPart y) line h k d e = absurd (leg_or_segment x y line h k)
same_part (AtLegs m l) a b (LegPart x) Divider line h k d e = absurd (leg_or_divider x line h k)
same_part (AtLegs m l) a b (SegmentPart x) (LegPart y) line h k d e = absurd (leg_or_segment y x line k h)
same_part (AtLegs m l) a b (SegmentPart x) (SegmentPart y) line h k d e = ap SegmentPart (unique segment_of x y line h k)
same_part (AtLegs m l) a b (SegmentPart x) Divider line h k d e = absurd (segment_or_divider x line h k)
same_part (AtLegs m l) a b Divider (LegPart y) line h k d e = absurd (leg_or_divider y line k h)
same_part (AtLegs m l) a b Divider (SegmentPart y) line h k d e = absurd (segment_or_divider y line k h)
same_part (AtLegs m l) a b Divider Divider line h k d e = refl
same_part (AtLegs m l) a b (LegPart x) q line h k d e = absurd (none_some b e)
same_part (AtLegs m l) a b (SegmentPart x) q line h k d e = absurd (none_some b e)
same_part (AtLegs m l) a b Divider q line h k d e = absurd (none_some b e)
same_part (AtLegs m l) a b p q line h k d e = absurd (none_some a d)
same_part (AtEnd m) a b Divider Divider line h k d e = refl
same_part (AtEnd m) a b Divider q line h k d e = absurd (none_some b e)
same_part (AtEnd m) a b p q line h k d e = absurd (none_some a d)
same_part (AtNext m) a b (ActionPart x) (ActionPart y) line h k d e = ap ActionPart (one_word identifier_text action_back action_again x y line h k)
same_part (AtNext m) a b (ActionPart x) (FreePart y) line h k d e = absurd (action_or_free m x line y b h k e)
same_part (AtNext m) a b (FreePart x) (ActionPart y) line h k d e = absurd (action_or_free m y line x a k h d)
same_part (AtNext m) a b (FreePart x) (FreePart y) line h k d e = ap FreePart (sym h ∙ k)
same_part (AtNext m) a b (ActionPart x) q line h k d e = absurd (none_some b e)
same_part (AtNext m) a b (FreePart x) q line h k d e = absurd (none_some b e)
same_part (AtNext m) a b p q line h k d e = absurd (none_some a d)
same_part (AtFree m) a b (FreePart x) (FreePart y) line h k d e = ap FreePart (sym h ∙ k)
same_part (AtFree m) a b (FreePart x) q line h k d e = absurd (none_some b e)
same_part (AtFree m) a b p q line h k d e = absurd (none_some a d)

stuck : (s t : State) (ps : List Part) (line : List ℕ) (rest : List (List ℕ)) → Refuses s line → AllZip Spells ps (line ∷ rest) → run s ps ≡ Some t → ⊥
stuck s t [] line rest no_part h r = h
stuck s t (p ∷ ps) line rest no_part h r =
    let w = bind_some (λ (x : State). run x ps) (step s p) t r in
    none_some w.0 (sym (no_part p h.0) ∙ w.1)

-- whatever reads these lines and goes on, goes on from the state that they lead to
pub record GoesOn (s : State) (rest : List (List ℕ)) (t : State) : Type 0 where
  pub parts : List Part
  pub spelled : AllZip Spells parts rest
  pub reached : run s parts ≡ Some t

pub follow : (s0 s t : State) (ps qs : List Part) (lines rest : List (List ℕ)) → AllZip Spells ps lines → run s0 ps ≡ Some s → AllZip Spells qs (lines ++ rest) → run s0 qs ≡ Some t → GoesOn s rest t
follow s0 s t [] qs [] rest h r k d = record { parts = qs; spelled = k; reached = ap (λ (x : State). run x qs) (sym (some_same s0 s r)) ∙ d }
follow s0 s t [] qs (l ∷ lines) rest h r k d = absurd h
follow s0 s t (p ∷ ps) qs [] rest h r k d = absurd h
follow s0 s t (p ∷ ps) [] (l ∷ lines) rest h r k d = absurd k
follow s0 s t (p ∷ ps) (q ∷ qs) (l ∷ lines) rest h r k d =
    let w = bind_some (λ (x : State). run x ps) (step s0 p) s r in
    let v = bind_some (λ (x : State). run x qs) (step s0 q) t d in
    let e : p ≡ q = same_part s0 w.0 v.0 p q l h.0 k.0 w.1 v.1 in
    let g : Some v.0 ≡ Some w.0 = sym v.1 ∙ ap (λ (x : Part). step s0 x) (sym e) ∙ w.1 in
    let f : v.0 ≡ w.0 = some_same v.0 w.0 g in
    follow w.0 s t ps qs lines rest h.1 w.2 k.1 (ap (λ (x : State). run x qs) (sym f) ∙ v.2)

-- a refused line goes on to nothing
pub goes_nowhere : (s t : State) (line : List ℕ) (rest : List (List ℕ)) → Refuses s line → GoesOn s (line ∷ rest) t → ⊥
goes_nowhere s t line rest no_part g = stuck s t g.parts line rest no_part g.spelled g.reached
