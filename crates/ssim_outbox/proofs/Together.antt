-- A text can have sub-messages together if it can have each of them alone, and if it is short
-- enough: each of its parts reads again.
use Rattle.std.proofs.Common.{◌≡◌, ◌≤◌, ℕ, Bool, true, false, List, [], ◌∷◌, ◌++◌, map, length}
use Rattle.std.proofs.Common.{refl, sym, subst, inl, inr, ◌∙◌, arith}
use Rattle.std.specs.Prelude.{if◌then◌else◌}
use Rattle.std.specs.List.{AllByRecursion, AllZip}
use Rattle.std.specs.Str.{bytes_eq}
use Rattle.std.proofs.lemmas.Slice.Eq.{bytes_eq-Decides}
use Rattle.ssim_text.specs.Canonical.{canonical, canonical_parts, originator_parts, part_text}
use Rattle.ssim_text.specs.Grammar.{IsOriginatorPart, IsSub, KindPart, ModePart}
use Rattle.ssim_text.specs.Grammar.{OriginatorPart, Part, ReferencePart, Spells, free_parts}
use Rattle.ssim_text.specs.Grammar.{later_parts, sub_parts, subs_parts}
use Rattle.ssim_text.specs.Message.{MessageValue}
use Rattle.ssim_text.specs.Spelling.{SpellsMessage}
use Rattle.ssim_text.specs.Values.{no_originator}
use Rattle.ssim_text.specs.declared.action.Sub.{Sub}
use Rattle.ssim_text.specs.declared.kind.Kind.{Kind}
use Rattle.ssim_text.proofs.LinesKept.{IsLine, ReadsAgain, written_left, written_printable}
use Rattle.ssim_text.proofs.ReadsBack.{all_both, all_left, all_right, canonical_has, divider_again}
use Rattle.ssim_text.proofs.ReadsBack.{kind_again, mode_again, spelled_again}
use Rattle.ssim_text.proofs.Runs.{false_true}
use Rattle.ssim_outbox.specs.clauses.Messages.{IsAlone}
use Rattle.ssim_outbox.specs.Messages.{IsText, headed}
use Rattle.ssim_outbox.specs.internal.Texts.{heading_parts}
use Rattle.ssim_outbox.proofs.OtherGroup.{other_group}

-- a sub-message whose parts read again, in a message of this kind
pub record IsGood (kind : Kind) (sub : Sub) : Type 0 where
  pub again : AllByRecursion ReadsAgain (sub_parts sub)
  pub allowed : IsSub kind sub

good : (h : MessageValue) (sub : Sub) → IsAlone h sub → IsGood h.kind sub
good h sub alone =
    let m = headed h h.reference.group (sub ∷ []) in
    let has = alone.spelled.has_parts in
    let subs = subs_parts (sub ∷ []) in
    let whole = subst (AllByRecursion ReadsAgain) has.whole (spelled_again m (canonical m) alone) in
    let both = all_left ReadsAgain subs [] (all_right ReadsAgain has.heading (subs ++ []) whole) in
    record {
      again = all_left ReadsAgain (sub_parts sub) [] both;
      allowed = alone.spelled.shape.subs.0;
    }

all_good : (h : MessageValue) (subs : List Sub) → AllByRecursion (IsAlone h) subs
    → AllByRecursion (IsGood h.kind) subs
all_good h [] alone = tt
all_good h (sub ∷ subs) alone = (good h sub alone.0, all_good h subs alone.1)

later_again : (kind : Kind) (subs : List Sub) → AllByRecursion (IsGood kind) subs
    → AllByRecursion ReadsAgain (later_parts subs)
later_again kind [] h = tt
later_again kind (sub ∷ subs) h = (
  divider_again,
  all_both ReadsAgain (sub_parts sub) (later_parts subs) h.0.again (later_again kind subs h.1),
)

subs_again : (kind : Kind) (subs : List Sub) → AllByRecursion (IsGood kind) subs
    → AllByRecursion ReadsAgain (subs_parts subs)
subs_again kind [] h = tt
subs_again kind (sub ∷ subs) h =
    all_both ReadsAgain (sub_parts sub) (later_parts subs) h.0.again (later_again kind subs h.1)

all_allowed : (kind : Kind) (subs : List Sub) → AllByRecursion (IsGood kind) subs
    → AllByRecursion (IsSub kind) subs
all_allowed kind [] h = tt
all_allowed kind (sub ∷ subs) h = (h.0.allowed, all_allowed kind subs h.1)

-- ---- the heading

-- the parts that the canonical text writes for an originator
abbrev pub choice : Bool → List ℕ → List Part
choice b originator = if b then [] else OriginatorPart originator ∷ []

choice_again : (b : Bool) (originator : List ℕ) (parts : List Part)
    → bytes_eq originator no_originator ≡ b → IsOriginatorPart originator parts
    → AllByRecursion ReadsAgain parts → AllByRecursion ReadsAgain (choice b originator)
choice_again true originator parts e h k = tt
choice_again false originator parts e (inl w) k =
    absurd (false_true (sym e ∙ (bytes_eq-Decides originator no_originator).1 w.0))
choice_again false originator parts e (inr w) k = subst (AllByRecursion ReadsAgain) w k

-- a heading of a text reads again, with any group serial
pub heading_again : (m : MessageValue) (text : List ℕ) (g : ℕ) → g ≤ 99999 → SpellsMessage m text
    → AllByRecursion ReadsAgain (heading_parts m g)
heading_again m text g few spelled =
    let has = spelled.spelled.has_parts in
    let f = has.is_heading in
    let last = f.mode_parts ++ ReferencePart m.reference ∷ [] in
    let whole = subst (AllByRecursion ReadsAgain) has.whole (spelled_again m text spelled) in
    let heading = subst (AllByRecursion ReadsAgain) f.whole
    (all_left ReadsAgain has.heading (subs_parts m.subs ++ free_parts m.free) whole) in
    let own = all_left ReadsAgain f.originator_parts (KindPart m.kind ∷ last) heading in
    let middle = all_right ReadsAgain f.originator_parts (KindPart m.kind ∷ last) heading in
    let reference = all_right ReadsAgain f.mode_parts (ReferencePart m.reference ∷ []) middle.1 in
    let changed = record m.reference { group = g } in
    all_both ReadsAgain (originator_parts m.originator)
    (KindPart m.kind ∷ ModePart m.mode ∷ ReferencePart changed ∷ [])
    (choice_again (bytes_eq m.originator no_originator) m.originator f.originator_parts refl
    f.is_originator own)
    (kind_again m.kind, (mode_again m.mode, (other_group m.reference g few reference.0, tt)))

-- ---- the text

pub own_lines : (parts : List Part) → AllByRecursion ReadsAgain parts
    → AllByRecursion (λ p. IsLine (part_text p)) parts
own_lines [] h = tt
own_lines (p ∷ parts) h = (h.0.line, own_lines parts h.1)

own_spelled : (parts : List Part) → AllByRecursion ReadsAgain parts
    → AllZip Spells parts (map part_text parts)
own_spelled [] h = tt
own_spelled (p ∷ parts) h = (h.0.spelled, own_spelled parts h.1)

-- a text can have sub-messages of a message's kind whose parts read again, under its heading
pub text_of : (h : MessageValue) (g : ℕ) (first : Sub) (later : List Sub)
    → AllByRecursion ReadsAgain (heading_parts h g) → AllByRecursion (IsGood h.kind) (first ∷ later)
    → length (first ∷ later) ≤ 250 → length (canonical (headed h g (first ∷ later))) ≤ 65536
    → IsText (headed h g (first ∷ later))
text_of h g first later heading goods count short =
    let subs = first ∷ later in
    let m = headed h g subs in
    let parts = canonical_parts m in
    let own = originator_parts h.originator in
    let changed = record h.reference { group = g } in
    let three = KindPart h.kind ∷ ModePart h.mode ∷ ReferencePart changed ∷ [] in
    let rest = all_both ReadsAgain (subs_parts subs) [] (subs_again h.kind subs goods) tt in
    let again : AllByRecursion ReadsAgain parts =
    all_both ReadsAgain own (three ++ (subs_parts subs ++ [])) (all_left ReadsAgain own three heading)
    (all_both ReadsAgain three (subs_parts subs ++ []) (all_right ReadsAgain own three heading) rest) in
    let lines = own_lines parts again in
    record {
      short = short;
      printable = written_printable 1 parts lines;
      spelled = record {
        shape = record {
          some = omega arith;
          few = count;
          subs = all_allowed h.kind subs goods;
          free = tt;
        };
        parts = parts;
        has_parts = canonical_has m;
        spelled = subst (λ (x : List (List ℕ)). AllZip Spells parts x)
            (sym (written_left 1 parts lines)) (own_spelled parts again);
      };
      canonical_short = short;
    }

pub together : (h : MessageValue) (g : ℕ) (first : Sub) (later : List Sub) → g ≤ 99999
    → IsAlone h first → AllByRecursion (IsAlone h) later → length (first ∷ later) ≤ 250
    → length (canonical (headed h g (first ∷ later))) ≤ 65536 → IsText (headed h g (first ∷ later))
together h g first later few alone each =
    let one = headed h h.reference.group (first ∷ []) in
    text_of h g first later (heading_again one (canonical one) g few alone)
    (good h first alone, all_good h later each)
