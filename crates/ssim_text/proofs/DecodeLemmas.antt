-- From what was read of the lines to what decoding returns for the text.
use Rattle.std.proofs.Common.{◌≡◌, ◌≤◌, ℕ, List, [], ◌∷◌, length, refl, sym, ap, subst, inr, ◌∙◌, None, arith, map, Ok, Err}
use Rattle.std.specs.Prelude.{Result, IfOk, IfErr}
use Rattle.ssim_text.specs.declared.fault.Fault.{Fault}
use Rattle.ssim_text.specs.declared.fault.TextFault.{TextFault}
use Rattle.ssim_text.specs.declared.fault.TextFault.TheVariants as refusal
use Rattle.ssim_text.specs.declared.lines.Line.{Line}
use Rattle.ssim_text.specs.Message.{MessageValue}
use Rattle.ssim_text.specs.Grammar.{SpellsText, NamesPlace}
use Rattle.ssim_text.specs.Left.{lines_left, texts, numbers, place_number, first_unprintable}
use Rattle.ssim_text.specs.Canonical.{canonical}
use Rattle.ssim_text.specs.Spelling.{SpellsMessage}
use Rattle.ssim_text.specs.Decoder.{IsFaultAt, IsReadable, IsMisplaced, IsRefusal, NoMessage}
use Rattle.ssim_text.specs.internal.Decoder.{IsTooManyAtOne}

pub ok_then : {T E : Type 0} (r : Result T E) (P Q : T → Type 0) → ((x : T) → P x → Q x) → IfOk r P → IfOk r Q
ok_then (Ok x) P Q f h = f x h
ok_then (Err e) P Q f h = tt

pub err_then : {T E : Type 0} (r : Result T E) (P Q : E → Type 0) → ((e : E) → P e → Q e) → IfErr r P → IfErr r Q
err_then (Ok x) P Q f h = tt
err_then (Err e) P Q f h = f e h

texts_of : (lines : List Line) → map (λ (l : Line). l.bytes.now) lines ≡ texts (map (λ (l : Line). (l.number, l.bytes.now)) lines)
texts_of [] = refl
texts_of (l ∷ lines) = ap (λ (x : List (List ℕ)). l.bytes.now ∷ x) (texts_of lines)

-- the lines that were read are those of the text
pub lines_of_text : (text : List ℕ) (kept lines : List Line) → lines ≡ kept → map (λ (l : Line). (l.number, l.bytes.now)) kept ≡ lines_left text → map (λ (l : Line). l.bytes.now) lines ≡ texts (lines_left text)
lines_of_text text kept lines e h = ap (λ (x : List Line). map (λ (l : Line). l.bytes.now) x) e ∙ texts_of kept ∙ ap texts h

pub message_found : (text : List ℕ) (lines : List (List ℕ)) (m d : MessageValue) → length text ≤ 65536 → first_unprintable (lines_left text) ≡ None → lines ≡ texts (lines_left text) → SpellsText d lines → m ≡ d → length (canonical d) ≤ 65536 → SpellsMessage m text
message_found text lines m d short printable e h same limit = subst (λ (x : MessageValue). SpellsMessage x text) (sym same) (record {
  short = short;
  printable = printable;
  spelled = subst (λ (x : List (List ℕ)). SpellsText d x) e h;
  canonical_short = limit;
})

pub message_only : (text : List ℕ) (lines : List (List ℕ)) (m d n : MessageValue) → lines ≡ texts (lines_left text) → ((x : MessageValue) → SpellsText x lines → x ≡ d) → m ≡ d → SpellsMessage n text → n ≡ m
message_only text lines m d n e only same h = only n (subst (λ (x : List (List ℕ)). SpellsText n x) (sym e) h.spelled) ∙ sym same

pub too_long_none : (text : List ℕ) (lines : List (List ℕ)) (d : MessageValue) (f : TextFault) → lines ≡ texts (lines_left text) → ((x : MessageValue) → SpellsText x lines → x ≡ d) → IsTooManyAtOne d f → NoMessage text f
too_long_none text lines d refusal.Memory e only h = tt
too_long_none text lines d (refusal.Refused f n) e only h = λ m s.
    let same : m ≡ d = only m (subst (λ (x : List (List ℕ)). SpellsText m x) (sym e) s.spelled) in
    let short : length (canonical d) ≤ 65536 = subst (λ (x : MessageValue). length (canonical x) ≤ 65536) same s.canonical_short in
    omega (arith, short, h.2)

pub too_long_place : (text : List ℕ) (lines : List (List ℕ)) (d : MessageValue) (f : TextFault) → IsReadable text → lines ≡ texts (lines_left text) → SpellsText d lines → IsTooManyAtOne d f → IsRefusal text f
too_long_place text lines d refusal.Memory r e s h = tt
too_long_place text lines d (refusal.Refused f n) r e s h =
    inr (inr (inr (record { readable = r; message = d; spelled = subst (λ (x : List (List ℕ)). SpellsText d x) e s; long = h.2; fault = h.0; line = h.1 })))

pub misplaced_none : (text : List ℕ) (lines : List (List ℕ)) (index : ℕ) → lines ≡ texts (lines_left text) → NamesPlace lines index → (m : MessageValue) → SpellsMessage m text → ⊥
misplaced_none text lines index e h m s = h.no_text m (subst (λ (x : List (List ℕ)). SpellsText m x) (sym e) s.spelled)

pub misplaced_place : (text : List ℕ) (lines : List (List ℕ)) (seen : List (ℕ × List ℕ)) (index n : ℕ) (f : Fault) → IsReadable text → lines ≡ texts (lines_left text) → seen ≡ lines_left text → NamesPlace lines index → IsFaultAt lines index f → n ≡ place_number (numbers seen) index → IsMisplaced text f n
misplaced_place text lines seen index n f r e g h w k = record {
  readable = r;
  index = index;
  names = subst (λ (x : List (List ℕ)). NamesPlace x index) e h;
  fault = subst (λ (x : List (List ℕ)). IsFaultAt x index f) e w;
  line = k ∙ ap (λ (x : List (ℕ × List ℕ)). place_number (numbers x) index) g;
}
