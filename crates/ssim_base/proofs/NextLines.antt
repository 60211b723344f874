-- The next line of a desk file, of which 201 bytes are held, and the lines before it.
use Rattle.std.proofs.Common.{◌≡◌, ◌<◌, ◌≤◌, ℕ, List, [], ◌∷◌, ◌++◌, length, take, drop, reverse, Option, Some, None, IfSome, refl, sym, ap, subst, ◌∙◌, append_assoc, arith}
use Rattle.std.specs.Io.KnownBytes.{Consumes, IsAtEnd}
use Rattle.std.proofs.lemmas.List.{append-nil, length-take, reverse-append, take-append-drop}
use Rattle.std.proofs.lemmas.Grind.{flat_map-append}
use Rattle.ssim_records.specs.clauses.InputBuffer.{Input, Uses, ahead}
use Rattle.ssim_records.specs.Record.{written}
use Rattle.ssim_records.specs.declared.record.Record.{Record}
use Rattle.ssim_records.proofs.InputBuffers.{uses_skipped, uses_then}
use Rattle.ssim_base.specs.Base.{refusal_at}
use Rattle.ssim_base.specs.clauses.SavedBase.{BeginsNoBase}
use Rattle.ssim_base.specs.SavedBase.{IsBaseRecords, saved}
use Rattle.ssim_base.specs.internal.SavedLines.{IsLine, IsLineOf}
use Rattle.ssim_base.proofs.SavedLines.{IsLeft, few-bytes, left-more, line-first, whole-line}

line_length : (x : List ℕ) → 201 ≤ length x → length (take 201 x) ≡ 201
line_length x h = omega (arith, length-take 201 x, h)

pub line_of : (into : Option Record) (line rest old new : List ℕ) → length line ≡ 201 → old ≡ line ++ new → IsLineOf into line rest → IsLineOf into old new
line_of None line rest old new long is never = never
line_of (Some r) line rest old new long is one = whole-line r line rest old new long is one

-- a line that is held is nothing else
pub held_line : (into : Option Record) (held rest : List ℕ) → 201 ≤ length held → IsLineOf into (take 201 held) rest → IsLineOf into (take 201 held) []
held_line into held rest long line = line_of into (take 201 held) rest (take 201 held) [] (line_length held long) (sym (append-nil (take 201 held))) line

-- ---- no line is next

pub too_few : (input : Input) (left : Option (List ℕ)) → length input.held < 201 → IsAtEnd left → IfSome (ahead input left) (λ bytes. (r : Record) (rest : List ℕ) → IsLine r bytes rest → ⊥)
too_few input None few end = tt
too_few input (Some x) few end = λ r rest line.
    few-bytes r (input.held ++ x) rest (subst (λ (bs : List ℕ). length bs < 201) (sym (append-nil input.held) ∙ ap (λ bs. input.held ++ bs) (sym end)) few) line

held_first : (held x : List ℕ) → held ++ x ≡ take 201 held ++ (drop 201 held ++ x)
held_first held x = ap (λ bs. bs ++ x) (sym (take-append-drop 201 held)) ∙ append_assoc (take 201 held) (drop 201 held) x

pub no_line : (input : Input) (left : Option (List ℕ)) → 201 ≤ length input.held → ((r : Record) (rest : List ℕ) → IsLine r (take 201 input.held) rest → ⊥) → IfSome (ahead input left) (λ bytes. (r : Record) (rest : List ℕ) → IsLine r bytes rest → ⊥)
no_line input None long none = tt
no_line input (Some x) long none = λ r rest line.
    none r [] (line-first r (take 201 input.held) rest (input.held ++ x) (drop 201 input.held ++ x) (line_length input.held long) (held_first input.held x) line)

-- ---- one line after others

-- the line that is held is the next one
pub ahead_line : (input : Input) (left : Option (List ℕ)) (rest : List ℕ) (r : Record) → ahead input left ≡ Some rest → 201 ≤ length input.held → IsLine r (take 201 input.held) [] → (after : List ℕ) × IsLine r rest after
ahead_line input None rest r is long line = absurd cc
ahead_line input (Some x) rest r is long line =
    let same : input.held ++ x ≡ rest = cc in
    (drop 201 input.held ++ x, whole-line r (take 201 input.held) [] rest (drop 201 input.held ++ x) (line_length input.held long) (sym same ∙ held_first input.held x) line)

saved_more : (earlier : List Record) (r : Record) → saved (reverse (r ∷ earlier)) ≡ saved (reverse earlier) ++ (written r ++ 10 ∷ [])
saved_more earlier r =
    ap saved (reverse-append (r ∷ []) earlier)
    ∙ flat_map-append (λ (x : Record). written x ++ 10 ∷ []) (reverse earlier) (r ∷ [])
    ∙ ap (λ bs. saved (reverse earlier) ++ bs) (append-nil (written r ++ 10 ∷ []))

-- what can follow one record more
pub left_after : (count : ℕ) (earlier : List Record) (r : Record) (bytes : List ℕ) → ((rest : List ℕ) → IsLeft (saved (reverse earlier) ++ rest) rest count earlier) → IsLine r bytes [] → refusal_at earlier r ≡ None → (length earlier ≡ count → ⊥)
    → (rest : List ℕ) → IsLeft (saved (reverse (r ∷ earlier)) ++ rest) rest count (r ∷ earlier)
left_after count earlier r bytes left line stands few rest =
    let one = written r ++ 10 ∷ [] in
    let order : saved (reverse earlier) ++ (one ++ rest) ≡ saved (reverse (r ∷ earlier)) ++ rest = sym (append_assoc (saved (reverse earlier)) one rest) ∙ ap (λ bs. bs ++ rest) (sym (saved_more earlier r)) in
    subst (λ (bs : List ℕ). IsLeft bs rest count (r ∷ earlier)) order
    (left-more (saved (reverse earlier) ++ (one ++ rest)) (one ++ rest) rest count earlier r (left (one ++ rest)) (record { is_record = line.is_record; bare = line.bare; written_is = refl }) stands few)

-- the line of one record more is used
pub uses_line : (earlier : List Record) (r : Record) (a b c : Input) (l0 l1 l2 : Option (List ℕ)) → Uses (saved (reverse earlier)) a l0 b l1 → Uses [] b l1 c l2 → IsLine r (take 201 c.held) []
    → Uses (saved (reverse (r ∷ earlier))) a l0 (record { limit = c.limit; came = c.came; held = drop 201 c.held }) l2
uses_line earlier r a b c l0 l1 l2 h k line =
    let d : Input = record { limit = c.limit; came = c.came; held = drop 201 c.held } in
    let next : Uses (take 201 c.held) b l1 d l2 = uses_then [] (take 201 c.held) b c d l1 l2 l2 k (uses_skipped c 201 l2) in
    let used : saved (reverse earlier) ++ take 201 c.held ≡ saved (reverse (r ∷ earlier)) = ap (λ bs. saved (reverse earlier) ++ bs) (line.written_is ∙ append-nil (written r ++ 10 ∷ [])) ∙ sym (saved_more earlier r) in
    subst (λ (bs : List ℕ). Uses bs a l0 d l2) used (uses_then (saved (reverse earlier)) (take 201 c.held) a b d l0 l1 l2 h next)

-- the lines are used, and those of no base come next
pub begins_none : (used : List ℕ) (count : ℕ) (a b : Option (List ℕ)) → Consumes a b used
    → ((rest : List ℕ) → b ≡ Some rest → (records : List Record) (tail : List ℕ) → IsBaseRecords records → length records ≡ count → used ++ rest ≡ saved records ++ tail → ⊥) → BeginsNoBase count a
begins_none used count None b h f = tt
begins_none used count (Some x) None h f = absurd h
begins_none used count (Some x) (Some y) h f = λ records tail is n e. f y refl records tail is n (sym h ∙ e)

pub if_known : (a : Option (List ℕ)) (bytes : List ℕ) (P : List ℕ → Type 0) → a ≡ Some bytes → IfSome a P → P bytes
if_known None bytes P is holds = absurd cc
if_known (Some x) bytes P is holds = subst P (let same : x ≡ bytes = cc in same) holds

-- nothing more is used
pub uses_more : (used : List ℕ) (a b c : Input) (l0 l1 l2 : Option (List ℕ)) → Uses used a l0 b l1 → Uses [] b l1 c l2 → Uses used a l0 c l2
uses_more used a b c l0 l1 l2 h k = subst (λ (bs : List ℕ). Uses bs a l0 c l2) (append-nil used) (uses_then used [] a b c l0 l1 l2 h k)
