-- What commands do by their acts.
use Rattle.std.proofs.Common.{◌≡◌, ◌∙◌, ◌⊎◌, inl, inr, ℕ, Bool, true, false, if◌then◌else◌, List, [], ◌∷◌, ◌++◌, Option, None, Some, Result, Ok, Err, map, refl, sym, ap, subst}
use Rattle.ssim_held.specs.Entries.{DeskSeen}
use Rattle.ssim_held.specs.File.{desk_file}
use Rattle.ssim_command_line.specs.Line.{Text}
use Rattle.ssim_program.specs.Acts.{Act, Acts, Print, Keep, Find, Stop, finds, found_then, kept_by, status_of}
use Rattle.ssim_program.specs.Answer.{Answer}
use Rattle.ssim_program.specs.Answers.{take_each}
use Rattle.ssim_program.specs.Files.{Files, with_kept}
use Rattle.ssim_parts.specs.Sections.{Before, FileEnd, SectionBlocks, after_items, before_all, is_followed, section_read}
use Rattle.ssim_program.specs.Splitting.{KeptAs, RefusedAs, Section, SectionFate, acts_of, is_kept, sections_of, split_each}
use Rattle.ssim_program.specs.World.{Acted, Does, Performs, World, world}
use Rattle.ssim_program.specs.internal.Print.{Prints}
use Rattle.ssim_program.specs.internal.Program.{Makes, keeps, made_status, says_found, will}
use Rattle.ssim_program.specs.declared.made.Kept.{Kept}
use Rattle.ssim_program.specs.declared.made.Made.{Made}
use Rattle.ssim_program.specs.declared.made.Made.TheVariants as made
use Rattle.ssim_program.specs.print.Paper.{Paper}
use Rattle.ssim_program.specs.declared.refusal.Refusal.{Refusal}
use Rattle.ssim_program.proofs.EffectLines.{then_finds}

-- bytes are printed, or `out` fails
pub acted_print : (files old : Option Files) (n m : ℕ) (p q : Paper) (bytes : List ℕ) (r : Result (Unit {0}) Refusal) → files ≡ old → n ≡ m → Prints bytes p q r
    → Acted (Print bytes) (world old m p) (world files n q) r
acted_print files old n m p q bytes (Ok x) same counted h = (h.0, h.1, same, counted)
acted_print files old n m p q bytes (Err why) same counted h = (h.0, h.1, same, counted)

-- one last act
pub last : (act : Act) (w v : World) (r : Result (Unit {0}) Refusal) → Acted act w v r → Performs (act ∷ []) w v r
last act w v (Ok x) acted = inl (v, acted, refl)
last act w v (Err why) acted = inr (why, acted, refl)

pub same_world : (files old : Option Files) (n m : ℕ) (p : Paper) → files ≡ old → n ≡ m → world files n p ≡ world old m p
same_world files old n m p same counted = λ i. world (same i) (counted i) p

-- a command is refused before its first act
pub refuses : (answer : Answer (List Act)) (w v : World) (why : Refusal) → answer (Err why) → v ≡ w → Does answer w v (Err why)
refuses answer w v why is same = (Stop why ∷ [], inr (why, is, refl), inr (why, (refl, same), refl))

-- an answer does what one does that is no other
pub refined : (one other : Answer (List Act)) (w v : World) (r : Result (Unit {0}) Refusal) → ((x : Result (List Act) Refusal) → one x → other x) → Does one w v r → Does other w v r
refined one other w v r more (acts, inl is, performed) = (acts, inl (more (Ok acts) is), performed)
refined one other w v r more (acts, inr (why, is, are), performed) = (acts, inr (why, more (Err why) is, are), performed)

-- what a command has made is an answer
pub made_so : {H : Type 0} (file : H → List ℕ) (files : Option Files) (answer : Answer (List Act)) (m : Made H) → Makes file files answer m → (r : Result (List Act) Refusal) → will file files m r → answer r
made_so file files answer (made.Lines lines) makes (Ok acts) is = subst (λ (these : List Act). answer (Ok these)) (sym is) makes
made_so file files answer (made.Reported found lines) makes (Ok acts) is = subst (λ (these : List Act). answer (Ok these)) (sym is) makes
made_so file files answer (made.Kept kept lines) makes (Ok acts) is = subst (λ (these : List Act). answer (Ok these)) (sym is) makes
made_so file files answer (made.Printed found lines refused kept) makes (Ok acts) is = subst (λ (these : List Act). answer (Ok these)) (sym is) makes
made_so file files answer (made.Lines lines) makes (Err why) is = absurd is
made_so file files answer (made.Reported found lines) makes (Err why) is = absurd is
made_so file files answer (made.Kept kept lines) makes (Err why) is = absurd is
made_so file files answer (made.Printed found lines refused kept) makes (Err why) is = absurd is
made_so file files answer (made.DataSet set) makes r is = makes r is
made_so file files answer (made.Desk desk) makes r is = makes r is
made_so file files answer (made.Part desk choice) makes r is = makes r is
made_so file files answer (made.Texts place desk names effects) makes r is = makes r is
made_so file files answer (made.Sections dataset prefix) makes r is = makes r is

-- ---- what the status says

-- a refusal says by its status nothing of what was found
stopped : (answer : Answer (List Act)) (acts : List Act) → (answer (Ok acts) → finds acts ≡ false) → Acts answer acts → finds acts ≡ false
stopped answer acts says (inl is) = says is
stopped answer acts says (inr (why, is, are)) = ap finds are

-- texts are taken
take_finds : (files : Option Files) (effects : Bool) (first : DeskSeen) (out : Text) (names : List Text) (desk : DeskSeen) (acts : List Act)
    → take_each files effects first out names desk (Ok acts) → finds acts ≡ false
take_finds files effects first out [] desk acts (rising, are) = ap finds are ∙ then_finds first desk (Keep out (desk_file desk.base desk.held) ∷ []) effects
take_finds files effects first out (name ∷ names) desk acts (made, one, (later, inl rest, are)) = ap finds are ∙ take_finds files effects first out names made.0 later rest
take_finds files effects first out (name ∷ names) desk acts (made, one, (later, inr (why, not_so, is), are)) = ap finds are ∙ ap finds is

-- what is done with a section, and then what is next
fate_finds : (files : Option Files) (fate : SectionFate) (next : Option Files → Answer (List Act))
    → ((now : Option Files) (later : List Act) → next now (Ok later) → finds later ≡ false)
    → (acts : List Act) → acts_of files fate next (Ok acts) → finds acts ≡ false
fate_finds files (KeptAs name bytes lines) next says acts (place, may, (later, rest, are)) =
    ap finds are ∙ stopped (next (with_kept ((name, bytes) ∷ []) files)) later (says (with_kept ((name, bytes) ∷ []) files) later) rest
fate_finds files (RefusedAs line) next says acts (later, rest, are) = ap finds are ∙ stopped (next files) later (says files later) rest

-- sections are kept or refused
split_finds : (files : Option Files) (name prefix : Text) (end' : FileEnd) (now : Option Files) (done : List Section) (before : Before) (sections : List SectionBlocks) (acts : List Act)
    → split_each files name prefix end' now done before sections (Ok acts) → finds acts ≡ false
split_finds files name prefix end' now done before [] acts are = ap finds are
split_finds files name prefix end' now done before (section ∷ later) acts (ending, ends, (items, says, (fate, made, rest))) =
    let airline = (section_read before section ending (is_followed later) items).airline in
    let all = done ++ (airline, is_kept fate) ∷ [] in
    fate_finds now fate (λ after. split_each files name prefix end' after all (after_items before items) later)
    (λ after others is. split_finds files name prefix end' after all (after_items before items) later others is) acts rest

-- acts after the one that says that something was found, if it is to be said
first_finds : (found : Bool) (acts : List Act) → finds acts ≡ false → finds (found_then found acts) ≡ found
first_finds true acts none = refl
first_finds false acts none = none

keeping_finds : {H : Type 0} (file : H → List ℕ) (refused : Option (Kept H)) (kept : Kept H) → finds (keeps file refused kept) ≡ false
keeping_finds file None kept = refl
keeping_finds file (Some refused) kept = refl

-- what a command has made says by the status what its acts say
finds_made : {H : Type 0} (file : H → List ℕ) (files : Option Files) (m : Made H) (acts : List Act) → will file files m (Ok acts) → finds acts ≡ says_found m
finds_made file files (made.Lines lines) acts is = ap finds is
finds_made file files (made.Reported found lines) acts is = ap finds is ∙ first_finds found (Print lines.items ∷ []) refl
finds_made file files (made.Kept kept lines) acts is = ap finds is
finds_made file files (made.Printed found lines refused kept) acts is = ap finds is ∙ first_finds found (Print lines.items ∷ keeps file refused kept) (keeping_finds file refused kept)
finds_made file files (made.DataSet set) acts (bytes, is, are) = ap finds are
finds_made file files (made.Desk desk) acts (bytes, is, are) = ap finds are
finds_made file files (made.Part desk choice) acts (bytes, is, are) = ap finds are
finds_made file files (made.Texts place desk names effects) acts is = take_finds files effects desk (file place) (map (λ t. t.now) names.now) desk acts is
finds_made file files (made.Sections dataset prefix) acts (found, has, (header, heads, is)) =
    split_finds files dataset.now prefix.now found.1 files [] (before_all header) (sections_of found.0) acts is

-- what is refused has made nothing
stops_none : {H : Type 0} (file : H → List ℕ) (files : Option Files) (m : Made H) (why : Refusal) → will file files m (Err why) → says_found m ≡ false
stops_none file files (made.Lines lines) why is = absurd is
stops_none file files (made.Reported found lines) why is = absurd is
stops_none file files (made.Kept kept lines) why is = absurd is
stops_none file files (made.Printed found lines refused kept) why is = absurd is
stops_none file files (made.DataSet set) why is = refl
stops_none file files (made.Desk desk) why is = refl
stops_none file files (made.Part desk choice) why is = refl
stops_none file files (made.Texts place desk names effects) why is = refl
stops_none file files (made.Sections dataset prefix) why is = refl

-- what is done with what a command has made is done by its answer, with the same status
pub is_done : {H : Type 0} (file : H → List ℕ) (files : Option Files) (answer : Answer (List Act)) (m : Made H) (w v : World)
    → Makes file files answer m → Does (will file files m) w v (Ok tt)
    → (done : Does answer w v (Ok tt)) × (made_status m ≡ status_of done.0)
is_done file files answer m w v makes (acts, inl is, performed) = (
  (acts, inl (made_so file files answer m makes (Ok acts) is), performed),
  ap (λ (b : Bool). if b then 3 else 0) (sym (finds_made file files m acts is)),
)
is_done file files answer m w v makes (acts, inr (why, is, are), performed) = (
  (acts, inr (why, made_so file files answer m makes (Err why) is, are), performed),
  ap (λ (b : Bool). if b then 3 else 0) (stops_none file files m why is ∙ sym (ap finds are)),
)

-- something found is said first, and then come the other acts
pub said_first : (found : Bool) (acts : List Act) (w v : World) (r : Result (Unit {0}) Refusal) → Performs acts w v r → Performs (found_then found acts) w v r
said_first true acts w v r performs = inl (w, refl, performs)
said_first false acts w v r performs = performs

-- ---- what was done

abbrev pub Prefix : List Act → Option Files → Option Files → Type 0
Prefix acts old new = (done : List Act) × (later : List Act) × (acts ≡ done ++ later) × (new ≡ with_kept (kept_by done) old)

none : (acts : List Act) (old new : Option Files) → new ≡ old → Prefix acts old new
none acts old new same = ([], acts, refl, same)

one_more : (act : Act) (later : List Act) (old mid new : Option Files) → mid ≡ with_kept (kept_by (act ∷ [])) old → Prefix later mid new → Prefix (act ∷ later) old new
one_more (Print bytes) later old mid new before (done, rest, are, is) = (Print bytes ∷ done, rest, ap (λ (x : List Act). Print bytes ∷ x) are, is ∙ ap (with_kept (kept_by done)) before)
one_more (Keep name bytes) later old mid new before (done, rest, are, is) =
    (Keep name bytes ∷ done, rest, ap (λ (x : List Act). Keep name bytes ∷ x) are, is ∙ ap (with_kept (kept_by done)) before)
one_more Find later old mid new before (done, rest, are, is) = (Find ∷ done, rest, ap (λ (x : List Act). Find ∷ x) are, is ∙ ap (with_kept (kept_by done)) before)
one_more (Stop why) later old mid new before (done, rest, are, is) = (Stop why ∷ done, rest, ap (λ (x : List Act). Stop why ∷ x) are, is ∙ ap (with_kept (kept_by done)) before)

files_acted : (act : Act) (w v : World) → Acted act w v (Ok tt) → v.files ≡ with_kept (kept_by (act ∷ [])) w.files
files_acted (Print bytes) w v acted = acted.2
files_acted (Keep name bytes) w v acted = acted.0
files_acted Find w v acted = ap (λ (x : World). x.files) acted
files_acted (Stop why) w v acted = absurd acted

files_failed : (act : Act) (w v : World) (why : Refusal) → Acted act w v (Err why) → v.files ≡ w.files
files_failed (Print bytes) w v why acted = acted.2
files_failed (Keep name bytes) w v why acted = acted.1
files_failed Find w v why acted = absurd acted
files_failed (Stop refusal) w v why acted = ap (λ (x : World). x.files) acted.1

pub performed : (acts : List Act) (w v : World) (r : Result (Unit {0}) Refusal) → Performs acts w v r → Prefix acts w.files v.files
performed [] w v (Ok x) is = none [] w.files v.files (ap (λ (y : World). y.files) is)
performed [] w v (Err why) is = absurd is
performed (act ∷ later) w v r (inl (mid, acted, rest)) = one_more act later w.files mid.files v.files (files_acted act w mid acted) (performed later mid v r rest)
performed (act ∷ later) w v r (inr (why, acted, is)) = none (act ∷ later) w.files v.files (files_failed act w v why acted)
