-- The refusal of a data set is its first problem. Both go over the same blocks, and know the same
-- valid records until the first record that is refused. At the end, a block that begins with `5` was
-- a valid trailer, which is the last record.
use Rattle.std.proofs.Common.{◌≡◌, ◌∙◌, ◌≤◌, ◌+◌, ◌-◌, ℕ, Bool, true, false, List, [], ◌∷◌, ◌++◌, length, Option, Some, None, Ok, Err, refl, sym, ap, ap₂, subst, inl, inr, arith}
use Rattle.std.specs.Prelude.{◌==◌, ◌||◌, if◌then◌else◌, not}
use Rattle.std.specs.List.{list_any}
use Rattle.ssim_records.specs.Frames.{Frames, FramesAreOne, others}
use Rattle.ssim_records.specs.Record.{Spells, fault_of}
use Rattle.ssim_records.specs.declared.fault.RecordFault.{RecordFault}
use Rattle.ssim_records.specs.declared.fault.RecordFault.TheVariants.{Short, BadType, BadColumn, ReadFault, ReaderNeverEnds}
use Rattle.ssim_records.specs.declared.record.Record.{Record}
use Rattle.ssim_records.specs.declared.record.Record.TheVariants.{Header, Carrier, Leg, Segment, Trailer}
use Rattle.ssim_records.proofs.AnyRecord.{first_byte, kind_is, kind_of, no_fault, one_record}
use Rattle.ssim_base.specs.Base.{Ending, Done, Broken, Outcome, at_record, first_refusal, is_trailer, kept, missing, or_else, refusal_at, refuse_if, unless_refused}
use Rattle.ssim_base.specs.Problems.{After, AreItems, AreProblems, HasProblems, Item, Standing, after_invalid, after_record, begins_as_trailer, end_problem, missing_in, fault_at, problems_in, standing_after}
use Rattle.ssim_base.specs.Reading.{Begins, Gives, IsFaulty, IsReadAs, IsWholeOf, Stops}
use Rattle.ssim_base.specs.declared.fault.BaseFault.{BaseFault}
use Rattle.ssim_base.specs.declared.fault.BaseFault.TheVariants.{Read}
use Rattle.ssim_base.specs.declared.fault.BaseRefusal.{BaseRefusal}
use Rattle.ssim_base.specs.declared.fault.BaseRefusal.TheVariants as refused
use Rattle.ssim_base.specs.declared.note.Note.{Note}
use Rattle.ssim_base.specs.declared.problems.Problems.{Problems}
use Rattle.ssim_program.specs.Made.{IsOfBytes, ReadsFile, file_limit}
use Rattle.ssim_program.specs.FirstProblem.{RefusalIsFirstProblem}
use Rattle.ssim_program.proofs.Origins.{same_some}

-- ---- blocks that begin with `5`

begins_as : (r : Record) → (kind_of r == 53) ≡ is_trailer r
begins_as (Header r) = refl
begins_as (Carrier r) = refl
begins_as (Leg r) = refl
begins_as (Segment r) = refl
begins_as (Trailer r) = refl

-- a block that spells a record begins with `5` exactly if the record is a trailer
begins_as_record : (n : ℕ) (b : List ℕ) (r : Record) → Spells r b → begins_as_trailer (n, b) ≡ is_trailer r
begins_as_record n b r spells = subst (λ (k : ℕ). (k == 53) ≡ is_trailer r) (sym (first_byte b (kind_of r) (kind_is r b spells))) (begins_as r)

-- whether a block so far began with `5`: not before the carrier record; then, if the last record is a trailer
abbrev Tells : List Record → Bool → Type 0
Tells [] seen = seen ≡ false
Tells (header ∷ []) seen = seen ≡ false
Tells (last ∷ second ∷ more) seen = seen ≡ is_trailer last

not_after_trailer : (t : Bool) (later : Option BaseRefusal) → or_else (refuse_if t refused.BadType) later ≡ None → t ≡ false
not_after_trailer false later none = refl
not_after_trailer true later none = absurd cc

-- one more valid record
tells_on : (earlier : List Record) (r : Record) (seen now : Bool) → refusal_at earlier r ≡ None → Tells earlier seen → now ≡ is_trailer r → Tells (kept earlier r ∷ earlier) (seen || now)
tells_on [] (Header r) seen now none tells is = ap₂ (λ (a b : Bool). a || b) tells is
tells_on [] (Carrier r) seen now none tells is = absurd cc
tells_on [] (Leg r) seen now none tells is = absurd cc
tells_on [] (Segment r) seen now none tells is = absurd cc
tells_on [] (Trailer r) seen now none tells is = absurd cc
tells_on (h ∷ []) (Carrier r) seen now none tells is = ap₂ (λ (a b : Bool). a || b) tells is
tells_on (h ∷ []) (Header r) seen now none tells is = absurd cc
tells_on (h ∷ []) (Leg r) seen now none tells is = absurd cc
tells_on (h ∷ []) (Segment r) seen now none tells is = absurd cc
tells_on (h ∷ []) (Trailer r) seen now none tells is = absurd cc
tells_on (last ∷ second ∷ more) (Header r) seen now none tells is = absurd cc
tells_on (last ∷ second ∷ more) (Carrier r) seen now none tells is = absurd cc
tells_on (last ∷ second ∷ more) (Leg r) seen now none tells is = ap₂ (λ (a b : Bool). a || b) (tells ∙ not_after_trailer (is_trailer last) _ none) is
tells_on (last ∷ second ∷ more) (Segment r) seen now none tells is = ap₂ (λ (a b : Bool). a || b) (tells ∙ not_after_trailer (is_trailer last) _ none) is
tells_on (last ∷ second ∷ more) (Trailer r) seen now none tells is = ap₂ (λ (a b : Bool). a || b) (tells ∙ not_after_trailer (is_trailer last) _ none) is

-- ---- the end

-- the problems begin with this fault; or there is none
abbrev Matches : Option BaseFault → List BaseFault → Type 0
Matches (Some fault) problems = IsOfBytes fault → (later : List BaseFault) × (problems ≡ fault ∷ later)
Matches None problems = problems ≡ []

or_false : (t : Bool) → (t || false) ≡ t
or_false true = refl
or_false false = refl

or_assoc : (x y z : Bool) → ((x || y) || z) ≡ (x || (y || z))
or_assoc true y z = refl
or_assoc false y z = refl

one_left : (n : ℕ) (refusal : Option BaseRefusal) → Matches (at_record n refusal None) (fault_at n refusal)
one_left n (Some refusal) = λ of. ([], refl)
one_left n None = refl

no_trailer : (t : Bool) → refuse_if (not t) refused.NoTrailer ≡ (if t then None else Some refused.NoTrailer)
no_trailer true = refl
no_trailer false = refl

-- what is missing at the end is the same
missing_is : (earlier : List Record) (seen : Bool) → Tells earlier seen → missing earlier ≡ missing_in (After earlier) seen
missing_is [] seen tells = refl
missing_is (h ∷ []) seen tells = refl
missing_is (last ∷ second ∷ more) seen tells = no_trailer (is_trailer last) ∙ ap (λ (t : Bool). if t then None else Some refused.NoTrailer) (sym tells)

head_is : (x y : ℕ × List ℕ) (xs ys : List (ℕ × List ℕ)) → x ∷ xs ≡ y ∷ ys → x ≡ y
head_is x y xs ys is = cc

-- the fault of the first block, if it spells no record
pub faulty_has : (m : ℕ) (b : List ℕ) (left : List (ℕ × List ℕ)) (number : ℕ) (fault : RecordFault)
    → IsFaulty ((m, b) ∷ left) number fault → fault_of m b ≡ Some fault
faulty_has m b left number fault (block, later, is, faulty) =
    let pair = head_is (m, b) (number, block) left later is in
    ap (λ (x : ℕ × List ℕ). fault_of x.0 x.1) pair ∙ faulty

-- a block that spells no record has the fault of the block
faulty_first : (left : List (ℕ × List ℕ)) (items : List (ℕ × Item)) (earlier : List Record) (number : ℕ) (fault : RecordFault) (end' : Standing → List BaseFault)
    → AreItems left items → IsFaulty left number fault → (later : List BaseFault) × (problems_in (After earlier) items ++ end' (standing_after (After earlier) items) ≡ Read fault ∷ later)
faulty_first [] items earlier number fault end' are (block, later, is, faulty) = absurd cc
faulty_first (b ∷ left) [] earlier number fault end' are faulty = absurd are
faulty_first ((m, b) ∷ left) ((n, Ok s) ∷ items) earlier number fault end' (num, says, are) faulty =
    let none = no_fault m b s says in
    let has = faulty_has m b left number fault faulty in
    absurd cc
faulty_first ((m, b) ∷ left) ((n, Err e) ∷ items) earlier number fault end' (num, says, are) faulty =
    let one : e ≡ fault = same_some e fault (sym says ∙ faulty_has m b left number fault faulty) in
    let rest = problems_in (after_invalid earlier) items ++ end' (standing_after (after_invalid earlier) items) in
    (rest, ap (λ (f : RecordFault). Read f ∷ rest) one)

-- the records are all valid, and end in some way
ends : (left : List (ℕ × List ℕ)) (items : List (ℕ × Item)) (ending : Ending) (earlier : List Record) (seen : Bool) (count : ℕ) (rest : List ℕ)
    → AreItems left items → Stops count rest 0 left ending → Tells earlier seen
    → Matches (first_refusal ending earlier []) (problems_in (After earlier) items ++ end_problem (standing_after (After earlier) items) (seen || list_any begins_as_trailer left) (count + 1) rest)
ends [] [] (Done number) earlier seen count [] are (none, empty, zero, at) tells =
    subst (λ (flag : Bool). Matches (at_record number (missing earlier) None) (fault_at (count + 1) (missing_in (After earlier) flag))) (sym (or_false seen))
    (subst (λ (n : ℕ). Matches (at_record number (missing earlier) None) (fault_at n (missing_in (After earlier) seen))) at
    (subst (λ (o : Option BaseRefusal). Matches (at_record number (missing earlier) None) (fault_at number o)) (missing_is earlier seen tells) (one_left number (missing earlier))))
ends [] (i ∷ items) ending earlier seen count rest are stops tells = absurd are
ends [] [] (Done number) earlier seen count (x ∷ rest) are (none, empty, zero, at) tells = absurd cc
ends (b ∷ left) items (Done number) earlier seen count rest are (none, empty, zero, at) tells = absurd cc
ends [] [] (Broken (Short number)) earlier seen count (x ∷ rest) are (none, more, zero, at) tells = λ of. ([], ap (λ (n : ℕ). Read (Short n) ∷ []) (sym at))
ends [] [] (Broken (Short number)) earlier seen count [] are (none, more, zero, at) tells = absurd (omega (arith, more))
ends (b ∷ left) items (Broken (Short number)) earlier seen count rest are (none, more, zero, at) tells = absurd cc
ends left items (Broken (ReaderNeverEnds number)) earlier seen count rest are (none, more, at) tells = absurd (omega (arith, more))
ends left items (Broken (ReadFault number)) earlier seen count rest are stops tells = λ of. absurd of
ends left items (Broken (BadType number)) earlier seen count rest are faulty tells =
    λ of. faulty_first left items earlier number (BadType number) (λ s. end_problem s (seen || list_any begins_as_trailer left) (count + 1) rest) are faulty
ends left items (Broken (BadColumn number column)) earlier seen count rest are faulty tells =
    λ of. faulty_first left items earlier number (BadColumn number column) (λ s. end_problem s (seen || list_any begins_as_trailer left) (count + 1) rest) are faulty

-- ---- all records

-- all problems of the items after these valid records, and then those at the end
abbrev all_problems : Standing → List (ℕ × Item) → (Standing → List BaseFault) → List BaseFault
all_problems standing items end' = problems_in standing items ++ end' (standing_after standing items)

-- a record is refused, and this is the first problem; or it is one of the valid records
record_matches : (k : ℕ) (r : Record) (earlier : List Record) (items : List (ℕ × Item)) (found : Option BaseFault) (end' : Standing → List BaseFault) (o : Option BaseRefusal)
    → (o ≡ None → Matches found (all_problems (After (kept earlier r ∷ earlier)) items end'))
    → Matches (at_record k o found) ((fault_at k o ++ problems_in (after_record earlier r o) items) ++ end' (standing_after (after_record earlier r o) items))
record_matches k r earlier items found end' (Some refusal) next = λ of. (all_problems (after_invalid earlier) items end', refl)
record_matches k r earlier items found end' None next = next refl

-- the end of some bytes: whether any block began with `5`, the number after the blocks, and the rest
abbrev end_of : Bool → ℕ → List ℕ → Standing → List BaseFault
end_of flag number rest standing = end_problem standing flag number rest

given_matches : (left : List (ℕ × List ℕ)) (items : List (ℕ × Item)) (records : List (ℕ × Record)) (ending : Ending) (earlier : List Record) (seen : Bool) (count : ℕ) (rest : List ℕ)
    → AreItems left items → Gives count rest 0 left records ending → Tells earlier seen
    → Matches (first_refusal ending earlier records) (all_problems (After earlier) items (end_of (seen || list_any begins_as_trailer left) (count + 1) rest))
given_matches left items [] ending earlier seen count rest are given tells = ends left items ending earlier seen count rest are given tells
given_matches [] items (x ∷ records) ending earlier seen count rest are given tells = absurd given
given_matches (b ∷ left) [] (x ∷ records) ending earlier seen count rest are given tells = absurd are
given_matches ((m, b) ∷ left) ((n, Err e) ∷ items) ((k, r) ∷ records) ending earlier seen count rest (num, says, are) (at, spells, given) tells =
    let none = no_fault m b r spells in absurd cc
given_matches ((m, b) ∷ left) ((n, Ok s) ∷ items) ((k, r) ∷ records) ending earlier seen count rest (num, says, are) (at, spells, given) tells =
    let starts = begins_as_trailer (m, b) in
    let later = list_any begins_as_trailer left in
    let end' = end_of (seen || (starts || later)) (count + 1) rest in
    let found = first_refusal ending (kept earlier r ∷ earlier) records in
    let next = λ (none : refusal_at earlier r ≡ None). subst (λ (f : Bool). Matches found (all_problems (After (kept earlier r ∷ earlier)) items (end_of f (count + 1) rest))) (or_assoc seen starts later)
    (given_matches left items records ending (kept earlier r ∷ earlier) (seen || starts) count rest are given (tells_on earlier r seen starts none tells (begins_as_record m b r spells))) in
    subst (λ (x : Record). Matches (first_refusal ending earlier ((k, r) ∷ records)) (all_problems (After earlier) ((n, Ok x) ∷ items) end')) (one_record b r s spells says)
    (subst (λ (i : ℕ). Matches (first_refusal ending earlier ((k, r) ∷ records)) (all_problems (After earlier) ((i, Ok r) ∷ items) end')) (sym at ∙ num)
    (record_matches k r earlier items found end' (refusal_at earlier r) next))

-- ---- the first records

-- a fault that is found however the records go on is that of the record, or of a later one
found_again : (k : ℕ) (o : Option BaseRefusal) (found other : Option BaseFault) → found ≡ at_record k o other → at_record k o found ≡ found
found_again k (Some refusal) found other is = sym is
found_again k None found other is = refl

first_matches : (left : List (ℕ × List ℕ)) (items : List (ℕ × Item)) (records : List (ℕ × Record)) (earlier : List Record) (found : Option BaseFault) (end' : Standing → List BaseFault)
    → AreItems left items → Begins left records → ((later : List (ℕ × Record)) (ending : Ending) → found ≡ first_refusal ending earlier (records ++ later))
    → Matches found (all_problems (After earlier) items end')
first_matches left items [] earlier found end' are begins is =
    let one : found ≡ Some (Read (ReadFault 0)) = is [] (Broken (ReadFault 0)) in
    let other : found ≡ Some (Read (ReadFault 1)) = is [] (Broken (ReadFault 1)) in
    absurd cc
first_matches [] items (x ∷ records) earlier found end' are begins is = absurd begins
first_matches (b ∷ left) [] (x ∷ records) earlier found end' are begins is = absurd are
first_matches ((m, b) ∷ left) ((n, Err e) ∷ items) ((k, r) ∷ records) earlier found end' (num, says, are) (at, spells, begins) is =
    let none = no_fault m b r spells in absurd cc
first_matches ((m, b) ∷ left) ((n, Ok s) ∷ items) ((k, r) ∷ records) earlier found end' (num, says, are) (at, spells, begins) is =
    let o = refusal_at earlier r in
    let next = λ (none : refusal_at earlier r ≡ None). first_matches left items records (kept earlier r ∷ earlier) found end' are begins
    (λ later ending. subst (λ (p : Option BaseRefusal). found ≡ at_record k p (first_refusal ending (kept earlier r ∷ earlier) (records ++ later))) none (is later ending)) in
    subst (λ (x : Record). Matches found (all_problems (After earlier) ((n, Ok x) ∷ items) end')) (one_record b r s spells says)
    (subst (λ (i : ℕ). Matches found (all_problems (After earlier) ((i, Ok r) ∷ items) end')) (sym at ∙ num)
    (subst (λ (f : Option BaseFault). Matches f (all_problems (After earlier) ((k, Ok r) ∷ items) end')) (found_again k o found _ (is [] (Broken (ReadFault 0))))
    (record_matches k r earlier items found end' o next)))

-- ---- the whole

-- the fault of an outcome
abbrev pub fault_in : Outcome → Option BaseFault
fault_in (Ok base) = None
fault_in (Err fault) = Some fault

pub fault_is : (o : Option BaseFault) (base : List Record × List Note)
    → fault_in (unless_refused o base) ≡ o
fault_is None base = refl
fault_is (Some fault) base = refl

-- all problems of items, by the blocks and the rest of their bytes
abbrev problems_of : List (ℕ × Item) → List (List ℕ) → List ℕ → List BaseFault
problems_of items blocks rest = all_problems (After []) items (end_of (list_any begins_as_trailer (others 0 blocks)) (length blocks + 1) rest)

-- bytes within the limit that are read in one way have problems that match it
matches : FramesAreOne → (bytes : List ℕ) (outcome : Outcome) (problems : Problems) → length bytes ≤ file_limit → IsReadAs file_limit bytes outcome → AreProblems bytes problems
    → Matches (fault_in outcome) problems.faults.items
matches frames bytes outcome problems within (inl all) p =
    let given = all.given in
    let none : length bytes - file_limit ≡ 0 = omega (arith, within) in
    let same = frames 0 false bytes given.blocks p.blocks given.rest p.rest (subst (λ (n : ℕ). Frames n false bytes given.blocks given.rest) none given.framed) p.framed in
    let are = subst (λ (bs : List (List ℕ)). AreItems (others 0 bs) p.items) (sym same.0) p.are_items in
    let gives = subst (λ (n : ℕ). Gives (length given.blocks) given.rest n (others 0 given.blocks) all.records all.ending) none given.given in
    let found = given_matches (others 0 given.blocks) p.items all.records all.ending [] false (length given.blocks) given.rest are gives refl in
    let first : fault_in outcome ≡ first_refusal all.ending [] all.records = ap fault_in all.is ∙ fault_is (first_refusal all.ending [] all.records) _ in
    subst (λ (o : Option BaseFault). Matches o problems.faults.items) (sym first)
    (subst (λ (ps : List BaseFault). Matches (first_refusal all.ending [] all.records) ps) (sym (p.faults_are ∙ ap₂ (λ (bs : List (List ℕ)) (rs : List ℕ). problems_of p.items bs rs) (sym same.0) (sym same.1))) found)
matches frames bytes outcome problems within (inr first) p =
    let none : length bytes - file_limit ≡ 0 = omega (arith, within) in
    let given = first.first in
    let same = frames 0 false bytes given.blocks p.blocks given.rest p.rest (subst (λ (n : ℕ). Frames n false bytes given.blocks given.rest) none given.framed) p.framed in
    let begins = subst (λ (bs : List (List ℕ)). Begins (others 0 bs) first.records) same.0 given.begins in
    subst (λ (ps : List BaseFault). Matches (fault_in outcome) ps) (sym p.faults_are)
    (first_matches (others 0 p.blocks) p.items first.records [] (fault_in outcome) (end_of (list_any begins_as_trailer (others 0 p.blocks)) (length p.blocks + 1) p.rest) p.are_items begins
    (λ later ending. ap fault_in (first.is later ending) ∙ fault_is (first_refusal ending [] (first.records ++ later)) _))

pub refusal_is_first_problem : FramesAreOne → RefusalIsFirstProblem
refusal_is_first_problem frames files name problems (left, (mine, at, is), found) =
    (λ fault of read. match_file (Err fault) read of, λ base notes read. match_file (Ok (base, notes)) read)
  where
    match_file : (outcome : Outcome) → ReadsFile (Some files) name outcome → Matches (fault_in outcome) problems.faults.items
    match_file outcome (left', (theirs, at_too, is_too), whole) =
        let same : theirs ≡ mine = same_some theirs mine (sym at_too ∙ at) in
        let read = subst (λ (l : Option (List ℕ)). IsWholeOf file_limit l outcome) (is_too ∙ ap Some same) whole in
        let has = subst (λ (l : Option (List ℕ)). HasProblems file_limit l problems) is found in
        matches frames mine outcome problems has.0 read.0 has.1
