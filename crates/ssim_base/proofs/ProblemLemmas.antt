-- From block to block: the problems of those so far, and what the blocks that are left still give.
use Rattle.std.proofs.Common.{◌≡◌, ℕ, ◌+◌, ◌-◌, ◌<◌, false, ◌||◌, List, [], ◌∷◌, ◌++◌, length}
use Rattle.std.proofs.Common.{Option, Some, None, Ok, Err, refl, sym, ap, subst, ◌∙◌, append_assoc}
use Rattle.std.proofs.Common.{arith}
use Rattle.std.proofs.lemmas.List.{append-nil, length-append}
use Rattle.std.proofs.lemmas.List.Folds.{list_any-append}
use Rattle.std.proofs.Math.Bool.{or-false}
use Rattle.std.specs.List.{list_any}
use Rattle.ssim_records.specs.clauses.Blocks.{Fetches, beyond}
use Rattle.ssim_records.specs.Frames.{Frames, FramesExist, others}
use Rattle.ssim_records.specs.clauses.Reading as reading
use Rattle.ssim_records.specs.clauses.Reading.{GivesNext, HasNumber, HoldsFew, Reading}
use Rattle.ssim_records.specs.declared.fault.RecordFault.{RecordFault}
use Rattle.ssim_records.specs.declared.fault.RecordFault.TheVariants.{Short, BadType, BadColumn, ReadFault, ReaderNeverEnds}
use Rattle.ssim_base.specs.Problems.{AreItems, AreProblems, After, HasProblems, Item}
use Rattle.ssim_base.specs.clauses.Problems.{NamesLast}
use Rattle.ssim_base.specs.Problems.{Standing, after_item, begins_as_trailer, end_problem}
use Rattle.ssim_base.specs.Problems.{missing_in, fault_at, problem_in, problems_in, standing_after}
use Rattle.ssim_base.specs.Reading.{AreBlocks}
use Rattle.ssim_base.specs.internal.Problems.{IsNew, HasStanding, Takes}
use Rattle.ssim_base.specs.declared.fault.BaseFault.TheVariants.{Read}
use Rattle.ssim_base.specs.declared.problems.ProblemReader.{ProblemReader}
use Rattle.ssim_base.specs.declared.problems.Problems.{Problems}
use Rattle.ssim_base.specs.internal.DataSetReader.{unread}
use Rattle.ssim_base.proofs.BlocksAhead.{AreAhead, all-ahead, rest-ahead}
use Rattle.ssim_base.proofs.ReadingLemmas.{after-complete}

-- ---- the problems so far

-- the problems of these blocks are found
pub record AreSoFar (found : ProblemReader) (before : List (ℕ × List ℕ)) : Type 0 where
  pub items : List (ℕ × Item)
  pub are : AreItems before items
  pub standing : Standing
  pub checks_are : HasStanding found.checks standing
  pub problems : (later : List (ℕ × Item)) → problems_in (After []) (items ++ later) ≡ found.faults.items ++ problems_in standing later
  pub followed : (later : List (ℕ × Item)) → standing_after (After []) (items ++ later) ≡ standing_after standing later
  pub counted : found.records ≡ length items
  pub trailer : found.trailer ≡ list_any begins_as_trailer before

pub none-so-far : (found : ProblemReader) → IsNew found → AreSoFar found []
none-so-far found is = record {
  items = [];
  are = tt;
  standing = After [];
  checks_are = is.checks_are;
  problems = λ later. ap (λ fs. fs ++ problems_in (After []) later) (sym is.faults_are);
  followed = λ later. refl;
  counted = is.records_are;
  trailer = is.trailer_is;
}

items-append : (bs cs : List (ℕ × List ℕ)) (is js : List (ℕ × Item)) → AreItems bs is → AreItems cs js → AreItems (bs ++ cs) (is ++ js)
items-append [] cs [] js a b = b
items-append [] cs (i ∷ is) js a b = absurd a
items-append (x ∷ bs) cs [] js a b = absurd a
items-append (x ∷ bs) cs (i ∷ is) js a b = (a.0, a.1, items-append bs cs is js a.2 b)

-- the problem of one more block is found
pub one-so-far : (old new : ProblemReader) (before : List (ℕ × List ℕ)) (number : ℕ) (block : List ℕ) → AreSoFar old before → Takes old new number block → new.records ≡ old.records + 1
    → new.trailer ≡ (old.trailer || begins_as_trailer (number, block)) → AreSoFar new (before ++ (number, block) ∷ [])
one-so-far old new before number block so takes records trailer =
    let item = takes.0 in
    let x : ℕ × Item = (number, item) in
    let step = takes.2 so.standing so.checks_are in
    record {
      items = so.items ++ x ∷ [];
      are = items-append before ((number, block) ∷ []) so.items (x ∷ []) so.are (refl, takes.1, tt);
      standing = after_item so.standing item;
      checks_are = step.0;
      problems = λ later.
          ap (problems_in (After [])) (append_assoc so.items (x ∷ []) later)
          ∙ so.problems (x ∷ later)
          ∙ sym (append_assoc old.faults.items (problem_in so.standing x) (problems_in (after_item so.standing item) later))
          ∙ ap (λ fs. fs ++ problems_in (after_item so.standing item) later) (sym step.1);
      followed = λ later. ap (standing_after (After [])) (append_assoc so.items (x ∷ []) later) ∙ so.followed (x ∷ later);
      counted = records ∙ ap (λ n. n + 1) so.counted ∙ sym (length-append so.items (x ∷ []));
      trailer = trailer
          ∙ ap (λ b. b || begins_as_trailer (number, block)) so.trailer
          ∙ ap (λ b. list_any begins_as_trailer before || b) (sym (or-false (begins_as_trailer (number, block))))
          ∙ sym (list_any-append begins_as_trailer before ((number, block) ∷ []));
    }

-- all problems, if these are the blocks of the bytes
are-problems : (all : List ℕ) (blocks : List (List ℕ)) (rest : List ℕ) (before : List (ℕ × List ℕ)) (found : ProblemReader) (p : Problems) → (so : AreSoFar found before)
    → Frames 0 false all blocks rest → others 0 blocks ≡ before → p.records ≡ found.records
    → p.faults.items ≡ found.faults.items ++ end_problem so.standing found.trailer (length blocks + 1) rest → AreProblems all p
are-problems all blocks rest before found p so framed same records faults = record {
  blocks = blocks;
  rest = rest;
  framed = framed;
  items = so.items;
  are_items = subst (λ bs. AreItems bs so.items) (sym same) so.are;
  counted = records ∙ so.counted;
  faults_are =
      let own : problems_in (After []) so.items ≡ found.faults.items = ap (problems_in (After [])) (sym (append-nil so.items)) ∙ so.problems [] ∙ append-nil found.faults.items in
      let standing : standing_after (After []) so.items ≡ so.standing = ap (standing_after (After [])) (sym (append-nil so.items)) ∙ so.followed [] in
      let trailer : list_any begins_as_trailer (others 0 blocks) ≡ found.trailer = ap (list_any begins_as_trailer) same ∙ sym so.trailer in
      rw (own, standing, trailer) faults;
}

-- ---- what the blocks that are left give

-- if the reader reports its bytes
abbrev pub ToldBlocks : ℕ → Option (List ℕ) → Option (List ℕ) → Reading → List (ℕ × List ℕ) → Type 0
ToldBlocks limit None left r before = Unit {0}
ToldBlocks limit (Some all) None r before = ⊥
ToldBlocks limit (Some all) (Some left) r before = AreAhead limit all left r before

pub told-none : (limit : ℕ) (told : Option (List ℕ)) → FramesExist
    → ToldBlocks limit told told (unread limit) []
told-none limit None exist = tt
told-none limit (Some all) exist = all-ahead limit all exist

pub told-block : (limit : ℕ) (told left left' : Option (List ℕ)) (r new : Reading) (before : List (ℕ × List ℕ)) (number : ℕ) (block : List ℕ) → ToldBlocks limit told left r before
    → GivesNext r left new left' (Ok (Some (number, block))) → number ≡ new.number → ToldBlocks limit told left' new (before ++ (number, block) ∷ [])
told-block limit None left left' r new before number block t given is = tt
told-block limit (Some all) None left' r new before number block t given is = absurd t
told-block limit (Some all) (Some left) None r new before number block t given is = absurd given
told-block limit (Some all) (Some left) (Some left') r new before number block t given is =
    let a = given.1 t.later t.rest t.ahead in
    subst (λ n. AreAhead limit all left' new (before ++ (n, block) ∷ [])) (sym is)
    (rest-ahead limit all left left' r new before block a.0 t given.0 a.1 a.2)

-- ---- the end

-- the blocks so far are all, if nothing but fill is left
all-blocks : (limit : ℕ) (all left : List ℕ) (r new : Reading) (before : List (ℕ × List ℕ))
    → (t : AreAhead limit all left r before) → reading.IsLast r t.later new
    → others 0 t.blocks ≡ before
all-blocks limit all left r new before t last = t.split ∙ ap (λ bs. before ++ bs) last.0 ∙ append-nil before

count-blocks : (limit : ℕ) (all left : List ℕ) (r new : Reading) (before : List (ℕ × List ℕ))
    → (t : AreAhead limit all left r before) → reading.IsLast r t.later new
    → new.number ≡ length t.blocks
count-blocks limit all left r new before t last = last.1 ∙ t.count

over-none : (limit : ℕ) (all left : List ℕ) (r : Reading) (before : List (ℕ × List ℕ))
    → AreAhead limit all left r before → r.limit ≡ limit → beyond r.limit r.came left ≡ 0
    → length all - limit ≡ 0
over-none limit all left r before t same none = let came = t.came in omega (arith, came, same, none)

-- the bytes end after a block
pub problems-end : (limit : ℕ) (told left left' : Option (List ℕ)) (r new : Reading) (before : List (ℕ × List ℕ)) (found : ProblemReader) (p : Problems) → r.limit ≡ limit → (so : AreSoFar found before)
    → ToldBlocks limit told left r before → GivesNext r left new left' (Ok None) → p.records ≡ found.records
    → p.faults.items ≡ found.faults.items ++ fault_at (new.number + 1) (missing_in so.standing found.trailer)
    → HasProblems limit told p
problems-end limit None left left' r new before found p same so t given records faults = tt
problems-end limit (Some all) None left' r new before found p same so t given records faults = absurd t
problems-end limit (Some all) (Some left) None r new before found p same so t given records faults = absurd given
problems-end limit (Some all) (Some left) (Some left') r new before found p same so t given records faults =
    let a = given.1 t.later t.rest t.ahead in
    let over = over-none limit all left r before t same a.2 in
    let number = count-blocks limit all left r new before t a.0 in (
      omega (arith, over),
      are-problems all t.blocks [] before found p so
          (subst (λ n. Frames n false all t.blocks []) over (subst (λ rest. AreBlocks limit all t.blocks rest) a.1 t.framed))
          (all-blocks limit all left r new before t a.0) records
          (subst (λ n. p.faults.items ≡ found.faults.items ++ fault_at (n + 1) (missing_in so.standing found.trailer)) number faults),
    )

-- the bytes end within a record
pub problems-cut : (limit : ℕ) (told left left' : Option (List ℕ)) (r new : Reading) (before : List (ℕ × List ℕ)) (found : ProblemReader) (p : Problems) (n : ℕ) → r.limit ≡ limit → (so : AreSoFar found before)
    → ToldBlocks limit told left r before → GivesNext r left new left' (Err (Short n)) → n ≡ new.number + 1 → p.records ≡ found.records
    → p.faults.items ≡ found.faults.items ++ Read (Short n) ∷ [] → HasProblems limit told p
problems-cut limit None left left' r new before found p n same so t given is records faults = tt
problems-cut limit (Some all) None left' r new before found p n same so t given is records faults = absurd t
problems-cut limit (Some all) (Some left) None r new before found p n same so t given is records faults = absurd given
problems-cut limit (Some all) (Some left) (Some left') r new before found p n same so t given is records faults =
    let a = given.1 t.later t.rest t.ahead in
    let over = over-none limit all left r before t same a.3 in
    let number = is ∙ ap (λ k. k + 1) (count-blocks limit all left r new before t a.0) in (
      omega (arith, over),
      are-problems all t.blocks t.rest before found p so
          (subst (λ k. Frames k false all t.blocks t.rest) over t.framed)
          (all-blocks limit all left r new before t a.0) records
          (cut-off t.rest a.1 (subst (λ k. p.faults.items ≡ found.faults.items ++ Read (Short k) ∷ []) number faults)),
    )
  where
    cut-off : (rest : List ℕ) → 0 < length rest → p.faults.items ≡ found.faults.items ++ Read (Short (length t.blocks + 1)) ∷ []
        → p.faults.items ≡ found.faults.items ++ end_problem so.standing found.trailer (length t.blocks + 1) rest
    cut-off [] some is = absurd (omega (arith, some))
    cut-off (b ∷ rest) some is = is

-- ---- which record a reading of blocks fails at

-- a reading that failed, or that more bytes came for than the limit
pub names-last : (limit : ℕ) (told left left' : Option (List ℕ)) (r new : Reading)
    (before : List (ℕ × List ℕ)) (f : RecordFault)
    → Fetches false 0 [] told new.number new.held left' → HoldsFew {A = Option (ℕ × List ℕ)} new (Err f)
    → ToldBlocks limit told left r before → GivesNext r left new left' (Err f)
    → HasNumber {A = List ℕ} r new (Err f) → NamesLast limit told left' (Read f)
names-last limit told left left' r new before (Short n) fetched few t given is = tt
names-last limit told left left' r new before (BadType n) fetched few t given is = tt
names-last limit told left left' r new before (BadColumn n column) fetched few t given is = tt
names-last limit told left left' r new before (ReadFault n) fetched few t given is =
    after-complete told left' new.number n new.held fetched is few
names-last limit None left left' r new before (ReaderNeverEnds n) fetched few t given is = tt
names-last limit (Some all) None left' r new before (ReaderNeverEnds n) fetched few t given is = absurd t
names-last limit (Some all) (Some left) None r new before (ReaderNeverEnds n) fetched few t given is =
    absurd given
names-last limit (Some all) (Some left) (Some left') r new before (ReaderNeverEnds n) fetched few t given
    is =
    let a = given.1 t.later t.rest t.ahead in
    let count = count-blocks limit all left r new before t a.0 in
    (t.blocks, t.rest, t.framed, is ∙ ap (λ k. k + 1) count)
