-- The same bytes have the same problems: they have one list of blocks, each of which says one thing.
use Rattle.std.proofs.Common.{◌≡◌, ◌∙◌, ℕ, ◌+◌, false, List, [], ◌∷◌, ◌++◌, length, Some, Ok, Err, refl, sym, ap, ap₂, subst}
use Rattle.std.specs.List.{list_any}
use Rattle.ssim_records.specs.Frames.{FramesAreOne, others}
use Rattle.ssim_records.proofs.AnyRecord.{no_fault, one_record}
use Rattle.ssim_base.specs.Problems.{AreItems, After, Item, SameBytesSameProblems, Says, begins_as_trailer, end_problem, problems_in, standing_after}
use Rattle.ssim_base.specs.declared.fault.BaseFault.{BaseFault}

says-once : (number : ℕ) (block : List ℕ) (i j : Item) → Says number block i → Says number block j → i ≡ j
says-once number block (Ok r) (Ok s) one other = ap Ok (one_record block r s one other)
says-once number block (Ok r) (Err e) one other = let none = no_fault number block r one in absurd cc
says-once number block (Err f) (Ok s) one other = let none = no_fault number block s other in absurd cc
says-once number block (Err f) (Err e) one other = let same : Some f ≡ Some e = sym one ∙ other in cc

items-once : (blocks : List (ℕ × List ℕ)) (is js : List (ℕ × Item)) → AreItems blocks is → AreItems blocks js → is ≡ js
items-once [] [] [] one other = refl
items-once [] [] (j ∷ js) one other = absurd other
items-once [] (i ∷ is) js one other = absurd one
items-once (b ∷ bs) [] js one other = absurd one
items-once (b ∷ bs) (i ∷ is) [] one other = absurd other
items-once (b ∷ bs) (i ∷ is) (j ∷ js) one other =
    let number : i.0 ≡ j.0 = sym one.0 ∙ other.0 in
    let item : i.1 ≡ j.1 = says-once b.0 b.1 i.1 j.1 one.1 other.1 in
    ap₂ (λ (x : ℕ × Item) (xs : List (ℕ × Item)). x ∷ xs) (ap₂ (λ (n : ℕ) (x : Item). (n, x)) number item) (items-once bs is js one.2 other.2)

-- the problems of these items and at this end
abbrev all : List (ℕ × Item) → List (List ℕ) → List ℕ → List BaseFault
all items blocks rest =
    problems_in (After []) items
    ++ end_problem (standing_after (After []) items) (list_any begins_as_trailer (others 0 blocks)) (length blocks + 1) rest

pub same_bytes_same_problems : FramesAreOne → SameBytesSameProblems
same_bytes_same_problems frames bytes one other p q =
    let same = frames 0 false bytes p.blocks q.blocks p.rest q.rest p.framed q.framed in
    let items : p.items ≡ q.items = items-once (others 0 p.blocks) p.items q.items p.are_items (subst (λ bs. AreItems (others 0 bs) q.items) (sym same.0) q.are_items) in (
      p.counted ∙ ap length items ∙ sym q.counted,
      p.faults_are
          ∙ ap (λ is. all is p.blocks p.rest) items
          ∙ ap (λ bs. all q.items bs p.rest) same.0
          ∙ ap (λ rest. all q.items q.blocks rest) same.1
          ∙ sym q.faults_are,
    )
