-- Between two calls of a reading the blocks so far are the first ones of the bytes, and the others
-- are ahead.
use Rattle.std.proofs.Common.{◌≡◌, ℕ, ◌+◌, ◌-◌, ◌%◌, ◌^◌, false, List, [], ◌∷◌, ◌++◌, length}
use Rattle.std.proofs.Common.{Option, Some, None, refl, sym, ap, subst, ◌∙◌, append_assoc, arith}
use Rattle.std.specs.Prelude.{IfNone}
use Rattle.ssim_records.specs.clauses.Blocks.{BytesCame, CameFrom, Fetches}
use Rattle.ssim_records.specs.Frames.{Frames, FramesExist, others}
use Rattle.ssim_records.specs.clauses.Reading as reading
use Rattle.ssim_records.specs.clauses.Reading.{FetchesNext, IsAhead, Reading}
use Rattle.ssim_records.specs.Device.{Reader}
use Rattle.ssim_records.specs.declared.records.Ending as records
use Rattle.ssim_records.proofs.Framing.{came_none, fetches_first, fetches_on}
use Rattle.ssim_base.specs.Reading.{AreBlocks}
use Rattle.ssim_base.specs.clauses.Reading.{Came, HaveCome}
use Rattle.ssim_base.specs.internal.DataSetReader.{unread}

-- those before, and the others
pub record AreAhead (limit : ℕ) (all left : List ℕ) (r : Reading) (before : List (ℕ × List ℕ))
    : Type 0 where
  pub blocks : List (List ℕ)
  pub later : List (List ℕ)
  pub rest : List ℕ
  pub framed : AreBlocks limit all blocks rest
  pub ahead : IsAhead r left later rest
  pub came : r.came + length left ≡ length all
  pub count : r.number + length later ≡ length blocks
  pub split : others 0 blocks ≡ before ++ others r.number later

-- all are ahead
pub all-ahead : (limit : ℕ) (all : List ℕ) → FramesExist → AreAhead limit all all (unread limit) []
all-ahead limit all exist =
    let e = exist (length all - limit) false all in
    let over : length all - limit ≡ (0 + length all) - limit = omega arith in
    record {
      blocks = e.0;
      later = e.0;
      rest = e.1.0;
      framed = e.1.1;
      ahead = subst (λ n. Frames n false all e.0 e.1.0) over e.1.1;
      came = omega arith;
      count = omega arith;
      split = refl;
    }

-- the first of those ahead was read
pub rest-ahead : (limit : ℕ) (all left left' : List ℕ) (r new : Reading)
    (before : List (ℕ × List ℕ)) (block : List ℕ) (later : List (List ℕ))
    → (t : AreAhead limit all left r before)
    → new.came + length left' ≡ r.came + length left → reading.IsNext r t.later new block later
    → IsAhead new left' later t.rest
    → AreAhead limit all left' new (before ++ (new.number, block) ∷ [])
rest-ahead limit all left left' r new before block later t came next ahead = record {
  blocks = t.blocks;
  later = later;
  rest = t.rest;
  framed = t.framed;
  ahead = ahead;
  came = came ∙ t.came;
  count = next.1 ∙ t.count;
  split = t.split
      ∙ ap (λ bs. before ++ bs) next.0
      ∙ sym (append_assoc before ((new.number, block) ∷ []) (others new.number later));
}

have-from : (left left' : Option (List ℕ)) (start now n : ℕ) → CameFrom left left' start now 0 n
    → HaveCome left left' start now n
have-from None None start now n h =
    let same : now + 0 ≡ now = omega arith in
    ap (λ k. k % 2 ^ 128) (sym same) ∙ h
have-from None (Some y) start now n h = h
have-from (Some x) None start now n h = h
have-from (Some x) (Some y) start now n h = omega (arith, h)

-- all bytes that came from a reader, of which none came before
pub have-come : (before after : Reader) (n : ℕ) → BytesCame before after 0 n → Came before after n
have-come before after n h = have-from before.left after.left before.came after.came n h

-- ---- what was fetched

-- what holds until a reading has ended
pub while-open : {A : Type 0} (ended : Option records.Ending) → ended ≡ None → IfNone ended A → A
while-open None e h = h
while-open (Some x) e h = absurd cc

pub fetched-first : {limit : ℕ} {r : Reading} (left : Option (List ℕ)) → r ≡ unread limit
    → Fetches false 0 [] left r.number r.held left
fetched-first left fresh =
    subst (λ (r : Reading). Fetches false 0 [] left r.number r.held left) (sym fresh)
    (fetches_first false 0 [] left)

pub came-first : {limit : ℕ} {r : Reading} (reader : Reader) → r ≡ unread limit
    → BytesCame reader reader 0 r.came
came-first reader fresh =
    subst (λ (r : Reading). BytesCame reader reader 0 r.came) (sym fresh)
    (came_none reader.left reader.came 0)

-- one more call
pub fetched-on : (told left left' : Option (List ℕ)) (old new : Reading)
    → Fetches false 0 [] told old.number old.held left → FetchesNext old left new left'
    → Fetches false 0 [] told new.number new.held left'
fetched-on told left left' old new so next =
    fetches_on 0 old.number new.number old.number new.number [] old.held new.held told left left' so
    next (omega arith)
