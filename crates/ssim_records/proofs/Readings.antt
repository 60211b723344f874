-- The result of a reading, from the next block that is not fill.
use Rattle.std.proofs.Common.{◌≡◌, ℕ, ◌+◌, ◌<◌, ◌≤◌, List, length, Option, Some, None, Ok, Err, refl, arith}
use Rattle.std.specs.Prelude.{IfNone, IfSome, Result, slice_index}
use Rattle.ssim_records.specs.declared.records.Ending.{Ending}
use Rattle.ssim_records.specs.declared.blocks.BlockStop.{BlockStop}
use Rattle.ssim_records.specs.declared.fault.RecordFault.{RecordFault}
use Rattle.ssim_records.specs.declared.fault.RecordFault.TheVariants.{Short, BadType, BadColumn, ReadFault, ReaderNeverEnds}
use Rattle.ssim_columns.specs.declared.field.Field.{Field}
use Rattle.ssim_records.specs.declared.record.Record.{Record}
use Rattle.ssim_records.specs.declared.blocks.BlockStop.TheVariants as stop
use Rattle.ssim_records.specs.Device.{Reader}
use Rattle.ssim_columns.specs.Columns.{first_fault}
use Rattle.ssim_records.specs.internal.Blocks.{FailsOnce, GivesOther, LeavesFew, refusal_of}
use Rattle.ssim_records.specs.Record.{fault_of, fault_by, column_fault, table_of}
use Rattle.ssim_records.specs.clauses.Blocks.{BytesCame}
use Rattle.ssim_records.specs.clauses.Record.{HasSpelt}
use Rattle.ssim_records.specs.clauses.Reading.{BlockAnswer, FetchesNext, GivesNext, IsReadAs}
use Rattle.ssim_records.specs.clauses.Reading.{ReadsBlock, ReadsRecord, Reading, with_number}

-- ---- the faults of a block

-- a fault of a block is its type or a column, at its number
abbrev pub IsBlockFault : ℕ → RecordFault → Type 0
IsBlockFault n (Short m) = ⊥
IsBlockFault n (BadType m) = m ≡ n
IsBlockFault n (BadColumn m column) = m ≡ n
IsBlockFault n (ReadFault m) = ⊥
IsBlockFault n (ReaderNeverEnds m) = ⊥

by_column : (n : ℕ) (o : Option ℕ) (e : RecordFault) → column_fault n o ≡ Some e → IsBlockFault n e
by_column n None e h = absurd cc
by_column n (Some column) (Short m) h = absurd cc
by_column n (Some column) (BadType m) h = absurd cc
by_column n (Some column) (BadColumn m k) h = cc
by_column n (Some column) (ReadFault m) h = absurd cc
by_column n (Some column) (ReaderNeverEnds m) h = absurd cc

by_table : (n : ℕ) (b : List ℕ) (o : Option (List Field)) (e : RecordFault) → fault_by n b o ≡ Some e → IsBlockFault n e
by_table n b None (Short m) h = absurd cc
by_table n b None (BadType m) h = cc
by_table n b None (BadColumn m k) h = absurd cc
by_table n b None (ReadFault m) h = absurd cc
by_table n b None (ReaderNeverEnds m) h = absurd cc
by_table n b (Some table) e h = by_column n (first_fault b table) e h

pub block_fault : (n : ℕ) (b : List ℕ) (e : RecordFault) → fault_of n b ≡ Some e → IsBlockFault n e
block_fault n b e h = by_table n b (table_of (slice_index b 0)) e h

-- ---- blocks

-- what the blocks of a reading give
abbrev pub Gives : Reading → Option (List ℕ) → Reading → Option (List ℕ) → Result (Option (List ℕ)) BlockStop → Type 0
Gives old left new left' r = GivesOther old.limit old.number old.came old.held left new.number new.came new.held left' r

-- the result of a call, with the number of the block
abbrev pub numbered : ℕ → Result (Option (List ℕ)) BlockStop → BlockAnswer
numbered n (Ok None) = Ok None
numbered n (Ok (Some block)) = Ok (Some (n, block))
numbered n (Err stop) = Err (refusal_of stop (n + 1))

pub gives_next : (old new : Reading) (l l' : Option (List ℕ)) (r : Result (Option (List ℕ)) BlockStop)
    → new.limit ≡ old.limit → Gives old l new l' r → GivesNext old l new l' (numbered new.number r)
gives_next old new None l' r same g = tt
gives_next old new (Some x) None r same g = g
gives_next old new (Some x) (Some y) (Ok None) same g =
    (g.0, λ blocks rest h. let t = g.1 blocks rest h in ((t.0, t.1), t.2, t.3))
gives_next old new (Some x) (Some y) (Ok (Some block)) same g =
    (g.0, λ blocks rest h. let t = g.1 blocks rest h in (t.0, (t.1, t.2), rw same t.3))
gives_next old new (Some x) (Some y) (Err stop.Short) same g =
    (g.0, λ blocks rest h. let t = g.1 blocks rest h in ((t.0, t.1), t.2, t.3, t.4))
gives_next old new (Some x) (Some y) (Err stop.ReadFault) same g =
    (g.0, λ blocks rest h. let t = g.1 blocks rest h in (t.0, t.1, t.2))
gives_next old new (Some x) (Some y) (Err stop.ReaderNeverEnds) same g =
    (g.0, λ blocks rest h. let t = g.1 blocks rest h in ((t.0, t.1), t.2))

-- no block came
pub stop_reads : (old new : Reading) (before after : Reader) (why : BlockStop)
    → new.limit ≡ old.limit → new.came ≤ new.limit + 1
    → Gives old before.left new after.left (Err why) → FetchesNext old before.left new after.left
    → LeavesFew new.held (Err why)
    → (why ≡ stop.ReaderNeverEnds → (new.limit < new.came) × (length new.held ≤ 200))
    → FailsOnce before.failures after.failures (Err why) → BytesCame before after old.came new.came
    → ReadsBlock old before new after (Err (refusal_of why (new.number + 1)))
stop_reads old new before after stop.Short same within g fetched few over failure came = record {
  next = gives_next old new before.left after.left (Err stop.Short) same g;
  number = refl;
  stops = tt;
  fetched = fetched;
  held = tt;
  failure = failure;
  came = came;
}
stop_reads old new before after stop.ReadFault same within g fetched few over failure came = record {
  next = gives_next old new before.left after.left (Err stop.ReadFault) same g;
  number = refl;
  stops = tt;
  fetched = fetched;
  held = few;
  failure = failure;
  came = came;
}
stop_reads old new before after stop.ReaderNeverEnds same within g fetched few over failure came =
    let o = over refl in
    record {
      next = gives_next old new before.left after.left (Err stop.ReaderNeverEnds) same g;
      number = refl;
      stops = tt;
      fetched = fetched;
      held = (omega (arith, o.0, within), omega (arith, o.1));
      failure = failure;
      came = came;
    }

-- ---- records

-- the record that was put in is what the block is read as
placed : (n : ℕ) (block : List ℕ) (into : Option Record) → HasSpelt into block
    → IsReadAs (Ok (Some (n, block))) (Ok (with_number n into))
placed n block None h = absurd h
placed n block (Some r) h = (refl, h)

pub reads_record : {old new : Reading} {before after : Reader} {n : ℕ} {block : List ℕ} (into : Option Record)
    → HasSpelt into block → ReadsBlock old before new after (Ok (Some (n, block)))
    → ReadsRecord old before new after (Ok (with_number n into))
reads_record {n = n} {block = block} into h r =
    record { block = Ok (Some (n, block)); reads = r; is_read = placed n block into h }

-- an invalid record ends the reading
next_ended : (old new : Reading) (l l' : Option (List ℕ)) (block : ℕ × List ℕ) (e : Option Ending)
    → GivesNext old l new l' (Ok (Some block))
    → GivesNext old l (record new { ended = e }) l' (Ok (Some block))
next_ended old new None l' block e g = tt
next_ended old new (Some x) None block e g = g
next_ended old new (Some x) (Some y) block e g = g

pub reads_fault : {old new : Reading} {before after : Reader} {n : ℕ} {block : List ℕ} (f : RecordFault) (e : Option Ending)
    → fault_of n block ≡ Some f → ReadsBlock old before new after (Ok (Some (n, block)))
    → ReadsRecord old before (record new { ended = e }) after (Err f)
reads_fault {old} {new} {before} {after} {n} {block} f e h r = record {
  block = Ok (Some (n, block));
  reads = record {
    next = next_ended old new before.left after.left (n, block) e r.next;
    number = r.number;
    stops = tt;
    fetched = r.fetched;
    held = tt;
    failure = r.failure;
    came = r.came;
  };
  is_read = h;
}

pub reads_end : {old new : Reading} {before after : Reader} → ReadsBlock old before new after (Ok None)
    → ReadsRecord old before new after (Ok None)
reads_end r = record { block = Ok None; reads = r; is_read = refl }

-- ---- before an end

-- what holds of a reading holds if it has not ended
pub if_open : {A : Type 0} (ended : Option Ending) → A → IfNone ended A
if_open None h = h
if_open (Some e) h = tt

pub open_map : {A B : Type 0} (ended : Option Ending) → (A → B) → IfNone ended A → IfNone ended B
open_map None f h = f h
open_map (Some e) f h = tt

pub not_again : (A : Ending → Type 0) (ended : Option Ending) → ended ≡ None → IfSome ended A
not_again A None is = tt
not_again A (Some e) is = absurd cc
