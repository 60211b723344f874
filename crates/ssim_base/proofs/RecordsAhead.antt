-- A call for the next record reads the next block, so what it says of the block it says of its
-- result.
use Rattle.std.proofs.Common.{◌≡◌, ℕ, List, Option, Some, None, Ok, Err, inl, inr, sym, subst, ◌∙◌}
use Rattle.std.specs.Prelude.{◌⊎◌}
use Rattle.ssim_records.specs.clauses.Reading.{Answer, BlockAnswer, FailsAs, GivesNext, HasNumber}
use Rattle.ssim_records.specs.clauses.Reading.{HoldsFew, IsReadAs, Reading, ReadsBlock, ReadsRecord}
use Rattle.ssim_records.specs.Device.{Reader}
use Rattle.ssim_records.specs.Record.{Spells, fault_of}
use Rattle.ssim_records.specs.declared.fault.RecordFault.{RecordFault}
use Rattle.ssim_records.specs.declared.fault.RecordFault.TheVariants.{Short, BadType, BadColumn}
use Rattle.ssim_records.specs.declared.fault.RecordFault.TheVariants.{ReadFault, ReaderNeverEnds}
use Rattle.ssim_records.proofs.Readings.{IsBlockFault, block_fault}

-- the next block spells no record, for the reason that the fault names
abbrev pub IsInvalid : Reading → Option (List ℕ) → Reading → Option (List ℕ) → RecordFault → Type 0
IsInvalid old left new left' f =
    (block : List ℕ) × GivesNext old left new left' (Ok (Some (new.number, block)))
    × (fault_of new.number block ≡ Some f)

-- the result is the record of the next block or its fault, or there is no next block
abbrev pub GivesRecord : Reading → Option (List ℕ) → Reading → Option (List ℕ) → Answer → Type 0
GivesRecord old left new left' (Ok None) = GivesNext old left new left' (Ok None)
GivesRecord old left new left' (Ok (Some x)) =
    (block : List ℕ) × GivesNext old left new left' (Ok (Some (x.0, block))) × (x.0 ≡ new.number)
    × Spells x.1 block
GivesRecord old left new left' (Err f) =
    GivesNext old left new left' (Err f) ⊎ IsInvalid old left new left' f

-- what a call for the next record says of its result
pub record Says (old : Reading) (before : Reader) (new : Reading) (after : Reader) (a : Answer)
    : Type 0 where
  pub gives : GivesRecord old before.left new after.left a
  pub number : HasNumber old new a
  pub held : HoldsFew new a
  pub failure : FailsAs before.failures after.failures a

-- no block came
stopped : (old new : Reading) (before after : Reader) (f : RecordFault)
    → ReadsBlock old before new after (Err f) → Says old before new after (Err f)
stopped old new before after (Short n) r =
    record { gives = inl r.next; number = r.number; held = tt; failure = r.failure }
stopped old new before after (BadType n) r =
    record { gives = inl r.next; number = r.number; held = tt; failure = r.failure }
stopped old new before after (BadColumn n column) r =
    record { gives = inl r.next; number = r.number; held = tt; failure = r.failure }
stopped old new before after (ReadFault n) r =
    record { gives = inl r.next; number = r.number; held = r.held; failure = r.failure }
stopped old new before after (ReaderNeverEnds n) r =
    record { gives = inl r.next; number = r.number; held = r.held; failure = r.failure }

-- an invalid block came
invalid : (old new : Reading) (before after : Reader) (f : RecordFault)
    → IsInvalid old before.left new after.left f → after.failures ≡ before.failures
    → IsBlockFault new.number f → Says old before new after (Err f)
invalid old new before after (Short n) h same is = absurd is
invalid old new before after (BadType n) h same is =
    record { gives = inr h; number = is; held = tt; failure = same }
invalid old new before after (BadColumn n column) h same is =
    record { gives = inr h; number = is; held = tt; failure = same }
invalid old new before after (ReadFault n) h same is = absurd is
invalid old new before after (ReaderNeverEnds n) h same is = absurd is

read-as : (old new : Reading) (before after : Reader) (b : BlockAnswer) (a : Answer)
    → ReadsBlock old before new after b → IsReadAs b a → Says old before new after a
read-as old new before after (Ok None) a r is =
    subst (Says old before new after) (sym is)
    (record { gives = r.next; number = tt; held = tt; failure = r.failure })
read-as old new before after (Ok (Some block)) (Ok None) r is = absurd is
read-as old new before after (Ok (Some block)) (Ok (Some x)) r is =
    let number : x.0 ≡ new.number = is.0 ∙ r.number.0 in
    record {
      gives = (
        block.1,
        subst (λ n. GivesNext old before.left new after.left (Ok (Some (n, block.1)))) (sym is.0)
            r.next,
        number,
        is.1,
      );
      number = (number, r.number.1, r.number.2);
      held = tt;
      failure = r.failure;
    }
read-as old new before after (Ok (Some block)) (Err f) r is =
    let number = r.number.0 in
    let fault = subst (λ n. fault_of n block.1 ≡ Some f) number is in
    invalid old new before after f
    (block.1, subst (λ n. GivesNext old before.left new after.left (Ok (Some (n, block.1)))) number r.next, fault)
    r.failure (block_fault new.number block.1 f fault)
read-as old new before after (Err f) a r is =
    subst (Says old before new after) (sym is) (stopped old new before after f r)

pub says : {old new : Reading} {before after : Reader} {a : Answer}
    → ReadsRecord old before new after a → Says old before new after a
says {old} {new} {before} {after} {a} r =
    read-as old new before after r.block a r.reads r.is_read
