-- What a data set in a file is read as, if the file is opened and read to its end.
use Rattle.std.proofs.Common.{◌≡◌, ◌≤◌, ◌<◌, ◌+◌, ℕ, List, [], length, Option, Some, None, Result}
use Rattle.std.proofs.Common.{Ok, Err, IfOk, IfErr, subst, sym, ap, inl, inr, arith}
use Rattle.std.specs.Prelude.{IfSome, codes}
use Rattle.ssim_records.specs.Device.{Reader}
use Rattle.ssim_records.specs.declared.fault.RecordFault.TheVariants.{Short, BadType, BadColumn, ReadFault, ReaderNeverEnds}
use Rattle.ssim_records.specs.declared.record.Record.{Record}
use Rattle.ssim_base.specs.Base.{Outcome}
use Rattle.ssim_base.specs.clauses.Reading.{Came, HaveCome, FailsAs, NeverEnds}
use Rattle.ssim_base.specs.declared.fault.BaseFault.{BaseFault}
use Rattle.ssim_base.specs.declared.fault.BaseFault.TheVariants as fault
use Rattle.ssim_base.specs.declared.fault.BaseFault.TheVariants.{Read, Refused}
use Rattle.ssim_base.specs.declared.note.Note.{Note}
use Rattle.ssim_program.specs.Files.{Files, IsOpened}
use Rattle.ssim_program.specs.Made.{HasFile, IsMissing, IsOfBytes, ReadsFile, RefusesLoad, file_limit}
use Rattle.ssim_command_line.specs.Line.{Text}
use Rattle.ssim_program.specs.print.Refusal.{IsOfFile, refusal_number}
use Rattle.ssim_program.specs.internal.DataSet.{IsUnread}
use Rattle.ssim_program.specs.declared.refusal.Refusal.{Refusal}
use Rattle.ssim_program.specs.declared.refusal.Refusal.TheVariants as refused

-- ---- a file that was read

abbrev pub Fails : Option Files → ℕ → Type 0
Fails files failures = IfSome files (λ all. failures ≡ 0)

some_is : (a b : Refusal) → Some a ≡ Some b → b ≡ a
some_is a b e = cc

-- a file that the contract can see has more bytes than the limit
too_long : (files : Option Files) (name : Text) (left left' : Option (List ℕ)) (start now n : ℕ) → IsOpened files name left → file_limit < n → HaveCome left left' start now n → IsMissing files name
too_long None name left left' start now n opened over came = tt
too_long (Some all) name left left' start now n opened over came = subst (λ (o : Option (List ℕ)). IfSome o (λ bytes. file_limit < length bytes)) (sym opened.1)
    (longer left left' start now n opened.0 opened.2 over came)
  where
    longer : (left left' : Option (List ℕ)) (start now n : ℕ) (bytes : List ℕ) → left ≡ Some bytes → file_limit < n → HaveCome left left' start now n → file_limit < length bytes
    longer None left' start now n bytes is over came = absurd cc
    longer (Some x) None start now n bytes is over came = absurd came
    longer (Some x) (Some y) start now n bytes is over came =
        let same : x ≡ bytes = cc in
        omega (arith, ap length same, over, came)

-- a file that was not read to its end, or has more bytes than the limit
pub refuses_unread : (files : Option Files) (name : Text) (left left' : Option (List ℕ)) (start now old new : ℕ) (e : BaseFault) (refusal : Refusal) → IsOpened files name left → Fails files old → Fails files new
    → FailsAs old new e → NeverEnds file_limit (HaveCome left left' start now) e → IsUnread name e (Some refusal) → RefusesLoad files name refusal
refuses_unread files name left left' start now old new fault.Memory refusal opened before after failed over is = inl (ap refusal_number (some_is refused.Memory refusal (sym is)))
refuses_unread files name left left' start now old new (Read (Short n)) refusal opened before after failed over is = absurd cc
refuses_unread files name left left' start now old new (Read (BadType n)) refusal opened before after failed over is = absurd cc
refuses_unread files name left left' start now old new (Read (BadColumn n column)) refusal opened before after failed over is = absurd cc
refuses_unread None name left left' start now old new (Read (ReadFault n)) refusal opened before after failed over is =
    let same : is.0 ≡ refusal = some_is refusal is.0 is.1 in
    inr (subst (λ (r : Refusal). IsOfFile 91 (codes "File") name r) same is.2, tt)
refuses_unread (Some all) name left left' start now old new (Read (ReadFault n)) refusal opened before after failed over is = absurd (omega (arith, before, after, failed))
refuses_unread files name left left' start now old new (Read (ReaderNeverEnds n)) refusal opened before after failed over is =
    let same : is.0 ≡ refusal = some_is refusal is.0 is.1 in
    inr (subst (λ (r : Refusal). IsOfFile 91 (codes "File") name r) same is.2, too_long files name left left' start now (file_limit + 1) opened (omega arith) over)
refuses_unread files name left left' start now old new (Refused n why) refusal opened before after failed over is = absurd cc

-- a file of a kind that never fails has not failed
pub failures_of : {F : Type 0} (files : Option Files) (state : F → Reader) (file : F) → IfSome files (λ all. (other : F) → (state other).failures ≡ 0) → Fails files (state file).failures
failures_of None state file unfailing = tt
failures_of (Some all) state file unfailing = unfailing file

-- a file that is not read, by what its reader was before and after
pub refuses_read : (files : Option Files) (name : Text) (before after : Reader) (e : BaseFault) (refusal : Refusal) → IsOpened files name before.left → Fails files before.failures → Fails files after.failures
    → FailsAs before.failures after.failures e → NeverEnds file_limit (Came before after) e → IsUnread name e (Some refusal) → RefusesLoad files name refusal
refuses_read files name before after e refusal =
    refuses_unread files name before.left after.left before.came after.came before.failures after.failures e refusal

-- the file of this name is within the limit, if it was read
pub has_file : (files : Option Files) (name : Text) (outcome : Outcome) → ReadsFile files name outcome → (bytes : List ℕ) × HasFile files name bytes
has_file None name outcome read = ([], (omega arith, tt))
has_file (Some all) name outcome read =
    let bytes = read.1.0 in
    (bytes, (subst (λ (o : Option (List ℕ)). IfSome o (λ b. length b ≤ file_limit)) read.1.2 read.2.1, read.1.1))

-- the file of this name is within the limit, if its bytes were read or refused
pub read_within : (files : Option Files) (name : Text) (result : Result (Result (List Record) BaseFault) Refusal)
    → IfOk result (λ read. IfOk read (λ set. (notes : List Note) × ReadsFile files name (Ok (set, notes)))) → IfOk result (λ read. IfErr read (λ e. IsOfBytes e × ReadsFile files name (Err e)))
    → IfOk result (λ read. (bytes : List ℕ) × HasFile files name bytes)
read_within files name (Ok (Ok set)) read fault = has_file files name (Ok (set, read.0)) read.1
read_within files name (Ok (Err e)) read fault = has_file files name (Err e) fault.1
read_within files name (Err refusal) read fault = tt

-- ---- bytes in memory
