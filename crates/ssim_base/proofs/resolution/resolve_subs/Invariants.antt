-- What holds of the sub-messages so far, whatever the result for those that are left.
use Rattle.std.proofs.Common.{ℕ, ◌+◌, List, ◌++◌, drop}
use Rattle.ssim_records.specs.Carrier.{CarrierFields}
use Rattle.ssim_text.specs.declared.action.Sub.{Sub}
use Rattle.ssim_base.specs.Resolve.{AreResolved, IsFirstRefused}
use Rattle.ssim_base.specs.declared.sub_message.ResolvedSub.{ResolvedSub}
use Rattle.ssim_base.specs.declared.resolution.ResolveFault.{ResolveFault}
use Rattle.ssim_base.proofs.resolution.resolve_subs.Given as goal

pub record Goes (carrier : CarrierFields) (subs : List Sub) (place : ℕ) (resolved : List ResolvedSub) : Type 0 where
  pub done : (rest : List ResolvedSub) → AreResolved carrier (drop place subs) rest → AreResolved carrier subs (resolved ++ rest)
  pub refused : (f : ResolveFault) → IsFirstRefused carrier (place + 1) (drop place subs) f → IsFirstRefused carrier 1 subs f

abbrev pub invariant-loop-place : goal.invariant-loop-place
invariant-loop-place l = Goes l.carrier l.subs l.place l.resolved.items
