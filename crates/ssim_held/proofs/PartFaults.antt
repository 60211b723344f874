-- What an error for memory says, and an error that was passed on.
use Rattle.std.proofs.Common.{◌≡◌, ◌≢◌, Option, None, Err, sym, subst}
use Rattle.std.specs.Prelude.{IfErr, IfNone, Result}
use Rattle.ssim_held.specs.declared.desk_file_reader.fault.PartFault.{PartFault}
use Rattle.ssim_held.specs.declared.desk_file_reader.fault.PartFault.TheVariants.{Memory}

pub none_is : {A : Type 0} (o : Option A) (Q : Type 0) → o ≡ None → Q → IfNone o Q
none_is {A} o Q is q = subst (λ (x : Option A). IfNone x Q) (sym is) q

-- an error that was passed on is for the same reason
pub handed_on : {A : Type 0} (r : Result A PartFault) (e : PartFault) (Q : Type 0) → r ≡ Err e → (e ≢ Memory → Q) → IfErr r (λ x. x ≢ Memory → Q)
handed_on {A} r e Q is q = subst (λ (x : Result A PartFault). IfErr x (λ y. y ≢ Memory → Q)) (sym is) q
