-- The numbers of the faults of a store.
use Rattle.std.specs.Prelude.{ℕ}
use Rattle.ssim_program.specs.declared.store.StoreFault.{StoreFault}
use Rattle.ssim_program.specs.declared.store.StoreFault.TheVariants as fault

-- the number of a store's fault: 90 if memory ran out; 91 if there is no such file within the
-- limit, or it cannot be read or written
abbrev pub store_fault_number : StoreFault → ℕ
store_fault_number fault.Memory = 90
store_fault_number fault.Fault = 91
