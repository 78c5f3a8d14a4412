-- `inventory::main` is safe: its buffer holds every page. Assumes nothing.
use native.Mathlib.Omega.{arith}
use Rattle.inventory.proofs.main.Goals as goal

pub print_page-requires : goal.print_page-requires
print_page-requires c = omega arith
