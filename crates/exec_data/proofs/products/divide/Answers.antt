use Rattle.exec_data.proofs.Quotients.{div_fits}
use Rattle.exec_data.proofs.products.divide.Goals as goal

pub set_quotient-requires : goal.set_quotient-requires
set_quotient-requires c = rw c.div.ensures (div_fits c.args.insn.now.size _ _ _ c.value-by.ensures.bound)
