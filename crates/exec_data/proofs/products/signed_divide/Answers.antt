use Rattle.exec_data.proofs.Quotients.{idiv_fits}
use Rattle.exec_data.proofs.products.signed_divide.Goals as goal

pub set_quotient-requires : goal.set_quotient-requires
set_quotient-requires c = rw c.idiv.ensures (idiv_fits c.args.insn.now.size _ _ _ c.value-by.ensures.bound)
