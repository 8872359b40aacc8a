use Rattle.debug_regs.proofs.Enabled.{data_by}
use Rattle.debug_regs.proofs.breakpoints.data_breakpoints.Goals as goal

pub returns : goal.returns
returns c = data_by c.args.regs.now _ _ _ _ _ c.new-list.ensures c.add_data.ensures.items c.add_data-2.ensures.items c.add_data-3.ensures.items c.add_data-4.ensures.items
