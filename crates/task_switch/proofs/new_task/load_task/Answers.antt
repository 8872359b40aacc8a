use Rattle.mdl_cpu.specs.Steady.{Steady}
use Rattle.task_switch.proofs.Pushes.{then_stays}
use Rattle.task_switch.proofs.new_task.load_task.Goals as goal
use Rattle.task_switch.proofs.new_task.load_task.Goals.{then-is_virtual_image, else-is_virtual_image+in_ok-load_code+in_ok-load_stack+in_ok-load_data_or+in_ok-load_data_or-2+in_ok-load_data_or-3+in_ok-load_data_or-4}

-- each load leaves the mode, and so do all of them
pub returns-clause-steady : goal.returns-clause-steady
returns-clause-steady g c =
    let table : Steady c.args.regs.now c.load_ldt.new.regs = c.load_ldt.ensures.steady in
    let loaded : Steady c.load_ldt.new.regs c.if-is_virtual_image.regs = elim c.if-is_virtual_image.branch [
      | then-is_virtual_image w ↦ rw (w.regs-is) (w.load_virtual.ensures.steady)
      | else-is_virtual_image+in_ok-load_code+in_ok-load_stack+in_ok-load_data_or+in_ok-load_data_or-2+in_ok-load_data_or-3+in_ok-load_data_or-4 w ↦ rw (w.regs-is)
          (then_stays _ _ _ w.load_code.ensures.steady (then_stays _ _ _ w.load_stack.ensures.steady
          (then_stays _ _ _ w.load_data_or.ensures.steady (then_stays _ _ _ w.load_data_or-else-is_virtual_image.ensures.steady
          (then_stays _ _ _ w.load_data_or-else-is_virtual_image-2.ensures.steady w.load_data_or-else-is_virtual_image-3.ensures.steady)))))
    ] in
    then_stays _ _ _ table (then_stays _ _ _ loaded c.push_code.ensures.steady)
