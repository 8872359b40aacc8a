use Rattle.cpu_core.proofs.execute.remap.Goals as goal

pub returns-in-Creg : goal.returns-in-Creg
returns-in-Creg g c = λ flags. rw (c.in-Mov.is, c.in-Creg.is) (c.load_control.ensures flags)
