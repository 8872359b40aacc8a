use Rattle.exec_flow.proofs.frames.+copy_frames.Given as goal

abbrev pub decreases-copy_frames : goal.decreases-copy_frames
decreases-copy_frames g l = l.count
