use Rattle.monitor.proofs.code_lines.+push_listing.Given as goal

abbrev pub decreases-push_listing : goal.decreases-push_listing
decreases-push_listing g l = l.count
