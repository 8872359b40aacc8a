use Rattle.std.proofs.Common.{List, ◌∙◌, ap}
use Rattle.mdl_state.specs.declared.Event.{Event}
use Rattle.pc_machine.specs.Runs.{due_by}
use Rattle.scripted_pc.proofs.Events.{due_most}
use Rattle.scripted_pc.proofs.guest.Guest.new.Goals as goal

pub invariant_of-result : goal.invariant_of-result
invariant_of-result c =
    let j = c.run-applied.new.self.state.core.steps in
    let due = c.run-applied.ensures.applied ∙ ap (λ (xs : List Event). due_by j xs) c.as_slice.ensures.value in
    record {
      rises = c.requires.rises;
      due = due;
      inside = due_most c.args.events.items c.run-applied.result j due;
    }
