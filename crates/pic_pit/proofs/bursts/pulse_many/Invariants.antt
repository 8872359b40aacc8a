use Rattle.std.proofs.Common.{◌≡◌, ◌≤◌, ◌+◌, ◌||◌, IsTrue}
use Rattle.mdl_dev.specs.PitImage.{is_in_range}
use Rattle.pic_pit.specs.Bursts.{counter_pulses, counter_has_risen}
use Rattle.pic_pit.proofs.bursts.pulse_many.Given as goal

abbrev pub invariant-loop-left : goal.invariant-loop-left
invariant-loop-left l = record {
  new : counter_pulses l.gate l.left l.counter ≡ counter_pulses l.gate l.n l.fn.counter;
  rose : (l.rose || counter_has_risen l.gate l.left l.counter) ≡ counter_has_risen l.gate l.n l.fn.counter;
  here : l.counter ≡ counter_pulses l.gate l.since l.earlier;
  told : (l.rose || counter_has_risen l.gate l.since l.earlier) ≡ l.rose;
  fits : l.since + l.left ≤ l.n;
  range : IsTrue (is_in_range l.counter);
}

abbrev pub decreases-loop-left : goal.decreases-loop-left
decreases-loop-left l = l.left
