use Rattle.std.proofs.Common.{◌≡◌, ℕ, Option, List, ◌∷◌, [], ◌++◌, ◌+◌, sym, subst, ap, ◌∙◌, arith}
use Rattle.std.specs.Io.KnownBytes.{Consumes, prepend_known}
use Rattle.host_io.specs.declared.host.InSlot.TheVariants.{Commands}
use Rattle.host_io.specs.declared.host.OutSlot.TheVariants.{Report}
use Rattle.host_io.specs.declared.host.Slot.TheVariants.{Out}
use Rattle.host_io.specs.declared.host.Slot.{Slot}
use Rattle.host_io.specs.Causes.{Rose}
use Rattle.monitor.specs.Session.{IsTooLong, most_commands}
use Rattle.mdl_state.specs.declared.Event.{Event}
use Rattle.mdl_text.specs.CommandInput.{text_of, kept}
use Rattle.monitor.specs.LineSteps.{AnswersWhole, AnswersSome}
use Rattle.monitor.specs.Unread.{unread, IsNext}
use Rattle.monitor.proofs.Sessions.{with_byte, with_line, quit_line, session_end, broken_end, broken_report, too_long, none_rose, report_kept, Underway}
use Rattle.monitor.proofs.LineAnswers.{one_byte}
use Rattle.monitor.proofs.session.converse.Goals as goal

pub returns-in-Ok-false-clause-session : goal.returns-in-Ok-false-clause-session
returns-in-Ok-false-clause-session g c =
    let held = c.loop-taken.invariant in
    let events = g.T.Target.script c.args.target.now in
    let start = g.T.Target.machine c.args.target.now in
    let mid = g.T.Target.machine c.loop-taken.target in
    let stops = c.loop-taken.breaks.items in
    let line = c.loop-taken.line in
    let left = g.H.Host.left c.args.host.now Commands in
    let left_now = prepend_known (unread c.loop-taken.reader) (g.H.Host.left c.loop-taken.host Commands) in
    let left_next = prepend_known (unread c.next.new.self) (g.H.Host.left c.next.new.host Commands) in
    let before = g.H.Host.took c.args.host.now Report in
    let between = g.H.Host.took c.loop-taken.host Report in
    let read = g.H.Host.took c.next.new.host Report in
    let n = g.T.Target.machine c.answer_line.new.target in
    let now = c.answer_line.new.breaks.items in
    let after = g.H.Host.took c.answer_line.new.host Report in
    let asks = c.a_line_is_kept_as_far_as_it_matters.ensures.asks in
    let taken = subst (λ (o : Option ℕ). IsNext o left_now left_next) c.in-Some.is c.in-Ok.ensures.next in
    let byte = c.if-byte-ne10.false in
    let fed = subst (λ (b : ℕ). Consumes left_now left_next (b ∷ [])) byte taken in
    quit_line asks events start mid n stops line now left left_now left_next before between after c.loop-taken._taken c.in-Ok-false.field-0 c.in-Ok-false.field-0-test (omega (arith, c.loop-taken-test.true, c.loop-taken.auto._taken-end)) held.underway fed
    (subst (λ (t : Option (List ℕ)). AnswersWhole events (text_of line) c.in-Ok-false.field-0 mid stops n now t after) (c.next.ensures.took Report)
    (subst (λ (es : List Event). AnswersWhole es (text_of line) c.in-Ok-false.field-0 mid stops n now read after) held.script c.in-Ok-false.ensures.ok))

pub returns-in-Err-clause-broken : goal.returns-in-Err-clause-broken
returns-in-Err-clause-broken g c =
    let held = c.loop-taken.invariant in
    let events = g.T.Target.script c.args.target.now in
    let start = g.T.Target.machine c.args.target.now in
    let mid = g.T.Target.machine c.loop-taken.target in
    let stops = c.loop-taken.breaks.items in
    let line = c.loop-taken.line in
    let left = g.H.Host.left c.args.host.now Commands in
    let left_now = prepend_known (unread c.loop-taken.reader) (g.H.Host.left c.loop-taken.host Commands) in
    let left_next = prepend_known (unread c.next.new.self) (g.H.Host.left c.next.new.host Commands) in
    let before = g.H.Host.took c.args.host.now Report in
    let between = g.H.Host.took c.loop-taken.host Report in
    let read = g.H.Host.took c.next.new.host Report in
    let n = g.T.Target.machine c.answer_line.new.target in
    let now = c.answer_line.new.breaks.items in
    let after = g.H.Host.took c.answer_line.new.host Report in
    let asks = c.a_line_is_kept_as_far_as_it_matters.ensures.asks in
    broken_report asks events start mid n stops line now left left_now before between after c.loop-taken._taken held.underway
    (subst (λ (t : Option (List ℕ)). AnswersSome events (text_of line) mid stops n now t after) (c.next.ensures.took Report)
    (subst (λ (es : List Event). AnswersSome es (text_of line) mid stops n now read after) held.script c.in-Err.ensures.err))

pub returns-in-Err-clause-cause : goal.returns-in-Err-clause-cause
returns-in-Err-clause-cause g c =
    let held = c.loop-taken.invariant in
    let same = none_rose (g.H.Host.faults c.loop-taken.host) (g.H.Host.faults c.next.new.host) c.in-Ok.ensures.cause.kept c.in-Ok.ensures.cause.others in (
      subst (λ (count : ℕ). Rose count (g.H.Host.faults c.answer_line.new.host (Out Report))) (same (Out Report) ∙ held.counts (Out Report)) c.in-Err.ensures.cause.failed,
      λ other differs. c.in-Err.ensures.cause.others other differs ∙ same other ∙ held.counts other,
    )

pub returns-in-Err-clause-outputs : goal.returns-in-Err-clause-outputs
returns-in-Err-clause-outputs g c = λ other differs. c.answer_line.ensures.outputs other differs ∙ c.next.ensures.took other ∙ c.loop-taken.invariant.outputs other differs

pub returns-in-Err-clause-inputs : goal.returns-in-Err-clause-inputs
returns-in-Err-clause-inputs g c = λ other differs. c.answer_line.ensures.left other ∙ c.next.ensures.inputs other differs ∙ c.loop-taken.invariant.inputs other differs

pub returns-in_default-next-clause-session : goal.returns-in_default-next-clause-session
returns-in_default-next-clause-session g c =
    let held = c.loop-taken.invariant in
    let events = g.T.Target.script c.args.target.now in
    let start = g.T.Target.machine c.args.target.now in
    let mid = g.T.Target.machine c.loop-taken.target in
    let stops = c.loop-taken.breaks.items in
    let line = c.loop-taken.line in
    let left = g.H.Host.left c.args.host.now Commands in
    let left_now = prepend_known (unread c.loop-taken.reader) (g.H.Host.left c.loop-taken.host Commands) in
    let left_next = prepend_known (unread c.next.new.self) (g.H.Host.left c.next.new.host Commands) in
    let before = g.H.Host.took c.args.host.now Report in
    let between = g.H.Host.took c.loop-taken.host Report in
    let read = g.H.Host.took c.next.new.host Report in
    let n = g.T.Target.machine c.end.new.target in
    let now = c.end.new.breaks.items in
    let after = g.H.Host.took c.end.new.host Report in
    let asks = c.a_line_is_kept_as_far_as_it_matters.ensures.asks in
    session_end c.end.result asks events (g.T.Target.script c.loop-taken.target) start mid n stops line now left left_now left_next before between after read c.loop-taken._taken c.in-Ok.next
    (omega (arith, c.loop-taken-test.true, c.loop-taken.auto._taken-end)) held.script held.underway c.in-Ok.ensures.next c.in_default-next.is (c.next.ensures.took Report) c.end.ensures.ok

pub returns-in_default-next-clause-broken : goal.returns-in_default-next-clause-broken
returns-in_default-next-clause-broken g c =
    let held = c.loop-taken.invariant in
    let events = g.T.Target.script c.args.target.now in
    let start = g.T.Target.machine c.args.target.now in
    let mid = g.T.Target.machine c.loop-taken.target in
    let stops = c.loop-taken.breaks.items in
    let line = c.loop-taken.line in
    let left = g.H.Host.left c.args.host.now Commands in
    let left_now = prepend_known (unread c.loop-taken.reader) (g.H.Host.left c.loop-taken.host Commands) in
    let left_next = prepend_known (unread c.next.new.self) (g.H.Host.left c.next.new.host Commands) in
    let before = g.H.Host.took c.args.host.now Report in
    let between = g.H.Host.took c.loop-taken.host Report in
    let read = g.H.Host.took c.next.new.host Report in
    let n = g.T.Target.machine c.end.new.target in
    let now = c.end.new.breaks.items in
    let after = g.H.Host.took c.end.new.host Report in
    let asks = c.a_line_is_kept_as_far_as_it_matters.ensures.asks in
    broken_end c.end.result asks events (g.T.Target.script c.loop-taken.target) start mid n stops line now left left_now _ before between after read c.loop-taken._taken
    held.script held.underway (c.next.ensures.took Report) c.end.ensures.broken c.end.ensures.err

pub returns-in-Ok-None-clause-session : goal.returns-in-Ok-None-clause-session
returns-in-Ok-None-clause-session g c =
    let held = c.loop-taken.invariant in
    let events = g.T.Target.script c.args.target.now in
    let start = g.T.Target.machine c.args.target.now in
    let mid = g.T.Target.machine c.loop-taken.target in
    let stops = c.loop-taken.breaks.items in
    let line = c.loop-taken.line in
    let left = g.H.Host.left c.args.host.now Commands in
    let left_now = prepend_known (unread c.loop-taken.reader) (g.H.Host.left c.loop-taken.host Commands) in
    let left_next = prepend_known (unread c.next-2.new.self) (g.H.Host.left c.next-2.new.host Commands) in
    let before = g.H.Host.took c.args.host.now Report in
    let between = g.H.Host.took c.loop-taken.host Report in
    let read = g.H.Host.took c.next-2.new.host Report in
    let n = g.T.Target.machine c.end-in-Ok-None.new.target in
    let now = c.end-in-Ok-None.new.breaks.items in
    let after = g.H.Host.took c.end-in-Ok-None.new.host Report in
    let asks = c.a_line_is_kept_as_far_as_it_matters.ensures.asks in
    session_end c.end-in-Ok-None.result asks events (g.T.Target.script c.loop-taken.target) start mid n stops line now left left_now left_next before between after read c.loop-taken._taken c.in-Ok-None.field-0
    (omega (arith, c.loop-taken-test.false, c.loop-taken.auto._taken-end)) held.script held.underway c.in-Ok-None.ensures.next c.in-Ok-None.field-0-is (c.next-2.ensures.took Report) c.end-in-Ok-None.ensures.ok

pub returns-in-Ok-None-clause-broken : goal.returns-in-Ok-None-clause-broken
returns-in-Ok-None-clause-broken g c =
    let held = c.loop-taken.invariant in
    let events = g.T.Target.script c.args.target.now in
    let start = g.T.Target.machine c.args.target.now in
    let mid = g.T.Target.machine c.loop-taken.target in
    let stops = c.loop-taken.breaks.items in
    let line = c.loop-taken.line in
    let left = g.H.Host.left c.args.host.now Commands in
    let left_now = prepend_known (unread c.loop-taken.reader) (g.H.Host.left c.loop-taken.host Commands) in
    let left_next = prepend_known (unread c.next-2.new.self) (g.H.Host.left c.next-2.new.host Commands) in
    let before = g.H.Host.took c.args.host.now Report in
    let between = g.H.Host.took c.loop-taken.host Report in
    let read = g.H.Host.took c.next-2.new.host Report in
    let n = g.T.Target.machine c.end-in-Ok-None.new.target in
    let now = c.end-in-Ok-None.new.breaks.items in
    let after = g.H.Host.took c.end-in-Ok-None.new.host Report in
    let asks = c.a_line_is_kept_as_far_as_it_matters.ensures.asks in
    broken_end c.end-in-Ok-None.result asks events (g.T.Target.script c.loop-taken.target) start mid n stops line now left left_now _ before between after read c.loop-taken._taken
    held.script held.underway (c.next-2.ensures.took Report) c.end-in-Ok-None.ensures.broken c.end-in-Ok-None.ensures.err

pub loop-taken-preserved-then-byte-ne10 : goal.loop-taken-preserved-then-byte-ne10
loop-taken-preserved-then-byte-ne10 g c =
    let held = c.loop-taken.invariant in
    let events = g.T.Target.script c.args.target.now in
    let start = g.T.Target.machine c.args.target.now in
    let mid = g.T.Target.machine c.loop-taken.target in
    let stops = c.loop-taken.breaks.items in
    let line = c.loop-taken.line in
    let left = g.H.Host.left c.args.host.now Commands in
    let left_now = prepend_known (unread c.loop-taken.reader) (g.H.Host.left c.loop-taken.host Commands) in
    let left_next = prepend_known (unread c.next.new.self) (g.H.Host.left c.next.new.host Commands) in
    let before = g.H.Host.took c.args.host.now Report in
    let between = g.H.Host.took c.loop-taken.host Report in
    let read = g.H.Host.took c.next.new.host Report in
    let taken = subst (λ (o : Option ℕ). IsNext o left_now left_next) c.in-Some.is c.in-Ok.ensures.next in
    let pieces = c.a_line_is_kept_as_far_as_it_matters.ensures.pieces in
    let is = c.take.ensures.taken ∙ ap (λ (xs : List ℕ). kept (line ++ xs)) (one_byte c.in-Some.byte c.if-byte-ne10.true) in
    let same = none_rose (g.H.Host.faults c.loop-taken.host) (g.H.Host.faults c.next.new.host) c.in-Ok.ensures.cause.kept c.in-Ok.ensures.cause.others in
    record {
      underway = subst (λ (t : Option (List ℕ)). Underway events start mid stops c.take.new.self left left_next before t (c.loop-taken._taken + 1)) (sym (c.next.ensures.took Report))
          (with_byte pieces events start mid stops line c.take.new.self left left_now left_next before between c.loop-taken._taken c.in-Some.byte c.if-byte-ne10.true taken is held.underway);
      bound = held.bound;
      script = held.script;
      outputs = λ other differs. c.next.ensures.took other ∙ held.outputs other differs;
      inputs = λ other differs. c.next.ensures.inputs other differs ∙ held.inputs other differs;
      paths = λ slot. c.next.ensures.paths slot ∙ held.paths slot;
      counts = λ slot. same slot ∙ held.counts slot;
      promise = c.next.ensures.promise ∙ held.promise;
    }

pub loop-taken-preserved : goal.loop-taken-preserved
loop-taken-preserved g c =
    let held = c.loop-taken.invariant in
    let events = g.T.Target.script c.args.target.now in
    let start = g.T.Target.machine c.args.target.now in
    let mid = g.T.Target.machine c.loop-taken.target in
    let stops = c.loop-taken.breaks.items in
    let line = c.loop-taken.line in
    let left = g.H.Host.left c.args.host.now Commands in
    let left_now = prepend_known (unread c.loop-taken.reader) (g.H.Host.left c.loop-taken.host Commands) in
    let left_next = prepend_known (unread c.next.new.self) (g.H.Host.left c.next.new.host Commands) in
    let before = g.H.Host.took c.args.host.now Report in
    let between = g.H.Host.took c.loop-taken.host Report in
    let read = g.H.Host.took c.next.new.host Report in
    let n = g.T.Target.machine c.answer_line.new.target in
    let now = c.answer_line.new.breaks.items in
    let after = g.H.Host.took c.answer_line.new.host Report in
    let asks = c.a_line_is_kept_as_far_as_it_matters.ensures.asks in
    let taken = subst (λ (o : Option ℕ). IsNext o left_now left_next) c.in-Some.is c.in-Ok.ensures.next in
    let fed = subst (λ (b : ℕ). Consumes left_now left_next (b ∷ [])) c.if-byte-ne10.false taken in
    let on = c.in-Ok-true.field-0 in
    let same = none_rose (g.H.Host.faults c.loop-taken.host) (g.H.Host.faults c.next.new.host) c.in-Ok.ensures.cause.kept c.in-Ok.ensures.cause.others in
    let left_last = prepend_known (unread c.next.new.self) (g.H.Host.left c.answer_line.new.host Commands) in
    let unmoved : left_last ≡ left_next = ap (λ (x : Option (List ℕ)). prepend_known (unread c.next.new.self) x) (c.answer_line.ensures.left Commands) in
    let counted : (slot : Slot) → g.H.Host.faults c.answer_line.new.host slot ≡ g.H.Host.faults c.next.new.host slot = report_kept (g.H.Host.faults c.next.new.host) (g.H.Host.faults c.answer_line.new.host) c.in-Ok-true.ensures.cause.kept c.in-Ok-true.ensures.cause.others in
    let moved = with_line asks events start mid n stops line now left left_now left_next before between after c.loop-taken._taken on c.in-Ok-true.field-0-test fed
    (subst (λ (t : Option (List ℕ)). AnswersWhole events (text_of line) on mid stops n now t after) (c.next.ensures.took Report)
    (subst (λ (es : List Event). AnswersWhole es (text_of line) on mid stops n now read after) held.script c.in-Ok-true.ensures.ok)) held.underway in
    record {
      underway = subst (λ (xs : List ℕ). Underway events start n now xs left left_last before after (c.loop-taken._taken + 1)) (sym c.clear.ensures)
          (subst (λ (x : Option (List ℕ)). Underway events start n now [] left x before after (c.loop-taken._taken + 1)) (sym unmoved) moved);
      bound = c.answer_line.ensures.bound;
      script = c.answer_line.ensures.script ∙ held.script;
      outputs = λ other differs. c.answer_line.ensures.outputs other differs ∙ c.next.ensures.took other ∙ held.outputs other differs;
      inputs = λ other differs. c.answer_line.ensures.left other ∙ c.next.ensures.inputs other differs ∙ held.inputs other differs;
      paths = λ slot. c.answer_line.ensures.paths slot ∙ c.next.ensures.paths slot ∙ held.paths slot;
      counts = λ slot. counted slot ∙ same slot ∙ held.counts slot;
      promise = c.answer_line.ensures.promise ∙ c.next.ensures.promise ∙ held.promise;
    }

pub returns-in-Ok-Some-clause-broken : goal.returns-in-Ok-Some-clause-broken
returns-in-Ok-Some-clause-broken g c =
    let held = c.loop-taken.invariant in
    let events = g.T.Target.script c.args.target.now in
    let start = g.T.Target.machine c.args.target.now in
    let mid = g.T.Target.machine c.loop-taken.target in
    let stops = c.loop-taken.breaks.items in
    let line = c.loop-taken.line in
    let left = g.H.Host.left c.args.host.now Commands in
    let left_now = prepend_known (unread c.loop-taken.reader) (g.H.Host.left c.loop-taken.host Commands) in
    let left_next = prepend_known (unread c.next-2.new.self) (g.H.Host.left c.next-2.new.host Commands) in
    let before = g.H.Host.took c.args.host.now Report in
    let between = g.H.Host.took c.loop-taken.host Report in
    let read = g.H.Host.took c.next-2.new.host Report in
    let taken = subst (λ (o : Option ℕ). IsNext o left_now left_next) c.in-Ok-Some.field-0-is c.in-Ok-Some.ensures.next in
    let all : c.loop-taken._taken ≡ most_commands = omega (arith, c.loop-taken-test.false, c.loop-taken.auto._taken-end) in
    subst (λ (t : Option (List ℕ)). IsTooLong events start mid left before t) (sym (c.next-2.ensures.took Report))
    (too_long events start mid stops line left left_now left_next before between c.loop-taken._taken c.in-Ok-Some.field-0-0 all held.underway taken)
