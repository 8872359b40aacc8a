-- Lemmas on how a session of the monitor ends.
use Rattle.std.proofs.Common.{◌≡◌, ℕ, List, [], Option, None, Some, Result, Ok, Err, IfErr, OnOk, refl, sym, subst, ◌∙◌, inl, inr}
use Rattle.host_io.specs.declared.host.InSlot.{InSlot}
use Rattle.host_io.specs.declared.host.InSlot.TheVariants.{Rom, Disk, Script, Commands}
use Rattle.host_io.specs.declared.host.OutSlot.{OutSlot}
use Rattle.host_io.specs.declared.host.OutSlot.TheVariants.{Report, Mem, Save}
use Rattle.host_io.specs.declared.host.Slot.{Slot}
use Rattle.host_io.specs.declared.host.Slot.TheVariants.{In, Out}
use Rattle.host_io.specs.Slots.{Same, SameBut}
use Rattle.command_words.specs.Jobs as jobs
use Rattle.command_words.specs.Jobs.{Monitor}
use Rattle.mdl_board.specs.Board.{BoardState}
use Rattle.mdl_state.specs.Machine.{Machine}
use Rattle.monitor.specs.declared.session.Broken.{Broken}
use Rattle.monitor.specs.declared.session.Broken.TheVariants as ends
use Rattle.monitor.specs.Session.{IsSession, IsBroken, IsBegun, IsBrokenOff, IsTooLong}
use Rattle.mdl_state.specs.declared.Event.{Event}
use Rattle.scripted_pc.specs.Played.{Played}
use Rattle.m386.specs.declared.refusals.Refusal.{Refusal}
use Rattle.m386.specs.declared.refusals.Refusal.TheVariants as refusals
use Rattle.m386.specs.Slots.{Left, Took, Paths, Keeps, OpenedAs, OpenedOnly, input_path, path_for}
use Rattle.m386.specs.Inputs.{Fed, IsFed}
use Rattle.m386.specs.Monitored.{IsStarted, Monitored}
use Rattle.m386.specs.Causes.{IsRefused}
use Rattle.m386.specs.Feeding.{IsFeedRefused}
use Rattle.m386.specs.Talking.{HasSession, IsAtPowerOn, IsTalkRefused, talk_path}
use Rattle.m386.proofs.Slots.{stays_only, then_only}

-- ---- slots

-- the inputs of the machine are opened, and then the commands and the report
opened_all : (m : jobs.Machine) (p0 p1 p2 : Paths) → ((slot : InSlot) → OpenedAs (input_path m slot) (p0 (In slot)) (p1 (In slot))) → ((slot : OutSlot) → p1 (Out slot) ≡ p0 (Out slot))
    → ((slot : Slot) → OpenedAs (talk_path slot) (p1 slot) (p2 slot)) → (slot : Slot) → OpenedAs (path_for (Monitor m) slot) (p0 slot) (p2 slot)
opened_all m p0 p1 p2 inputs stay talk (In Rom) = subst (λ x. OpenedAs (input_path m Rom) (p0 (In Rom)) x) (sym (talk (In Rom))) (inputs Rom)
opened_all m p0 p1 p2 inputs stay talk (In Disk) = subst (λ x. OpenedAs (input_path m Disk) (p0 (In Disk)) x) (sym (talk (In Disk))) (inputs Disk)
opened_all m p0 p1 p2 inputs stay talk (In Script) = subst (λ x. OpenedAs (input_path m Script) (p0 (In Script)) x) (sym (talk (In Script))) (inputs Script)
opened_all m p0 p1 p2 inputs stay talk (In Commands) = subst (λ x. OpenedAs (Some []) x (p2 (In Commands))) (inputs Commands) (talk (In Commands))
opened_all m p0 p1 p2 inputs stay talk (Out Report) = subst (λ x. OpenedAs (Some []) x (p2 (Out Report))) (stay Report) (talk (Out Report))
opened_all m p0 p1 p2 inputs stay talk (Out Mem) = talk (Out Mem) ∙ stay Mem
opened_all m p0 p1 p2 inputs stay talk (Out Save) = talk (Out Save) ∙ stay Save

-- no slot but the inputs of the machine was opened
pub keeps_fed : (m : jobs.Machine) (l0 l1 : Left) (p0 p1 : Paths) → ((slot : InSlot) → OpenedOnly (input_path m slot) (p0 (In slot)) (p1 (In slot))) → ((slot : OutSlot) → p1 (Out slot) ≡ p0 (Out slot))
    → ((slot : InSlot) → input_path m slot ≡ None → l1 slot ≡ l0 slot) → Keeps (path_for (Monitor m)) l0 l1 p0 p1
keeps_fed m l0 l1 p0 p1 only stay unread = record { opened = at; unread = kept }
  where
    at : (slot : Slot) → OpenedOnly (path_for (Monitor m) slot) (p0 slot) (p1 slot)
    at (In Rom) = only Rom
    at (In Disk) = only Disk
    at (In Script) = only Script
    at (In Commands) = inl (only Commands)
    at (Out Report) = inl (stay Report)
    at (Out Mem) = stay Mem
    at (Out Save) = stay Save

    kept : (slot : InSlot) → path_for (Monitor m) (In slot) ≡ None → l1 slot ≡ l0 slot
    kept Rom none = unread Rom none
    kept Disk none = unread Disk none
    kept Script none = unread Script none
    kept Commands none = unread Commands refl

pub keeps_talk : (m : jobs.Machine) (l0 l1 l2 : Left) (p0 p1 p2 : Paths) → ((slot : InSlot) → OpenedOnly (input_path m slot) (p0 (In slot)) (p1 (In slot))) → ((slot : OutSlot) → p1 (Out slot) ≡ p0 (Out slot))
    → ((slot : InSlot) → input_path m slot ≡ None → l1 slot ≡ l0 slot) → ((slot : Slot) → OpenedOnly (talk_path slot) (p1 slot) (p2 slot)) → SameBut Commands l1 l2 → Keeps (path_for (Monitor m)) l0 l2 p0 p2
keeps_talk m l0 l1 l2 p0 p1 p2 only stay unread talk but = record { opened = at; unread = kept }
  where
    at : (slot : Slot) → OpenedOnly (path_for (Monitor m) slot) (p0 slot) (p2 slot)
    at (In Rom) = stays_only (input_path m Rom) (p0 (In Rom)) (p1 (In Rom)) (p2 (In Rom)) (talk (In Rom)) (only Rom)
    at (In Disk) = stays_only (input_path m Disk) (p0 (In Disk)) (p1 (In Disk)) (p2 (In Disk)) (talk (In Disk)) (only Disk)
    at (In Script) = stays_only (input_path m Script) (p0 (In Script)) (p1 (In Script)) (p2 (In Script)) (talk (In Script)) (only Script)
    at (In Commands) = then_only (Some []) (p0 (In Commands)) (p1 (In Commands)) (p2 (In Commands)) (only Commands) (talk (In Commands))
    at (Out Report) = then_only (Some []) (p0 (Out Report)) (p1 (Out Report)) (p2 (Out Report)) (stay Report) (talk (Out Report))
    at (Out Mem) = talk (Out Mem) ∙ stay Mem
    at (Out Save) = talk (Out Save) ∙ stay Save

    kept : (slot : InSlot) → path_for (Monitor m) (In slot) ≡ None → l2 slot ≡ l0 slot
    kept Rom none = but Rom (λ is. cc) ∙ unread Rom none
    kept Disk none = but Disk (λ is. cc) ∙ unread Disk none
    kept Script none = but Script (λ is. cc) ∙ unread Script none
    kept Commands none = absurd cc

-- ---- refusals

-- the machine is not fed
fed_refused : (m : jobs.Machine) (left l1 : Left) (t0 t1 : Took) (refusal : Refusal) → l1 Commands ≡ left Commands → Same t0 t1 → IsFeedRefused m left refusal → IsRefused (Monitor m) left l1 t0 t1 refusal
fed_refused m left l1 t0 t1 refusals.Memory unread same refused = same
fed_refused m left l1 t0 t1 refusals.Words unread same refused = refused
fed_refused m left l1 t0 t1 (refusals.HostFault slot) unread same refused = (unread, same)
fed_refused m left l1 t0 t1 (refusals.Length slot n) unread same refused = (refused, same)
fed_refused m left l1 t0 t1 (refusals.Script n) unread same refused = (refused, same)
fed_refused m left l1 t0 t1 (refusals.Late slot) unread same refused = absurd refused
fed_refused m left l1 t0 t1 refusals.Commands unread same refused = absurd refused
fed_refused m left l1 t0 t1 refusals.TooLong unread same refused = absurd refused

pub fed_result : {T : Type 0} (r : Result T Refusal) (m : jobs.Machine) (left l1 : Left) (t0 t1 : Took) → l1 Commands ≡ left Commands → Same t0 t1 → IfErr r (IsFeedRefused m left) → IfErr r (IsRefused (Monitor m) left l1 t0 t1)
fed_result (Ok x) m left l1 t0 t1 unread same refused = tt
fed_result (Err refusal) m left l1 t0 t1 unread same refused = fed_refused m left l1 t0 t1 refusal unread same refused

-- the machine at power on
abbrev started : (m : jobs.Machine) (left : Left) (fed : Fed) (p : Played) → IsFed m left fed → IsAtPowerOn m.ram fed p → IsStarted m left
started m left fed p is_fed on = record { fed = fed; is_fed = is_fed; start = p.machine; at_power_on = on.ran }

others_then : (t0 t1 t2 : Took) → Same t0 t1 → SameBut Report t1 t2 → SameBut Report t0 t2
others_then t0 t1 t2 same but other differs = but other differs ∙ same other

-- the session ends before its end, by what the commands had left and the report took at first
talk_ends : (m : jobs.Machine) (left l2 : Left) (t0 t2 : Took) (fed : Fed) (p : Played) (refusal : Refusal) → IsFed m left fed → IsAtPowerOn m.ram fed p → SameBut Report t0 t2
    → IsTalkRefused fed.events p.machine (left Commands) (l2 Commands) (t0 Report) (t2 Report) refusal → IsRefused (Monitor m) left l2 t0 t2 refusal
talk_ends m left l2 t0 t2 fed p refusals.Memory is_fed on others refused = absurd refused
talk_ends m left l2 t0 t2 fed p refusals.Words is_fed on others refused = absurd refused
talk_ends m left l2 t0 t2 fed p (refusals.HostFault slot) is_fed on others refused = (refused.1, same)
  where
    same : (slot : OutSlot) → t2 slot ≡ t0 slot
    same Report = refused.0
    same Mem = others Mem (λ is. cc)
    same Save = others Save (λ is. cc)
talk_ends m left l2 t0 t2 fed p (refusals.Length slot n) is_fed on others refused = absurd refused
talk_ends m left l2 t0 t2 fed p (refusals.Script n) is_fed on others refused = absurd refused
talk_ends m left l2 t0 t2 fed p (refusals.Late slot) is_fed on others refused = record {
  is_report = refused.0;
  started = started m left fed p is_fed on;
  last = refused.1.0;
  session = refused.1.1;
  others = others;
}
talk_ends m left l2 t0 t2 fed p refusals.Commands is_fed on others refused = record {
  started = started m left fed p is_fed on;
  last = refused.0;
  session = refused.1;
  others = others;
}
talk_ends m left l2 t0 t2 fed p refusals.TooLong is_fed on others refused = record {
  started = started m left fed p is_fed on;
  last = refused.0;
  session = refused.1;
  others = others;
}

pub talk_result : {T : Type 0} (r : Result T Refusal) (m : jobs.Machine) (left l1 l2 : Left) (t0 t1 t2 : Took) (fed : Fed) (p : Played) → IsFed m left fed → IsAtPowerOn m.ram fed p
    → l1 Commands ≡ left Commands → Same t0 t1 → SameBut Report t1 t2 → IfErr r (IsTalkRefused p.events p.machine (l1 Commands) (l2 Commands) (t1 Report) (t2 Report)) → IfErr r (IsRefused (Monitor m) left l2 t0 t2)
talk_result (Ok x) m left l1 l2 t0 t1 t2 fed p is_fed on unread same but refused = tt
talk_result (Err refusal) m left l1 l2 t0 t1 t2 fed p is_fed on unread same but refused =
    let by = subst (λ (es : List Event). IsTalkRefused es p.machine (l1 Commands) (l2 Commands) (t1 Report) (t2 Report) refusal) on.events refused in
    let from = subst (λ (x : Option (List ℕ)). IsTalkRefused fed.events p.machine x (l2 Commands) (t1 Report) (t2 Report) refusal) unread by in
    talk_ends m left l2 t0 t2 fed p refusal is_fed on (others_then t0 t1 t2 same but)
    (subst (λ (x : Option (List ℕ)). IsTalkRefused fed.events p.machine (left Commands) (l2 Commands) x (t2 Report) refusal) (same Report) from)

-- ---- behind the openings of the commands and of the report

pub talked : (events : List Event) (start n : Machine BoardState) (left l2 before b2 now : Option (List ℕ)) → l2 ≡ left → b2 ≡ before → IsSession events start n l2 b2 now → HasSession events start left before now
talked events start n left l2 before b2 now unread same is =
    let from = subst (λ (x : Option (List ℕ)). IsSession events start n x b2 now) unread is in
    record { last = n; session = subst (λ (x : Option (List ℕ)). IsSession events start n left x now) same from }

pub talk_cut : (broken : Broken) (events : List Event) (start n : Machine BoardState) (left l2 left_now before b2 now : Option (List ℕ)) → broken ≡ ends.Report → l2 ≡ left → b2 ≡ before → IsBroken broken events start n l2 left_now b2 now
    → IsTalkRefused events start left left_now before now (refusals.Late Report)
talk_cut broken events start n left l2 left_now before b2 now ends_by unread same is =
    let by = subst (λ (b : Broken). IsBroken b events start n l2 left_now b2 now) ends_by is in
    let from = subst (λ (x : Option (List ℕ)). IsBrokenOff events start n x b2 now) unread by in
    (refl, (n, subst (λ (x : Option (List ℕ)). IsBrokenOff events start n left x now) same from))

pub talk_interrupted : (broken : Broken) (events : List Event) (start n : Machine BoardState) (left l2 left_now before b2 now : Option (List ℕ)) → broken ≡ ends.Commands → l2 ≡ left → b2 ≡ before → IsBroken broken events start n l2 left_now b2 now
    → IsTalkRefused events start left left_now before now refusals.Commands
talk_interrupted broken events start n left l2 left_now before b2 now ends_by unread same is =
    let by = subst (λ (b : Broken). IsBroken b events start n l2 left_now b2 now) ends_by is in
    let from = subst (λ (x : Option (List ℕ)). IsBegun events start n x left_now b2 now) unread by in
    (n, subst (λ (x : Option (List ℕ)). IsBegun events start n left left_now x now) same from)

pub talk_overlong : (broken : Broken) (events : List Event) (start n : Machine BoardState) (left l2 left_now before b2 now : Option (List ℕ)) → broken ≡ ends.TooLong → l2 ≡ left → b2 ≡ before → IsBroken broken events start n l2 left_now b2 now
    → IsTalkRefused events start left left_now before now refusals.TooLong
talk_overlong broken events start n left l2 left_now before b2 now ends_by unread same is =
    let by = subst (λ (b : Broken). IsBroken b events start n l2 left_now b2 now) ends_by is in
    let from = subst (λ (x : Option (List ℕ)). IsTooLong events start n x b2 now) unread by in
    (n, subst (λ (x : Option (List ℕ)). IsTooLong events start n left x now) same from)

-- ---- the end

pub session_result : {T E : Type 0} (r : Result T E) (m : jobs.Machine) (left l1 : Left) (t0 t1 t2 : Took) (p0 p1 p2 : Paths) (fed : Fed) (p : Played) → IsFed m left fed → IsAtPowerOn m.ram fed p
    → l1 Commands ≡ left Commands → Same t0 t1 → SameBut Report t1 t2
    → ((slot : InSlot) → OpenedAs (input_path m slot) (p0 (In slot)) (p1 (In slot))) → ((slot : OutSlot) → p1 (Out slot) ≡ p0 (Out slot))
    → OnOk r ((slot : Slot) → OpenedAs (talk_path slot) (p1 slot) (p2 slot))
    → OnOk r (HasSession p.events p.machine (l1 Commands) (t1 Report) (t2 Report)) → OnOk r (Monitored m left t0 t2 p0 p2)
session_result (Err e) m left l1 t0 t1 t2 p0 p1 p2 fed p is_fed on unread same but inputs stay talk has = tt
session_result (Ok x) m left l1 t0 t1 t2 p0 p1 p2 fed p is_fed on unread same but inputs stay talk has =
    let by = subst (λ (es : List Event). HasSession es p.machine (l1 Commands) (t1 Report) (t2 Report)) on.events has in
    let from = subst (λ (x : Option (List ℕ)). HasSession fed.events p.machine x (t1 Report) (t2 Report)) unread by in
    let held = subst (λ (x : Option (List ℕ)). HasSession fed.events p.machine (left Commands) x (t2 Report)) (same Report) from in
    record {
      started = started m left fed p is_fed on;
      last = held.last;
      session = held.session;
      others = others_then t0 t1 t2 same but;
      opened = opened_all m p0 p1 p2 inputs stay talk;
    }
