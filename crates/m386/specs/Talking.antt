-- The steps of a session: the machine at power on, and why the session ends before its end.
use Rattle.std.specs.Prelude.{◌≡◌, ℕ, List, [], Option, None, Some}
use Rattle.host_io.specs.declared.host.InSlot.TheVariants.{Commands}
use Rattle.host_io.specs.declared.host.OutSlot.TheVariants.{Report}
use Rattle.host_io.specs.declared.host.Slot.{Slot}
use Rattle.host_io.specs.declared.host.Slot.TheVariants.{In, Out}
use Rattle.mdl_board.specs.Board.{BoardState}
use Rattle.mdl_state.specs.declared.Event.{Event}
use Rattle.mdl_state.specs.Machine.{Machine}
use Rattle.mdl_step.specs.Computer.{powered}
use Rattle.pc_machine.specs.Runs.{RanFor}
use Rattle.monitor.specs.Session.{IsSession, IsBegun, IsBrokenOff, IsTooLong}
use Rattle.scripted_pc.specs.Played.{Played}
use Rattle.m386.specs.declared.refusals.Refusal.{Refusal}
use Rattle.m386.specs.declared.refusals.Refusal.TheVariants as refusals
use Rattle.m386.specs.Inputs.{Fed}

-- the machine of a session before its first line, with the events of its script
pub record IsAtPowerOn (ram : ℕ) (fed : Fed) (p : Played) : Type 0 where
  pub ran : RanFor fed.events 0 (powered ram fed.rom fed.disk) p.machine
  pub events : p.events ≡ fed.events
  pub count : p.machine.state.core.steps ≡ 0

-- the slots that a session opens, with the empty path
abbrev pub talk_path : Slot → Option (List ℕ)
talk_path (In Commands) = Some []
talk_path (Out Report) = Some []
talk_path slot = None

-- the session over all that was left, up to some machine
pub record HasSession (events : List Event) (start : Machine BoardState) (left before now : Option (List ℕ)) : Type 0 where
  pub last : Machine BoardState
  pub session : IsSession events start last left before now

-- why it ends before, and what the report has then
abbrev pub IsTalkRefused : List Event → Machine BoardState → Option (List ℕ) → Option (List ℕ) → Option (List ℕ) → Option (List ℕ) → Refusal → Type 0
IsTalkRefused events start left left_now before now (refusals.HostFault slot) = (now ≡ before) × (left_now ≡ left)
IsTalkRefused events start left left_now before now (refusals.Late slot) = (slot ≡ Report) × ((last : Machine BoardState) × IsBrokenOff events start last left before now)
IsTalkRefused events start left left_now before now refusals.Commands = (last : Machine BoardState) × IsBegun events start last left left_now before now
IsTalkRefused events start left left_now before now refusals.TooLong = (last : Machine BoardState) × IsTooLong events start last left before now
IsTalkRefused events start left left_now before now _ = ⊥
