-- Lemmas on the inputs of a machine: what is accepted, and why one is refused.
use Rattle.std.proofs.Common.{◌≡◌, ◌≢◌, ◌≤◌, ℕ, List, [], length, Option, None, Some, refl, sym, subst, ◌∙◌}
use Rattle.host_io.specs.declared.host.InSlot.{InSlot}
use Rattle.host_io.specs.declared.host.InSlot.TheVariants.{Rom, Disk, Script, Commands}
use Rattle.host_io.specs.Slots.{Same, SameBut}
use Rattle.host_io.specs.Transfers.{IsWhole}
use Rattle.command_words.specs.Jobs.{Machine}
use Rattle.mdl_state.specs.declared.Event.{Event}
use Rattle.mdl_text.specs.Script as texts
use Rattle.m386.specs.declared.refusals.Refusal.{Refusal}
use Rattle.m386.specs.declared.refusals.Refusal.TheVariants as refusals
use Rattle.m386.specs.Slots.{Left, Took, Counts, input_path}
use Rattle.m386.specs.Inputs.{Fed, IsFed, IsFit, IsInput, IsAccepted, HasAccepted, AreBeforeAccepted}
use Rattle.m386.specs.Causes.{AreCounted}
use Rattle.m386.specs.Feeding.{IsNamed, IsInputRefused, IsLinesRefused, IsFeedRefused}

pub accepted : (m : Machine) (l0 l1 : Left) (slot : InSlot) (bytes : List ℕ) → l1 slot ≡ l0 slot → IsInput (input_path m slot) (l1 slot) bytes → IsFit slot (length bytes) → IsAccepted m l0 slot bytes
accepted m l0 l1 slot bytes same whole fits = record {
  whole = subst (λ x. IsInput (input_path m slot) x bytes) same whole;
  fits = fits;
}

-- the three inputs, each read behind the one before
pub record AreRead (m : Machine) (l0 : Left) (rom disk script : List ℕ) : Type 0 where
  pub rom_is : IsAccepted m l0 Rom rom
  pub disk_is : IsAccepted m l0 Disk disk
  pub script_is : IsAccepted m l0 Script script

pub are_read : (m : Machine) (l0 l1 l2 : Left) (rom disk script : List ℕ)
    → IsWhole (l0 Rom) rom → IsFit Rom (length rom) → SameBut Rom l0 l1
    → IsInput m.disk (l1 Disk) disk → IsFit Disk (length disk) → SameBut Disk l1 l2
    → IsInput m.script (l2 Script) script → IsFit Script (length script)
    → AreRead m l0 rom disk script
are_read m l0 l1 l2 rom disk script rom_whole rom_fits but_rom disk_whole disk_fits but_disk script_whole script_fits = record {
  rom_is = accepted m l0 l0 Rom rom refl rom_whole rom_fits;
  disk_is = accepted m l0 l1 Disk disk (but_rom Disk (λ is. cc)) disk_whole disk_fits;
  script_is = accepted m l0 l2 Script script (but_disk Script (λ is. cc) ∙ but_rom Script (λ is. cc)) script_whole script_fits;
}

-- ---- refusals

named : (path : Option (List ℕ)) → IsNamed path → (text : List ℕ) × (path ≡ Some text)
named None is = absurd (is refl)
named (Some text) is = (text, refl)

-- an input is refused, where all before was accepted
pub input_refused : (m : Machine) (l0 l1 : Left) (slot : InSlot) (refusal : Refusal) → AreBeforeAccepted m l0 slot → l1 slot ≡ l0 slot → IsNamed (input_path m slot) → IsInputRefused slot (l1 slot) refusal → IsFeedRefused m l0 refusal
input_refused m l0 l1 slot refusals.Memory before same is refused = tt
input_refused m l0 l1 slot refusals.Words before same is refused = refused
input_refused m l0 l1 slot (refusals.HostFault other) before same is refused = tt
input_refused m l0 l1 slot (refusals.Length other n) before same is refused = subst (λ s. IsFeedRefused m l0 (refusals.Length s n)) (sym refused.0) (
    let path = named (input_path m slot) is in
    let moved = subst (λ x. IsInputRefused slot x (refusals.Length other n)) same refused in
    record { before = before; path = path.0; named = path.1; told = moved.1; wrong = moved.2 })
input_refused m l0 l1 slot (refusals.Script n) before same is refused = absurd refused
input_refused m l0 l1 slot (refusals.Late other) before same is refused = refused
input_refused m l0 l1 slot refusals.Commands before same is refused = refused
input_refused m l0 l1 slot refusals.TooLong before same is refused = refused

-- the events are refused
pub events_refused : (m : Machine) (l0 : Left) (rom disk script : List ℕ) (refusal : Refusal) → AreRead m l0 rom disk script → IsLinesRefused script refusal → IsFeedRefused m l0 refusal
events_refused m l0 rom disk script refusals.Memory are refused = tt
events_refused m l0 rom disk script refusals.Words are refused = refused
events_refused m l0 rom disk script (refusals.HostFault slot) are refused = tt
events_refused m l0 rom disk script (refusals.Length slot n) are refused = absurd refused
events_refused m l0 rom disk script (refusals.Script n) are refused = record {
  before = ((rom, are.rom_is), (disk, are.disk_is));
  script = script;
  read = are.script_is;
  bad = refused;
}
events_refused m l0 rom disk script (refusals.Late slot) are refused = refused
events_refused m l0 rom disk script refusals.Commands are refused = refused
events_refused m l0 rom disk script refusals.TooLong are refused = refused
