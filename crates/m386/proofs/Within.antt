-- Lemmas on how much of the inputs is gone.
use Rattle.std.proofs.Common.{◌≡◌, ◌≢◌, ◌⊎◌, inl, inr, ℕ, List, Option, None, Some, Result, Ok, Err, IfErr, refl, sym, subst, ◌∙◌, arith}
use Rattle.host_io.specs.declared.host.InSlot.{InSlot}
use Rattle.host_io.specs.declared.host.InSlot.TheVariants.{Rom, Disk, Script, Commands}
use Rattle.host_io.specs.Slots.{Same, SameBut}
use Rattle.host_io.specs.Transfers.{TakesAtMost}
use Rattle.m386.specs.declared.refusals.Refusal.{Refusal}
use Rattle.m386.specs.declared.refusals.Refusal.TheVariants as refusals
use Rattle.m386.specs.declared.status.Status.{Status}
use Rattle.m386.specs.declared.status.Status.TheVariants.{Memory}
use Rattle.m386.specs.Slots.{Left}
use Rattle.m386.specs.Inputs.{limit_of}
use Rattle.m386.specs.Refusals.{status_of}
use Rattle.m386.specs.Within.{AreWithin, IsInputWithin, IsWithin}

-- ---- bytes that are gone

-- none are
pub takes_none : (most : ℕ) (before now : Option (List ℕ)) → now ≡ before → TakesAtMost most before now
takes_none most None now is = (0, omega arith, tt)
takes_none most (Some xs) now is = (0, omega arith, is)

pub same_within : (l0 l1 : Left) → Same l0 l1 → AreWithin l0 l1
same_within l0 l1 same slot = takes_none (limit_of slot) (l0 slot) (l1 slot) (same slot)

pub within_then : (l0 l1 l2 : Left) → AreWithin l0 l1 → Same l1 l2 → AreWithin l0 l2
within_then l0 l1 l2 within same slot = subst (λ (x : Option (List ℕ)). TakesAtMost (limit_of slot) (l0 slot) x) (sym (same slot)) (within slot)

same_slot : (slot other : InSlot) → (other ≡ slot) ⊎ (other ≢ slot)
same_slot Rom Rom = inl refl
same_slot Rom Disk = inr (λ is. cc)
same_slot Rom Script = inr (λ is. cc)
same_slot Rom Commands = inr (λ is. cc)
same_slot Disk Rom = inr (λ is. cc)
same_slot Disk Disk = inl refl
same_slot Disk Script = inr (λ is. cc)
same_slot Disk Commands = inr (λ is. cc)
same_slot Script Rom = inr (λ is. cc)
same_slot Script Disk = inr (λ is. cc)
same_slot Script Script = inl refl
same_slot Script Commands = inr (λ is. cc)
same_slot Commands Rom = inr (λ is. cc)
same_slot Commands Disk = inr (λ is. cc)
same_slot Commands Script = inr (λ is. cc)
same_slot Commands Commands = inl refl

-- one more input is read
pub more_within : (slot : InSlot) (l0 l1 l2 : Left) → AreWithin l0 l1 → l1 slot ≡ l0 slot → SameBut slot l1 l2 → TakesAtMost (limit_of slot) (l1 slot) (l2 slot) → AreWithin l0 l2
more_within slot l0 l1 l2 within unread but takes other = at other (same_slot slot other)
  where
    at : (other : InSlot) → (other ≡ slot) ⊎ (other ≢ slot) → TakesAtMost (limit_of other) (l0 other) (l2 other)
    at other (inl is) = subst (λ (s : InSlot). TakesAtMost (limit_of s) (l0 s) (l2 s)) (sym is) (subst (λ (x : Option (List ℕ)). TakesAtMost (limit_of slot) x (l2 slot)) unread takes)
    at other (inr differs) = subst (λ (x : Option (List ℕ)). TakesAtMost (limit_of other) (l0 other) x) (sym (but other differs)) (within other)

-- the inputs of a machine are read one behind the other
pub rom_within : (l0 l1 : Left) → SameBut Rom l0 l1 → TakesAtMost (limit_of Rom) (l0 Rom) (l1 Rom) → AreWithin l0 l1
rom_within l0 l1 but takes = more_within Rom l0 l0 l1 (same_within l0 l0 (λ slot. refl)) refl but takes

pub disk_within : (l0 l1 l2 : Left) → SameBut Rom l0 l1 → TakesAtMost (limit_of Rom) (l0 Rom) (l1 Rom) → SameBut Disk l1 l2 → TakesAtMost (limit_of Disk) (l1 Disk) (l2 Disk) → AreWithin l0 l2
disk_within l0 l1 l2 but_rom rom but_disk disk = more_within Disk l0 l1 l2 (rom_within l0 l1 but_rom rom) (but_rom Disk (λ is. cc)) but_disk disk

pub script_within : (l0 l1 l2 l3 : Left) → SameBut Rom l0 l1 → TakesAtMost (limit_of Rom) (l0 Rom) (l1 Rom) → SameBut Disk l1 l2 → TakesAtMost (limit_of Disk) (l1 Disk) (l2 Disk)
    → SameBut Script l2 l3 → TakesAtMost (limit_of Script) (l2 Script) (l3 Script) → AreWithin l0 l3
script_within l0 l1 l2 l3 but_rom rom but_disk disk but_script script =
    more_within Script l0 l2 l3 (disk_within l0 l1 l2 but_rom rom but_disk disk) (but_disk Script (λ is. cc) ∙ but_rom Script (λ is. cc)) but_script script

-- ---- refusals

-- at each refusal, where it is so anyway
pub any_within : (l0 l1 : Left) (refusal : Refusal) → AreWithin l0 l1 → IsWithin l0 l1 refusal
any_within l0 l1 refusals.Memory within = within
any_within l0 l1 refusals.Words within = tt
any_within l0 l1 (refusals.HostFault slot) within = tt
any_within l0 l1 (refusals.Length slot n) within = tt
any_within l0 l1 (refusals.Script n) within = tt
any_within l0 l1 (refusals.Late slot) within = tt
any_within l0 l1 refusals.Commands within = tt
any_within l0 l1 refusals.TooLong within = tt

pub result_within : {T : Type 0} (r : Result T Refusal) (l0 l1 : Left) → AreWithin l0 l1 → IfErr r (IsWithin l0 l1)
result_within (Ok x) l0 l1 within = tt
result_within (Err refusal) l0 l1 within = any_within l0 l1 refusal within

-- at each refusal but want of memory
other_within : (l0 l1 : Left) (refusal : Refusal) → refusal ≢ refusals.Memory → IsWithin l0 l1 refusal
other_within l0 l1 refusals.Memory other = absurd (other refl)
other_within l0 l1 refusals.Words other = tt
other_within l0 l1 (refusals.HostFault slot) other = tt
other_within l0 l1 (refusals.Length slot n) other = tt
other_within l0 l1 (refusals.Script n) other = tt
other_within l0 l1 (refusals.Late slot) other = tt
other_within l0 l1 refusals.Commands other = tt
other_within l0 l1 refusals.TooLong other = tt

pub talk_within : {T : Type 0} (r : Result T Refusal) (l0 l1 : Left) → IfErr r (λ refusal. refusal ≢ refusals.Memory) → IfErr r (IsWithin l0 l1)
talk_within (Ok x) l0 l1 other = tt
talk_within (Err refusal) l0 l1 other = other_within l0 l1 refusal other

-- of one more input
pub input_within : (slot : InSlot) (l0 l1 l2 : Left) (refusal : Refusal) → AreWithin l0 l1 → l1 slot ≡ l0 slot → SameBut slot l1 l2 → IsInputWithin (limit_of slot) (l1 slot) (l2 slot) refusal → IsWithin l0 l2 refusal
input_within slot l0 l1 l2 refusals.Memory within unread but takes = more_within slot l0 l1 l2 within unread but takes
input_within slot l0 l1 l2 refusals.Words within unread but takes = tt
input_within slot l0 l1 l2 (refusals.HostFault other) within unread but takes = tt
input_within slot l0 l1 l2 (refusals.Length other n) within unread but takes = tt
input_within slot l0 l1 l2 (refusals.Script n) within unread but takes = tt
input_within slot l0 l1 l2 (refusals.Late other) within unread but takes = tt
input_within slot l0 l1 l2 refusals.Commands within unread but takes = tt
input_within slot l0 l1 l2 refusals.TooLong within unread but takes = tt

-- of the first input
pub first_within : (slot : InSlot) (l0 l1 : Left) (refusal : Refusal) → SameBut slot l0 l1 → IsInputWithin (limit_of slot) (l0 slot) (l1 slot) refusal → IsWithin l0 l1 refusal
first_within slot l0 l1 refusal but takes = input_within slot l0 l0 l1 refusal (same_within l0 l0 (λ other. refl)) refl but takes

-- ---- the answer

pub memory_within : (refusal : Refusal) (status : Status) (l0 l1 l2 : Left) → IsWithin l0 l1 refusal → Same l1 l2 → status ≡ status_of refusal → status ≡ Memory → AreWithin l0 l2
memory_within refusals.Memory status l0 l1 l2 within same is memory = within_then l0 l1 l2 within same
memory_within refusals.Words status l0 l1 l2 within same is memory = cc
memory_within (refusals.HostFault slot) status l0 l1 l2 within same is memory = cc
memory_within (refusals.Length slot n) status l0 l1 l2 within same is memory = cc
memory_within (refusals.Script n) status l0 l1 l2 within same is memory = cc
memory_within (refusals.Late slot) status l0 l1 l2 within same is memory = cc
memory_within refusals.Commands status l0 l1 l2 within same is memory = cc
memory_within refusals.TooLong status l0 l1 l2 within same is memory = cc
