-- Tasks as they stand in memory: the image of the registers in a TSS, the busy bit and the link. Manual, chapter 7.
-- Own: The fields of a TSS. Own: Busy bits of a switch.
use Rattle.std.specs.Prelude.{ℕ, zero, suc, ◌+◌, ◌%◌, ◌^◌, Bool, true, false, if◌then◌else◌, List, [], ◌∷◌, slice_index, slice_set}
use Rattle.mdl_state.specs.declared.Size.{Size}
use Rattle.mdl_state.specs.declared.Size.TheVariants.{B1, B2, B4}
use Rattle.mdl_state.specs.declared.Seg.{Seg}
use Rattle.mdl_state.specs.declared.Seg.TheVariants.{Es, Cs, Ss, Ds, Fs, Gs}
use Rattle.mdl_state.specs.declared.Who.TheVariants.{Tables}
use Rattle.mdl_state.specs.declared.Access.TheVariants.{Write}
use Rattle.mdl_state.specs.declared.Regs.{Regs}
use Rattle.mdl_state.specs.Bytes.{bound_of}
use Rattle.mdl_state.specs.Registers.{seg_number, seg_of}
use Rattle.mdl_state.specs.Attempt.{Plan, Done, Load, Store, Translate, Get, Hold, then_plan}
use Rattle.mdl_num.specs.Flags.{with_bit}
use Rattle.mdl_cpu.specs.declared.Desc.{Desc}
use Rattle.mdl_cpu.specs.declared.Reason.{Reason}
use Rattle.mdl_cpu.specs.declared.Reason.TheVariants.{Jump, Call, Interrupt, Return}
use Rattle.mdl_cpu.specs.Descriptors.{place_of, busy_plan}

-- ---- images

-- The image of a task has 19 numbers: CR3, EIP, EFLAGS, EAX, ECX, EDX, EBX, ESP, EBP, ESI, EDI, ES, CS, SS, DS, FS, GS, LDTR
-- and the word with T.
abbrev pub image_cr3 : List ℕ → ℕ
image_cr3 image = slice_index image 0

abbrev pub image_eip : List ℕ → ℕ
image_eip image = slice_index image 1

abbrev pub image_flags : List ℕ → ℕ
image_flags image = slice_index image 2

-- a general register
abbrev pub image_reg : List ℕ → ℕ → ℕ
image_reg image n = slice_index image (3 + n)

-- the selector of a segment register, a word
abbrev pub image_selector : List ℕ → Seg → ℕ
image_selector image seg = slice_index image (11 + seg_number seg) % 2 ^ 16

abbrev pub image_ldt : List ℕ → ℕ
image_ldt image = slice_index image 17 % 2 ^ 16

-- the word with T in bit 0
abbrev pub image_trap : List ℕ → ℕ
image_trap image = slice_index image 18

abbrev pub no_image : List ℕ
no_image = 0 ∷ 0 ∷ 0 ∷ 0 ∷ 0 ∷ 0 ∷ 0 ∷ 0 ∷ 0 ∷ 0 ∷ 0 ∷ 0 ∷ 0 ∷ 0 ∷ 0 ∷ 0 ∷ 0 ∷ 0 ∷ 0 ∷ []

-- so many numbers of a size are read, each so many bytes above the last, into an image from a place on
unfoldable pub reads_plan : ℕ → ℕ → Size → ℕ → ℕ → List ℕ → Plan (List ℕ)
reads_plan zero at size step place image = Done image
reads_plan (suc count) at size step place image =
    Load at size Tables (λ value. reads_plan count ((at + step) % 2 ^ 32) size step (place + 1) (slice_set image place value))

-- and so many are written likewise, cut to the size
unfoldable pub writes_plan : ℕ → ℕ → Size → ℕ → ℕ → List ℕ → Plan (Unit {0})
writes_plan zero at size step place image = Done tt
writes_plan (suc count) at size step place image =
    Store at size (slice_index image place % bound_of size) Tables (writes_plan count ((at + step) % 2 ^ 32) size step (place + 1) image)

-- The image in a TSS, of the 80386 or of the 80286, by its base. Of the 80386 the doublewords from CR3 at 1C to EDI and the
-- words from ES at 48 to T, four bytes apart; of the 80286 the words from IP at 0E to DS, and LDTR. CR3, FS, GS and T, which
-- that has not, are 0.
unfoldable pub read_image_plan : Bool → ℕ → Plan (List ℕ)
read_image_plan true base =
    then_plan (reads_plan 11 ((base + 0x1C) % 2 ^ 32) B4 4 0 no_image) (λ image.
    reads_plan 8 ((base + 0x48) % 2 ^ 32) B2 4 11 image)
read_image_plan false base =
    then_plan (reads_plan 14 ((base + 0x0E) % 2 ^ 32) B2 2 1 no_image) (λ image.
    reads_plan 1 ((base + 0x2A) % 2 ^ 32) B2 2 17 image)

-- What a switch saves: the doublewords from EIP at 20 to EDI and the words from ES at 48 to GS; of the 80286 the words from
-- IP at 0E to DS.
unfoldable pub save_image_plan : Bool → ℕ → List ℕ → Plan (Unit {0})
save_image_plan true base image =
    then_plan (writes_plan 10 ((base + 0x20) % 2 ^ 32) B4 4 1 image) (λ _.
    writes_plan 6 ((base + 0x48) % 2 ^ 32) B2 4 11 image)
save_image_plan false base image = writes_plan 14 ((base + 0x0E) % 2 ^ 32) B2 2 1 image

-- the image of the registers, with this EIP and these flags
unfoldable pub image_of : Regs → ℕ → ℕ → List ℕ
image_of r eip flags =
    0 ∷ eip ∷ flags
    ∷ slice_index r.gpr 0 ∷ slice_index r.gpr 1 ∷ slice_index r.gpr 2 ∷ slice_index r.gpr 3
    ∷ slice_index r.gpr 4 ∷ slice_index r.gpr 5 ∷ slice_index r.gpr 6 ∷ slice_index r.gpr 7
    ∷ (seg_of r Es).sel ∷ (seg_of r Cs).sel ∷ (seg_of r Ss).sel ∷ (seg_of r Ds).sel ∷ (seg_of r Fs).sel ∷ (seg_of r Gs).sel
    ∷ 0 ∷ 0 ∷ []

-- ---- busy bits and the link

-- the TSS of TR is not busy: bit 1 of its access byte is cleared, by one access
unfoldable pub free_plan : Regs → Plan (Unit {0})
free_plan r = Translate ((place_of r r.tr.sel + 5) % 2 ^ 32) B1 (Write Tables) (λ place. Get place B1 (λ byte.
    Hold place B1 (with_bit byte 1 0) (Done tt)))

-- JMP frees the old task and takes the new one; CALL and interrupts take the new one; IRET frees the old one
unfoldable pub busy_bits_plan : Regs → Reason → Desc → Plan (Unit {0})
busy_bits_plan r Jump d = then_plan (free_plan r) (λ _. busy_plan d)
busy_bits_plan r Call d = busy_plan d
busy_bits_plan r Interrupt d = busy_plan d
busy_bits_plan r Return d = free_plan r

-- a task is linked to the one that it returns to
abbrev pub is_linked : Reason → Bool
is_linked Jump = false
is_linked Call = true
is_linked Interrupt = true
is_linked Return = false

-- the link, which the TSS begins with, is the selector of the old one
unfoldable pub link_plan : Regs → Reason → Desc → Plan (Unit {0})
link_plan r reason d = if is_linked reason then Store d.base B2 r.tr.sel Tables (Done tt) else Done tt
