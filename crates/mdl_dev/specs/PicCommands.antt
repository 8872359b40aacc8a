-- The command words of an interrupt controller, and its registers as they are read. 8259A data sheet. Own: What ICW1 leaves. Own: ICW3 and the level bit are not used. Own: A poll waits for its read.
use Rattle.std.specs.Prelude.{ℕ, ◌+◌, ◌*◌, ◌/◌, ◌%◌, ◌==◌, ◌&&◌, ◌||◌, Bool, true, false, if◌then◌else◌, Option, Some, None}
use Rattle.mdl_dev.specs.declared.pic.TheConstants.{IS_ICW1, IS_OCW3, IC4, SNGL, AEOI, SFNM, RIS, RR, POLL, SMM, ESMM}
use Rattle.mdl_dev.specs.declared.pic.Stage.{Stage}
use Rattle.mdl_dev.specs.declared.pic.Stage.TheVariants.{Before, Icw2, Icw3, Icw4, Ready}
use Rattle.mdl_dev.specs.declared.pic.Shown.{Shown}
use Rattle.mdl_dev.specs.declared.pic.Shown.TheVariants.{Irr, Isr}
use Rattle.mdl_dev.specs.declared.pic.Ocw2.{Ocw2}
use Rattle.mdl_dev.specs.declared.pic.Ocw2.TheVariants.{ClearRotateInAutomaticEoi, NonSpecificEoi, NoOperation, SpecificEoi, SetRotateInAutomaticEoi, RotateOnNonSpecificEoi, SetPriority, RotateOnSpecificEoi}
use Rattle.mdl_dev.specs.declared.pic.Controller.{Controller}
use Rattle.mdl_dev.specs.Pic.{has, without_line, in_service, rotated, acknowledged}

-- ICW1 begins an initialization. Where no ICW4 comes, its modes are off
abbrev pub initialized : Controller → ℕ → Controller
initialized c word = record c {
  irr = 0;
  isr = 0;
  imr = 0;
  lowest = 7;
  stage = Icw2;
  single = has word SNGL;
  needs_icw4 = has word IC4;
  automatic_eoi = c.automatic_eoi && has word IC4;
  rotates = false;
  special_mask = false;
  special_nested = c.special_nested && has word IC4;
  shown = Irr;
}

-- what comes after ICW3
abbrev pub after_icw3 : Controller → Stage
after_icw3 c = if c.needs_icw4 then Icw4 else Ready

-- what comes after ICW2
abbrev pub after_icw2 : Controller → Stage
after_icw2 c = if c.single then after_icw3 c else Icw3

-- a write where A0 is 1: the next word of the initialization, or else OCW1, the mask
abbrev pub data_written : Stage → Controller → ℕ → Controller
data_written Icw2 c word = record c { base = word / 8 * 8; stage = after_icw2 c }
data_written Icw3 c word = record c { stage = after_icw3 c }
data_written Icw4 c word = record c { automatic_eoi = has word AEOI; special_nested = has word SFNM; stage = Ready }
data_written Before c word = record c { imr = word }
data_written Ready c word = record c { imr = word }

-- bits 7 to 5 of OCW2: R, SL, EOI
abbrev pub ocw2 : ℕ → Ocw2
ocw2 word =
    if word / 32 == 0 then ClearRotateInAutomaticEoi
    else if word / 32 == 1 then NonSpecificEoi
    else if word / 32 == 2 then NoOperation
    else if word / 32 == 3 then SpecificEoi
    else if word / 32 == 4 then SetRotateInAutomaticEoi
    else if word / 32 == 5 then RotateOnNonSpecificEoi
    else if word / 32 == 6 then SetPriority
    else RotateOnSpecificEoi

-- a line leaves service
abbrev pub ended : Controller → Option ℕ → Controller
ended c None = c
ended c (Some line) = record c { isr = without_line c.isr line }

-- OCW2 with its line
abbrev pub operated : Ocw2 → Controller → ℕ → Controller
operated ClearRotateInAutomaticEoi c line = record c { rotates = false }
operated NonSpecificEoi c line = ended c (in_service c)
operated NoOperation c line = c
operated SpecificEoi c line = ended c (Some line)
operated SetRotateInAutomaticEoi c line = record c { rotates = true }
operated RotateOnNonSpecificEoi c line = rotated (ended c (in_service c)) (in_service c)
operated SetPriority c line = rotated c (Some line)
operated RotateOnSpecificEoi c line = rotated (ended c (Some line)) (Some line)

-- OCW3 may choose the register to read
abbrev pub shown_after : Shown → ℕ → Shown
shown_after shown word = if has word RR then (if has word RIS then Isr else Irr) else shown

-- it may set or clear special mask mode
abbrev pub special_mask_after : Bool → ℕ → Bool
special_mask_after special word = if has word ESMM then has word SMM else special

-- OCW3, which may poll too
abbrev pub ocw3_written : Controller → ℕ → Controller
ocw3_written c word = record c {
  special_mask = special_mask_after c.special_mask word;
  shown = shown_after c.shown word;
  polled = c.polled || has word POLL;
}

-- a write where A0 is 0, at any stage
abbrev pub command_written : Controller → ℕ → Controller
command_written c word =
    if has word IS_ICW1 then initialized c word
    else if has word IS_OCW3 then ocw3_written c word
    else operated (ocw2 word) c (word % 8)

-- a poll is answered by the line with bit 7, or by 0
abbrev pub poll_answer : Option ℕ → ℕ
poll_answer None = 0
poll_answer (Some line) = 0x80 + line

-- the register that is chosen for reads where A0 is 0
abbrev pub register : Shown → Controller → ℕ
register Irr c = c.irr
register Isr c = c.isr

-- a read where A0 is 0, with what the chip requests
abbrev pub command_read : Controller → Option ℕ → ℕ
command_read c asked = if c.polled then poll_answer asked else register c.shown c

-- a read where A0 is 1
abbrev pub data_read : Controller → Option ℕ → ℕ
data_read c asked = if c.polled then poll_answer asked else c.imr

-- the chip after a read: the answer to a poll acknowledges
abbrev pub after_read : Controller → Option ℕ → Controller
after_read c asked = if c.polled then acknowledged (record c { polled = false }) asked else c
