-- The new part of a task switch: the registers with which a task begins, and the loads of its segments. Manual, chapter 7.
-- Own: The order of a task switch. Own: The first registers of a task.
use Rattle.std.specs.Prelude.{ℕ, ◌+◌, ◌*◌, ◌^◌, ◌==◌, ◌&&◌, not, nat_lt, Bool, if◌then◌else◌, List, [], ◌∷◌, ◌++◌, Option}
use Rattle.std.specs.FinMap.{empty}
use Rattle.mdl_state.specs.declared.Size.TheVariants.{B2, B4}
use Rattle.mdl_state.specs.declared.Seg.{Seg}
use Rattle.mdl_state.specs.declared.Seg.TheVariants.{Es, Cs, Ss, Ds, Fs, Gs}
use Rattle.mdl_state.specs.declared.Regs.{Regs}
use Rattle.mdl_state.specs.declared.Hidden.{Hidden}
use Rattle.mdl_state.specs.State.{Mem}
use Rattle.mdl_state.specs.Bytes.{bit}
use Rattle.mdl_state.specs.Registers.{seg_of}
use Rattle.mdl_state.specs.Attempt.{Plan, Done, then_plan, checked}
use Rattle.mdl_num.specs.Flags.{with_bit}
use Rattle.mdl_cpu.specs.declared.Desc.{Desc}
use Rattle.mdl_cpu.specs.declared.Reason.{Reason}
use Rattle.mdl_cpu.specs.declared.Request.{Request}
use Rattle.mdl_cpu.specs.declared.Task.{Task}
use Rattle.mdl_cpu.specs.Faults.{Row, row, first_of, fault_at, general_protection}
use Rattle.mdl_cpu.specs.SystemFlags.{IF, IOPL, NT, RF, VM, common_flags, with_flags_from}
use Rattle.mdl_cpu.specs.Descriptors.{is_null, rpl, in_ldt, dpl, is_present, is_code, is_conforming, is_ldt, descriptor_plan}
use Rattle.mdl_cpu.specs.Loads.{null_segment, hidden_of, known_plan, data_plan, stack_plan, not_present}
use Rattle.mdl_cpu.specs.Returns.{virtual_segments}
use Rattle.mdl_cpu.specs.InterruptGates.{push_code_plan}
use Rattle.mdl_cpu.specs.TaskSegments.{is_wide_tss}
use Rattle.mdl_cpu.specs.Tasks.{image_cr3, image_eip, image_flags, image_reg, image_selector, image_ldt, is_linked}

-- ---- what it begins with

-- each flag, as bits
abbrev pub every_flag : ℕ
every_flag = common_flags + 3 * 2 ^ IOPL + 2 ^ IF + 2 ^ RF + 2 ^ VM

-- the flags of the image, of which each bit that is no flag is as always; NT is 1 in a task that is linked
abbrev pub new_flags : Reason → ℕ → ℕ
new_flags reason image =
    let flags = with_flags_from image every_flag 2 in
    if is_linked reason then with_bit flags NT 1 else flags

-- the image is one of V86
abbrev pub is_virtual_image : List ℕ → Bool
is_virtual_image image = bit (image_flags image) VM

-- DR7 without L0 to L3 and LE
abbrev pub without_locals : ℕ → ℕ
without_locals dr7 = with_bit (with_bit (with_bit (with_bit (with_bit dr7 0 0) 2 0) 4 0) 6 0) 8 0

-- a segment register with its selector, which can't be used until it is loaded
abbrev pub unloaded : List ℕ → Seg → Hidden
unloaded image seg = null_segment (image_selector image seg)

-- The registers of the new task, with no segment loaded. TS is 1; the level is the RPL of CS, or 3 in V86; a TSS of the 80286
-- leaves CR3.
unfoldable pub begun : Regs → Request → Task → Regs
begun r q t = record r {
  tr = hidden_of q.selector t.desc;
  eflags = new_flags q.reason (image_flags t.image);
  eip = image_eip t.image;
  gpr = image_reg t.image 0 ∷ image_reg t.image 1 ∷ image_reg t.image 2 ∷ image_reg t.image 3
      ∷ image_reg t.image 4 ∷ image_reg t.image 5 ∷ image_reg t.image 6 ∷ image_reg t.image 7 ∷ [];
  seg = unloaded t.image Es ∷ unloaded t.image Cs ∷ unloaded t.image Ss ∷ unloaded t.image Ds ∷ unloaded t.image Fs ∷ unloaded t.image Gs ∷ [];
  ldtr = null_segment (image_ldt t.image);
  cr3 = if is_wide_tss t.desc then image_cr3 t.image else r.cr3;
  cr0 = with_bit r.cr0 3 1;
  dr7 = without_locals r.dr7;
  cpl = if is_virtual_image t.image then 3 else rpl (image_selector t.image Cs);
}

-- memory by the page directory of the new task; another one empties the cache
abbrev pub by_directory : ℕ → Mem → Mem
by_directory cr3 m = if m.cr3 == cr3 then m else record m { cr3 = cr3; cache = empty }

-- ---- parts of an attempt, of which each loads one thing

abbrev pub Stage : Type 0
Stage = Regs → Plan Regs

-- the local table, behind the row on its table
abbrev pub new_ldt_rows : ℕ → Desc → List Row
new_ldt_rows sel d =
    row (not (is_ldt d)) (fault_at 10 sel)
    ∷ row (not (is_present d)) (fault_at 10 sel)
    ∷ []

unfoldable pub ldt_stage : ℕ → Stage
ldt_stage sel r =
    if is_null sel then Done (record r { ldtr = null_segment sel })
    else checked (first_of (row (in_ldt sel) (fault_at 10 sel) ∷ [])) (λ _.
    then_plan (descriptor_plan r sel 10) (λ d.
    checked (first_of (new_ldt_rows sel d)) (λ _.
    Done (record r { ldtr = hidden_of sel d }))))

-- the segments of V86
unfoldable pub virtual_stage : List ℕ → Stage
virtual_stage image r = Done (virtual_segments r (image_selector image Es) (image_selector image Cs) (image_selector image Ss)
    (image_selector image Ds) (image_selector image Fs) (image_selector image Gs))

-- the code, behind the row on its table
abbrev pub new_code_rows : ℕ → Desc → List Row
new_code_rows sel d =
    row (not (is_code d)) (fault_at 10 sel)
    ∷ row (not (is_conforming d) && not (dpl d == rpl sel)) (fault_at 10 sel)
    ∷ row (is_conforming d && nat_lt (rpl sel) (dpl d)) (fault_at 10 sel)
    ∷ row (not (is_present d)) (not_present sel)
    ∷ []

unfoldable pub code_stage : ℕ → Stage
code_stage sel r =
    checked (first_of (row (is_null sel) (fault_at 10 sel) ∷ [])) (λ _.
    then_plan (descriptor_plan r sel 10) (λ d.
    checked (first_of (new_code_rows sel d)) (λ _.
    known_plan r Cs sel d)))

-- the stack of the new level
unfoldable pub stack_stage : ℕ → Stage
stack_stage sel r = then_plan (stack_plan 10 r.cpl r sel) (λ d. known_plan r Ss sel d)

-- ES, DS, FS or GS
abbrev pub data_stage : Seg → ℕ → Stage
data_stage seg sel r = data_plan 10 r seg sel

-- EIP within the limit of CS
unfoldable pub limit_stage : Stage
limit_stage r = checked (first_of (row (nat_lt (seg_of r Cs).limit r.eip) (general_protection 0) ∷ [])) (λ _. Done r)

-- the error code of a delivery, in the size of the new TSS
unfoldable pub code_word_stage : Bool → Option ℕ → Stage
code_word_stage wide code r = push_code_plan r (if wide then B4 else B2) code

-- the segments of protected mode, in their order
abbrev pub segment_stages : List ℕ → List Stage
segment_stages image =
    code_stage (image_selector image Cs)
    ∷ stack_stage (image_selector image Ss)
    ∷ data_stage Es (image_selector image Es)
    ∷ data_stage Ds (image_selector image Ds)
    ∷ data_stage Fs (image_selector image Fs)
    ∷ data_stage Gs (image_selector image Gs)
    ∷ []

-- all of them
abbrev pub new_stages : Request → Task → List Stage
new_stages q t =
    ldt_stage (image_ldt t.image)
    ∷ (if is_virtual_image t.image then virtual_stage t.image ∷ [] else segment_stages t.image)
    ++ limit_stage
    ∷ code_word_stage (is_wide_tss t.desc) q.code
    ∷ []
