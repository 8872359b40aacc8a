-- The memory operands of what some bytes spell address by registers.
use Rattle.std.proofs.Common.{ℕ, zero, suc, ◌+◌, ◌%◌, ◌<◌, ◌==◌, ◌&&◌, Bool, true, false, cond, List, [], ◌∷◌, refl, sym, subst, arith}
use Rattle.std.specs.Prelude.{⊤, IsTrue, nat_lt, Option, Some, None, unwrap_or, slice_get}
use Rattle.mdl_state.specs.declared.Size.{Size}
use Rattle.mdl_state.specs.Bytes.{little}
use Rattle.mdl_insn.specs.declared.instruction.Insn.{Insn}
use Rattle.mdl_insn.specs.declared.instruction.Operand.TheVariants.{Gpr, At}
use Rattle.mdl_insn.specs.declared.rows.Setting.{Setting}
use Rattle.mdl_insn.specs.declared.rows.Form.{Form}
use Rattle.mdl_insn.specs.declared.rows.Form.TheVariants.{Eb, Ev, Ew, M, Ob, Ov}
use Rattle.mdl_insn.specs.Addresses.{mod_of, rm_of, ss_of, index_field, base_field, no_base, base_16, index_16, base_of, has_index, index_of, power, scale_of, mem_of}
use Rattle.mdl_insn.specs.Operands.{operand, Place, place, e_operand}
use Rattle.mdl_insn.specs.Prefixes.{setting}
use Rattle.mdl_insn.specs.Spelling.{opcode_last, SpeltRow, Spelt}
use Rattle.mdl_cpu.specs.Addresses.{IsPart, is_scale, IsAddress, HasAddress, HasAddresses}

-- ---- base, index, scale

abbrev AreParts : List (Option ℕ) → Type 0
AreParts [] = ⊤
AreParts (part ∷ parts) = IsPart part × AreParts parts

chosen_part : (parts : List (Option ℕ)) (n : ℕ) → AreParts parts → IsPart (unwrap_or (slice_get parts n) None)
chosen_part [] n h = tt
chosen_part (part ∷ parts) zero h = h.0
chosen_part (part ∷ parts) (suc n) h = chosen_part parts n h.1

base_16_part : (rm : ℕ) → IsPart (base_16 rm)
base_16_part rm =
    let parts : List (Option ℕ) = Some 3 ∷ Some 3 ∷ Some 5 ∷ Some 5 ∷ Some 6 ∷ Some 7 ∷ Some 5 ∷ Some 3 ∷ [] in
    let fit : AreParts parts = (omega arith, (omega arith, (omega arith, (omega arith, (omega arith, (omega arith, (omega arith, (omega arith, tt)))))))) in
    chosen_part parts rm fit

base_field_below : (wide : Bool) (m sib : ℕ) → base_field wide m sib < 8
base_field_below wide m sib = elim (wide && (rm_of m == 4)) as (λ v. cond v (sib % 8) (rm_of m) < 8) [ true ↦ omega arith | false ↦ omega arith ]

base_part : (wide : Bool) (m sib : ℕ) → IsPart (base_of wide m sib)
base_part wide m sib = elim ((mod_of m == 0) && (base_field wide m sib == no_base wide)) as (λ v. IsPart (cond v None (cond wide (Some (base_field wide m sib)) (base_16 (rm_of m))))) [
  | true ↦ tt
  | false ↦ elim wide as (λ v. IsPart (cond v (Some (base_field wide m sib)) (base_16 (rm_of m)))) [ true ↦ base_field_below wide m sib | false ↦ base_16_part (rm_of m) ]
]

index_16_part : (rm : ℕ) → IsPart (index_16 rm)
index_16_part rm = elim (nat_lt rm 4) as (λ v. IsPart (cond v (Some (6 + rm % 2)) None)) [ true ↦ omega arith | false ↦ tt ]

index_part : (wide : Bool) (m sib : ℕ) → IsPart (index_of wide m sib)
index_part true m sib = elim (has_index m sib) as (λ v. IsPart (cond v (Some (index_field sib)) None)) [ true ↦ omega arith | false ↦ tt ]
index_part false m sib = index_16_part (rm_of m)

power_scale : (n : ℕ) → IsTrue (is_scale (power n))
power_scale n = elim (n == 0) as (λ v. IsTrue (is_scale (cond v 1 (cond (n == 1) 2 (cond (n == 2) 4 8))))) [
  | true ↦ refl
  | false ↦ elim (n == 1) as (λ v. IsTrue (is_scale (cond v 2 (cond (n == 2) 4 8)))) [
    | true ↦ refl
    | false ↦ elim (n == 2) as (λ v. IsTrue (is_scale (cond v 4 8))) [ true ↦ refl | false ↦ refl ]
  ]
]

scale_fits : (wide : Bool) (m sib : ℕ) → IsTrue (is_scale (scale_of wide m sib))
scale_fits wide m sib = elim (wide && has_index m sib) as (λ v. IsTrue (is_scale (cond v (power (ss_of sib)) 1))) [ true ↦ power_scale (ss_of sib) | false ↦ refl ]

-- ---- operands

address_of : (s : Setting) (m sib d : ℕ) → IsAddress (mem_of s m sib d)
address_of s m sib d = record { base = base_part s.wide m sib; index = index_part s.wide m sib; scale = scale_fits s.wide m sib }

module _ (s : Setting) (opcode m sib d : ℕ) where
  abbrev here : Place
  here = place s opcode m sib d

  e_address : (size : Size) → HasAddress (e_operand here size)
  e_address size = elim (mod_of m == 3) as (λ v. HasAddress (cond v (Gpr (rm_of m) size) (At (mem_of s m sib d) size))) [ true ↦ tt | false ↦ address_of s m sib d ]

  operand_address : (form : Form) (x : ℕ) → HasAddress (operand s here form x)
  operand_address Eb x = e_address _
  operand_address Ev x = e_address _
  operand_address Ew x = e_address _
  operand_address M x = address_of s m sib d
  operand_address Ob x = record { base = tt; index = tt; scale = refl }
  operand_address Ov x = record { base = tt; index = tt; scale = refl }
  operand_address _ x = tt

pub spelt_addresses : (bytes : List ℕ) (big : Bool) (insn : Insn) → Spelt bytes big insn → HasAddresses insn
spelt_addresses bytes big insn h =
    let s : Setting = setting big h.prefixes in
    let q : SpeltRow s h.rest insn = h.row in
    let opcode : ℕ = little (opcode_last q.opcode) in
    let m : ℕ = little q.modrm in
    let sib : ℕ = little q.sib in
    let d : ℕ = little q.disp in
    subst (λ (insn : Insn). HasAddresses insn) (sym q.insn_is)
    (operand_address s opcode m sib d q.row.a (little q.x), operand_address s opcode m sib d q.row.b (little q.y), operand_address s opcode m sib d q.row.c (little q.z))
