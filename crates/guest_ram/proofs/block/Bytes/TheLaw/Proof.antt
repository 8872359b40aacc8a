-- A `&` to the bytes of a block is made where one to a byte is. Assumes `Logic`.
use mathlib.Core.Path.{refl}
use denote.Builtin.{u8}
use denote.Array.{Array, Array-row_laws}
use denote.Plain.{uint_row_laws}
use denote.Param.Laws.{Laws, of_field}
use denote.Param.Shared.{copy_shared}
use denote.Shares.{Shares-Array, Shares-less}
use denote.Struct.Field.{u8-field}
use denote.Struct.Laws.{u8-laws, u8-copy}
use denote.Struct.Lending.{lent_at_shr_laws, Lends-lies, of_Lends}
use mir.Syntax.{w8}
use base.Fml.{Incl-refl}
use lib.ListN.{length}
use Rattle.guest_ram.specs.contracts.block.Bytes as C
use Rattle.guest_ram.proofs.block.Bytes.TheLaw.Statement.{statement}

abbrev bytes : Laws u8
bytes = of_field u8-field u8-laws refl (copy_shared u8-field u8-copy)

pub shares : statement
shares =
    of_Lends C.struct C.the_codes C.the_heap C.the_lent
    (λ d p. lent_at_shr_laws (Array u8 (length d.list)) (Array-row_laws u8 (uint_row_laws w8) (length d.list)) d.at d.list)
    tt (λ M 𝓤 𝓛 d p. let l = (C.the_row).lives in
    Lends-lies 𝓛 (Array u8 (length d.list)) l d.at d.list (Shares-Array 𝓛 u8 tt (length d.list) l (Shares-less 𝓛 u8 u8.lives l (Incl-refl l) (bytes.shares 𝓛)) d.list))
