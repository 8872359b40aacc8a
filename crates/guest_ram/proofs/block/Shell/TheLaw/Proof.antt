-- A `&` to a shell holds nothing. Assumes `Logic`.
use base.Fraction.{full_share}
use denote.RattleType.{RattleType}
use denote.Memory.{part_at}
use denote.Param.Laws.{Laws}
use denote.SharingLaws.{nothing_shr_laws}
use denote.Struct.Lending.{Lends-nothing}
use Rattle.std.specs.declared.alloc.Allocator.{Ghosts}
use Rattle.guest_ram.specs.contracts.block.Shell as C
use Rattle.guest_ram.proofs.block.Shell.TheLaw.Statement.{statement}

pub shares : (A : RattleType) (g : Ghosts A.Denot) (L : Laws A) → statement A g L
shares A g L = record {
  shr_laws = λ d b o. nothing_shr_laws;
  shares = λ M 𝓤 𝓛 d κ ts b o. Lends-nothing 𝓛 (part_at (C.the_written A g) full_share d b o) (C.the_written A g).lives κ ts;
}
