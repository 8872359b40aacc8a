-- `emptied` takes the bytes out of a `Vec`, and leaves the way back. Assumes `Logic`.
use Rattle.std.proofs.Common.{List, [], ◌∷◌, ◌++◌, refl}
use seplogic.Ra.Ura.{Ura}
use mir.Syntax.{Fn, Args, Dict, a_type, dcons, dnil}
use mir.Val.{Val}
use mir.MapTy.{inst_fn}
use base.Logic.{SProp, ent}
use base.Fml.{ftrue}
use prog.Memory.{Memory}
use prog.Routine.{Routine}
use prog.Wp.{Calls, Loops, WpFn, Tables}
use contract.BorrowLft.{◌⊑◌}
use contract.Monad.{Fun, fact}
use contract.Running.{tables, tables_of}
use sound.WpLaws.{WpFn-mono}
use types.Logic.{Logic}
use types.Kit.{‵, raw, ◌⊛◌, prop, ◌$◌, ◌∵◌, !, qed, move, drop, use1, split, fsplit, fjoin, fpack, regoal, suffices, done}
use types.Part.{agg}
use types.Run.{enter, returns, of_opd, and_then, no_more}
use types.ByLocal.{alloc_all, pass_all, free_all, look_at, get, sets}
use denote.Exit.{no}
use denote.RattleType.{RattleType, owns}
use denote.Builtin.{u8}
use denote.Laws.{Typed}
use denote.Param.{param, bounded, layout}
use denote.Param.Laws.{Laws, param_laws, of_field}
use denote.Param.Shared.{copy_shared}
use denote.Signature.{plain, types_at}
use denote.Steps.{nothing}
use denote.Struct.Field.{u8-field}
use denote.Struct.Laws.{u8-laws, u8-copy}
use denote.Struct.Struct.{as_fields}
use denote.Triple.Clauses.{Clauses, Ended, closing}
use denote.Triple.Entry.{alive}
use denote.Triple.Spec.{Meets, triple_of}
use denote.Triple.Table.{entered}
use denote.Triple.Walked.{Stays, stay_dropped, walk_of, ends_at, walk_Meets}
use Rattle.core.proofs.mem.Facts.{says_two}
use Rattle.std.specs.declared.alloc.Allocator.{Ghosts}
use Rattle.std.proofs.alloc.Calls.{Goes-blank}
use Rattle.std_alloc.specs.contracts.vec.Vec as Vec
use Rattle.std_alloc.proofs.vec.Vec.TheLaws as vec_laws
use Rattle.guest_ram.specs.Block.{bytes_owned}
use Rattle.guest_ram.proofs.Steps.{hollow, single, double, known, hollow_made, double_made}
use Rattle.guest_ram.proofs.Held.{vec_apart}
use Rattle.guest_ram.specs.contracts.block.Bytes as Bytes
use Rattle.guest_ram.specs.contracts.block.Shell as Shell
use Rattle.guest_ram.specs.contracts.block.emptied as F
use Rattle.guest_ram.specs.contracts.block.emptied.Key.{name as #self}
use Rattle.guest_ram.proofs.block.emptied.Statement as stated
use Rattle.guest_ram.proofs.block.emptied.Code as code

module _ (A : RattleType) (L : Laws A) (g : Ghosts A.Denot) (d dd : Dict) where
  abbrev args : Args
  args = bounded (a_type ∷ []) (A, tt) (dcons d (dcons dd dnil))

  -- the allocator, as the function's type parameter
  abbrev P : RattleType
  P = param 0 A

  abbrev V : RattleType
  V = Vec.the_row u8 P g

  abbrev S : RattleType
  S = Shell.the_row P g

  abbrev LV : Laws V
  LV = vec_laws.the_row_laws u8 P g (of_field u8-field u8-laws refl (copy_shared u8-field u8-copy)) (param_laws 0 A L)

  abbrev function : Fn
  function = inst_fn args code.function

  abbrev ended : Ended
  ended = F.ended A g d dd

  abbrev stayed : Stays ended.signature.params ended.kept
  stayed = (stay_dropped (plain (λ _. V)) no, tt)

  module _ {M : Type 1} {𝓤 : Ura M} (𝓛 : Logic 𝓤) (at_mem : Memory → SProp 𝓤) (run : Routine → Fun 𝓤) where
    open 𝓛 use {H}

    abbrev clauses : Clauses 𝓤 ended
    clauses = F.clauses A g d dd 𝓛 at_mem run

    module _ (C : Calls 𝓤 H) (Λ : Loops 𝓤 H) (z : (walk_of 𝓛 ended stayed clauses).Ghost) where
      abbrev Post : Val → SProp 𝓤
      Post = (walk_of 𝓛 ended stayed clauses).post z

      walk : ent 𝓤 ((walk_of 𝓛 ended stayed clauses).pre z) (WpFn 𝓤 H C Λ function ((walk_of 𝓛 ended stayed clauses).args z) Post)
      walk =
          let v = z.0.3.0 in
          let vss = z.0.4 in
          let bytes : (Bytes.the_row).Denot = record { at = v.ptr; list = v.items } in
          let shell : S.Denot = record { at = v.ptr; count = v.len } in
          qed 𝓛 ((raw (alive 𝓛 ended.signature z.0.0 z.0.1) ⊛ ‵ (owns (types_at ended.signature.params z.0.0) z.0.3 vss)) ∷ (raw (fact 𝓤 (z.0.0.0 ⊑ A.lives)) ⊛ ‵ ftrue) ∷ []) ∵
          move ! (1 ∷ []) $ drop ! $ split ! $ move ! (1 ∷ []) $
          fsplit ! $ known ! V LV v vss.0 (λ u is fits. move ! (1 ∷ []) $ drop ! $
          let inner = as_fields (layout V ∷ []) (u ∷ []) (fits, tt) in
          use1 𝓛 (‵ (bytes_owned v.ptr v.items) ⊛ ‵ (Shell.the_own P g shell (single u ∷ []))) (vec_apart P g 𝓛 v u) $ split ! $
          hollow_made ! $ fjoin ! $ move ! (1 ∷ []) $ nothing ! $ fpack ! (Typed S.mir (single u ∷ [])) (λ _. ftrue) (inner, tt) $ fjoin ! $ move ! (1 ∷ 0 ∷ []) $
          double_made ! Bytes.the_row S bytes shell hollow (single u) $
          regoal ! (λ (us : List Val). prop (WpFn 𝓤 H C Λ function (us ++ []) Post)) is refl $
          enter ! C Λ function (u ∷ []) Post $ alloc_all ! (λ l. pass_all ! refl (fits, tt) $
          sets ! (agg ! (no_more !)) refl (tt, tt) $
          sets ! (of_opd ! (get ! refl)) refl fits $
          sets ! (agg ! (and_then ! (get ! refl) (no_more !))) refl inner $
          sets ! (agg ! (and_then ! (get ! refl) (and_then ! (get ! refl) (no_more !)))) refl (as_fields (layout Bytes.the_row ∷ layout S ∷ []) (hollow ∷ single u ∷ []) ((tt, tt), (inner, tt))) $
          returns ! (look_at ! 0 refl) $ free_all ! refl $
          suffices ! _ (ends_at 𝓛 ended stayed clauses z (double hollow (single u)) (bytes, shell) ((tt, (tt, (tt, (tt, tt)))), tt) (tt, tt)) $ says_two ! ((refl, refl), (refl, v.ok.0)) $
          nothing ! $ nothing ! $ fjoin ! $ move ! (2 ∷ 0 ∷ 1 ∷ []) $ done !))

    meets : (𝓣 : Tables 𝓤 H) → Meets 𝓛 ended.signature (WpFn 𝓤 H 𝓣.C 𝓣.Λ function) (closing 𝓛 ended clauses)
    meets 𝓣 =
        walk_Meets 𝓛 ended stayed (Goes-blank 𝓛 1 (plain (λ _. V)) no (λ κs x f. tt), tt) clauses
        (WpFn 𝓤 H 𝓣.C 𝓣.Λ function) (WpFn-mono 𝓤 H 𝓛.laws 𝓣 function) (walk 𝓣.C 𝓣.Λ)

pub emptied_spec : {M : Type 1} → stated.statement M
unfolding tables_of
emptied_spec 𝓤 𝓛 𝓜 𝓡 wired A L g d dd met md =
    let 𝓣 : Tables 𝓤 𝓛.H = tables_of 𝓤 𝓛.H 𝓜 (tables 𝓤 𝓛.H 𝓜 𝓡 𝓡.env) in
    entered 𝓤 𝓛.H (triple_of 𝓛 (ended A L g d dd).signature (closing 𝓛 (ended A L g d dd) (clauses A L g d dd 𝓛 𝓜.mem 𝓡.returns))) 𝓣.C 𝓣.Λ (#self (args A L g d dd)) (function A L g d dd)
    (code.unfolded 𝓤 𝓛.H 𝓜 𝓡 wired (A, tt) d dd) (meets A L g d dd 𝓛 𝓜.mem 𝓡.returns 𝓣)
