-- `refilled` hands the bytes to what waits for them. Assumes `Logic`.
use Rattle.std.proofs.Common.{◌≡◌, ◌∙◌, ℕ, List, [], ◌∷◌, ◌++◌, length, refl, sym, subst}
use seplogic.Ra.Ura.{Ura}
use mir.Syntax.{Fn, Args, Dict, a_type, dcons, dnil}
use mir.Val.{Val}
use mir.MapTy.{inst_fn}
use base.Logic.{SProp, ent, all_e, apply∗}
use base.Fml.{Fml, fsep, feq, fwand}
use prog.Memory.{Memory}
use prog.Routine.{Routine}
use prog.Wp.{Calls, Loops, WpFn, Tables}
use contract.BorrowLft.{◌⊑◌}
use contract.Monad.{Fun, fact}
use contract.Running.{tables, tables_of}
use sound.WpLaws.{WpFn-mono}
use types.Logic.{Logic, sem}
use types.Kit.{‵, raw, ◌⊛◌, prop, ◌$◌, ◌∵◌, !, qed, move, drop, use1, use2, split, fsplit, fjoin, fpick, feq_l, feq_i, regoal, rewrite, suffices, done}
use types.Part.{sub, whole}
use types.Run.{enter, returns, of_opd, fld, stop}
use types.ByLocal.{alloc_all, pass_all, free_all, look_at, get, get_in, sets}
use denote.Exit.{yes, no}
use denote.RattleType.{RattleType, owns}
use denote.Builtin.{u8}
use denote.Laws.{Typed}
use denote.Param.{param, bounded}
use denote.Param.Laws.{Laws, param_laws, of_field}
use denote.Param.Shared.{copy_shared}
use denote.Signature.{plain, types_at}
use denote.Steps.{nothing, heard}
use denote.Struct.Field.{u8-field}
use denote.Struct.Laws.{u8-laws, u8-copy}
use denote.Triple.Clauses.{Clauses, Ended, closing}
use denote.Triple.Entry.{alive}
use denote.Triple.Spec.{Meets, triple_of}
use denote.Triple.Table.{entered}
use denote.Triple.Walked.{says, Stays, stay_dropped, walk_of, ends_at, walk_Meets}
use Rattle.std.specs.declared.alloc.Allocator.{Ghosts}
use Rattle.std.specs.Vec.{with_items}
use Rattle.std.proofs.alloc.Calls.{Goes-blank}
use Rattle.std.proofs.lemmas.List.{with_items_is}
use Rattle.std_alloc.specs.contracts.vec.Vec as Vec
use Rattle.std_alloc.proofs.vec.Vec.TheLaws as vec_laws
use Rattle.guest_ram.specs.Block.{bytes_owned}
use Rattle.guest_ram.proofs.Steps.{Fields, hollow, single, hollow_had, single_had}
use Rattle.guest_ram.specs.contracts.block.Bytes as Bytes
use Rattle.guest_ram.specs.contracts.block.Shell as Shell
use Rattle.guest_ram.specs.contracts.block.refilled as F
use Rattle.guest_ram.specs.contracts.block.refilled.Key.{name as #self}
use Rattle.guest_ram.proofs.block.refilled.Statement as stated
use Rattle.guest_ram.proofs.block.refilled.Code as code

module _ (A : RattleType) (L : Laws A) (g : Ghosts A.Denot) (d dd : Dict) where
  abbrev args : Args
  args = bounded (a_type ∷ []) (A, tt) (dcons d (dcons dd dnil))

  -- the allocator, as the function's type parameter
  abbrev P : RattleType
  P = param 0 A

  abbrev V : RattleType
  V = Vec.the_row u8 P g

  abbrev S : RattleType
  S = Shell.the_row P g

  abbrev LV : Laws V
  LV = vec_laws.the_row_laws u8 P g (of_field u8-field u8-laws refl (copy_shared u8-field u8-copy)) (param_laws 0 A L)

  abbrev function : Fn
  function = inst_fn args code.function

  abbrev ended : Ended
  ended = F.ended A g d dd

  abbrev stayed : Stays ended.signature.params ended.kept
  stayed = (stay_dropped (plain (λ _. Bytes.the_row)) yes, (stay_dropped (plain (λ _. S)) no, tt))

  module _ {M : Type 1} {𝓤 : Ura M} (𝓛 : Logic 𝓤) (at_mem : Memory → SProp 𝓤) (run : Routine → Fun 𝓤) where
    open 𝓛 use {H}

    abbrev clauses : Clauses 𝓤 ended
    clauses = F.clauses A g d dd 𝓛 at_mem run

    module _ (C : Calls 𝓤 H) (Λ : Loops 𝓤 H) (z : (walk_of 𝓛 ended stayed clauses).Ghost) where
      abbrev Post : Val → SProp 𝓤
      Post = (walk_of 𝓛 ended stayed clauses).post z

      walk : ent 𝓤 ((walk_of 𝓛 ended stayed clauses).pre z) (WpFn 𝓤 H C Λ function ((walk_of 𝓛 ended stayed clauses).args z) Post)
      walk =
          let bytes = z.0.3.0 in
          let shell = z.0.3.1.0 in
          let vss = z.0.4 in
          let Asked = (shell.at ≡ bytes.at) × (shell.count ≡ length bytes.list) in
          qed 𝓛 ((raw (alive 𝓛 ended.signature z.0.0 z.0.1) ⊛ ‵ (owns (types_at ended.signature.params z.0.0) z.0.3 vss)) ∷ (raw (fact 𝓤 (z.0.0.0 ⊑ A.lives)) ⊛ raw (fact 𝓤 Asked)) ∷ []) ∵
          move ! (1 ∷ []) $ split ! $ drop ! $ heard ! Asked (λ asked. split ! $ move ! (1 ∷ []) $
          fsplit ! $ fsplit ! $ hollow_had ! vss.0 (λ is₀. move ! (1 ∷ []) $ fsplit ! $ fsplit ! $ fpick ! (λ typed. drop ! $ fpick ! (λ v. fsplit ! $ feq_l ! (λ long.
          let Given : List ℕ → Fml = λ list. fsep (feq ℕ (length list) shell.count) (bytes_owned shell.at list) in
          let Whole : List ℕ → Fml = λ list. (Fields (V ∷ [])).own_val (with_items v.vec list, tt) vss.1.0 in
          -- [the way back; nothing; the bytes; the tokens]
          use1 𝓛 (‵ (fwand (Given bytes.list) (Whole bytes.list))) (all_e 𝓤 (λ list. sem 𝓛 (fwand (Given list) (Whole list))) bytes.list) $ move ! (2 ∷ []) $
          rewrite ! 0 (λ p. ‵ (bytes_owned p bytes.list)) (sym asked.0) refl $ feq_i ! ℕ (length bytes.list) shell.count (sym asked.1) $ fjoin ! $
          use2 𝓛 (‵ (Whole bytes.list)) (apply∗ 𝓤 (sem 𝓛 (Given bytes.list)) (sem 𝓛 (Whole bytes.list))) $ single_had ! V LV (with_items v.vec bytes.list) vss.1.0 (λ u is₁ fits.
          move ! (1 ∷ []) $ drop ! $
          regoal ! (λ (us : List Val). prop (WpFn 𝓤 H C Λ function (us ++ (vss.1.0 ++ [])) Post)) is₀ refl $
          regoal ! (λ (us : List Val). prop (WpFn 𝓤 H C Λ function ((hollow ∷ []) ++ (us ++ [])) Post)) is₁ refl $
          enter ! C Λ function (hollow ∷ single u ∷ []) Post $ alloc_all ! (λ l. pass_all ! refl ((tt, tt), ((subst (Typed S.mir) is₁ typed).0, tt)) $
          sets ! (of_opd ! (get_in ! (fld ! refl (stop !)) (sub ! 0 refl (whole !)))) refl fits $
          sets ! (of_opd ! (get ! refl)) refl fits $
          returns ! (look_at ! 0 refl) $ free_all ! refl $
          suffices ! _ (ends_at 𝓛 ended stayed clauses z u (with_items v.vec bytes.list) (tt, (tt, tt)) (tt, (tt, tt))) $ says ! (with_items_is v.vec bytes.list (sym asked.1 ∙ sym long)) $
          nothing ! $ nothing ! $ fjoin ! $ nothing ! $ fjoin ! $ move ! (2 ∷ 0 ∷ 1 ∷ []) $ done !)))))))

    meets : (𝓣 : Tables 𝓤 H) → Meets 𝓛 ended.signature (WpFn 𝓤 H 𝓣.C 𝓣.Λ function) (closing 𝓛 ended clauses)
    meets 𝓣 =
        walk_Meets 𝓛 ended stayed (Goes-blank 𝓛 1 (plain (λ _. Bytes.the_row)) yes (λ κs x f. tt), (Goes-blank 𝓛 1 (plain (λ _. S)) no (λ κs x f. tt), tt)) clauses
        (WpFn 𝓤 H 𝓣.C 𝓣.Λ function) (WpFn-mono 𝓤 H 𝓛.laws 𝓣 function) (walk 𝓣.C 𝓣.Λ)

pub refilled_spec : {M : Type 1} → stated.statement M
unfolding tables_of
refilled_spec 𝓤 𝓛 𝓜 𝓡 wired A L g d dd met md =
    let 𝓣 : Tables 𝓤 𝓛.H = tables_of 𝓤 𝓛.H 𝓜 (tables 𝓤 𝓛.H 𝓜 𝓡 𝓡.env) in
    entered 𝓤 𝓛.H (triple_of 𝓛 (ended A L g d dd).signature (closing 𝓛 (ended A L g d dd) (clauses A L g d dd 𝓛 𝓜.mem 𝓡.returns))) 𝓣.C 𝓣.Λ (#self (args A L g d dd)) (function A L g d dd)
    (code.unfolded 𝓤 𝓛.H 𝓜 𝓡 wired (A, tt) d dd) (meets A L g d dd 𝓛 𝓜.mem 𝓡.returns 𝓣)
