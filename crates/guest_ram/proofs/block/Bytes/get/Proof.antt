-- `get` shows one byte of the block. Assumes `Logic`.
use Rattle.std.proofs.Common.{◌≡◌, ◌∙◌, ◌+◌, ◌<◌, List, [], ◌∷◌, ◌++◌, length, get_or, refl, ap}
use seplogic.Ra.Ura.{Ura}
use mir.Syntax.{Fn, w64}
use mir.Val.{Val, vptr, vint}
use base.Logic.{SProp, ent}
use base.Fml.{Lft}
use prog.Memory.{Memory}
use prog.Routine.{Routine}
use prog.Wp.{Env, Calls, Loops, WpFn, Tables}
use contract.Monad.{Fun, fact}
use contract.Running.{tables, tables_of}
use sound.WpLaws.{WpFn-mono}
use types.Logic.{Logic}
use types.Kit.{‵, raw, ◌⊛◌, prop, at_ret, ◌$◌, ◌∵◌, !, qed, move, drop, use1, split, fsplit, fjoin, feq_i, feq_l, flt_l, regoal, suffices, done}
use types.Run.{enter, returns, of_opd, stop, addr, bin, first, blocks, exec}
use types.ByLocal.{alloc_all, pass_all, free_all, look_at, get, through, sets, sets_last, env}
use denote.Exit.{yes}
use denote.RattleType.{owns}
use denote.Builtin.{u8, usize, RefOf}
use denote.Memory.{shared_of}
use denote.Opens.{hide, unhide}
use denote.RawPtr.{RawPtr, InBlock, block_ptr, block_of, count_of, at_block, ptr_val}
use denote.Signature.{plain, types_at}
use denote.Steps.{nothing, heard}
use denote.Struct.Lending.{in_block_says}
use denote.Triple.Clauses.{Clauses, Ended, closing}
use denote.Triple.Entry.{alive}
use denote.Triple.Spec.{Meets, triple_of}
use denote.Triple.Table.{entered}
use denote.Triple.Walked.{says, Stays, stay_dropped, walk_of, ends_at, Goes-dropped, walk_Meets}
use Rattle.core.proofs.alloc.Shapes.{after}
use Rattle.guest_ram.proofs.Held.{byte_seen}
use Rattle.guest_ram.specs.contracts.block.Bytes as Bytes
use Rattle.guest_ram.specs.contracts.block.Bytes.get as F
use Rattle.guest_ram.specs.contracts.block.Bytes.get.Key.{name as #self}
use Rattle.guest_ram.proofs.block.Bytes.get.Statement as stated
use Rattle.guest_ram.proofs.block.Bytes.get.Code as code

abbrev function : Fn
function = code.function

abbrev ended : Ended
ended = F.ended

abbrev stayed : Stays ended.signature.params ended.kept
stayed = (stay_dropped (RefOf (0 ∷ []) tt (plain (λ _. Bytes.the_row)) (λ _. tt)) yes, (stay_dropped (plain (λ _. RawPtr)) yes, (stay_dropped (plain (λ _. usize)) yes, tt)))

module _ {M : Type 1} {𝓤 : Ura M} (𝓛 : Logic 𝓤) (at_mem : Memory → SProp 𝓤) (run : Routine → Fun 𝓤) where
  open 𝓛 use {H}

  abbrev clauses : Clauses 𝓤 ended
  clauses = F.clauses 𝓛 at_mem run

  module _ (C : Calls 𝓤 H) (Λ : Loops 𝓤 H) (z : (walk_of 𝓛 ended stayed clauses).Ghost) where
    abbrev Post : Val → SProp 𝓤
    Post = (walk_of 𝓛 ended stayed clauses).post z

    walk : ent 𝓤 ((walk_of 𝓛 ended stayed clauses).pre z) (WpFn 𝓤 H C Λ function ((walk_of 𝓛 ended stayed clauses).args z) Post)
    walk =
        let vss = z.0.4 in
        let self = z.0.3.0 in
        let d = self.now in
        let p = z.0.3.1.0 in
        let i = z.0.3.1.1.0 in
        let κ : Lft = z.0.0.0 in
        let b = block_of d.at in
        let o = count_of d.at in
        let x = get_or d.list i 0 in
        let Asked = (p ≡ d.at) × (i < length d.list) in
        let us : Val = vptr self.ref_ptr.0 self.ref_ptr.1 in
        qed 𝓛 ((raw (alive 𝓛 ended.signature z.0.0 z.0.1) ⊛ ‵ (owns (types_at ended.signature.params z.0.0) z.0.3 vss)) ∷ raw (fact 𝓤 Asked) ∷ []) ∵
        move ! (1 ∷ []) $ heard ! Asked (λ asked. split ! $ move ! (1 ∷ []) $
        fsplit ! $ fsplit ! $ feq_l ! (λ is₀. unhide ! $ fsplit ! $ drop ! $ fsplit ! $
        use1 𝓛 (raw (fact 𝓤 (InBlock d.at))) (in_block_says 𝓛 d.at) $ heard ! (InBlock d.at) (λ placed. fsplit ! $ drop ! $ move ! (1 ∷ []) $
        fsplit ! $ feq_l ! (λ is₁. fsplit ! $ fsplit ! $ feq_l ! (λ is₂. flt_l ! (λ fits. drop ! $
        -- [the bytes; the tokens]
        let at : p ≡ block_ptr b o = asked.0 ∙ at_block d.at placed in
        regoal ! (λ (ws : List Val). prop (WpFn 𝓤 H C Λ function (ws ++ (vss.1.0 ++ (vss.1.1.0 ++ []))) Post)) is₀ refl $
        regoal ! (λ (ws : List Val). prop (WpFn 𝓤 H C Λ function ((us ∷ []) ++ (ws ++ (vss.1.1.0 ++ []))) Post)) (is₁ ∙ ap (λ r. ptr_val r ∷ []) at) refl $
        regoal ! (λ (ws : List Val). prop (WpFn 𝓤 H C Λ function ((us ∷ []) ++ ((vptr b o ∷ []) ++ (ws ++ []))) Post)) is₂ refl $
        enter ! C Λ function (us ∷ vptr b o ∷ vint w64 i ∷ []) Post $ alloc_all ! (λ l. pass_all ! refl ((tt, tt), ((tt, tt), ((tt, record { fits = fits }), tt))) $
        let En : Env 𝓤 H = env function.locals l in
        first ! $ blocks ! $
        sets ! (bin ! (get ! refl) (get ! refl) tt) refl (tt, tt) $
        sets_last ! (addr ! (through ! refl (stop !))) refl (tt, tt) $
        exec ! C Λ En (after 1 function.body) (at_ret En Post) $ sets ! (of_opd ! (get ! refl)) refl (tt, tt) $
        use1 𝓛 (‵ (shared_of u8 x b (i + o) κ)) (byte_seen 𝓛 b κ d.list i o (i + o) refl asked.1) $ hide ! $
        feq_i ! (List Val) (vptr b (i + o) ∷ []) (vptr b (i + o) ∷ []) refl $ fjoin ! $
        returns ! (look_at ! 0 refl) $ free_all ! refl $
        suffices ! _ (ends_at 𝓛 ended stayed clauses z (vptr b (i + o)) (record { ref_ptr = (b, i + o); now = x }) (tt, (tt, (tt, tt))) (tt, (tt, (tt, tt)))) $ says ! refl $
        nothing ! $ nothing ! $ fjoin ! $ nothing ! $ fjoin ! $ nothing ! $ fjoin ! $ move ! (2 ∷ 0 ∷ 1 ∷ []) $ done !)))))))

  meets : (𝓣 : Tables 𝓤 H) → Meets 𝓛 ended.signature (WpFn 𝓤 H 𝓣.C 𝓣.Λ function) (closing 𝓛 ended clauses)
  meets 𝓣 =
      walk_Meets 𝓛 ended stayed (Goes-dropped 𝓛 1 (RefOf (0 ∷ []) tt (plain (λ _. Bytes.the_row)) (λ _. tt)) yes (λ κs x f. refl), (Goes-dropped 𝓛 1 (plain (λ _. RawPtr)) yes (λ κs x f. refl), (Goes-dropped 𝓛 1 (plain (λ _. usize)) yes (λ κs x f. refl), tt))) clauses
      (WpFn 𝓤 H 𝓣.C 𝓣.Λ function) (WpFn-mono 𝓤 H 𝓛.laws 𝓣 function) (walk 𝓣.C 𝓣.Λ)

pub get_spec : {M : Type 1} → stated.statement M
unfolding tables_of
get_spec 𝓤 𝓛 𝓜 𝓡 wired =
    let 𝓣 : Tables 𝓤 𝓛.H = tables_of 𝓤 𝓛.H 𝓜 (tables 𝓤 𝓛.H 𝓜 𝓡 𝓡.env) in
    entered 𝓤 𝓛.H (triple_of 𝓛 ended.signature (closing 𝓛 ended (clauses 𝓛 𝓜.mem 𝓡.returns))) 𝓣.C 𝓣.Λ #self function
    (code.unfolded 𝓤 𝓛.H 𝓜 𝓡 wired) (meets 𝓛 𝓜.mem 𝓡.returns 𝓣)
