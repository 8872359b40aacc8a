-- `set` puts one byte of the block. Assumes `Logic`.
use Rattle.std.proofs.Common.{◌≡◌, ◌∙◌, ℕ, ◌+◌, ◌<◌, List, [], ◌∷◌, ◌++◌, length, get_or, set, refl, sym}
use seplogic.Ra.Ura.{Ura}
use mir.Syntax.{Fn, w8, w64, ty_int, ty_ptr}
use mir.Val.{Val, vptr, vint, vunit}
use base.Fraction.{full_share}
use base.Logic.{SProp, ent, never, id⊢}
use base.Fml.{Fml, ftrue, fsep, feq, fat, flft}
use prog.Memory.{Memory}
use prog.Routine.{Routine}
use prog.Wp.{Env, Calls, Loops, WpFn, Tables}
use contract.Monad.{Fun, fact}
use contract.Running.{tables, tables_of}
use sound.WpLaws.{WpFn-mono}
use types.Logic.{Logic}
use types.Kit.{‵, raw, ◌⊛◌, prop, at_ret, ◌$◌, ◌∵◌, !, qed, move, keep, drop, use1, use2, split, join, rewrite, fsplit, fsplit3, fjoin, fjoin3, feq_i, feq_l, flt_l, regoal, suffices, frame, done}
use types.Run.{enter, returns, of_opd, stop, store, unit_lit, bin, assigns_last, first, blocks, exec}
use types.ByLocal.{alloc_all, pass_all, free_all, look_at, take_at, give_at, get, through, sets, env}
use denote.Array.{Array}
use denote.Builtin.{u8, usize}
use denote.Exit.{yes}
use denote.Index.{others, takes, puts, place, place_byte}
use denote.Memory.{part_at, shares}
use denote.Plain.{uint_in, uint_out}
use denote.RattleType.{owns}
use denote.RawPtr.{Ptr, RawPtr, lies_at, in_a_block, ptr_val}
use denote.RawPtr.Bytes.{bytes, bytes_apart, bytes_whole}
use denote.Signature.{plain, types_at}
use denote.Steps.{nothing, heard, opens, closes}
use denote.Triple.Clauses.{Clauses, Ended, closing}
use denote.Triple.Spec.{Meets, triple_of}
use denote.Triple.Table.{entered}
use denote.Triple.Walked.{says, Stays, stay_dropped, stay_ref, walk_of, ends_at, Goes-dropped, Goes-ref, walk_Meets}
use Rattle.core.proofs.alloc.Shapes.{after}
use Rattle.std_alloc.proofs.RcSteps.{Ptr-Good}
use Rattle.guest_ram.specs.contracts.block.Bytes as Bytes
use Rattle.guest_ram.specs.contracts.block.Bytes.set as F
use Rattle.guest_ram.specs.contracts.block.Bytes.set.Key.{name as #self}
use Rattle.guest_ram.proofs.block.Bytes.set.Statement as stated
use Rattle.guest_ram.proofs.block.Bytes.set.Code as code

abbrev function : Fn
function = code.function

abbrev ended : Ended
ended = F.ended

abbrev stayed : Stays ended.signature.params ended.kept
stayed = (stay_ref (0 ∷ []) tt (plain (λ _. Bytes.the_row)), (stay_dropped (plain (λ _. RawPtr)) yes, (stay_dropped (plain (λ _. usize)) yes, (stay_dropped (plain (λ _. u8)) yes, tt))))

module _ {M : Type 1} {𝓤 : Ura M} (𝓛 : Logic 𝓤) (at_mem : Memory → SProp 𝓤) (run : Routine → Fun 𝓤) where
  open 𝓛 use {H}

  abbrev clauses : Clauses 𝓤 ended
  clauses = F.clauses 𝓛 at_mem run

  module _ (C : Calls 𝓤 H) (Λ : Loops 𝓤 H) (z : (walk_of 𝓛 ended stayed clauses).Ghost) where
    abbrev Post : Val → SProp 𝓤
    Post = (walk_of 𝓛 ended stayed clauses).post z

    walk : ent 𝓤 ((walk_of 𝓛 ended stayed clauses).pre z) (WpFn 𝓤 H C Λ function ((walk_of 𝓛 ended stayed clauses).args z) Post)
    walk =
        let vss = z.0.4 in
        let self = z.0.3.0 in
        let d = self.now in
        let p = z.0.3.1.0 in
        let i = z.0.3.1.1.0 in
        let x = z.0.3.1.1.1.0 in
        let rb = self.ref_ptr.0 in
        let ro = self.ref_ptr.1 in
        let old = get_or d.list i 0 in
        let list : List ℕ = set d.list i x in
        let new : (Bytes.the_row).Denot = record { at = d.at; list = list } in
        let Asked = (p ≡ d.at) × (i < length d.list) in
        let n = length d.list in
        qed 𝓛 (((‵ (flft z.0.0.0 z.0.1.0) ⊛ ‵ ftrue) ⊛ ‵ (owns (types_at ended.signature.params z.0.0) z.0.3 vss)) ∷ raw (fact 𝓤 Asked) ∷ []) ∵
        move ! (1 ∷ []) $ heard ! Asked (λ asked. split ! $ move ! (1 ∷ []) $
        fsplit ! $ fsplit3 ! $ feq_l ! (λ is₀. move ! (2 ∷ []) $
        fsplit ! $ feq_l ! (λ is₁. fsplit ! $ fsplit ! $ feq_l ! (λ is₂. flt_l ! (λ fits. fsplit ! $ fsplit ! $ feq_l ! (λ is₃. flt_l ! (λ small. drop ! $
        move ! (2 ∷ []) $ split ! $ move ! (2 ∷ 3 ∷ 0 ∷ []) $
        -- [what self is seen at; its borrow; the token; nothing]
        regoal ! (λ (ws : List Val). prop (WpFn 𝓤 H C Λ function (ws ++ (vss.1.0 ++ (vss.1.1.0 ++ (vss.1.1.1.0 ++ [])))) Post)) is₀ refl $
        regoal ! (λ (ws : List Val). prop (WpFn 𝓤 H C Λ function ((vptr rb ro ∷ []) ++ (ws ++ (vss.1.1.0 ++ (vss.1.1.1.0 ++ [])))) Post)) is₁ refl $
        regoal ! (λ (ws : List Val). prop (WpFn 𝓤 H C Λ function ((vptr rb ro ∷ []) ++ ((ptr_val p ∷ []) ++ (ws ++ (vss.1.1.1.0 ++ [])))) Post)) is₂ refl $
        regoal ! (λ (ws : List Val). prop (WpFn 𝓤 H C Λ function ((vptr rb ro ∷ []) ++ ((ptr_val p ∷ []) ++ ((vint w64 i ∷ []) ++ (ws ++ [])))) Post)) is₃ refl $
        enter ! C Λ function (vptr rb ro ∷ ptr_val p ∷ vint w64 i ∷ vint w8 x ∷ []) Post $
        alloc_all ! (λ l. pass_all ! refl ((tt, tt), (Ptr-Good p, ((tt, record { fits = fits }), ((tt, record { fits = small }), tt)))) $
        let En : Env 𝓤 H = env function.locals l in
        opens ! tt Bytes.the_row {h = d} rb ro (λ us. move ! (1 ∷ []) $ fsplit ! $ move ! (1 ∷ []) $
        in_a_block ! d.at (λ q. lies_at (Array u8 n) full_share q d.list) (id⊢ 𝓤 (never 𝓤)) (λ b o at.
        let rest : Fml = others (shares u8) full_share d.list i b o in
        use1 𝓛 (‵ (fsep (feq ℕ n n) (bytes full_share d.list b o))) (bytes_apart 𝓛 full_share n d.list b o) $ fsplit ! $ drop ! $
        use1 𝓛 (‵ (part_at u8 full_share old b (place 1 o i)) ⊛ ‵ rest) (takes (shares u8) full_share 𝓛 d.list i 0 b o asked.1) $ split ! $
        rewrite ! 0 (λ (k : ℕ). ‵ (part_at u8 full_share old b k)) (place_byte o i) refl $
        use1 𝓛 (‵ (fat full_share (ty_int w8) b (i + o) (vint w8 old))) (uint_out 𝓛 full_share w8 old b (i + o)) $
        take_at ! 2 $ rewrite ! 0 (λ (q : Ptr). ‵ (fat full_share ty_ptr (l 2) 0 (ptr_val q))) (asked.0 ∙ at) refl $ give_at ! 2 $
        -- [the byte; the others; the fields; self's cell; the open borrow, in three entries; nothing]
        first ! $ blocks ! $
        sets ! (bin ! (get ! refl) (get ! refl) tt) refl (tt, tt) $
        assigns_last ! (of_opd ! (get ! refl)) (through ! refl (stop !)) (store ! 0 refl (tt, record { fits = small })) $
        exec ! C Λ En (after 1 function.body) (at_ret En Post) $ sets ! (of_opd ! (unit_lit !)) refl (tt, tt) $
        use1 𝓛 (‵ (part_at u8 full_share x b (i + o))) (uint_in 𝓛 full_share w8 x b (i + o)) $
        rewrite ! 0 (λ (k : ℕ). ‵ (part_at u8 full_share x b k)) (sym (place_byte o i)) refl $
        use2 𝓛 (‵ (bytes full_share list b o)) (puts (shares u8) full_share 𝓛 d.list i x b o asked.1) $
        feq_i ! ℕ (length list) (length list) refl $ fjoin ! $
        use1 𝓛 (‵ (part_at (Array u8 (length list)) full_share list b o)) (bytes_whole 𝓛 full_share (length list) list b o) $
        rewrite ! 0 (λ (q : Ptr). ‵ (lies_at (Array u8 (length list)) full_share q list)) (sym at) refl $
        move ! (1 ∷ 0 ∷ []) $ fjoin ! $ move ! (1 ∷ 0 ∷ []) $ closes ! tt Bytes.the_row new us rb ro $
        returns ! (look_at ! 0 refl) $ free_all ! refl $ keep ! (0 ∷ 1 ∷ 2 ∷ []) $ feq_i ! (List Val) (vunit ∷ []) (vunit ∷ []) refl $ move ! (1 ∷ 2 ∷ 3 ∷ 0 ∷ []) $
        suffices ! _ (ends_at 𝓛 ended stayed clauses z vunit tt (new, (tt, (tt, (tt, tt)))) (tt, (tt, (tt, (tt, tt))))) $ says ! (refl, refl) $
        nothing ! $ move ! (3 ∷ 0 ∷ []) $ join ! $ frame ! $ feq_i ! (List Val) vss.0 (vptr rb ro ∷ []) is₀ $ fjoin3 ! $ nothing ! $ nothing ! $ fjoin ! $ nothing ! $ fjoin ! $ nothing ! $ fjoin ! $ move ! (1 ∷ 0 ∷ []) $ fjoin ! $ done !))))))))))

  meets : (𝓣 : Tables 𝓤 H) → Meets 𝓛 ended.signature (WpFn 𝓤 H 𝓣.C 𝓣.Λ function) (closing 𝓛 ended clauses)
  meets 𝓣 =
      walk_Meets 𝓛 ended stayed (Goes-ref 𝓛 1 0 tt (plain (λ _. Bytes.the_row)), (Goes-dropped 𝓛 1 (plain (λ _. RawPtr)) yes (λ κs x f. refl), (Goes-dropped 𝓛 1 (plain (λ _. usize)) yes (λ κs x f. refl), (Goes-dropped 𝓛 1 (plain (λ _. u8)) yes (λ κs x f. refl), tt)))) clauses
      (WpFn 𝓤 H 𝓣.C 𝓣.Λ function) (WpFn-mono 𝓤 H 𝓛.laws 𝓣 function) (walk 𝓣.C 𝓣.Λ)

pub set_spec : {M : Type 1} → stated.statement M
unfolding tables_of
set_spec 𝓤 𝓛 𝓜 𝓡 wired =
    let 𝓣 : Tables 𝓤 𝓛.H = tables_of 𝓤 𝓛.H 𝓜 (tables 𝓤 𝓛.H 𝓜 𝓡 𝓡.env) in
    entered 𝓤 𝓛.H (triple_of 𝓛 ended.signature (closing 𝓛 ended (clauses 𝓛 𝓜.mem 𝓡.returns))) 𝓣.C 𝓣.Λ #self function
    (code.unfolded 𝓤 𝓛.H 𝓜 𝓡 wired) (meets 𝓛 𝓜.mem 𝓡.returns 𝓣)
