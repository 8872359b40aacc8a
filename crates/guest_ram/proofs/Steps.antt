-- What the walks share of structs with no field, one, and two.
--     hollow, single, double            their machine values
--     hollow_made, single_made, double_made     each from what its fields own
--     hollow_had, single_had            each taken apart
--     known         what is owned is one machine value, of its type
use Rattle.std.proofs.Common.{◌≡◌, List, [], ◌∷◌, refl}
use lib.Dec.{T}
use seplogic.Ra.Ura.{Ura}
use mir.Syntax.{given as dict_at}
use mir.Val.{Val, vstruct, vcons, vnil, has_ty, WT}
use base.Fml.{ftrue}
use types.Logic.{Logic}
use types.Kit.{Goal, Seq, Step, step, Item, ‵, ◌$◌, move, drop, fsplit, fjoin, fpick, fpack, feq_l, feq_i}
use denote.RattleType.{RattleType, Valss}
use denote.Param.{layout}
use denote.Param.Laws.{Laws}
use denote.Steps.{nothing}
use denote.Struct.Struct.{Shape, Struct, within}
use Rattle.std.proofs.alloc.Calls.{handle_tells}

abbrev pub Fits : RattleType → Val → Type 0
Fits R v = T (has_ty (layout R) v) × WT v

-- a struct of these fields: what it owns is the same whatever its name
abbrev pub of_fields : List RattleType → Shape
of_fields Rs = record { name = []; args = []; types = []; fields = Rs }

abbrev pub Fields : List RattleType → RattleType
Fields Rs = Struct (of_fields Rs)

abbrev pub hollow : Val
hollow = vstruct vnil

abbrev pub single : Val → Val
single u = vstruct (vcons u vnil)

abbrev pub double : Val → Val → Val
double u v = vstruct (vcons u (vcons v vnil))

module _ {M : Type 1} {𝓤 : Ura M} {𝓛 : Logic 𝓤} {K : Type 0} {Γ : List (Item 𝓤)} {G : Goal 𝓤 𝓛.H} where
  pub known : K → (R : RattleType) → Laws R → (x : R.Denot) (vs : List Val) → ((v : Val) → vs ≡ v ∷ [] → Fits R v → Seq K 𝓛 (‵ (R.own_val x (v ∷ [])) ∷ Γ) G) → Seq K 𝓛 (‵ (R.own_val x vs) ∷ Γ) G
  known t R L = handle_tells (record { row = R; laws = L; g = record { dealloc_token = λ a τ p. ftrue }; d = dict_at 0; drops = dict_at 0 }) t

  pub hollow_made : K → Step K 𝓛 (‵ ((Fields []).own_val tt (hollow ∷ [])) ∷ Γ) G Γ G
  hollow_made t = step (λ s.
      nothing t $ feq_i t (List Val) (hollow ∷ []) (hollow ∷ []) refl $ fjoin t $ fpack t (Valss []) (within (of_fields []) tt (hollow ∷ [])) tt $ s)

  pub single_made : K → (R : RattleType) (x : R.Denot) (u : Val) → Step K 𝓛 (‵ ((Fields (R ∷ [])).own_val (x, tt) (single u ∷ [])) ∷ Γ) G (‵ (R.own_val x (u ∷ [])) ∷ Γ) G
  single_made t R x u = step (λ s.
      nothing t $ move t (1 ∷ 0 ∷ []) $ fjoin t $ feq_i t (List Val) (single u ∷ []) (single u ∷ []) refl $ fjoin t $
      fpack t (Valss (R ∷ [])) (within (of_fields (R ∷ [])) (x, tt) (single u ∷ [])) (u ∷ [], tt) $ s)

  pub double_made : K → (R S : RattleType) (x : R.Denot) (y : S.Denot) (u v : Val)
      → Step K 𝓛 (‵ ((Fields (R ∷ S ∷ [])).own_val (x, (y, tt)) (double u v ∷ [])) ∷ Γ) G (‵ (R.own_val x (u ∷ [])) ∷ ‵ (S.own_val y (v ∷ [])) ∷ Γ) G
  double_made t R S x y u v = step (λ s.
      nothing t $ move t (2 ∷ 0 ∷ []) $ fjoin t $ move t (1 ∷ 0 ∷ []) $ fjoin t $ feq_i t (List Val) (double u v ∷ []) (double u v ∷ []) refl $ fjoin t $
      fpack t (Valss (R ∷ S ∷ [])) (within (of_fields (R ∷ S ∷ [])) (x, (y, tt)) (double u v ∷ [])) (u ∷ [], (v ∷ [], tt)) $ s)

  pub hollow_had : K → (vs : List Val) → (vs ≡ hollow ∷ [] → Seq K 𝓛 Γ G) → Seq K 𝓛 (‵ ((Fields []).own_val tt vs) ∷ Γ) G
  hollow_had t vs k = fpick t (λ vss. fsplit t $ feq_l t (λ e. drop t $ k e))

  pub single_had : K → (R : RattleType) → Laws R → (x : R.Denot) (vs : List Val) → ((u : Val) → vs ≡ single u ∷ [] → Fits R u → Seq K 𝓛 (‵ (R.own_val x (u ∷ [])) ∷ Γ) G)
      → Seq K 𝓛 (‵ ((Fields (R ∷ [])).own_val (x, tt) vs) ∷ Γ) G
  single_had t R L x vs k =
      fpick t (λ vss. fsplit t $ feq_l t (λ whole. fsplit t $ move t (1 ∷ []) $ drop t $ known t R L x vss.0 (λ u one fits. k u (rw one at whole) fits)))
