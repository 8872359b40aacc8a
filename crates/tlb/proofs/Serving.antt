-- A page that is served by a walk and dropped at once.
use Rattle.std.specs.Prelude.{ℕ, ◌≡◌, ◌==◌, ◌||◌, Bool, true, false, not, cond, List, [], ◌∷◌, Result, Ok, Err, Option, Some, None, refl}
use Rattle.std.specs.FinMap.{FinMap, empty, get, insert, get-insert, get-retain_keys, get-empty, same_map, nat_cmp-IsAntisymmetric}
use Rattle.std.specs.Ordering.{nat_cmp, eq_by_cmp}
use Rattle.std.specs.Cmp.{nat_cmp_total, unsigned_tied, eq_by_cmp_equiv}
use Rattle.std.proofs.Common.{sym, ap, ◌∙◌}
use Rattle.mdl_state.specs.declared.Access.{Access}
use Rattle.mdl_state.specs.declared.Entry.{Entry}
use Rattle.mdl_state.specs.declared.Fault.{Fault}
use Rattle.mdl_state.specs.State.{Physical, Mem}
use Rattle.mdl_state.specs.PageWalk.{walk}
use Rattle.mdl_state.specs.Serving.{Passed, outcome, by_pick, serve_item, page_of, without, entered, is_in, counted}
use Rattle.mdl_state.specs.Policy.{plain_item, plain_after}

-- what dropping pages leaves at a page
get-without : (pages : List ℕ) (cache : FinMap nat_cmp Entry) (q : ℕ) → get (without pages cache) q ≡ cond (not (is_in pages q)) (get cache q) None
get-without pages cache q = get-retain_keys cache (λ page. not (is_in pages page)) q (λ x t. ap (λ (y : ℕ). not (is_in pages y)) (sym (nat_cmp-IsAntisymmetric q x t)))

one : (e : Entry) (b : Bool) → cond (not (b || false)) (cond b (Some e) None) None ≡ None
one e true = refl
one e false = refl

same : (a b : Bool) (e : Entry) → a ≡ b → cond (not (a || false)) (cond b (Some e) None) None ≡ None
same a b e h = rw h (one e b)

own : (page : ℕ) (e : Entry) → entered empty page (page ∷ []) e ≡ empty
own page e = same_map nat_cmp_total nat_cmp-IsAntisymmetric _ _ (λ q.
    get-without (page ∷ []) (insert empty page e) q
    ∙ ap (λ (o : Option Entry). cond (not ((page == q) || false)) o None) (get-insert nat_cmp_total empty page e q ∙ ap (λ (o : Option Entry). cond (eq_by_cmp nat_cmp q page) (Some e) o) (get-empty nat_cmp q))
    ∙ same (page == q) (eq_by_cmp nat_cmp q page) e (turned page q)
    ∙ sym (get-empty nat_cmp q))
  where
    turned : (page q : ℕ) → (page == q) ≡ eq_by_cmp nat_cmp q page
    turned page q = sym (unsigned_tied page q) ∙ (eq_by_cmp_equiv nat_cmp_total).symm page q

served_walk : (m : Mem) (lin : ℕ) (access : Access) (w : Result Entry Fault × Physical) → walk m.physical m.cr3 lin access ≡ w → m.cache ≡ empty → (outcome w.0, record m { physical = w.1; walks = counted m.walks }) ≡ serve_item (plain_after (page_of lin) w) m lin access
unfolding serve_item
served_walk m lin access (Ok e, p) g h = rw g (ap (λ (c : FinMap nat_cmp Entry). (Passed e, record m { physical = p; cache = c; walks = counted m.walks })) (h ∙ sym (own (page_of lin) e) ∙ ap (λ (c : FinMap nat_cmp Entry). entered c (page_of lin) (page_of lin ∷ []) e) (sym h)))
served_walk m lin access (Err f, p) g h = rw g refl

-- a walk that is counted serves the page as one does whose entry is dropped at once
pub serving : (m : Mem) (lin : ℕ) (access : Access) (r : Result Entry Fault) (p : Physical) → (r, p) ≡ walk m.physical m.cr3 lin access → m.cache ≡ empty → (outcome r, record m { physical = p; walks = counted m.walks }) ≡ by_pick plain_item m lin access
serving m lin access r p e h = served_walk m lin access (r, p) (sym e) h ∙ ap (λ (w : Result Entry Fault × Physical). serve_item (plain_after (page_of lin) w) m lin access) e
