-- Breakpoints change nothing but the bits that are met.
use Rattle.std.specs.Prelude.{◌≡◌, ℕ, ◌%◌, ◌^◌, ◌+◌, ◌==◌, not, Bool, true, false, if◌then◌else◌, refl, List, [], ◌∷◌, Result, Ok, Err, Option, Some, None}
use Rattle.std.proofs.Common.{ap, sym, ◌∙◌}
use Rattle.mdl_state.specs.declared.Size.{Size}
use Rattle.mdl_state.specs.declared.Access.{Access}
use Rattle.mdl_state.specs.declared.Access.TheVariants as acc
use Rattle.mdl_state.specs.declared.Entry.{Entry}
use Rattle.mdl_state.specs.declared.Place.{Place}
use Rattle.mdl_state.specs.declared.Fault.{Fault}
use Rattle.mdl_state.specs.declared.Watch.{Watch}
use Rattle.mdl_state.specs.declared.Who.{Who}
use Rattle.mdl_state.specs.State.{Physical, Mem, Item, Old, Walk}
use Rattle.mdl_state.specs.Bytes.{bytes_of}
use Rattle.mdl_state.specs.Watches.{hits_after, noted, watching, unwatched}
use Rattle.mdl_state.specs.Serving.{Serve, Pick, Outcome, Passed, Failed, NoStep, on, serve_item, by_pick, from_cache, after_walk}
use Rattle.mdl_state.specs.Attempt.{Plan, Done, Fail, Load, Store, Translate, Get, Hold, Input, tried}
use Rattle.mdl_state.specs.Accesses.{translated, got, held_at, read_at, written_at, bytes_here}

-- the bits that are met by an access: the first where it passed, the others where it did not
abbrev pub met : {A : Type 0} → Outcome A → ℕ → ℕ → ℕ
met (Passed x) more hits = more
met (Failed fault) more hits = hits
met NoStep more hits = hits

-- the second is the first beside these breakpoints, with these bits met before it and those after it
pub record Beside {A : Type 0} (ws : List Watch) (hits more : ℕ) (w v : Outcome A × Mem) : Type 0 where
  pub same : v ≡ (w.0, watching w.1 ws (met w.0 more hits))

-- what serves pages does not see breakpoints, and leaves them
pub record IsBlind (serve : Serve) : Type 0 where
  pub each : (m : Mem) (ws : List Watch) (hits : ℕ) (lin : ℕ) (access : Access) → Beside ws hits hits (serve m lin access) (serve (watching m ws hits) lin access)

after_blind : (ws : List Watch) (hits : ℕ) (m : Mem) (page : ℕ) (dropped : List ℕ) (w : Result Entry Fault × Physical) → Beside ws hits hits (after_walk m page dropped w) (after_walk (watching m ws hits) page dropped w)
after_blind ws hits m page dropped (Ok entry, p) = record { same = refl }
after_blind ws hits m page [] (Err fault, p) = record { same = refl }
after_blind ws hits m page (_ ∷ _) (Err fault, p) = record { same = refl }

cache_blind : (ws : List Watch) (hits : ℕ) (m : Mem) (o : Option Entry) → Beside ws hits hits (from_cache m o) (from_cache (watching m ws hits) o)
cache_blind ws hits m (Some entry) = record { same = refl }
cache_blind ws hits m None = record { same = refl }

item_blind : (ws : List Watch) (hits : ℕ) (i : Item) (m : Mem) (lin : ℕ) (access : Access) → Beside ws hits hits (serve_item i m lin access) (serve_item i (watching m ws hits) lin access)
unfolding serve_item
item_blind ws hits Old m lin access = cache_blind ws hits m _
item_blind ws hits (Walk dropped) m lin access = after_blind ws hits m _ dropped _

pub by_pick_blind : (pick : Pick) → IsBlind (by_pick pick)
by_pick_blind pick = record { each = λ m ws hits lin access. record { same = (item_blind ws hits (pick (unwatched m) lin access) m lin access).same } }

either_beside : {A : Type 0} (ws : List Watch) (hits more : ℕ) (b : Bool) (x y v w : Outcome A × Mem) → Beside ws hits more x v → Beside ws hits more y w → Beside ws hits more (if b then x else y) (if b then v else w)
either_beside ws hits more true x y v w p q = p
either_beside ws hits more false x y v w p q = q

on_beside : {A B : Type 0} (ws : List Watch) (hits more : ℕ) (r s : Outcome A × Mem) (k l : A → Mem → Outcome B × Mem) → Beside ws hits hits r s → ((x : A) (n : Mem) → Beside ws hits more (k x n) (l x (watching n ws hits))) → Beside ws hits more (on r k) (on s l)
on_beside ws hits more (Passed x, m) s k l p q = record { same = ap (λ w. on w l) p.same ∙ (q x m).same }
on_beside ws hits more (Failed fault, m) s k l p q = record { same = ap (λ w. on w l) p.same }
on_beside ws hits more (NoStep, m) s k l p q = record { same = ap (λ w. on w l) p.same }

noted_beside : {A : Type 0} (ws : List Watch) (hits : ℕ) (m : Mem) (lin : ℕ) (size : Size) (access : Access) (x : A) → Beside ws hits (hits_after ws lin size access hits) (Passed x, noted m lin size access) (Passed x, noted (watching m ws hits) lin size access)
noted_beside ws hits m lin size access x = record { same = refl }

module _ (serve : Serve) (blind : IsBlind serve) (ws : List Watch) (hits : ℕ) where
  -- an access beside breakpoints is the access, and meets those that it meets
  pub translated_beside : (m : Mem) (lin : ℕ) (size : Size) (access : Access) → Beside ws hits (hits_after ws lin size access hits) (translated serve m lin size access) (translated serve (watching m ws hits) lin size access)
  unfolding translated
  translated_beside m lin size access = either_beside ws hits (hits_after ws lin size access hits) (not m.paging) _ _ _ _ (noted_beside ws hits m lin size access _)
      (on_beside ws hits (hits_after ws lin size access hits) (serve m lin access) (serve (watching m ws hits) lin access) _ _ (blind.each m ws hits lin access) (λ one n.
      either_beside ws hits (hits_after ws lin size access hits) (bytes_here lin size == bytes_of size) _ _ _ _ (noted_beside ws hits n lin size access _)
      (on_beside ws hits (hits_after ws lin size access hits) (serve n ((lin + bytes_here lin size) % 2 ^ 32) access) (serve (watching n ws hits) ((lin + bytes_here lin size) % 2 ^ 32) access) _ _ (blind.each n ws hits ((lin + bytes_here lin size) % 2 ^ 32) access) (λ two o.
      noted_beside ws hits o lin size access _))))

read_after : (ws : List Watch) (hits more : ℕ) (size : Size) (r s : Outcome Place × Mem) → Beside ws hits more r s → Beside ws hits more (on r (λ place n. (Passed (got n place size), n))) (on s (λ place n. (Passed (got n place size), n)))
read_after ws hits more size (Passed place, m) s p = record { same = ap (λ w. on w (λ place n. (Passed (got n place size), n))) p.same }
read_after ws hits more size (Failed fault, m) s p = record { same = ap (λ w. on w (λ place n. (Passed (got n place size), n))) p.same }
read_after ws hits more size (NoStep, m) s p = record { same = ap (λ w. on w (λ place n. (Passed (got n place size), n))) p.same }

-- a number held where an access lies
abbrev holding : Size → ℕ → Place → Mem → Outcome (Unit {0}) × Mem
holding size value place n = (Passed tt, held_at n place size value)

write_after : (ws : List Watch) (hits more : ℕ) (size : Size) (value : ℕ) (r s : Outcome Place × Mem) → Beside ws hits more r s → Beside ws hits more (on r (holding size value)) (on s (holding size value))
write_after ws hits more size value (Passed place, m) s p = record { same = ap (λ w. on w (holding size value)) p.same }
write_after ws hits more size value (Failed fault, m) s p = record { same = ap (λ w. on w (holding size value)) p.same }
write_after ws hits more size value (NoStep, m) s p = record { same = ap (λ w. on w (holding size value)) p.same }

module _ (serve : Serve) (blind : IsBlind serve) (ws : List Watch) (hits : ℕ) where
  pub read_beside : (m : Mem) (lin : ℕ) (size : Size) (who : Who) → Beside ws hits (hits_after ws lin size (acc.Read who) hits) (read_at serve m lin size who) (read_at serve (watching m ws hits) lin size who)
  unfolding read_at
  read_beside m lin size who = read_after ws hits (hits_after ws lin size (acc.Read who) hits) size (translated serve m lin size (acc.Read who)) (translated serve (watching m ws hits) lin size (acc.Read who)) (translated_beside serve blind ws hits m lin size (acc.Read who))

  pub written_beside : (m : Mem) (lin : ℕ) (size : Size) (value : ℕ) (who : Who) → Beside ws hits (hits_after ws lin size (acc.Write who) hits) (written_at serve m lin size value who) (written_at serve (watching m ws hits) lin size value who)
  unfolding written_at
  written_beside m lin size value who = write_after ws hits (hits_after ws lin size (acc.Write who) hits) size value (translated serve m lin size (acc.Write who)) (translated serve (watching m ws hits) lin size (acc.Write who)) (translated_beside serve blind ws hits m lin size (acc.Write who))

-- the second is the first beside these breakpoints, with some bits met
pub record OnlyHits {A : Type 0} (ws : List Watch) (w v : Outcome A × Mem) : Type 0 where
  pub hits : ℕ
  pub same : v ≡ (w.0, watching w.1 ws hits)

on_only : {A B : Type 0} (ws : List Watch) (hits more : ℕ) (r s : Outcome A × Mem) (k l : A → Mem → Outcome B × Mem) → Beside ws hits more r s → ((x : A) (n : Mem) (bits : ℕ) → OnlyHits ws (k x n) (l x (watching n ws bits))) → OnlyHits ws (on r k) (on s l)
on_only ws hits more (Passed x, m) s k l p q = let t = q x m more in record { hits = t.hits; same = ap (λ w. on w l) p.same ∙ t.same }
on_only ws hits more (Failed fault, m) s k l p q = record { hits = hits; same = ap (λ w. on w l) p.same }
on_only ws hits more (NoStep, m) s k l p q = record { hits = hits; same = ap (λ w. on w l) p.same }

-- Breakpoints change neither what comes of a plan nor memory, but for the bits that are met.
pub tried_beside : {A : Type 0} (serve : Serve) → IsBlind serve → (ws : List Watch) (given : ℕ) (plan : Plan A) (m : Mem) (hits : ℕ) → OnlyHits ws (tried serve given plan m) (tried serve given plan (watching m ws hits))
tried_beside serve blind ws given (Done x) m hits = record { hits = hits; same = refl }
tried_beside serve blind ws given (Fail fault) m hits = record { hits = hits; same = refl }
tried_beside serve blind ws given (Load lin size who k) m hits = on_only ws hits _ (read_at serve m lin size who) _ _ _ (read_beside serve blind ws hits m lin size who) (λ value n bits. tried_beside serve blind ws given (k value) n bits)
tried_beside serve blind ws given (Store lin size value who k) m hits = on_only ws hits _ (written_at serve m lin size value who) _ _ _ (written_beside serve blind ws hits m lin size value who) (λ _ n bits. tried_beside serve blind ws given k n bits)
tried_beside serve blind ws given (Translate lin size access k) m hits = on_only ws hits _ (translated serve m lin size access) _ _ _ (translated_beside serve blind ws hits m lin size access) (λ place n bits. tried_beside serve blind ws given (k place) n bits)
tried_beside serve blind ws given (Get place size k) m hits = tried_beside serve blind ws given (k (got m place size)) m hits
tried_beside serve blind ws given (Hold place size value k) m hits = let t = tried_beside serve blind ws given k (held_at m place size value) hits in record { hits = t.hits; same = t.same }
tried_beside serve blind ws given (Input port size k) m hits = tried_beside serve blind ws given (k given) m hits

-- Where nothing is looked for, nothing is met.
pub tried_none : {A : Type 0} (serve : Serve) → IsBlind serve → (hits given : ℕ) (plan : Plan A) (m : Mem) → Beside [] hits hits (tried serve given plan m) (tried serve given plan (watching m [] hits))
tried_none serve blind hits given (Done x) m = record { same = refl }
tried_none serve blind hits given (Fail fault) m = record { same = refl }
tried_none serve blind hits given (Load lin size who k) m = on_beside [] hits hits (read_at serve m lin size who) _ _ _ (read_beside serve blind [] hits m lin size who) (λ value n. tried_none serve blind hits given (k value) n)
tried_none serve blind hits given (Store lin size value who k) m = on_beside [] hits hits (written_at serve m lin size value who) _ _ _ (written_beside serve blind [] hits m lin size value who) (λ _ n. tried_none serve blind hits given k n)
tried_none serve blind hits given (Translate lin size access k) m = on_beside [] hits hits (translated serve m lin size access) _ _ _ (translated_beside serve blind [] hits m lin size access) (λ place n. tried_none serve blind hits given (k place) n)
tried_none serve blind hits given (Get place size k) m = tried_none serve blind hits given (k (got m place size)) m
tried_none serve blind hits given (Hold place size value k) m = record { same = (tried_none serve blind hits given k (held_at m place size value)).same }
tried_none serve blind hits given (Input port size k) m = tried_none serve blind hits given (k given) m

pub met_none : {A : Type 0} (r : Outcome A) (hits : ℕ) → met r hits hits ≡ hits
met_none (Passed x) hits = refl
met_none (Failed fault) hits = refl
met_none NoStep hits = refl

-- So an attempt does without breakpoints what it does with them.
pub tried_unwatched : {A : Type 0} (serve : Serve) → IsBlind serve → (given : ℕ) (plan : Plan A) (m n : Mem) (ws vs : List Watch) (hits more : ℕ) (r : Outcome A)
    → (r, watching n vs more) ≡ tried serve given plan (watching m ws hits) → (r, unwatched n) ≡ tried serve given plan (unwatched m)
tried_unwatched {A = A} serve blind given plan m n ws vs hits more r e =
    let w = tried serve given plan m in
    ap (λ (v : Outcome A × Mem). (v.0, unwatched v.1)) (e ∙ (tried_beside serve blind ws given plan m hits).same)
    ∙ sym (ap (λ (h : ℕ). (w.0, watching w.1 [] h)) (met_none w.0 0))
    ∙ sym (tried_none serve blind 0 given plan m).same

-- and leaves them
pub tried_watch : {A : Type 0} (serve : Serve) → IsBlind serve → (given : ℕ) (plan : Plan A) (m n : Mem) (ws vs : List Watch) (hits more : ℕ) (r : Outcome A)
    → (r, watching n vs more) ≡ tried serve given plan (watching m ws hits) → vs ≡ ws
tried_watch serve blind given plan m n ws vs hits more r e = ap (λ v. v.1.watch) (e ∙ (tried_beside serve blind ws given plan m hits).same)

-- ---- for whoever keeps breakpoints beside a memory

-- a translation, a read and a write of the memory within, as ones of the memory beside its breakpoints
pub translated_within : (pick : Pick) (m n : Mem) (ws : List Watch) (hits : ℕ) (lin : ℕ) (size : Size) (access : Access) (r : Outcome Place) → (r, n) ≡ translated (by_pick pick) m lin size access
    → (r, watching n ws (met r (hits_after ws lin size access hits) hits)) ≡ translated (by_pick pick) (watching m ws hits) lin size access
translated_within pick m n ws hits lin size access r e = ap (λ (w : Outcome Place × Mem). (w.0, watching w.1 ws (met w.0 (hits_after ws lin size access hits) hits))) e
    ∙ sym (translated_beside (by_pick pick) (by_pick_blind pick) ws hits m lin size access).same

pub read_within : (pick : Pick) (m n : Mem) (ws : List Watch) (hits : ℕ) (lin : ℕ) (size : Size) (who : Who) (r : Outcome ℕ) → (r, n) ≡ read_at (by_pick pick) m lin size who
    → (r, watching n ws (met r (hits_after ws lin size (acc.Read who) hits) hits)) ≡ read_at (by_pick pick) (watching m ws hits) lin size who
read_within pick m n ws hits lin size who r e = ap (λ (w : Outcome ℕ × Mem). (w.0, watching w.1 ws (met w.0 (hits_after ws lin size (acc.Read who) hits) hits))) e
    ∙ sym (read_beside (by_pick pick) (by_pick_blind pick) ws hits m lin size who).same

pub written_within : (pick : Pick) (m n : Mem) (ws : List Watch) (hits : ℕ) (lin : ℕ) (size : Size) (value : ℕ) (who : Who) (r : Outcome (Unit {0})) → (r, n) ≡ written_at (by_pick pick) m lin size value who
    → (r, watching n ws (met r (hits_after ws lin size (acc.Write who) hits) hits)) ≡ written_at (by_pick pick) (watching m ws hits) lin size value who
written_within pick m n ws hits lin size value who r e = ap (λ (w : Outcome (Unit {0}) × Mem). (w.0, watching w.1 ws (met w.0 (hits_after ws lin size (acc.Write who) hits) hits))) e
    ∙ sym (written_beside (by_pick pick) (by_pick_blind pick) ws hits m lin size value who).same
