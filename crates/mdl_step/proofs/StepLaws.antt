-- What a rule serves in a step is served by a list of items.
use Rattle.std.proofs.Common.{◌≡◌, ℕ, ◌+◌, List, [], ◌∷◌, ◌++◌, length, sym, ap, ◌∙◌, append_assoc, inl, inr}
use Rattle.mdl_state.specs.declared.Regs.{Regs}
use Rattle.mdl_state.specs.declared.Access.{Access}
use Rattle.mdl_state.specs.declared.Fault.{Fault}
use Rattle.mdl_state.specs.State.{Mem, Item, Core}
use Rattle.mdl_state.specs.Watches.{watching}
use Rattle.mdl_state.specs.Serving.{Pick, Policy, Outcome, Passed, Failed, by_pick, by_list, with_items}
use Rattle.mdl_state.specs.Choices.{Meets, Follows, page_follows, tried_follows, walks_after, walks_after-append}
use Rattle.mdl_state.specs.Attempt.{Plan, tried}
use Rattle.mdl_cpu.specs.Faults.{undefined_opcode, general_protection}
use Rattle.mdl_cpu.specs.Breakpoints.{data_breakpoints}
use Rattle.mdl_insn.specs.declared.instruction.Insn.{Insn}
use Rattle.mdl_step.specs.Fetching.{Code, Instruction, Refused, Fetches, IsUndefined, IsTooLong, IsCut, fetch_plan, fetched_from}
use Rattle.mdl_step.specs.Step.{attempted}
use Rattle.mdl_step.proofs.WholeLaws.{whole_follows}

module _ (pick : Pick) (policy : Policy) (meets : Meets pick policy) where
  page : (m : Mem) (lin : ℕ) (access : Access) → Follows m (by_pick pick m lin access) (λ n. by_list policy n lin access)
  page = page_follows pick policy meets

  plan_follows : {A : Type 0} (plan : Plan A) (m : Mem) → Follows m (tried (by_pick pick) 0 plan m) (λ n. tried (by_list policy) 0 plan n)
  plan_follows plan m = tried_follows pick (by_list policy) page 0 plan m

  -- an attempt at an instruction
  pub attempted_follows : (core : Core) (insn : Insn) (back given free : ℕ) (m : Mem) → Follows m (attempted (by_pick pick) core insn back given free m) (λ n. attempted (by_list policy) core insn back given free n)
  attempted_follows core insn back given free m =
      let t = whole_follows pick policy meets insn core.regs back given free (watching m (data_breakpoints core.regs) 0) in
      record { items = t.items; same = t.same; walks = t.walks }

  -- a plan of which it is known what it comes to
  record Comes {A : Type 0} (plan : Plan A) (m : Mem) (o : Outcome A) (n : Mem) : Type 0 where
    items : List Item
    same : (rest : List Item) → tried (by_list policy) 0 plan (with_items m (items ++ rest)) ≡ (o, with_items n rest)
    walks : n.walks ≡ walks_after items m.walks

  comes : {A : Type 0} (plan : Plan A) (m : Mem) (o : Outcome A) (n : Mem) → tried (by_pick pick) 0 plan m ≡ (o, n) → Comes plan m o n
  comes {A} plan m o n e = let t = plan_follows plan m in record {
    items = t.items;
    same = λ rest. t.same rest ∙ ap (λ (w : Outcome A × Mem). (w.0, with_items w.1 rest)) e;
    walks = sym (ap (λ (w : Outcome A × Mem). w.1.walks) e) ∙ t.walks;
  }

  -- A fetch: these items serve it, whatever others are behind them.
  pub record FetchedBy (r : Regs) (m : Mem) (code : Code) (n : Mem) : Type 0 where
    pub items : List Item
    pub fetched : (rest : List Item) → Fetches (by_list policy) r (with_items m (items ++ rest)) code (with_items n rest)
    pub walks : n.walks ≡ walks_after items m.walks

  undefined_follows : (r : Regs) (m : Mem) (fault : Fault) (n : Mem) → IsUndefined (by_pick pick) r m n → fault ≡ undefined_opcode → FetchedBy r m (Refused fault) n
  undefined_follows r m fault n u same =
      let t = comes (fetch_plan r (length u.front + 1)) m (Passed (u.front ++ u.last ∷ [])) n u.fetched in record {
        items = t.items;
        fetched = λ rest. inl (
          record { front = u.front; last = u.last; within = u.within; fetched = t.same rest; begun = u.begun; not_begun = u.not_begun; not_spelt = u.not_spelt },
          same,
        );
        walks = t.walks;
      }

  long_follows : (r : Regs) (m : Mem) (fault : Fault) (n : Mem) → IsTooLong (by_pick pick) r m n → fault ≡ general_protection 0 → FetchedBy r m (Refused fault) n
  long_follows r m fault n u same =
      let t = comes (fetch_plan r 15) m (Passed u.bytes) n u.fetched in record {
        items = t.items;
        fetched = λ rest. inr (inl (record { bytes = u.bytes; fetched = t.same rest; begun = u.begun }, same));
        walks = t.walks;
      }

  cut_follows : (r : Regs) (m : Mem) (fault : Fault) (n : Mem) → IsCut (by_pick pick) r m fault n → FetchedBy r m (Refused fault) n
  cut_follows r m fault n u =
      let a = comes (fetch_plan r (length u.bytes)) m (Passed u.bytes) u.before u.fetched in
      let c = comes (fetched_from r (length u.bytes) 1) u.before (Failed fault) n u.failed in record {
        items = a.items ++ c.items;
        fetched = λ rest. inr (inr (record {
          bytes = u.bytes;
          before = with_items u.before (c.items ++ rest);
          within = u.within;
          fetched = ap (λ (is : List Item). tried (by_list policy) 0 (fetch_plan r (length u.bytes)) (with_items m is)) (append_assoc a.items c.items rest) ∙ a.same (c.items ++ rest);
          begun = u.begun;
          failed = c.same rest;
        }));
        walks = c.walks ∙ ap (walks_after c.items) a.walks ∙ sym (walks_after-append a.items c.items m.walks);
      }

  pub fetch_follows : (r : Regs) (m : Mem) (code : Code) (n : Mem) → Fetches (by_pick pick) r m code n → FetchedBy r m code n
  fetch_follows r m (Instruction insn count) n f =
      let t = comes (fetch_plan r count) m (Passed f.bytes) n f.fetched in record {
        items = t.items;
        fetched = λ rest. record { bytes = f.bytes; within = f.within; fetched = t.same rest; spelt = f.spelt };
        walks = t.walks;
      }
  fetch_follows r m (Refused fault) n (inl u) = undefined_follows r m fault n u.0 u.1
  fetch_follows r m (Refused fault) n (inr (inl u)) = long_follows r m fault n u.0 u.1
  fetch_follows r m (Refused fault) n (inr (inr u)) = cut_follows r m fault n u
