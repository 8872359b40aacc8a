use Rattle.std.proofs.Common.{◌+◌, subst, sym, ◌∙◌, take, drop}
use Rattle.mdl_text.specs.CommandLine.{IsAddress, IsCount}
use Rattle.monitor.proofs.Numbers.{all_behind, address_ends, before_space, behind_space, around_space}
use Rattle.monitor.proofs.operands.stretch_of.Goals as goal

pub returns-in_err-space-clause-none : goal.returns-in_err-space-clause-none
returns-in_err-space-clause-none c = rw c.from_residual.ensures
    (λ at n is. let e = c.in_err-space.ensures ∙ address_ends c.args.most at n c.args.text.now is in cc)

pub returns-in_err-at-clause-none : goal.returns-in_err-at-clause-none
returns-in_err-at-clause-none c = rw c.from_residual-in_err-at.ensures
    (λ at n is. c.in_err-at.ensures.none at (subst (IsAddress at) (sym (before_space c.args.most at n c.in_ok-space.space c.args.text.now c.in_ok-space.ensures is)) is.is_address))

pub returns-in_err-count-clause-none : goal.returns-in_err-count-clause-none
returns-in_err-count-clause-none c = rw c.from_residual-in_err-count.ensures
    (λ at n is. c.in_err-count.ensures.none n (subst (IsCount 1 c.args.most n) (sym (all_behind (c.in_ok-space.space + 1) c.args.text.now ∙ behind_space c.args.most at n c.in_ok-space.space c.args.text.now c.in_ok-space.ensures is)) is.is_count))

pub returns-clause-some : goal.returns-clause-some
returns-clause-some c = record {
  first = take c.in_ok-space.space c.args.text.now;
  is_address = c.in_ok-at.ensures.some;
  count = drop (c.in_ok-space.space + 1) c.args.text.now;
  is_count = rw (all_behind (c.in_ok-space.space + 1) c.args.text.now) at c.in_ok-count.ensures.some;
  written = around_space c.in_ok-space.space c.args.text.now c.in_ok-space.ensures;
}
