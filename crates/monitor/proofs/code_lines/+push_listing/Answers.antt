use Rattle.std.proofs.Common.{ℕ, List, Some, None, refl, ap, ◌∙◌, ◌++◌, arith}
use Rattle.mdl_step.specs.Fetching.{is_wide}
use Rattle.monitor.proofs.Codes.{named_as, line_as, grows_more, grows_short}
use Rattle.monitor.proofs.code_lines.+push_listing.Goals as goal

pub returns-in-Some : goal.returns-in-Some
returns-in-Some g t c =
    let m = g.T.Target.machine c.args.target.now in
    let code = c.code_at-code.result.items in
    let name = c.name_of-named.result.name.bytes in
    let wide = c.is_wide.ensures ∙ ap is_wide c.regs.ensures in
    let named = named_as c.as_slice.result.now code c.is_wide.result (is_wide m.state.core.regs) c.args.at c.args.at name c.name_of-named.result.covered (Some c.in-Some.covered)
    c.as_slice.ensures.value wide refl c.in-Some.is c.name_of-named.ensures.named in
    let line = c.line_with-line.result.text.items in
    grows_more m c.args.count c.args.at c.in-Some.covered code name line c.args.text.now.items c.push_line.new.text.items c.push_listing.new.text.items
    (omega (arith, c.if-count-gt0.true)) c.code_at-code.ensures named
    (line_as c.args.at c.in-Some.covered c.as_slice-in-Some.result.now code c.as_bytes.result.now name line c.as_slice-in-Some.ensures.value
    (c.as_bytes.ensures.value ∙ c.as_str.ensures.value) c.line_with-line.ensures.text)
    (c.push_line.ensures.text ∙ ap (λ (x : List ℕ). c.args.text.now.items ++ x) c.as_slice-in-Some-2.ensures.value) c.push_listing.ensures

pub returns-in-None : goal.returns-in-None
returns-in-None g t c =
    let m = g.T.Target.machine c.args.target.now in
    let code = c.code_at-code.result.items in
    let name = c.name_of-named.result.name.bytes in
    let wide = c.is_wide.ensures ∙ ap is_wide c.regs.ensures in
    let named = named_as c.as_slice.result.now code c.is_wide.result (is_wide m.state.core.regs) c.args.at c.args.at name c.name_of-named.result.covered None
    c.as_slice.ensures.value wide refl c.in-None.is c.name_of-named.ensures.named in
    grows_short m c.args.count c.args.at code name c.args.text.now.items c.push_line-in-None.new.text.items
    (omega (arith, c.if-count-gt0.true)) c.code_at-code.ensures named c.push_line-in-None.ensures.text
