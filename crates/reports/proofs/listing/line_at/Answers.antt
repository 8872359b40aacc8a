use Rattle.std.proofs.Common.{ℕ, ◌+◌, ◌∙◌, ap}
use Rattle.mdl_insn.specs.Text.{print_text}
use Rattle.reports.proofs.Listings.{whole_line, undefined_line, long_line, short_line}
use Rattle.reports.proofs.listing.line_at.Goals as goal

pub returns-in-Ok : goal.returns-in-Ok
returns-in-Ok c = whole_line c.args.bytes.now c.args.big c.args.at c.in-Ok.insn c.in-Ok.length _ c.as_bytes.result.now c.line_with.result.text.items c.line_with.result.covered c.in-Ok.ensures.ok c.from-in-Ok.ensures c.line_with.ensures.text
    (c.as_bytes.ensures.value ∙ c.as_str.ensures.value ∙ c.print-name.ensures.text ∙ ap (λ (k : ℕ). print_text c.in-Ok.insn (c.args.at + k)) c.from.ensures) c.line_with.ensures.covered

pub returns-in-Err-Undefined : goal.returns-in-Err-Undefined
returns-in-Err-Undefined c = undefined_line c.args.bytes.now c.args.big c.args.at _ _ (rw c.in-Err-Undefined.field-0-is at c.in-Err-Undefined.ensures.err) c.line_with-in-Err-Undefined.ensures.text c.line_with-in-Err-Undefined.ensures.covered

pub returns-in-Err-TooLong : goal.returns-in-Err-TooLong
returns-in-Err-TooLong c = long_line c.args.bytes.now c.args.big c.args.at _ _ (rw c.in-Err-TooLong.field-0-is at c.in-Err-TooLong.ensures.err) c.line_with-in-Err-TooLong.ensures.text c.line_with-in-Err-TooLong.ensures.covered

pub returns-in-Err-Short : goal.returns-in-Err-Short
returns-in-Err-Short c = short_line c.args.bytes.now c.args.big c.args.at _ _ (rw c.in-Err-Short.field-0-is at c.in-Err-Short.ensures.err) c.line_with-in-Err-Short.ensures.text c.line_with-in-Err-Short.ensures.covered
