use Rattle.std.proofs.Common.{ℕ, ◌++◌, codes, ap, sym, arith}
use Rattle.mdl_insn.specs.Text.{hex}
use Rattle.monitor.specs.Bytes.{byte_word}
use Rattle.monitor.proofs.Rows.{word_more}
use Rattle.monitor.proofs.byte_lines.bytes_line.Goals as goal

pub loop-place-preserved : goal.loop-place-preserved
loop-place-preserved g c =
    let held = c.loop-place.invariant in
    record {
      text = word_more (hex 8 c.args.at) c.loop-place.text.items c.push_text.new.text.items c.push_byte.new.text.items (hex 2 c.phys_byte.result)
          (byte_word (g.T.Target.machine c.args.target.now).state.mem.physical c.args.at) c.loop-place.place held.text c.push_text.ensures.text c.push_byte.ensures.text
          (ap (λ (b : ℕ). codes " " ++ hex 2 b) (sym c.phys_byte.ensures));
      length = omega (arith, held.length, c.push_text.ensures.length, c.push_byte.ensures.length);
    }
