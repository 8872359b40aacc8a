-- A selected row, in the words of the trees.
use Rattle.std.specs.Prelude.{ℕ, Result, Ok, Err}
use Rattle.std.specs.Borrow.{Bor}
use Rattle.mdl_insn.specs.declared.rows.Row.{Row}
use Rattle.mdl_insn.specs.declared.instruction.Operand.{Operand}
use Rattle.mdl_insn.specs.declared.rows.Form.{Form}
use Rattle.mdl_insn.specs.Tree.{Tree}
use Rattle.mdl_insn.specs.RowTree.{Chosen, chosen_of}
use Rattle.insn_decode.specs.declared.operands.Selected.{Selected}
use Rattle.insn_decode.specs.declared.refusals.Undecoded.{Undecoded}
use Rattle.insn_decode.specs.Reading.{any_tree, Picked, pick_of}

-- the row, and the bytes that chose it
abbrev pub chosen_by : Selected → Chosen
chosen_by k = chosen_of k.row.now k.opcode k.modrm

-- an operand of the row
abbrev pub operand_tree : Selected → Form → Tree Operand
operand_tree k form = any_tree k.setting.now (chosen_by k) form

-- a row that was picked with its ModRM byte, or why none was
abbrev pub picked : Result (Bor Row) Undecoded → ℕ → Result Picked Undecoded
picked (Ok r) m = Ok (pick_of r.now m)
picked (Err x) m = Err x
