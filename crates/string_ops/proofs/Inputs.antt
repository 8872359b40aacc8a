-- What comes of INS and OUTS, by what comes of their permission.
use Rattle.std.proofs.Common.{◌≡◌, ℕ, true, sym, ap, ◌∙◌}
use Rattle.mdl_state.specs.declared.Place.{Place}
use Rattle.mdl_state.specs.declared.Fault.{Fault}
use Rattle.mdl_state.specs.declared.Access.TheVariants.{Write}
use Rattle.mdl_state.specs.declared.Seg.TheVariants.{Es}
use Rattle.mdl_state.specs.declared.Next.TheVariants.{Follow}
use Rattle.mdl_state.specs.declared.Regs.{Regs}
use Rattle.mdl_state.specs.State.{Mem}
use Rattle.mdl_state.specs.Serving.{Outcome, Passed, Failed, Serve, on}
use Rattle.mdl_state.specs.Accesses.{held_at}
use Rattle.mdl_state.specs.Attempt.{Plan, Translate, Hold, Input, then_plan, checked, tried}
use Rattle.mdl_state.specs.AttemptLaws.{tried-then_plan}
use Rattle.mdl_cpu.specs.Access.{legal}
use Rattle.mdl_cpu.specs.Segments.{who_of}
use Rattle.mdl_cpu.specs.Virtual.{port_plan}
use Rattle.mdl_insn.specs.declared.instruction.Insn.{Insn}
use Rattle.mdl_effect.specs.Operands.{After, Reads, Writes}
use Rattle.mdl_effect.specs.StringEffects.{destination_index, read_source, string_port, follow_with, past_source, past_destination, input_string_plan, output_string_plan}

module _ (serve : Serve) (given : ℕ) (insn : Insn) (r : Regs) (m k : Mem) where
  -- the destination opened, and then this
  abbrev opening : (Place → Plan After) → Plan After
  opening next = checked (legal r Es (destination_index r insn.wide) insn.size true) (λ at. Translate at insn.size (Write (who_of r)) next)

  -- the port is read, and what it gives is held
  abbrev taking : Place → Plan After
  taking place = Input (string_port r) insn.size (λ value. Hold place insn.size value (follow_with (Reads (string_port r) insn.size) (past_destination r insn)))

  behind : (w : Outcome (Unit {0}) × Mem) → w ≡ tried serve given (port_plan r (string_port r) insn.size) m
      → tried serve given (input_string_plan insn r) m ≡ on w (λ _ n. tried serve given (opening taking) n)
  unfolding input_string_plan
  behind w e = tried-then_plan serve given (port_plan r (string_port r) insn.size) (λ _. opening taking) m
      ∙ ap (λ (v : Outcome (Unit {0}) × Mem). on v (λ _ n. tried serve given (opening taking) n)) (sym e)

  pub input_refused : (fault : Fault) → (Failed fault, k) ≡ tried serve given (port_plan r (string_port r) insn.size) m
      → tried serve given (input_string_plan insn r) m ≡ (Failed fault, k)
  input_refused fault e = behind (Failed fault, k) e

  module _ (n : Mem) (permitted : ◌≡◌ {A = Outcome (Unit {0}) × Mem} (Passed tt, k) (tried serve given (port_plan r (string_port r) insn.size) m)) where
    pub input_fails : (fault : Fault) → ((next : Place → Plan After) → tried serve given (opening next) k ≡ (Failed fault, n))
        → tried serve given (input_string_plan insn r) m ≡ (Failed fault, n)
    input_fails fault h = behind (Passed tt, k) permitted ∙ h taking

    pub input_passes : (place : Place) → ((next : Place → Plan After) → tried serve given (opening next) k ≡ tried serve given (next place) n)
        → tried serve given (input_string_plan insn r) m
        ≡ (Passed (record { regs = past_destination r insn; next = Follow; access = Reads (string_port r) insn.size }), held_at n place insn.size given)
    input_passes place h = behind (Passed tt, k) permitted ∙ h taking

  -- the source is read, and the port is written
  abbrev giving : Plan After
  giving = then_plan (read_source insn r) (λ value. follow_with (Writes (string_port r) insn.size value) (past_source r insn))

  before : (w : Outcome (Unit {0}) × Mem) → w ≡ tried serve given (port_plan r (string_port r) insn.size) m
      → tried serve given (output_string_plan insn r) m ≡ on w (λ _ n. tried serve given giving n)
  unfolding output_string_plan
  before w e = tried-then_plan serve given (port_plan r (string_port r) insn.size) (λ _. giving) m
      ∙ ap (λ (v : Outcome (Unit {0}) × Mem). on v (λ _ n. tried serve given giving n)) (sym e)

  pub output_refused : (fault : Fault) → (Failed fault, k) ≡ tried serve given (port_plan r (string_port r) insn.size) m
      → tried serve given (output_string_plan insn r) m ≡ (Failed fault, k)
  output_refused fault e = before (Failed fault, k) e

  pub output_permitted : ◌≡◌ {A = Outcome (Unit {0}) × Mem} (Passed tt, k) (tried serve given (port_plan r (string_port r) insn.size) m)
      → tried serve given (output_string_plan insn r) m ≡ tried serve given giving k
  output_permitted e = before (Passed tt, k) e
