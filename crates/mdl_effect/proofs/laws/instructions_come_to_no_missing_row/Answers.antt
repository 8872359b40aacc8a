use Rattle.mdl_effect.proofs.Attempts.{data_spelt, flow_spelt, string_spelt, far_spelt, system_spelt}
use Rattle.mdl_effect.proofs.laws.instructions_come_to_no_missing_row.Goals as goal

pub returns : goal.returns
returns c = record { of_data = data_spelt; of_flow = flow_spelt; of_string = string_spelt; of_far = far_spelt; of_system = system_spelt }
