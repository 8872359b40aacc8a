use Rattle.mdl_cpu.proofs.AddressLaws.{spelt_addresses}
use Rattle.mdl_cpu.proofs.laws.operands_address_by_registers.Goals as goal

-- src/laws.rt:10:1
pub returns : goal.returns
returns c = spelt_addresses
