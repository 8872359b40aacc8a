use Rattle.mdl_text.specs.DemoLaws.{demo_length}
use Rattle.mdl_text.proofs.demo_laws.a_demo_guest_is_a_rom.Goals as goal

pub returns : goal.returns
returns c = λ number. demo_length number
