use Rattle.host_io.specs.declared.host.InSlot.TheVariants.{Commands}
use Rattle.monitor.proofs.LineAnswers.{kept_input}
use Rattle.monitor.proofs.reader.Reader.next.Goals as goal

pub returns-in_default-clause-failed : goal.returns-in_default-clause-failed
returns-in_default-clause-failed g c =
    kept_input c.args.self.now.piece c.args.self.now.from c.args.self.now.to (g.H.Host.left c.args.host.now Commands) (g.H.Host.left c.read.new.self Commands) c.if-self.true c.in_default.ensures.bytes
