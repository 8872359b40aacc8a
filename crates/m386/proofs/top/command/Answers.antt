use Rattle.std.proofs.Common.{◌≡◌, ℕ, List, Result, Ok, Err, IfErr}
use Rattle.command_words.specs.Jobs.{Job, Matched, texts}
use Rattle.m386.specs.declared.refusals.Refusal.{Refusal}
use Rattle.m386.specs.declared.refusals.Refusal.TheVariants as refusals
use Rattle.m386.specs.Slots.{Left, Took}
use Rattle.m386.specs.Causes.{IsRefused}
use Rattle.m386.specs.Answers.{IsEnded}
use Rattle.m386.proofs.top.command.Goals as goal

-- what is asked for ends with a refusal
refused : (words : List (List ℕ)) (job : Job) (l0 l1 : Left) (t0 t1 : Took) (refusal : Refusal) → Matched words job → ((other : Job) → Matched words other → other ≡ job)
    → IsRefused job l0 l1 t0 t1 refusal → IsEnded words l0 l1 t0 t1 refusal
refused words job l0 l1 t0 t1 refusals.Memory is only ends = ends
refused words job l0 l1 t0 t1 refusals.Words is only ends = absurd ends
refused words job l0 l1 t0 t1 (refusals.HostFault slot) is only ends = record { job = job; asks = record { matched = is; only = only }; refused = ends }
refused words job l0 l1 t0 t1 (refusals.Length slot n) is only ends = record { job = job; asks = record { matched = is; only = only }; refused = ends }
refused words job l0 l1 t0 t1 (refusals.Script n) is only ends = record { job = job; asks = record { matched = is; only = only }; refused = ends }
refused words job l0 l1 t0 t1 (refusals.Late slot) is only ends = record { job = job; asks = record { matched = is; only = only }; refused = ends }
refused words job l0 l1 t0 t1 refusals.Commands is only ends = record { job = job; asks = record { matched = is; only = only }; refused = ends }
refused words job l0 l1 t0 t1 refusals.TooLong is only ends = record { job = job; asks = record { matched = is; only = only }; refused = ends }

ended : {T : Type 0} (r : Result T Refusal) (words : List (List ℕ)) (job : Job) (l0 l1 : Left) (t0 t1 : Took) → Matched words job → ((other : Job) → Matched words other → other ≡ job)
    → IfErr r (IsRefused job l0 l1 t0 t1) → IfErr r (IsEnded words l0 l1 t0 t1)
ended (Ok x) words job l0 l1 t0 t1 is only ends = tt
ended (Err refusal) words job l0 l1 t0 t1 is only ends = refused words job l0 l1 t0 t1 refusal is only ends

pub returns-in-Ok-Run-clause-refused : goal.returns-in-Ok-Run-clause-refused
returns-in-Ok-Run-clause-refused g c =
    ended c.run_command.result (texts c.args.words.now) _ (g.H.Host.left c.args.host.now) (g.H.Host.left c.run_command.new.host) (g.H.Host.took c.args.host.now) (g.H.Host.took c.run_command.new.host)
    (rw c.in-Ok-Run.field-0-is at c.in-Ok-Run.ensures.ok) (rw c.in-Ok-Run.field-0-is at c.in-Ok-Run.ensures.only) c.run_command.ensures.refused

pub returns-in-Ok-Dis-clause-refused : goal.returns-in-Ok-Dis-clause-refused
returns-in-Ok-Dis-clause-refused g c =
    ended c.dis_command.result (texts c.args.words.now) _ (g.H.Host.left c.args.host.now) (g.H.Host.left c.dis_command.new.host) (g.H.Host.took c.args.host.now) (g.H.Host.took c.dis_command.new.host)
    (rw c.in-Ok-Dis.field-0-is at c.in-Ok-Dis.ensures.ok) (rw c.in-Ok-Dis.field-0-is at c.in-Ok-Dis.ensures.only) c.dis_command.ensures.refused

pub returns-in-Ok-Demo-clause-refused : goal.returns-in-Ok-Demo-clause-refused
returns-in-Ok-Demo-clause-refused g c =
    ended c.demo_command.result (texts c.args.words.now) _ (g.H.Host.left c.args.host.now) (g.H.Host.left c.demo_command.new.host) (g.H.Host.took c.args.host.now) (g.H.Host.took c.demo_command.new.host)
    (rw c.in-Ok-Demo.field-0-is at c.in-Ok-Demo.ensures.ok) (rw c.in-Ok-Demo.field-0-is at c.in-Ok-Demo.ensures.only) c.demo_command.ensures.refused

pub returns-in-Ok-Monitor-clause-refused : goal.returns-in-Ok-Monitor-clause-refused
returns-in-Ok-Monitor-clause-refused g c =
    ended c.monitor_command.result (texts c.args.words.now) _ (g.H.Host.left c.args.host.now) (g.H.Host.left c.monitor_command.new.host) (g.H.Host.took c.args.host.now) (g.H.Host.took c.monitor_command.new.host)
    (rw c.in-Ok-Monitor.field-0-is at c.in-Ok-Monitor.ensures.ok) (rw c.in-Ok-Monitor.field-0-is at c.in-Ok-Monitor.ensures.only) c.monitor_command.ensures.refused
