use Rattle.std.proofs.Common.{rules, refl, sym, subst, ◌∙◌}
use Rattle.host_io.specs.declared.host.InSlot.TheVariants.{Rom, Disk, Script}
use Rattle.host_io.specs.declared.host.Slot.TheVariants.{In}
use Rattle.host_io.specs.Promises.{Promise}
use Rattle.command_words.specs.Jobs.{machine_of}
use Rattle.m386.proofs.Feeding.{accepted, input_refused, are_read, events_refused}
use Rattle.m386.specs.Assured.{OpensAt}
use Rattle.m386.specs.Slots.{input_path}
use Rattle.m386.proofs.Within.{any_within, disk_within, first_within, input_within, rom_within, script_within}
use Rattle.m386.proofs.inputs.read_inputs.Goals as goal

pub returns-in_err-rom-clause-cause : goal.returns-in_err-rom-clause-cause
returns-in_err-rom-clause-cause g c =
    let left = g.H.Host.left c.args.host.now in
    search (rules, input_refused (machine_of c.args.machine.now) left left Rom c.in_err-rom.field-0.0 tt refl (λ is. cc) c.in_err-rom.ensures.cause)

pub returns-in_err-disk-clause-cause : goal.returns-in_err-disk-clause-cause
returns-in_err-disk-clause-cause g c =
    let left = g.H.Host.left c.args.host.now in
    let rom = c.in_ok-rom.ensures in
    search (
      rules,
      input_refused (machine_of c.args.machine.now) left (g.H.Host.left c.read_input.new.host) Disk c.in_err-disk.field-0.0
          (c.in_ok-rom.rom.items, record { whole = rom.whole; fits = rom.fits }) (rom.left Disk (λ is. cc)) c.in_err-disk.ensures.named c.in_err-disk.ensures.cause,
    )

pub returns-in_err-script-clause-cause : goal.returns-in_err-script-clause-cause
returns-in_err-script-clause-cause g c =
    let left = g.H.Host.left c.args.host.now in
    let rom = c.in_ok-rom.ensures in
    let disk = c.in_ok-disk.ensures in
    search (
      rules,
      input_refused (machine_of c.args.machine.now) left (g.H.Host.left c.read_named.new.host) Script c.in_err-script.field-0.0 (
        (c.in_ok-rom.rom.items, record { whole = rom.whole; fits = rom.fits }),
        (c.in_ok-disk.disk.items, accepted (machine_of c.args.machine.now) left (g.H.Host.left c.read_input.new.host) Disk c.in_ok-disk.disk.items (rom.left Disk (λ is. cc)) disk.whole disk.fits),
      )
          (disk.left Script (λ is. cc) ∙ rom.left Script (λ is. cc)) c.in_err-script.ensures.named c.in_err-script.ensures.cause,
    )

pub returns-in_err-events-clause-cause : goal.returns-in_err-events-clause-cause
returns-in_err-events-clause-cause g c =
    let rom = c.in_ok-rom.ensures in
    let disk = c.in_ok-disk.ensures in
    let script = c.in_ok-script.ensures in
    let read = are_read (machine_of c.args.machine.now) (g.H.Host.left c.args.host.now) (g.H.Host.left c.read_input.new.host) (g.H.Host.left c.read_named.new.host)
    c.in_ok-rom.rom.items c.in_ok-disk.disk.items c.in_ok-script.script.items rom.whole rom.fits rom.left disk.whole disk.fits disk.left script.whole script.fits in
    search (
      rules,
      events_refused (machine_of c.args.machine.now) (g.H.Host.left c.args.host.now) c.in_ok-rom.rom.items c.in_ok-disk.disk.items c.in_ok-script.script.items c.in_err-events.field-0.0
          read (rw c.as_slice.ensures.value at c.in_err-events.ensures.err),
    )

pub returns-in_err-rom-clause-memory : goal.returns-in_err-rom-clause-memory
returns-in_err-rom-clause-memory g c =
    let left = g.H.Host.left in
    search (rules, first_within Rom (left c.args.host.now) (left c.read_input.new.host) c.in_err-rom.field-0.0 c.read_input.ensures.left c.in_err-rom.ensures.memory)

pub returns-in_err-disk-clause-memory : goal.returns-in_err-disk-clause-memory
returns-in_err-disk-clause-memory g c =
    let left = g.H.Host.left in
    let rom = c.in_ok-rom.ensures in
    search (
      rules,
      input_within Disk (left c.args.host.now) (left c.read_input.new.host) (left c.read_named.new.host) c.in_err-disk.field-0.0
          (rom_within (left c.args.host.now) (left c.read_input.new.host) rom.left rom.within) (rom.left Disk (λ is. cc)) c.read_named.ensures.left c.in_err-disk.ensures.memory,
    )

pub returns-in_err-script-clause-memory : goal.returns-in_err-script-clause-memory
returns-in_err-script-clause-memory g c =
    let left = g.H.Host.left in
    let rom = c.in_ok-rom.ensures in
    let disk = c.in_ok-disk.ensures in
    search (
      rules,
      input_within Script (left c.args.host.now) (left c.read_named.new.host) (left c.read_named-2.new.host) c.in_err-script.field-0.0
          (disk_within (left c.args.host.now) (left c.read_input.new.host) (left c.read_named.new.host) rom.left rom.within disk.left disk.within)
          (disk.left Script (λ is. cc) ∙ rom.left Script (λ is. cc)) c.read_named-2.ensures.left c.in_err-script.ensures.memory,
    )

pub returns-in_err-events-clause-memory : goal.returns-in_err-events-clause-memory
returns-in_err-events-clause-memory g c =
    let left = g.H.Host.left in
    let rom = c.in_ok-rom.ensures in
    let disk = c.in_ok-disk.ensures in
    let script = c.in_ok-script.ensures in
    search (
      rules,
      any_within (left c.args.host.now) (left c.read_named-2.new.host) c.in_err-events.field-0.0
          (script_within (left c.args.host.now) (left c.read_input.new.host) (left c.read_named.new.host) (left c.read_named-2.new.host) rom.left rom.within disk.left disk.within script.left script.within),
    )

pub returns-clause-within : goal.returns-clause-within
returns-clause-within g c =
    let left = g.H.Host.left in
    let rom = c.in_ok-rom.ensures in
    let disk = c.in_ok-disk.ensures in
    let script = c.in_ok-script.ensures in
    script_within (left c.args.host.now) (left c.read_input.new.host) (left c.read_named.new.host) (left c.read_named-2.new.host) rom.left rom.within disk.left disk.within script.left script.within

pub returns-in_err-rom-clause-sure : goal.returns-in_err-rom-clause-sure
returns-in_err-rom-clause-sure g c = λ opens. search (rules, c.in_err-rom.ensures.sure (opens Rom))

pub returns-in_err-disk-clause-sure : goal.returns-in_err-disk-clause-sure
returns-in_err-disk-clause-sure g c = λ opens.
    let here = subst (λ (p : Promise). OpensAt p (In Disk) (input_path (machine_of c.args.machine.now) Disk)) (sym c.read_input.ensures.promise) (opens Disk) in
    search (rules, c.in_err-disk.ensures.sure here)

pub returns-in_err-script-clause-sure : goal.returns-in_err-script-clause-sure
returns-in_err-script-clause-sure g c = λ opens.
    let here = subst (λ (p : Promise). OpensAt p (In Script) (input_path (machine_of c.args.machine.now) Script)) (sym (c.read_named.ensures.promise ∙ c.read_input.ensures.promise)) (opens Script) in
    search (rules, c.in_err-script.ensures.sure here)
