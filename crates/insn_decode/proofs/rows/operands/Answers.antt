-- Each goal by its fact: what the kind of the row says of its operands.
use Rattle.std.proofs.Common.{◌≡◌}
use Rattle.mdl_insn.specs.declared.rows.Kind.TheVariants.{Bare, First, Second, Address}
use Rattle.insn_decode.proofs.RowKinds.{fits_c, first_a, first_b, second_a, second_b, address_a, address_b, bare_a, bare_b}
use Rattle.insn_decode.proofs.rows.operands.Goals as goal

pub first-requires-clause-room : goal.first-requires-clause-room
first-requires-clause-room g c = c.requires.room

pub first-requires-clause-a : goal.first-requires-clause-a
first-requires-clause-a g c =
    let h = c.in-First.is in
    let same : c.args.k.now.row.now.kind ≡ First = cc in
    first_a c.args.k.now.row.now same c.requires.fits

pub first-requires-clause-b : goal.first-requires-clause-b
first-requires-clause-b g c =
    let h = c.in-First.is in
    let same : c.args.k.now.row.now.kind ≡ First = cc in
    first_b c.args.k.now.row.now same c.requires.fits

pub first-requires-clause-c : goal.first-requires-clause-c
first-requires-clause-c g c = fits_c c.args.k.now.row.now c.requires.fits

pub returns-in-First-clause-runs : goal.returns-in-First-clause-runs
returns-in-First-clause-runs g c = c.first.ensures.runs

pub returns-in-First-clause-count : goal.returns-in-First-clause-count
returns-in-First-clause-count g c = c.first.ensures.count

pub second-requires-clause-room : goal.second-requires-clause-room
second-requires-clause-room g c = c.requires.room

pub second-requires-clause-a : goal.second-requires-clause-a
second-requires-clause-a g c =
    let h = c.in-Second.is in
    let same : c.args.k.now.row.now.kind ≡ Second = cc in
    second_a c.args.k.now.row.now same c.requires.fits

pub second-requires-clause-b : goal.second-requires-clause-b
second-requires-clause-b g c =
    let h = c.in-Second.is in
    let same : c.args.k.now.row.now.kind ≡ Second = cc in
    second_b c.args.k.now.row.now same c.requires.fits

pub second-requires-clause-c : goal.second-requires-clause-c
second-requires-clause-c g c = fits_c c.args.k.now.row.now c.requires.fits

pub returns-in-Second-clause-runs : goal.returns-in-Second-clause-runs
returns-in-Second-clause-runs g c = c.second.ensures.runs

pub returns-in-Second-clause-count : goal.returns-in-Second-clause-count
returns-in-Second-clause-count g c = c.second.ensures.count

pub second-requires-in-Address-clause-room : goal.second-requires-in-Address-clause-room
second-requires-in-Address-clause-room g c = c.requires.room

pub second-requires-in-Address-clause-a : goal.second-requires-in-Address-clause-a
second-requires-in-Address-clause-a g c =
    let h = c.in-Address.is in
    let same : c.args.k.now.row.now.kind ≡ Address = cc in
    address_a c.args.k.now.row.now same c.requires.fits

pub second-requires-in-Address-clause-b : goal.second-requires-in-Address-clause-b
second-requires-in-Address-clause-b g c =
    let h = c.in-Address.is in
    let same : c.args.k.now.row.now.kind ≡ Address = cc in
    address_b c.args.k.now.row.now same c.requires.fits

pub second-requires-in-Address-clause-c : goal.second-requires-in-Address-clause-c
second-requires-in-Address-clause-c g c = fits_c c.args.k.now.row.now c.requires.fits

pub returns-in-Address-clause-runs : goal.returns-in-Address-clause-runs
returns-in-Address-clause-runs g c = c.second-in-Address.ensures.runs

pub returns-in-Address-clause-count : goal.returns-in-Address-clause-count
returns-in-Address-clause-count g c = c.second-in-Address.ensures.count

pub bare-requires-clause-room : goal.bare-requires-clause-room
bare-requires-clause-room g c = c.requires.room

pub bare-requires-clause-a : goal.bare-requires-clause-a
bare-requires-clause-a g c =
    let h = c.in-Bare.is in
    let same : c.args.k.now.row.now.kind ≡ Bare = cc in
    bare_a c.args.k.now.row.now same c.requires.fits

pub bare-requires-clause-b : goal.bare-requires-clause-b
bare-requires-clause-b g c =
    let h = c.in-Bare.is in
    let same : c.args.k.now.row.now.kind ≡ Bare = cc in
    bare_b c.args.k.now.row.now same c.requires.fits

pub bare-requires-clause-c : goal.bare-requires-clause-c
bare-requires-clause-c g c = fits_c c.args.k.now.row.now c.requires.fits

pub returns-in-Bare-clause-runs : goal.returns-in-Bare-clause-runs
returns-in-Bare-clause-runs g c = c.bare.ensures.runs

pub returns-in-Bare-clause-count : goal.returns-in-Bare-clause-count
returns-in-Bare-clause-count g c = c.bare.ensures.count

pub odd-requires-clause-room : goal.odd-requires-clause-room
odd-requires-clause-room g c = c.requires.room

pub odd-requires-clause-c : goal.odd-requires-clause-c
odd-requires-clause-c g c = fits_c c.args.k.now.row.now c.requires.fits

pub returns-in-Odd-clause-runs : goal.returns-in-Odd-clause-runs
returns-in-Odd-clause-runs g c = c.odd.ensures.runs

pub returns-in-Odd-clause-count : goal.returns-in-Odd-clause-count
returns-in-Odd-clause-count g c = c.odd.ensures.count
