use Rattle.std.proofs.Common.{arith}
use Rattle.mdl_state.specs.Bytes.{bits_of}
use Rattle.mdl_num.proofs.Places.{with_bit-lt}
use Rattle.bit_ops.proofs.bits.changed.Goals as goal

pub returns-in-Bts-clause-bound : goal.returns-in-Bts-clause-bound
returns-in-Bts-clause-bound c =
    rw c.with_bit.ensures (with_bit-lt c.args.a c.args.place 1 (bits_of c.args.size) c.requires.a c.requires.place (omega arith))

pub returns-in-Btr-clause-bound : goal.returns-in-Btr-clause-bound
returns-in-Btr-clause-bound c =
    rw c.with_bit-in-Btr.ensures (with_bit-lt c.args.a c.args.place 0 (bits_of c.args.size) c.requires.a c.requires.place (omega arith))
