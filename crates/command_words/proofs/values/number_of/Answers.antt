use Rattle.std.proofs.Common.{◌∙◌, arith}
use Rattle.std.specs.Str.Parse.{ExplainsUnsignedError, HasUnsignedDigitsIfOk, ParsesUnsigned}
use Rattle.clap.specs.Words.{found_of}
use Rattle.command_words.proofs.Numbers.{number_read}
use Rattle.command_words.proofs.values.number_of.Goals as goal

pub unwrap-requires : goal.unwrap-requires
unwrap-requires c = (number_read (λ bs r. ParsesUnsigned 32 10 bs r × ExplainsUnsignedError 10 bs r × HasUnsignedDigitsIfOk bs r)
    32 0 4294967295 (c.args.id.now) (found_of c.args.matches.now) c.get_one.result c.requires c.get_one.ensures.value (λ u x g. g.0) (omega arith)).1

pub returns : goal.returns
returns c = (number_read (λ bs r. ParsesUnsigned 32 10 bs r × ExplainsUnsignedError 10 bs r × HasUnsignedDigitsIfOk bs r)
    32 0 4294967295 (c.args.id.now) (found_of c.args.matches.now) c.get_one.result c.requires c.get_one.ensures.value (λ u x g. g.0) (omega arith)).0 ∙ c.unwrap.ensures
