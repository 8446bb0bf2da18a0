-- Before the loop, all bytes are left. Assumes nothing.
use Rattle.std.proofs.Common.{arith}
use Rattle.parts.proofs.Laws.{sets-front}
use Rattle.string_dv_dict_unpack.proofs.write_unescaped.Goals as goal

pub loop-c-init : goal.loop-c-init
loop-c-init c = record { makes = sets-front _ c.args.dst.now (omega arith); room = omega arith }
