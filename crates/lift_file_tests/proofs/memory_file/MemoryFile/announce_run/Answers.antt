use Rattle.lift_file_tests.specs.Held.{held}
use Rattle.std.proofs.Common.{refl, arith}
use Rattle.lift_file_tests.proofs.Announced.{opens_none, opens_more}
use Rattle.lift_file_tests.proofs.memory_file.MemoryFile.announce_run.Goals as goal

pub loop-i-init : goal.loop-i-init
loop-i-init c = opens_none c.args.from (held c.args.self.now)

pub announce-requires : goal.announce-requires
announce-requires c = omega (arith, c.requires, c.loop-i-test.true, c.loop-i.invariant.same.size)

pub loop-i-preserved : goal.loop-i-preserved
loop-i-preserved c = opens_more c.args.from c.loop-i.i _ (held c.args.self.now) (held c.loop-i.self) (held (record { disk = c.announce.new.self; alloc = c.loop-i.self.alloc })) refl c.loop-i.invariant c.announce.ensures.announced tt
