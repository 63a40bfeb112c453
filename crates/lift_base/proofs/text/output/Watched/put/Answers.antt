use Rattle.lift_base.specs.lemmas.Counted.{put_takes, put_stops}
use Rattle.lift_base.proofs.text.output.Watched.put.Goals as goal

pub returns-clause-ok : goal.returns-clause-ok
returns-clause-ok g c = (put_takes g.W.Outlet.gives g.W.Write.contents c.args.bytes.now _ _ c.put_all.result c.put_all.ensures.each).0

pub returns-clause-front : goal.returns-clause-front
returns-clause-front g c = (put_stops g.W.Outlet.gives g.W.Write.contents c.args.bytes.now _ _ c.put_all.result c.put_all.ensures.within c.put_all.ensures.each_so_far).0

pub returns-clause-each : goal.returns-clause-each
returns-clause-each g c = (put_takes g.W.Outlet.gives g.W.Write.contents c.args.bytes.now _ _ c.put_all.result c.put_all.ensures.each).1

pub returns-clause-each_so_far : goal.returns-clause-each_so_far
returns-clause-each_so_far g c = (put_stops g.W.Outlet.gives g.W.Write.contents c.args.bytes.now _ _ c.put_all.result c.put_all.ensures.within c.put_all.ensures.each_so_far).1
