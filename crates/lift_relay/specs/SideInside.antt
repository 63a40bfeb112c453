use Rattle.std.specs.Arc.{arc_value}
use Rattle.lift_relay.specs.declared.side.Side.TheInside.{Inside}
use Rattle.lift_relay.specs.Side.{SideState}

abbrev pub seen : {Q S : Type 0} → Inside Q S → SideState Q S
seen s = record {
  line = arc_value s.line;
  pass = s.pass;
  tries = record { odd = s.odd; refused = s.refused };
}
