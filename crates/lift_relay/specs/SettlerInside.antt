-- What is seen of a settler.
use Rattle.lift_relay.specs.Settler.{SettlerState}
use Rattle.lift_relay.specs.declared.settling.Settler.TheInside.{Inside}

abbrev pub seen : {D K : Type 0} → Inside D K → SettlerState D
seen s = record { desk = s.desk.now; seat = s.seat; writer = s.writer }
