-- What is seen of a flusher.
use Rattle.lift_parts.specs.Flusher.{FlusherState}
use Rattle.lift_relay.specs.declared.flusher.Flusher.TheInside.{Inside}

abbrev pub seen : {D K : Type 0} → Inside D K → FlusherState D
seen f = record {
  desk = f.settler.desk;
  seat = f.settler.seat;
  writer = f.settler.writer;
  end = f.end;
}
