use Rattle.std.proofs.Common.{arith}
use Rattle.lift_record.proofs.Parts.{read_is_exact, bytes_of_parts}
use Rattle.lift_record.proofs.records.decode.Goals as goal

pub returns : goal.returns
returns c =
    read_is_exact c.args.version c.args.bytes.now _ c.read.result
    (bytes_of_parts c.args.bytes.now c.from_be_bytes-number.result c.told-bytes c.fits-bytes
    c.from_be_bytes-number.ensures (omega arith) (omega arith) (omega arith) (omega arith)
    (omega arith)) c.read.ensures.some c.read.ensures.none
