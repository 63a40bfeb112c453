use Rattle.std.proofs.Common.{[], ◌∙◌, sym, arith}
use Rattle.std.proofs.lemmas.List.{get_or-map, length-map}
use Rattle.lift_disk.specs.Places.{now_in}
use Rattle.lift_disk.proofs.in_memory.now_at.Goals as goal

pub returns : goal.returns
returns c =
    let xs = c.args.sectors.now in
    c.now.ensures ∙ sym (get_or-map now_in xs c.args.index _ [] (omega (arith, c.requires, length-map xs now_in)))
