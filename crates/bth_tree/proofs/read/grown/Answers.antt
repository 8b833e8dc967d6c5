use Rattle.std.proofs.Common.{◌<◌, drop, map, length, length-drop, arith}
use Rattle.std.proofs.lemmas.List.{length-map}
use Rattle.bth_tree.specs.Answers.{seen}
use Rattle.bth_tree.proofs.ReadLaws.{filled-some}
use Rattle.bth_tree.proofs.read.grown.Goals as goal

pub returns : goal.returns
returns c =
    let more : c.args.start < length c.args.out.now = grind arith in
    filled-some (drop c.args.start (map seen c.args.out.now)) (omega (arith, length-drop c.args.start (map seen c.args.out.now), length-map c.args.out.now seen))
