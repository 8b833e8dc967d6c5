use Rattle.std.proofs.Common.{ℕ, List, Option, drop}
use Rattle.pst_base.specs.Flat.{Flat}
use Rattle.node_needs.specs.Named.{EachNamed}
use Rattle.node_needs.proofs.StepLaws.{SubsLeft}
use Rattle.node_needs.proofs.need.longest_of.Given as goal

abbrev pub invariant-loop-ids : goal.invariant-loop-ids
invariant-loop-ids g l =
    (find : ℕ → Option (List ℕ)) (fs : List Flat) → (g.S.BlockSource.view l.s).holds find → EachNamed find (g.S.BlockSource.view l.s).eof l.all fs → SubsLeft find (g.S.BlockSource.view l.s).eof (drop l.ids-index l.all) fs l.most
