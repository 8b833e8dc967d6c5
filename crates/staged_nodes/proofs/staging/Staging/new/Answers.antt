use Rattle.std.proofs.Common.{◌∙◌, ap, sym, arith}
use Rattle.std.specs.Map.{lookup}
use Rattle.std.specs.Ordering.{nat_cmp}
use Rattle.std.specs.FinMap.{get-empty}
use Rattle.std.specs.BTreeMap.{is_at}
use Rattle.staged_nodes.specs.Staging.{said_by}
use Rattle.staged_nodes.proofs.StagedLaws.{size_none}
use Rattle.staged_nodes.proofs.staging.Staging.new.Goals as goal

pub returns-clause-staged : goal.returns-clause-staged
returns-clause-staged c = record {
  changes = λ q. get-empty nat_cmp q ∙ ap (λ es. said_by (lookup (is_at (nat_cmp q)) es)) (sym c.new.ensures.empty);
  size = sym size_none;
  few = omega arith;
}
