use Rattle.std.proofs.Common.{◌≡◌, rules}
use Rattle.mapi_values.specs.Tables.{mirror}
use Rattle.mapi_values.proofs.TableLaws.{suits-as}
use Rattle.mapi_values.proofs.mirrors.mirror.Goals as goal

pub returns-then-not-has_column-clause-suit : goal.returns-then-not-has_column-clause-suit
unfolding mirror
returns-then-not-has_column-clause-suit c =
    let all : c.in_ok-cells.cells ≡ mirror c.args.columns.now c.args.props.now = search rules in
    suits-as _ _ _ all c.in_ok-cells.ensures.props

pub returns-clause-suit : goal.returns-clause-suit
unfolding mirror
returns-clause-suit c =
    let all : c.put.new.self ≡ mirror c.args.columns.now c.args.props.now = search rules in
    suits-as _ _ _ all c.in_ok-cells.ensures.props
