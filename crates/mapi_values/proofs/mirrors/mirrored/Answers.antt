use Rattle.std.proofs.Common.{◌∙◌, ap, arith}
use Rattle.std.specs.List.{filter}
use Rattle.mapi_values.specs.Tables.{is_mirrored}
use Rattle.mapi_values.proofs.PropertyLaws.{same-props}
use Rattle.mapi_values.proofs.TableLaws.{filter-props, filtered}
use Rattle.mapi_values.proofs.mirrors.mirrored.Goals as goal

pub from_vec-requires : goal.from_vec-requires
from_vec-requires c =
    same-props _ _ (filtered (is_mirrored c.args.columns.now) _ _ _ c.loop-value.invariant (omega arith) ∙ ap (filter (is_mirrored c.args.columns.now)) c.values-value-items.ensures.value)
    (filter-props (is_mirrored c.args.columns.now) c.args.props.now c.values-value-items.ensures.props)
