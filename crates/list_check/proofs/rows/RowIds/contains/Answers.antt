use Rattle.std.proofs.Common.{◌∙◌, ap}
use Rattle.search_obj.specs.Scope.{is_among}
use Rattle.list_check.proofs.RowLaws.{there_among}
use Rattle.list_check.proofs.rows.RowIds.contains.Goals as goal

pub returns : goal.returns
returns c = c.is_some.ensures ∙ there_among c.find_keyed.result c.as_slice.result.now c.self.inside.ids.items c.args.id.bits c.find_keyed.ensures c.as_slice.ensures.value ∙ ap (λ ids. is_among ids c.args.id.bits) c.self.view_is
