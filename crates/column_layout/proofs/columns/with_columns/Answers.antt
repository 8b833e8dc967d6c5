use Rattle.std.proofs.Common.{◌≡◌, ◌+◌, ◌∙◌, ℕ, true, List, drop, get_or, arith, sym, ap, subst}
use Rattle.mapi_values.specs.declared.column.Column.{Column}
use Rattle.mapi_values.specs.declared.value.Tag.{Tag}
use Rattle.mapi_values.specs.Columns.{has_column, tag_number}
use Rattle.mapi_values.specs.Keyed.{keys_ascend}
use Rattle.column_layout.specs.Layout.{with_column, with_columns}
use Rattle.column_layout.proofs.LayoutLaws.{with-ascends, with-more, with-step}
use Rattle.column_layout.proofs.columns.with_columns.Goals as goal

pub loop-tag-preserved : goal.loop-tag-preserved
loop-tag-preserved c =
    let tags = c.args.tags.now in let i = c.loop-tag.tag-index in let all = c.loop-tag.all.items in
    let blank : Tag = record { id = 0; kind = 0 } in
    let tag = get_or tags i blank in
    let step = with-step tags all i blank (omega arith) in
    record {
      rest = ap (λ (cs : List Column). with_columns (drop (i + 1) tags) cs) c.in_ok-add_column.ensures ∙ sym step ∙ c.loop-tag.invariant.rest;
      ascend = subst (λ (cs : List Column). keys_ascend tag_number 0 cs ≡ true) (sym c.in_ok-add_column.ensures) (with-ascends all tag c.loop-tag.invariant.ascend);
      more = λ id kind has. subst (λ (cs : List Column). has_column cs id kind ≡ true) (sym c.in_ok-add_column.ensures) (with-more all tag id kind (c.loop-tag.invariant.more id kind has));
    }
