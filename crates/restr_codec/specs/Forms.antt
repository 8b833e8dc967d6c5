-- Which restriction a form is.
use Rattle.std.specs.Prelude.{List, [], ◌∷◌, None, Some}
use Rattle.restr_codec.specs.Restr
use Rattle.restr_codec.specs.declared.restriction.Form.{Form}
use Rattle.restr_codec.specs.declared.restriction.Form.TheVariants as forms

-- a list of restrictions
abbrev pub restrs : List Restr.Restr → Restr.Restrs
restrs [] = Restr.none
restrs (r ∷ rs) = Restr.more r (restrs rs)

-- the restriction of a form
abbrev pub restr : Form → Restr.Restr
restr (forms.And rs) = Restr.and_of (restrs rs.items)
restr (forms.Or rs) = Restr.or_of (restrs rs.items)
restr (forms.Not r) = Restr.not_of r.value
restr (forms.Content level flags v) = Restr.content level flags v
restr (forms.Property relation v) = Restr.property relation v
restr (forms.CompareProps relation a b) = Restr.compare relation a b
restr (forms.BitMask test t mask) = Restr.bit_mask test t mask
restr (forms.Size relation t n) = Restr.size_of relation t n
restr (forms.Exist t) = Restr.exist t
restr (forms.SubObject table r) = Restr.sub_object table r.value
restr (forms.Comment vs None) = Restr.remark vs.items
restr (forms.Comment vs (Some r)) = Restr.comment vs.items r.value
