-- What stands within a restriction is less than the whole.
use Rattle.std.specs.Prelude.{◌≤◌, ◌+◌, max, List, [], ◌∷◌, None, Some}
use Rattle.std.proofs.Common.{arith}
use denote.Param.Weighed.{most}
use Rattle.restr_codec.specs.Restr
use Rattle.restr_codec.specs.Forms.{restr, restrs}
use Rattle.restr_codec.specs.declared.restriction.Form.{Form}
use Rattle.restr_codec.specs.declared.restriction.Form.TheVariants as forms
use Rattle.restr_codec.specs.declared.restriction.Restriction.TheDeep.{deep-Form}

pub most-restrs : (rs : List Restr.Restr) → most (λ r. Restr.count r + 1) rs ≤ Restr.count_all (restrs rs) + 1
most-restrs [] = omega arith
most-restrs (r ∷ rs) = omega (arith, most-restrs rs)

pub falls : (f : Form) → max (deep-Form f) 0 ≤ Restr.count (restr f)
falls (forms.And rs) = omega (arith, most-restrs rs.items)
falls (forms.Or rs) = omega (arith, most-restrs rs.items)
falls (forms.Not r) = omega arith
falls (forms.Content level flags v) = omega arith
falls (forms.Property relation v) = omega arith
falls (forms.CompareProps relation a b) = omega arith
falls (forms.BitMask test t mask) = omega arith
falls (forms.Size relation t n) = omega arith
falls (forms.Exist t) = omega arith
falls (forms.SubObject table r) = omega arith
falls (forms.Comment vs None) = omega arith
falls (forms.Comment vs (Some r)) = omega arith
