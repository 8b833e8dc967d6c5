-- When a restriction holds of a message. A leaf is false where the property isn't there, for each relation.
use Rattle.std.specs.Prelude.{ℕ, ◌==◌, ◌&&◌, Bool, true, false, not, List, [], length, map, Option, None, Some, if◌then◌else◌, bit_and, ◌||◌}
use Rattle.std.specs.Option.{option_and_then}
use Rattle.std.specs.List.{list_any}
use Rattle.std.specs.Ordering.{nat_cmp}
use Rattle.pst_base.specs.Fields.{number_at}
use Rattle.mapi_values.specs.Kinds.{ptyp_integer_32}
use Rattle.mapi_values.specs.Messages.{Mes}
use Rattle.mapi_values.specs.Properties.{find}
use Rattle.mapi_values.specs.Tables.{Tab}
use Rattle.mapi_values.specs.Values.{Val}
use Rattle.mapi_values.specs.declared.part.Part.{Part}
use Rattle.restr_codec.specs.declared.restriction.BitTest.{BitTest}
use Rattle.restr_codec.specs.declared.restriction.BitTest.TheVariants.{Zero, NotZero}
use Rattle.restr_codec.specs.declared.restriction.SubTable.{SubTable}
use Rattle.restr_codec.specs.declared.restriction.SubTable.TheVariants.{Recipients, Attachments}
use Rattle.restr_codec.specs.Restr.{Restr, Restrs, and_of, or_of, not_of, content, property, compare, bit_mask, size_of, exist, sub_object, remark, comment, none, more}
use Rattle.restr_codec.specs.Kinds.{has_width}
use Rattle.restr_eval.specs.Content.{looked_at, matches}
use Rattle.restr_eval.specs.Orders.{fixed_width, order, stands}

-- what a restriction is asked of: values, and those of each recipient and of each attachment
pub record Subject : Type 0 where
  pub props : List Val
  pub recipients : List (List Val)
  pub attachments : List (List Val)

-- the rows of a table, if there is one
abbrev pub rows_of : Option Tab → List (ℕ × List Val)
rows_of None = []
rows_of (Some t) = t.rows

-- an object with these properties, rows of recipients and attachments
abbrev pub asked : List Val → List (ℕ × List Val) → List Part → Subject
asked props recipients parts = record { props = props; recipients = map (λ r. r.1) recipients; attachments = map (λ (p : Part). p.props) parts }

-- a message
abbrev pub subject : Mes → Subject
subject m = asked m.props (rows_of m.recipients) m.parts

-- a recipient or an attachment by itself
abbrev pub alone : List Val → Subject
alone props = record { props = props; recipients = []; attachments = [] }

-- the values of the objects in a table
abbrev pub within : SubTable → Subject → List (List Val)
within Recipients s = s.recipients
within Attachments s = s.attachments

-- the value of this id and kind, whatever its length
abbrev pub any_of : ℕ → ℕ → List Val → Option Val
any_of id kind props = option_and_then (λ v. if v.kind == kind then Some v else None) (find id props)

-- the same, of the length that its kind has
abbrev pub good_of : ℕ → ℕ → List Val → Option Val
good_of id kind props = option_and_then (λ v. if has_width (fixed_width kind) (length v.bytes) then Some v else None) (any_of id kind props)

-- the test holds of what is there
abbrev pub holds_of : {A : Type 0} → (A → Bool) → Option A → Bool
holds_of f None = false
holds_of f (Some x) = f x

-- the test holds of the bits of a number
abbrev pub passes : BitTest → ℕ → Bool
passes Zero n = n == 0
passes NotZero n = not (n == 0)

abbrev mutual
  -- the restriction holds
  pub eval : Restr → Subject → Bool
  eval (and_of rs) s = all_hold rs s
  eval (or_of rs) s = some_holds rs s
  eval (not_of r) s = not (eval r s)
  eval (content level flags v) s = holds_of (λ w. matches level (looked_at flags v.kind w.bytes) (looked_at flags v.kind v.bytes)) (good_of v.id v.kind s.props)
  eval (property relation v) s = holds_of (λ w. stands relation (order v.kind w.bytes v.bytes)) (good_of v.id v.kind s.props)
  eval (compare relation a b) s = (a.kind == b.kind) && holds_of (λ v. holds_of (λ w. stands relation (order a.kind v.bytes w.bytes)) (good_of b.id b.kind s.props)) (good_of a.id a.kind s.props)
  eval (bit_mask test t mask) s = (t.kind == ptyp_integer_32) && holds_of (λ v. passes test (bit_and (number_at 4 0 v.bytes) mask)) (good_of t.id t.kind s.props)
  eval (size_of relation t n) s = holds_of (λ v. stands relation (nat_cmp (length v.bytes) n)) (good_of t.id t.kind s.props)
  eval (exist t) s = holds_of (λ v. true) (any_of t.id t.kind s.props)
  eval (sub_object table r) s = list_any (λ props. eval r (alone props)) (within table s)
  eval (remark vs) s = true
  eval (comment vs r) s = eval r s

  -- all of some restrictions hold
  pub all_hold : Restrs → Subject → Bool
  all_hold none s = true
  all_hold (more r rs) s = eval r s && all_hold rs s

  -- some restriction of these holds
  pub some_holds : Restrs → Subject → Bool
  some_holds none s = false
  some_holds (more r rs) s = eval r s || some_holds rs s
