-- What the writer's parts make.
use Rattle.std.specs.Prelude.{◌≡◌, ◌≤◌, ◌+◌, ◌++◌, ℕ, Bool, false, true, List, [], ◌∷◌, length, Option, None, Some}
use Rattle.pst_base.specs.Flat.{Flat}
use Rattle.pst_base.specs.declared.subs.Sub.{Sub}
use Rattle.mapi_values.specs.declared.part.Part.{Part}
use Rattle.mapi_values.specs.Keyed.{keys_ascend}
use Rattle.mapi_values.specs.Messages.{Mes, is_own, part_id}
use Rattle.mapi_values.specs.Tables.{Tab}
use Rattle.property_context.specs.write_limits.Limits.{props_fit}
use Rattle.property_context.specs.write_limits.Space.{kept_space, option_space, parts_space, props_space, table_space}
use Rattle.node_port.specs.Stops.{subs_size}
use Rattle.property_context.specs.Context.{IsPropertyContext}
use Rattle.node_values.specs.Subnodes.{ids_ascend, without}
use Rattle.table_writer.specs.table_context.Context.{IsTableContext}
use Rattle.mail_objects.specs.Answers.{ShowsBelow}

-- the subnode is that of an attachment, and takes no more than the room for it
pub record IsPart (part : Part) (sub : Sub) : Type 0 where
  pub id : sub.nid.bits ≡ part_id part
  pub context : IsPropertyContext sub.blocks sub.subs part.props part.kept
  pub small : length sub.blocks + subs_size sub.subs + 1 ≤ props_space part.props + kept_space part.kept

-- each subnode is that of its attachment
abbrev pub AreParts : List Part → List Sub → Type 0
AreParts [] [] = Unit {0}
AreParts [] (sub ∷ subs) = ⊥
AreParts (part ∷ parts) [] = ⊥
AreParts (part ∷ parts) (sub ∷ subs) = IsPart part sub × AreParts parts subs

-- the subnode is that of a table, at this id, and takes no more than the room for it
pub record IsTableAt (id : ℕ) (t : Tab) (sub : Sub) : Type 0 where
  pub id_is : sub.nid.bits ≡ id
  pub table : IsTableContext sub.blocks sub.subs t
  pub small : length sub.blocks + subs_size sub.subs + 1 ≤ table_space t

-- the subnode of the table, if there is one
abbrev pub AreTable : ℕ → Option Tab → List Sub → Type 0
AreTable id None [] = Unit {0}
AreTable id None (sub ∷ subs) = ⊥
AreTable id (Some t) [] = ⊥
AreTable id (Some t) (sub ∷ subs) = IsTableAt id t sub × (subs ≡ [])

-- the subnode of the table, if there is one, was put at the end
abbrev pub AddsTable : List Sub → ℕ → Option Tab → List Sub → Type 0
AddsTable old id table new = (added : List Sub) × (new ≡ old ++ added) × AreTable id table added

-- the subnodes of the attachments were put at the end
abbrev pub AddsParts : List Sub → List Part → List Sub → Type 0
AddsParts old parts new = (added : List Sub) × (new ≡ old ++ added) × AreParts parts added

-- the ids of a table's rows ascend strictly, if there is a table
abbrev pub rows_ascend : Option Tab → Bool
rows_ascend None = true
rows_ascend (Some t) = keys_ascend (λ r. r.0) 0 t.rows

-- the subnodes are what a message wants beside those of its values: its tables, its attachments and what it keeps, few enough, in order, and no more than the room for them
pub record LaysBelow (m : Mes) (rest : List Flat) : Type 0 where
  pub shows : ShowsBelow rest m.recipients m.attachments m.parts
  pub kept : m.kept ≡ without (is_own m.parts) false rest
  pub fit : props_fit m.props rest ≡ true
  pub ascend : ids_ascend 0 rest ≡ true
  pub small : subs_size rest ≤ (option_space m.recipients + option_space m.attachments) + (parts_space m.parts + kept_space m.kept)
