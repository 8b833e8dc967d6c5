-- What stands behind the first word of a line, by the shapes that several commands share.
use Rattle.std.specs.Prelude.{ℕ, List, Result, Ok, Err, ok_or}
use Rattle.pst_base.specs.declared.ids.Nid.{Nid}
use Rattle.mapi_values.specs.declared.value.Tag.{Tag}
use Rattle.mapi_values.specs.Values.{Val}
use Rattle.value_text.specs.Forms.{value_said}
use Rattle.command_text.specs.declared.command.LineRefusal.{LineRefusal}
use Rattle.command_text.specs.declared.command.LineRefusal.TheVariants.{Line, Value}
use Rattle.command_text.specs.Words.{cut, id_of, name_of, tag_of}

infixl 1 ◌>>=◌
-- one reading after another, up to the first refusal
abbrev pub ◌>>=◌ : {A B : Type 0} → Result A LineRefusal → (A → Result B LineRefusal) → Result B LineRefusal
(Ok a) >>= next = next a
(Err refusal) >>= next = Err refusal

-- an id
unfoldable pub one_id : List ℕ → Result Nid LineRefusal
one_id word = do
  bits ← ok_or (id_of word) Line
  Ok (record { bits = bits })

-- two ids
unfoldable pub two_ids : List ℕ → Result (Nid × Nid) LineRefusal
two_ids rest = do
  words ← ok_or (cut rest) Line
  first ← one_id words.0
  second ← one_id words.1
  Ok (first, second)

-- an id and a tag
unfoldable pub id_and_tag : List ℕ → Result (Nid × Tag) LineRefusal
id_and_tag rest = do
  words ← ok_or (cut rest) Line
  id ← one_id words.0
  tag ← ok_or (tag_of words.1) Line
  Ok (id, tag)

-- an id, a tag, and the value that the rest of the line says, spaces and all
unfoldable pub id_and_value : List ℕ → Result (Nid × Val) LineRefusal
id_and_value rest = do
  words ← ok_or (cut rest) Line
  id ← one_id words.0
  others ← ok_or (cut words.1) Line
  tag ← ok_or (tag_of others.0) Line
  value ← ok_or (value_said tag.id tag.kind others.1) Value
  Ok (id, value)

-- an id, and a name that runs to the end of the line
unfoldable pub id_and_name : List ℕ → Result (Nid × List ℕ) LineRefusal
id_and_name rest = do
  words ← ok_or (cut rest) Line
  id ← one_id words.0
  name ← ok_or (name_of words.1) Value
  Ok (id, name)
