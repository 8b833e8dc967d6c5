-- What a command changes, and how it answers.
use Rattle.std.specs.Prelude.{ℕ, ◌==◌, ◌&&◌, Bool, true, false, not, nat_lt, List, [], ◌∷◌, length, Option, None, Some, Result, Ok, Err, if◌then◌else◌, ◌||◌}
use Rattle.std.specs.List.{list_all, list_any}
use Rattle.std.specs.Ordering.{nat_cmp}
use Rattle.std.specs.FinMap as map
use Rattle.pst_base.specs.Ids.{index_of, nid_of}
use Rattle.pst_base.specs.declared.ids.Nid.{Nid}
use Rattle.mapi_values.specs.Keyed.{find_key}
use Rattle.mapi_values.specs.Messages.{Mes, part_id}
use Rattle.mapi_values.specs.Tables.{Tab, mirror, put_row, drop_row}
use Rattle.mapi_values.specs.Values.{Val}
use Rattle.mapi_values.specs.declared.part.Part.{Part}
use Rattle.command_text.specs.declared.reply.CommandRefusal.{CommandRefusal}
use Rattle.command_text.specs.declared.reply.CommandRefusal.TheVariants.{Limit}
use Rattle.command_text.specs.declared.reply.Limit.TheVariants.{Rows, Properties}
use Rattle.mail_objects.specs.Forms.{Ctx, Tbl}
use Rattle.mail_objects.specs.Objects.{object_fits}
use Rattle.mail_objects.specs.declared.object.Object.{Object}
use Rattle.mail_objects.specs.declared.object.Object.TheVariants.{Context, Table, Message}
use Rattle.mail_tree.specs.Tree.{Tree, object_at}
use Rattle.mail_tree.specs.Values.{crowds, is_crowded}

-- Objects that were put, or removed, by their ids.
pub record Changed : Type 0 where
  pub objects : map.FinMap nat_cmp (Option Object)

abbrev pub nothing : Changed
nothing = record { objects = map.empty }

-- An answer, or a refusal, or none: something isn't of its form, which can't be in a tree that was opened.
abbrev pub Answer : Type 0 → Type 0
Answer R = Result R (Option CommandRefusal)

infixl 10 ◌>>=◌
-- one step after another, up to the first that gives no answer
abbrev pub ◌>>=◌ : {A B : Type 0} → Answer A → (A → Answer B) → Answer B
(Ok x) >>= f = f x
(Err e) >>= f = Err e

-- it is there, or something isn't of its form
abbrev pub known : {A : Type 0} → Option A → Answer A
known None = Err None
known (Some x) = Ok x

-- it is there, or the command is refused
abbrev pub found : {A : Type 0} → CommandRefusal → Option A → Answer A
found refusal None = Err (Some refusal)
found refusal (Some x) = Ok x

-- the command is refused where this holds
abbrev pub refused_if : Bool → CommandRefusal → Answer (Unit {0})
refused_if true refusal = Err (Some refusal)
refused_if false refusal = Ok tt

abbrev pub newest : Option (Option Object) → Option Object → Option Object
newest None old = old
newest (Some object) old = object

-- what stands at an id after the changes so far
abbrev pub now_at : Tree → Changed → ℕ → Option Object
now_at T D q = newest (map.get D.objects q) (object_at T q)

abbrev pub as_context : Option Object → Option Ctx
as_context (Some (Context c)) = Some c
as_context other = None

abbrev pub as_table : Option Object → Option Tbl
as_table (Some (Table t)) = Some t
as_table other = None

abbrev pub as_message : Option Object → Option Mes
as_message (Some (Message m)) = Some m
as_message other = None

abbrev pub context_at : Tree → Changed → ℕ → Answer Ctx
context_at T D q = known (as_context (now_at T D q))

abbrev pub table_at : Tree → Changed → ℕ → Answer Tbl
table_at T D q = known (as_table (now_at T D q))

abbrev pub message_at : Tree → Changed → ℕ → Answer Mes
message_at T D q = known (as_message (now_at T D q))

-- the changes with this object put, or removed
abbrev pub with_object : ℕ → Option Object → Changed → Changed
with_object q object D = record { objects = map.insert D.objects q object }

-- the node at a folder's index with another kind: its tables
abbrev pub beside : ℕ → ℕ → ℕ
beside f kind = nid_of kind (index_of f)

-- the table of a folder's folders
abbrev pub hierarchy : ℕ → ℕ
hierarchy f = beside f 0x0D

-- the table of a folder's messages
abbrev pub contents : ℕ → ℕ
contents f = beside f 0x0E

-- the table of what is associated with a folder
abbrev pub associated : ℕ → ℕ
associated f = beside f 0x0F

abbrev pub with_rows : List (ℕ × List Val) → Tbl → Object
with_rows rows t = Table (record { parent = t.parent; table = record t.table { rows = rows } })

-- the row of an object is made to show it: it mirrors the object's values
abbrev pub shown_row : ℕ → List Val → Tab → List (ℕ × List Val)
shown_row id props t = put_row id (mirror t.columns props) t.rows

-- the row that shows an object is in order
unfoldable pub put_shown : Tree → ℕ → ℕ → List Val → Changed → Answer Changed
put_shown T q id props D = table_at T D q >>= λ t. Ok (with_object q (Some (with_rows (shown_row id props t.table) t)) D)

-- there are more than 100,000 rows, and more than before
abbrev pub overfills : List (ℕ × List Val) → List (ℕ × List Val) → Bool
overfills old new = nat_lt 100000 (length new) && nat_lt (length old) (length new)

-- a row that shows an object is added
unfoldable pub add_shown : Tree → ℕ → ℕ → List Val → Changed → Answer Changed
add_shown T q id props D = table_at T D q >>= λ t. refused_if (overfills t.table.rows (shown_row id props t.table)) (Limit Rows) >>= λ u.
    Ok (with_object q (Some (with_rows (shown_row id props t.table) t)) D)

-- a row goes
unfoldable pub drop_shown : Tree → ℕ → ℕ → Changed → Answer Changed
drop_shown T q id D = table_at T D q >>= λ t. Ok (with_object q (Some (with_rows (drop_row id t.table.rows) t)) D)

-- the object may be written, or is to go
abbrev pub entry_fits : ℕ × Option Object → Bool
entry_fits (q, None) = true
entry_fits (q, Some object) = object_fits object

-- the properties of a message's attachment with an id, none where it has no such attachment
abbrev pub props_of_part : Option Part → List Val
props_of_part None = []
props_of_part (Some part) = part.props

-- the attachment has more than 1,000 properties, and more than the one with its id in the message as it was
abbrev pub crowds_part : Mes → Part → Bool
crowds_part old part = crowds (props_of_part (find_key part_id (part_id part) old.parts)) part.props

-- so has the message, or an attachment of it
abbrev pub crowds_message : Mes → Mes → Bool
crowds_message old new = crowds old.props new.props || list_any (crowds_part old) new.parts

-- the message, or an attachment of it, has more than 1,000 properties
abbrev pub is_crowded_message : Mes → Bool
is_crowded_message m = is_crowded m.props || list_any (λ (part : Part). is_crowded part.props) m.parts

-- the id is that of the new object, if a command makes one
abbrev pub is_new : Option Nid → ℕ → Bool
is_new None q = false
is_new (Some new) q = q == new.bits

-- properties that are put are more than 1,000, and more than stand there in the tree; new ones are compared with none
abbrev pub context_crowds : Bool → Option Object → Ctx → Answer Bool
context_crowds new old c = if is_crowded c.props && not new then (known (as_context old) >>= λ b. Ok (crowds b.props c.props)) else Ok (is_crowded c.props)

-- so it is of a message that is put, or of an attachment of it
abbrev pub message_crowds : Bool → Option Object → Mes → Answer Bool
message_crowds new old m = if is_crowded_message m && not new then (known (as_message old) >>= λ b. Ok (crowds_message b m)) else Ok (is_crowded_message m)

-- what is put at an id is brought past the limit on properties
abbrev pub is_crowding : Tree → Option Nid → ℕ × Option Object → Answer Bool
is_crowding T new (q, Some (Context c)) = context_crowds (is_new new q) (object_at T q) c
is_crowding T new (q, Some (Message m)) = message_crowds (is_new new q) (object_at T q) m
is_crowding T new (q, other) = Ok false

-- what is put at an id isn't brought past it
abbrev pub unless_past : Tree → Option Nid → ℕ × Option Object → Answer (Unit {0})
unless_past T new entry = is_crowding T new entry >>= λ b. refused_if b (Limit Properties)

-- nothing that is put is
abbrev pub unless_crowding : Tree → Option Nid → List (ℕ × Option Object) → Answer (Unit {0})
unless_crowding T new [] = Ok tt
unless_crowding T new (e ∷ es) = unless_past T new e >>= λ u. unless_crowding T new es

-- The changes keep to the limits on what a command writes: on rows, on what stands below a node, and on properties. What is put is compared with the tree, but for the new object.
unfoldable pub within_limits : Tree → Option Nid → Changed → Answer (Unit {0})
within_limits T new D = refused_if (not (list_all entry_fits (map.entries D.objects))) (Limit Rows) >>= λ u. unless_crowding T new (map.entries D.objects)
