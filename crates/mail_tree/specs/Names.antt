-- The names of properties: what the node of names holds, and the command that finds a name or adds one.
use Rattle.std.specs.Prelude.{◌≡◌, ℕ, ◌+◌, ◌^◌, ◌==◌, ◌&&◌, Bool, true, not, nat_le, nat_lt, List, length, Option, None, Some, Ok, if◌then◌else◌}
use Rattle.std.specs.List.{list_all}
use Rattle.mapi_values.specs.Values.{Val}
use Rattle.named_props.specs.Adding.{added, is_full, next_index}
use Rattle.named_props.specs.Entries.{fits_id}
use Rattle.named_props.specs.Finding.{is_property_named, name_at}
use Rattle.named_props.specs.Holding.{IsWritable, names_of, written}
use Rattle.named_props.specs.declared.names.Names.{Names}
use Rattle.command_text.specs.declared.reply.CommandRefusal.{CommandRefusal}
use Rattle.command_text.specs.declared.reply.CommandRefusal.TheVariants.{Limit, Line, Property}
use Rattle.command_text.specs.declared.reply.LastLine.TheVariants.{Named}
use Rattle.command_text.specs.declared.reply.Limit.TheVariants as limits
use Rattle.mail_objects.specs.Forms.{Ctx}
use Rattle.mail_objects.specs.declared.object.Object.{Object}
use Rattle.mail_objects.specs.declared.object.Object.TheVariants.{Context}
use Rattle.mail_tree.specs.Tree.{Tree}
use Rattle.mail_tree.specs.Changing.{Answer, ◌>>=◌, context_at, known, nothing, refused_if}
use Rattle.mail_tree.specs.Settling.{with_context}
use Rattle.mail_tree.specs.Folders.{Outcome, replied, replying, unchanged}

-- the node of names
abbrev pub NAMES : ℕ
NAMES = 0x61

-- the values hold names, which can be written again: each number has 4 bytes
abbrev pub AreNames : List Val → Type 0
AreNames props = (n : Names) × (names_of props ≡ Some n) × IsWritable n × (list_all fits_id n.entries ≡ true)

-- the object is values that hold names
abbrev pub HoldsNames : Option Object → Type 0
HoldsNames object = (c : Ctx) × (object ≡ Some (Context c)) × AreNames c.props

-- the names of the store
unfoldable pub names_in : Tree → Answer Names
names_in T = context_at T nothing NAMES >>= λ c. known (names_of c.props)

-- an id of 8000h or more is that of a property that has a name
unfoldable pub unless_nameless : Tree → ℕ → Answer (Unit {0})
unless_nameless T id = if nat_le 0x8000 id then (names_in T >>= λ n. refused_if (not (is_property_named n.entries id)) Property) else Ok tt

-- a GUID has 16 bytes and a number has 4, as in each line
abbrev pub is_name : List ℕ → ℕ → Bool
is_name guid number = (length guid == 16) && nat_lt number (2 ^ 32)

-- there is no room for a new name
abbrev pub no_room : Names → List ℕ → ℕ → Option CommandRefusal
no_room n guid number = if is_full n guid number then Some (Limit limits.Names) else None

-- the names with a new one; where there is no room for it, changes are planned with the names as they are
unfoldable pub with_another : Names → List ℕ → ℕ → Names
with_another n guid number = if is_full n guid number then n else added n guid number

-- the property of a name that is there, or the name is added where there is room for it
unfoldable pub found_or_added : Tree → Ctx → Names → List ℕ → ℕ → Option ℕ → Answer Outcome
found_or_added T c n guid number (Some property) = Ok (unchanged T (replied (Named property)))
found_or_added T c n guid number None =
    replying T (no_room n guid number) (replied (Named (0x8000 + next_index n.entries))) (with_context NAMES c (written (with_another n guid number)) nothing)

-- `name`
unfoldable pub named_property : Tree → List ℕ → ℕ → Answer Outcome
named_property T guid number = refused_if (not (is_name guid number)) Line >>= λ u. context_at T nothing NAMES >>= λ c. known (names_of c.props) >>= λ n.
    found_or_added T c n guid number (name_at n.guids n.entries guid number)
