-- The subnodes of a message's tables.
use Rattle.std.specs.Prelude.{ℕ, ◌==◌, Bool, ◌||◌}
use Rattle.mapi_values.specs.Messages.{nid_attachment_table, nid_recipient_table}

-- the id is that of the table of recipients or of the table of attachments
abbrev pub is_table : ℕ → Bool
is_table nid = (nid == nid_recipient_table) || (nid == nid_attachment_table)
