-- The tags of properties, by the names of the standard.
use Rattle.mapi_values.specs.declared.value.Tag.{Tag}
use Rattle.mapi_values.specs.Kinds.{ptyp_binary, ptyp_integer_32, ptyp_object}

-- the GUIDs of the names of properties
abbrev pub pid_tag_nameid_stream_guid : Tag
pid_tag_nameid_stream_guid = record { id = 0x0002; kind = ptyp_binary }

-- the entries of the names of properties
abbrev pub pid_tag_nameid_stream_entry : Tag
pid_tag_nameid_stream_entry = record { id = 0x0003; kind = ptyp_binary }

-- the size that a message tells of itself, in bytes
abbrev pub pid_tag_message_size : Tag
pid_tag_message_size = record { id = 0x0E08; kind = ptyp_integer_32 }

-- the recipients of a message
abbrev pub pid_tag_message_recipients : Tag
pid_tag_message_recipients = record { id = 0x0E12; kind = ptyp_object }

-- the attachments of a message
abbrev pub pid_tag_message_attachments : Tag
pid_tag_message_attachments = record { id = 0x0E13; kind = ptyp_object }

-- the row id of a row of a table
abbrev pub pid_tag_ltp_row_id : Tag
pid_tag_ltp_row_id = record { id = 0x67F2; kind = ptyp_integer_32 }

-- the row version of a row of a table
abbrev pub pid_tag_ltp_row_ver : Tag
pid_tag_ltp_row_ver = record { id = 0x67F3; kind = ptyp_integer_32 }
